-- The frames stay where sends are lost.
use Rattle.std.proofs.Common.{◌≡◌, ℕ, zero, suc, Bool, true, false, cond, Option, Some, None, refl, ◌∙◌}
use Rattle.std.specs.Prelude.{is_none}
use Rattle.win_num.specs.declared.send.Cause.{Cause}
use Rattle.win_num.specs.declared.send.Cause.TheVariants.{Loss}
use Rattle.send_frames.specs.Book.{Book, KnownSend, answered_as, with_send}
use Rattle.send_state.specs.Parts.{Ranked, SendParts, is_lost, lost, lost_step, lost_to, rank}

-- an answer leaves the frames
kept_if : (c : Bool) (b d : Book) → d.stacks ≡ b.stacks → (cond c d b).stacks ≡ b.stacks
kept_if true b d h = h
kept_if false b d h = refl

answered-stacks : (b : Book) (s : ℕ) (a : ℕ × Cause) (o : Option KnownSend) → (answered_as b s a o).stacks ≡ b.stacks
answered-stacks b s a None = refl
answered-stacks b s a (Some k) = kept_if (is_none k.answer) b (with_send b s (record k { answer = Some a })) refl

step_if : (c : Bool) (r q : Ranked) → q.0.book.stacks ≡ r.0.book.stacks → (cond c q r).0.book.stacks ≡ r.0.book.stacks
step_if true r q h = h
step_if false r q h = refl

step-stacks : (goes : ℕ → Bool) (r : Ranked) (s : ℕ) → (lost_step goes r s).0.book.stacks ≡ r.0.book.stacks
step-stacks goes r s = step_if (is_lost goes r.0 s) r _ (answered-stacks r.0.book s (0, Loss) _)

to-stacks : (goes : ℕ → Bool) (r : Ranked) (n : ℕ) → (lost_to goes r n).0.book.stacks ≡ r.0.book.stacks
to-stacks goes r zero = refl
to-stacks goes r (suc n) = step-stacks goes (lost_to goes r n) (suc n) ∙ to-stacks goes r n

-- sends are lost, and all frames stay
pub lost-stacks : (goes : ℕ → Bool) (p : SendParts) (place : ℕ) → (lost goes p place).book.stacks ≡ p.book.stacks
lost-stacks goes p place = to-stacks goes (p, rank place 0) p.book.begun
