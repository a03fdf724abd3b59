-- The frames and sends stand on where the newest frame of the caller is taken away.
use Rattle.std.proofs.Common.{◌≡◌, ◌≢◌, ℕ, ◌-◌, false, List, [], ◌∷◌, length, get_or, set, Option, Some, None, refl, ap, ◌∙◌, sym}
use Rattle.std.specs.FinMap as map
use Rattle.std.proofs.lemmas.List.{length-set}
use Rattle.win_num.specs.declared.send.Frame.{Frame}
use Rattle.user_model.specs.declared.entry.Entry.{Entry}
use Rattle.user_model.specs.declared.entry.Setup.{Setup}
use Rattle.user_model.specs.Past.{Past, is_refused}
use Rattle.user_model.specs.Stacks.{stack, stacked}
use Rattle.user_model.specs.Sends.{SentMsg, send, sends}
use Rattle.user_model.proofs.SendStanding.{Standing}
use Rattle.send_frames.specs.Book.{Book, KnownSend, named_by, popped, popped_from, settled, settled_as, stack_of, with_stack}
use Rattle.send_state.specs.Standing.{BookStands, IsOurs, known_as, known_at}
use Rattle.send_state.proofs.Steps.{stacks-popped}
use Rattle.send_state.proofs.StandStill.{stacks-changed}
use Rattle.send_state.proofs.Frames.{stacked-counted}
use Rattle.send_state.proofs.Settling.{known-popped, known-popped-unnamed}

begun-settled : (b : Book) (o : Option ℕ) → (settled b o).begun ≡ b.begun
begun-settled b None = refl
begun-settled b (Some s) = go (map.get b.known s) where
  go : (o : Option KnownSend) → (settled_as b s o).begun ≡ b.begun
  go None = refl
  go (Some k) = refl

pub begun-popped : (b : Book) (t : ℕ) → (popped b t).begun ≡ b.begun
begun-popped b t = go (stack_of b t) where
  go : (l : List Frame) → (popped_from b t l).begun ≡ b.begun
  go [] = refl
  go (f ∷ fs) = begun-settled (with_stack b t fs) (named_by f)

-- a book whose stacks and count are those of the past, and whose sends are those of the later past but for the frame
pub record IsBefore (setup : Setup) (past : Past) (e : Entry) (b : Book) (f : Frame) (fs : List Frame) : Type 0 where
  pub right : is_refused e ≡ false
  pub own : IsOurs setup e.who.0
  pub begun : b.begun ≡ length (sends past)
  pub makes_none : length (sends (e ∷ past)) ≡ length (sends past)
  pub threads : length b.stacks ≡ setup.threads
  pub stacks : (t : ℕ) → IsOurs setup t → stack_of b t ≡ stack past t
  pub is_stack : stack past e.who.0 ≡ f ∷ fs
  pub pops : stacked e.call e.answer (f ∷ fs) ≡ fs

module _ (setup : Setup) (past : Past) (e : Entry) (b : Book) (f : Frame) (fs : List Frame) (before : IsBefore setup past e b f fs) where
  is_top : stack_of b e.who.0 ≡ f ∷ fs
  is_top = before.stacks e.who.0 before.own ∙ before.is_stack

  changed : (t : ℕ) → IsOurs setup t → get_or (set b.stacks (e.who.0 - 1) fs) (t - 1) [] ≡ stack (e ∷ past) t
  changed = stacks-changed setup past e b fs before.threads before.own before.stacks before.right (sym (ap (stacked e.call e.answer) before.is_stack ∙ before.pops))

  as_many : length (set b.stacks (e.who.0 - 1) fs) ≡ setup.threads
  as_many = length-set b.stacks (e.who.0 - 1) fs ∙ before.threads

  stand-popped : ((q : ℕ) → map.get (popped b e.who.0).known q ≡ known_at (e ∷ past) q) → BookStands setup (e ∷ past) (popped b e.who.0)
  stand-popped known = record {
    begun = begun-popped b e.who.0 ∙ before.begun ∙ sym before.makes_none;
    threads = ap length (stacks-popped b e.who.0 f fs is_top) ∙ as_many;
    stacks = λ t ours. ap (λ (l : List (List Frame)). get_or l (t - 1) []) (stacks-popped b e.who.0 f fs is_top) ∙ changed t ours;
    known = known;
  }

  -- a frame that names a send
  pub stand-popped-named : (s : ℕ) (x : SentMsg) → named_by f ≡ Some s → send (e ∷ past) s ≡ Some x → Standing setup (e ∷ past) → map.get b.known s ≡ Some (known_as (e ∷ past) x)
      → ((q : ℕ) → q ≢ s → map.get b.known q ≡ known_at (e ∷ past) q) → BookStands setup (e ∷ past) (popped b e.who.0)
  stand-popped-named s x named found after has others =
      stand-popped (known-popped (e ∷ past) b e.who.0 f fs s x is_top named found has (stacked-counted setup (e ∷ past) (with_stack b e.who.0 fs) s x after as_many changed found) others)

  -- a frame that names none
  pub stand-popped-unnamed : named_by f ≡ None → ((q : ℕ) → map.get b.known q ≡ known_at (e ∷ past) q) → BookStands setup (e ∷ past) (popped b e.who.0)
  stand-popped-unnamed none others = stand-popped (λ q. ap (λ m. map.get m q) (known-popped-unnamed b e.who.0 f fs is_top none) ∙ others q)
