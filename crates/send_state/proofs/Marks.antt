-- Marks after each change, and what they tell.
use Rattle.std.proofs.Common.{◌≡◌, ◌≢◌, ◌∙◌, ℕ, zero, suc, ◌+◌, ◌-◌, ◌<◌, Bool, true, false, cond, eqb, List, [], ◌∷◌, length, get_or, replicate, set, Option, Some, None, refl, sym, ap, inl, inr, arith}
use Rattle.std.specs.Prelude.{◌&&◌}
use Rattle.std.specs.List.{list_any}
use Rattle.std.proofs.lemmas.Bool.Decides.{eqb_tells}
use Rattle.std.proofs.lemmas.List.{get_or-set_other, get_or-set_same, length-replicate, length-set}
use Rattle.win_num.specs.declared.send.Cause.TheVariants.{Loss}
use Rattle.win_num.specs.declared.send.Frame.{Frame}
use Rattle.win_num.specs.declared.send.Frame.TheVariants.{Entered, Inside, Called, CallbackRun, Await}
use Rattle.user_model.specs.declared.entry.Entry.{Entry}
use Rattle.user_model.specs.declared.entry.Setup.{Setup}
use Rattle.user_model.specs.Past.{Past, is_refused}
use Rattle.user_model.specs.Status.{has_send, is_look, last_look}
use Rattle.user_model.proofs.LookLaws.{last_look-look, last_look-other, last_look-refused}
use Rattle.send_variants.specs.Lists.{is_new, list_of}
use Rattle.send_state.specs.Parts.{Ranked, SendParts, answered, has_new, has_some, is_lost, left, left_from, lost, lost_to, rank, replied, replied_in, top_of, withdrawn}
use Rattle.send_state.specs.Standing.{IsOurs, MarksStand, PartsStand}
use Rattle.send_state.proofs.Ranks.{came-stands, some-stands}

-- ---- no change but a look moves a mark

left_by : (p : SendParts) (f : Option Frame) (t v n : ℕ) → (left_from p f t v n).marks ≡ p.marks
left_by p None t v n = refl
left_by p (Some (Entered s)) t v n = refl
left_by p (Some (Inside s)) t v n = refl
left_by p (Some Called) t v n = refl
left_by p (Some CallbackRun) t v n = refl
left_by p (Some (Await s)) t v n = refl

pub left-marks : (p : SendParts) (t v place : ℕ) → (left p t v place).marks ≡ p.marks
left-marks p t v place = left_by p (top_of p t) t v (rank place 0)

replied_by : (p : SendParts) (f : Option Frame) (v n : ℕ) → (replied_in p f v n).marks ≡ p.marks
replied_by p None v n = refl
replied_by p (Some (Entered s)) v n = refl
replied_by p (Some (Inside s)) v n = refl
replied_by p (Some Called) v n = refl
replied_by p (Some CallbackRun) v n = refl
replied_by p (Some (Await s)) v n = refl

pub replied-marks : (p : SendParts) (t v place : ℕ) → (replied p t v place).marks ≡ p.marks
replied-marks p t v place = replied_by p (top_of p t) v (rank place 0)

lost_if : (b : Bool) (r : Ranked) (s : ℕ) → (let q : Ranked = cond b (answered (withdrawn r.0 s) s 0 Loss r.1, r.1 + 1) r in q).0.marks ≡ r.0.marks
lost_if true r s = refl
lost_if false r s = refl

lost_by : (goes : ℕ → Bool) (r : Ranked) (n : ℕ) → (lost_to goes r n).0.marks ≡ r.0.marks
lost_by goes r zero = refl
lost_by goes r (suc n) = lost_if (is_lost goes (lost_to goes r n).0 (suc n)) (lost_to goes r n) (suc n) ∙ lost_by goes r n

pub lost-marks : (goes : ℕ → Bool) (p : SendParts) (place : ℕ) → (lost goes p place).marks ≡ p.marks
lost-marks goes p place = lost_by goes (p, rank place 0) p.book.begun

-- ---- the marks after an entry

pub marks-fresh : (setup : Setup) → MarksStand setup [] (replicate setup.threads 0)
marks-fresh setup = record { count = length-replicate setup.threads 0; at = λ t ours. zeros setup.threads (t - 1) }
  where
    zeros : (n i : ℕ) → get_or (replicate n (let z : ℕ = 0 in z)) i 0 ≡ 0
    zeros zero i = refl
    zeros (suc n) zero = refl
    zeros (suc n) (suc i) = zeros n i

pub marks-refused : (setup : Setup) (past : Past) (e : Entry) (marks : List ℕ) → is_refused e ≡ true → MarksStand setup past marks → MarksStand setup (e ∷ past) marks
marks-refused setup past e marks refused h = record { count = h.count; at = λ t ours. h.at t ours ∙ ap (λ (l : Past). rank (length l) 0) (sym (last_look-refused e past t refused)) }

pub marks-other : (setup : Setup) (past : Past) (e : Entry) (marks : List ℕ) → is_look e.call ≡ false → MarksStand setup past marks → MarksStand setup (e ∷ past) marks
marks-other setup past e marks other h = record { count = h.count; at = λ t ours. h.at t ours ∙ ap (λ (l : Past). rank (length l) 0) (sym (last_look-other e past t (ap (λ b. b && eqb e.who.0 t) other))) }

-- a look moves the mark of its thread
pub marks-look : (setup : Setup) (past : Past) (e : Entry) (marks : List ℕ) → is_refused e ≡ false → is_look e.call ≡ true → IsOurs setup e.who.0 → MarksStand setup past marks → MarksStand setup (e ∷ past) (set marks (e.who.0 - 1) (rank (length (e ∷ past)) 0))
marks-look setup past e marks fine look caller h = record { count = length-set marks (e.who.0 - 1) (rank (length (e ∷ past)) 0) ∙ h.count; at = at }
  where
    at : (t : ℕ) → IsOurs setup t → get_or (set marks (e.who.0 - 1) (rank (length (e ∷ past)) 0)) (t - 1) 0 ≡ rank (length (last_look (e ∷ past) t)) 0
    at t ours = elim (eqb_tells e.who.0 t) [
      | inl x ↦
          let here : e.who.0 - 1 ≡ t - 1 = ap (λ n. n - 1) x.1 in
          let within : e.who.0 - 1 < length marks = omega (arith, caller.0, caller.1, h.count) in
          ap (λ i. get_or (set marks (e.who.0 - 1) (rank (length (e ∷ past)) 0)) i 0) (sym here)
          ∙ get_or-set_same marks (e.who.0 - 1) (rank (length (e ∷ past)) 0) 0 within
          ∙ ap (λ (l : Past). rank (length l) 0) (sym (last_look-look e past t fine (ap (λ b. b && eqb e.who.0 t) look ∙ x.0)))
      | inr x ↦
          let apart : t - 1 ≢ e.who.0 - 1 = λ same. x.1 (omega (arith, same, caller.0, ours.0)) in
          get_or-set_other marks (e.who.0 - 1) (t - 1) (rank (length (e ∷ past)) 0) 0 apart
          ∙ h.at t ours
          ∙ ap (λ (l : Past). rank (length l) 0) (sym (last_look-other e past t (ap (λ b. b && eqb e.who.0 t) look ∙ x.0)))
    ]

-- ---- what is told

-- whether something is ready
pub some-told : (setup : Setup) (past : Past) (p : SendParts) (t : ℕ) → IsOurs setup t → PartsStand setup past p → has_some p t ≡ has_send past t []
some-told setup past p t ours h = some-stands setup past p.lists t ours h.lists

-- whether something is ready that came since the thread's last look
pub new-told : (setup : Setup) (past : Past) (p : SendParts) (t : ℕ) → IsOurs setup t → PartsStand setup past p → MarksStand setup past p.marks → has_new p t ≡ has_send past t (last_look past t)
new-told setup past p t ours h marks = ap (λ n. list_any (is_new n) (list_of p.lists t)) (marks.at t ours) ∙ came-stands setup (last_look past t) past p.lists t ours h.lists
