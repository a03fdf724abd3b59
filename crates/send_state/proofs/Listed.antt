-- A send that was neither entered nor answered is ready for its receiver.
use Rattle.std.proofs.Common.{◌≡◌, ℕ, Bool, true, false, not, cond, eqb, List, [], ◌∷◌, ◌++◌, Option, Some, None, refl, ap, ◌∙◌, sym, inl, inr}
use Rattle.std.specs.Prelude.{◌&&◌, ◌||◌, filter, is_some, option_map, unwrap_or}
use Rattle.std.specs.List.{AllByRecursion, flat_map, list_any}
use Rattle.std.proofs.lemmas.Bool.{false≢true, eqb-true}
use Rattle.win_num.specs.declared.send.Cause.TheVariants.{Loss}
use Rattle.user_model.specs.declared.entry.Entry.{Entry}
use Rattle.user_model.specs.declared.entry.Setup.{Setup}
use Rattle.user_model.specs.Past.{Past, is_refused}
use Rattle.user_model.specs.Places.{ends_thread, has_ended}
use Rattle.user_model.specs.Windows.{drops, drops_kin, drops_window, live}
use Rattle.user_model.specs.Sends.{SentMsg, Outcome, answers, answers_in, enters, is_answered, is_entered, loses, outcome, send, sends}
use Rattle.user_model.specs.Ready.{ReadyMsg, to_enter, to_call_back, arrives, begun, departs, is_answered_by, ready, result}
use Rattle.user_model.specs.Legal.{IsLawful}
use Rattle.user_model.proofs.SendLaws.{is_answered-next, is_answered-refused, is_entered-next, is_entered-refused, ready-next, ready-refused, send-refused}
use Rattle.user_model.proofs.SendLawful.{lawful_fits, lawful_standing}
use Rattle.user_model.proofs.SendMaking.{IsNew, send_cases}
use Rattle.user_model.proofs.SendStanding.{HasWindow, ReadyStands, Standing}
use Rattle.user_model.proofs.SendSteps.{Fits, entered_now, list_any_append, never, not_left, not_right, or_left, or_right, same_number}
use Rattle.send_state.proofs.Serving.{about}

-- what is about a send stays among what is kept
pub kept_any : (P : ReadyMsg → Type 0) (keep : ReadyMsg → Bool) (s : ℕ) → ((r : ReadyMsg) → P r → eqb (about r) s ≡ true → keep r ≡ true) → (rs : List ReadyMsg) → AllByRecursion P rs → list_any (λ r. eqb (about r) s) rs ≡ true → list_any (λ r. eqb (about r) s) (filter keep rs) ≡ true
kept_any P keep s k [] all h = absurd (false≢true h)
kept_any P keep s k (r ∷ rs) all h = by (eqb (about r) s) refl h (keep r) refl (k r all.0) (kept_any P keep s k rs all.1) where
  by : (b : Bool) → eqb (about r) s ≡ b → (b || list_any (λ r. eqb (about r) s) rs) ≡ true → (c : Bool) → keep r ≡ c → (eqb (about r) s ≡ true → keep r ≡ true)
      → (list_any (λ r. eqb (about r) s) rs ≡ true → list_any (λ r. eqb (about r) s) (filter keep rs) ≡ true) → list_any (λ r. eqb (about r) s) (cond c (r ∷ filter keep rs) (filter keep rs)) ≡ true
  by true e h true c must rest = ap (λ b. b || list_any (λ r. eqb (about r) s) (filter keep rs)) e
  by true e h false c must rest = absurd (false≢true (sym c ∙ must e))
  by false e h true c must rest = or_right (eqb (about r) s) (list_any (λ r. eqb (about r) s) (filter keep rs)) (rest h)
  by false e h false c must rest = rest h

-- whether an entry loses a send that was made
pub loses_is : (e : Entry) (past : Past) (s : ℕ) (x : SentMsg) → send past s ≡ Some x → loses e past s ≡ (drops_window e past x.hwnd && not (is_entered past s))
loses_is e past s x found = ap (λ o. elim o as (λ _. Bool) [ Some y ↦ drops_window e past y.hwnd && not (is_entered past s) | None ↦ false ]) found

-- a thread doesn't end without its unentered sends being lost
ends_none : (e : Entry) (past : Past) (s : ℕ) (x : SentMsg) → send past s ≡ Some x → is_entered past s ≡ false → HasWindow past x → is_some (answers e past s) ≡ false → ends_thread e x.to ≡ false
ends_none e past s x found unentered w unmet = never (ends_thread e x.to) (λ k.
    let dropped : drops e (live past) w.of ≡ true = or_right (drops_kin e.call (live past) w.of) (ends_thread e w.of.thread) (ap (ends_thread e) w.is_thread ∙ k) in
    let lost : loses e past s ≡ true =
    loses_is e past s x found ∙ ap (λ b. drops_window e past x.hwnd && not b) unentered
    ∙ ap (λ o. unwrap_or (option_map (drops e (live past)) o) false && true) w.found ∙ ap (λ b. b && true) dropped in
    false≢true (sym unmet ∙ ap (λ b. is_some (cond b (Some (outcome past 0 Loss)) (answers_in e.call e past s))) lost))

module _ (setup : Setup) (past : Past) (e : Entry) (n : Standing setup past) (f : Fits setup past e) where
  listed_still : (s : ℕ) (x : SentMsg) → send past s ≡ Some x → is_entered past s ≡ false → is_answered past s ≡ false → enters e.answer s ≡ false → is_some (answers e past s) ≡ false → list_any (λ r. eqb (about r) s) (ready past x.to) ≡ true
      → list_any (λ r. eqb (about r) s) (ready (e ∷ past) x.to) ≡ true
  listed_still s x found unentered unanswered entering unmet was =
      ap (list_any (λ r. eqb (about r) s)) (ready-next e past x.to f.unrefused)
      ∙ list_any_append (λ r. eqb (about r) s) (filter (λ r. not (departs x.to e past r)) (ready past x.to)) (arrives x.to e past)
      ∙ or_left (list_any (λ r. eqb (about r) s) (filter (λ r. not (departs x.to e past r)) (ready past x.to))) (list_any (λ r. eqb (about r) s) (arrives x.to e past))
      (kept_any (ReadyStands past x.to) (λ r. not (departs x.to e past r)) s must (ready past x.to) (n.waiting x.to) was) where
        must : (r : ReadyMsg) → ReadyStands past x.to r → eqb (about r) s ≡ true → not (departs x.to e past r) ≡ true
        must (to_enter y) k same =
            ap (λ m. not (ends_thread e x.to || (enters e.answer m || is_some (answers e past m)))) (eqb-true y.number s same)
            ∙ ap (λ b. not (b || (enters e.answer s || is_some (answers e past s)))) (ends_none e past s x found unentered ((n.sent s x found).in_window unentered unanswered) unmet)
            ∙ ap (λ b. not (b || is_some (answers e past s))) entering ∙ ap not unmet
        must (to_call_back y proc_no extra place) k same =
            absurd (false≢true (sym unanswered ∙ ap (λ m. is_answered past m) (sym (eqb-true y.number s same)) ∙ ap (λ (o : Option Outcome). is_some o) k.answered))

  abbrev results : ℕ → List ReadyMsg
  results t = flat_map (λ y. result past y) (filter (λ y. (eqb y.from t && not (has_ended past t)) && is_answered_by e past y) (sends past))

  listed_new : (s : ℕ) (x : SentMsg) → IsNew past e x → x.number ≡ s → is_entered (e ∷ past) s ≡ false → list_any (λ r. eqb (about r) s) (ready (e ∷ past) x.to) ≡ true
  listed_new s x k same unentered =
      let outside : x.is_inside ≡ false = never x.is_inside (λ i. false≢true (sym unentered ∙ entered_now setup past e n f s (k.entering s ∙ ap (λ b. b && eqb x.number s) i ∙ same_number x.number s same))) in
      ap (list_any (λ r. eqb (about r) s)) (ready-next e past x.to f.unrefused)
      ∙ list_any_append (λ r. eqb (about r) s) (filter (λ r. not (departs x.to e past r)) (ready past x.to)) (arrives x.to e past)
      ∙ or_right (list_any (λ r. eqb (about r) s) (filter (λ r. not (departs x.to e past r)) (ready past x.to))) (list_any (λ r. eqb (about r) s) (arrives x.to e past))
      (ap (λ xs. list_any (λ r. eqb (about r) s) (flat_map begun (filter (λ (y : SentMsg). eqb y.to x.to) xs) ++ results x.to)) k.makes
      ∙ ap (λ b. list_any (λ r. eqb (about r) s) (flat_map begun (cond b (x ∷ []) []) ++ results x.to)) (same_number x.to x.to refl)
      ∙ ap (λ b. list_any (λ r. eqb (about r) s) ((cond b [] (to_enter x ∷ []) ++ []) ++ results x.to)) outside
      ∙ ap (λ b. b || list_any (λ r. eqb (about r) s) (results x.to)) (same_number x.number s same))

  listed_next : ((s : ℕ) (x : SentMsg) → send past s ≡ Some x → is_entered past s ≡ false → is_answered past s ≡ false → list_any (λ r. eqb (about r) s) (ready past x.to) ≡ true)
      → (s : ℕ) (x : SentMsg) → send (e ∷ past) s ≡ Some x → is_entered (e ∷ past) s ≡ false → is_answered (e ∷ past) s ≡ false → list_any (λ r. eqb (about r) s) (ready (e ∷ past) x.to) ≡ true
  listed_next before s x found unentered unanswered =
      let en : (is_entered past s || enters e.answer s) ≡ false = sym (is_entered-next e past s f.unrefused) ∙ unentered in
      let an : (is_answered past s || is_some (answers e past s)) ≡ false = sym (is_answered-next e past s f.unrefused) ∙ unanswered in
      let un = not_left (is_entered past s) (enters e.answer s) en in
      let unmet = not_left (is_answered past s) (is_some (answers e past s)) an in
      elim (send_cases setup past e n f s x found) [
        | inl k ↦ listed_still s x k un unmet (not_right (is_entered past s) (enters e.answer s) en) (not_right (is_answered past s) (is_some (answers e past s)) an) (before s x k un unmet)
        | inr k ↦ listed_new s x k.0 k.1 unentered
      ]

-- a send that was neither entered nor answered is ready for its receiver
pub listed : (setup : Setup) (past : Past) → IsLawful setup past → (s : ℕ) (x : SentMsg) → send past s ≡ Some x → is_entered past s ≡ false → is_answered past s ≡ false → list_any (λ r. eqb (about r) s) (ready past x.to) ≡ true
listed setup [] h s x found unentered unanswered = absurd cc
listed setup (e ∷ past) h s x found unentered unanswered = by (listed setup past h.0) (is_refused e) refl where
  by : ((s : ℕ) (x : SentMsg) → send past s ≡ Some x → is_entered past s ≡ false → is_answered past s ≡ false → list_any (λ r. eqb (about r) s) (ready past x.to) ≡ true)
      → (b : Bool) → is_refused e ≡ b → list_any (λ r. eqb (about r) s) (ready (e ∷ past) x.to) ≡ true
  by before true r =
      ap (list_any (λ r. eqb (about r) s)) (ready-refused e past x.to r)
      ∙ before s x (sym (send-refused e past s r) ∙ found) (sym (is_entered-refused e past s r) ∙ unentered) (sym (is_answered-refused e past s r) ∙ unanswered)
  by before false r = listed_next setup past e (lawful_standing setup past h.0) (lawful_fits setup past e h.1 r) before s x found unentered unanswered
