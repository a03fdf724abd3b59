-- What is ready in a lawful past: of sends that are unfinished, at places before, and for threads that run.
use Rattle.std.proofs.Common.{◌≡◌, ℕ, Bool, true, false, not, cond, eqb, List, [], ◌∷◌, ◌++◌, Option, Some, None, refl, ap, ◌∙◌, sym, subst, inl, inr}
use Rattle.std.specs.Prelude.{◌&&◌, ◌||◌, ◌⊎◌, is_some, filter, unwrap_or, option_map}
use Rattle.std.specs.List.{AllByRecursion, flat_map}
use Rattle.std.proofs.lemmas.Bool.{false≢true, eqb-true}
use Rattle.win_num.specs.declared.send.Cause.TheVariants.{Loss}
use Rattle.user_model.specs.declared.call.Call.TheVariants.{EndThread}
use Rattle.user_model.specs.declared.entry.Entry.{Entry}
use Rattle.user_model.specs.declared.entry.Setup.{Setup}
use Rattle.user_model.specs.Past.{Past, is_refused, ever}
use Rattle.user_model.specs.Places.{is_end, has_ended, ends_thread}
use Rattle.user_model.specs.Threads.{is_running}
use Rattle.user_model.specs.Windows.{Window, live, drops, drops_kin, drops_window}
use Rattle.user_model.specs.Sends.{SentMsg, outcome, send, sends, sends_by, is_entered, is_answered, answers, answers_in, loses, calls_back, is_callback_kind, was_called_back, is_owed, is_stacked, is_unfinished}
use Rattle.user_model.specs.Ready.{ReadyMsg, to_enter, to_call_back, place_of, ready, arrives, departs, is_over, is_answered_by, begun, result, result_in}
use Rattle.user_model.specs.SendStories.{hands_on, ends_await, was_handed_on}
use Rattle.user_model.specs.Legal.{IsLawful}
use Rattle.user_model.proofs.ListLaws.{all_weaker, all_found}
use Rattle.user_model.proofs.PastLaws.{ever-next, first_way}
use Rattle.user_model.proofs.ReplyLaws.{running_lives}
use Rattle.user_model.proofs.SendReplies.{Tells}
use Rattle.user_model.proofs.SendLaws.{is_sent, makes_none, ready-next, ready-refused}
use Rattle.user_model.proofs.SendStanding.{ReadyStands, SendStands, Standing}
use Rattle.user_model.proofs.SendSteps.{Fits, never, same_number, or_left, or_right, or_neither, either_true, and_both, loses_made}
use Rattle.user_model.proofs.SendMaking.{IsNew, is_drop, no_kin, new_send}
use Rattle.user_model.proofs.SendNext.{all_kept, end_is}
use Rattle.user_model.proofs.SendLawful.{sends_found, lawful_fits, lawful_standing, live_window, thread_is}

none_kept : {A : Type 0} (p : A → Bool) (xs : List A) → AllByRecursion (λ x. p x ≡ false) xs → filter p xs ≡ []
none_kept p [] h = refl
none_kept p (x ∷ xs) h = ap (λ b. cond b (x ∷ filter p xs) (filter p xs)) h.0 ∙ none_kept p xs h.1

all_false : {A : Type 0} (p : A → Bool) (xs : List A) → ((x : A) → p x ≡ false) → AllByRecursion (λ x. p x ≡ false) xs
all_false p [] h = tt
all_false p (x ∷ xs) h = (h x, all_false p xs h)

and_right_false : (a b : Bool) → b ≡ false → (a && b) ≡ false
and_right_false true b h = h
and_right_false false b h = refl

module _ (setup : Setup) (past : Past) (e : Entry) (n : Standing setup past) (f : Fits setup past e) where
  -- a send that an entry makes goes to a thread that runs
  new_to_runs : (x : SentMsg) → IsNew past e x → is_running setup past x.to ≡ true
  new_to_runs x k =
      let w = live_window past x.hwnd k.lives in
      subst (λ t. is_running setup past t ≡ true) (sym (k.to ∙ thread_is past x.hwnd w.0 w.1)) (all_found (λ y. is_running setup past y.thread ≡ true) (λ y. eqb y.number x.hwnd) (live past) w.0 n.windows w.1)

  begun_none : (t : ℕ) → has_ended past t ≡ true → flat_map begun (filter (λ x. eqb x.to t) (sends_by e.call e past)) ≡ []
  begun_none t h = by (is_sent e.answer) refl
    where
      other : (x : SentMsg) → IsNew past e x → eqb x.to t ≡ false
      other x k = never (eqb x.to t) (λ same. false≢true (sym (running_lives setup past x.to (new_to_runs x k)) ∙ subst (λ m. has_ended past m ≡ true) (sym (eqb-true x.to t same)) h))

      by : (b : Bool) → is_sent e.answer ≡ b → flat_map begun (filter (λ x. eqb x.to t) (sends_by e.call e past)) ≡ []
      by true is = let k = new_send setup past e n f is in ap (λ xs. flat_map begun (filter (λ x. eqb x.to t) xs)) k.1.makes ∙ ap (λ b. flat_map begun (cond b (k.0 ∷ []) [])) (other k.0 k.1)
      by false is = ap (λ xs. flat_map begun (filter (λ x. eqb x.to t) xs)) (makes_none e past is)

  -- the end of a thread answers no send of its own to another thread
  end_unanswering : (t : ℕ) (x : SentMsg) → send past x.number ≡ Some x → ends_thread e t ≡ true → x.from ≡ t → x.is_inside ≡ false → is_answered_by e past x ≡ false
  end_unanswering t x found ending from outside = by (is_answered past x.number) refl
    where
      k : SendStands setup past x.number x
      k = n.sent x.number x found

      both : (is_end e.answer ≡ true) × (eqb e.who.0 t ≡ true)
      both = and_both (is_end e.answer) (eqb e.who.0 t) ending

      call : e.call ≡ EndThread
      call = subst (λ a. Tells past e.who.0 e.call a) (end_is e.answer both.0) f.tells

      apart : x.to ≡ x.from → ⊥
      apart same = false≢true (sym outside ∙ sym k.own ∙ same_number x.to x.from same)

      kept : (w : Window) → w.thread ≡ x.to → drops e (live past) w ≡ false
      kept w at = or_neither (drops_kin e.call (live past) w) (ends_thread e w.thread) (no_kin e.call (live past) w (ap is_drop call)) (never (ends_thread e w.thread) (λ g. apart (sym at ∙ sym (eqb-true e.who.0 w.thread (and_both (is_end e.answer) (eqb e.who.0 w.thread) g).1) ∙ eqb-true e.who.0 t both.1 ∙ sym from)))

      at_send : (o : Option SentMsg) → o ≡ Some x → drops_window e past x.hwnd ≡ false → (elim o as (λ _. Bool) [ Some y ↦ drops_window e past y.hwnd && not (is_entered past x.number) | None ↦ false ]) ≡ false
      at_send o is h = subst (λ p. (elim p as (λ _. Bool) [ Some y ↦ drops_window e past y.hwnd && not (is_entered past x.number) | None ↦ false ]) ≡ false) (sym is) (ap (λ b. b && not (is_entered past x.number)) h)

      unlost : is_answered past x.number ≡ false → (b : Bool) → is_entered past x.number ≡ b → loses e past x.number ≡ false
      unlost un true en = never (loses e past x.number) (λ g. false≢true (sym (loses_made setup past e n f x.number g).1 ∙ en))
      unlost un false en = let w = k.in_window en un in at_send (send past x.number) found (ap (λ o. unwrap_or (option_map (drops e (live past)) o) false) w.found ∙ kept w.of w.is_thread)

      none : is_answered past x.number ≡ false → is_some (answers e past x.number) ≡ false
      none un = ap (λ b. is_some (cond b (Some (outcome past 0 Loss)) (answers_in e.call e past x.number))) (unlost un (is_entered past x.number) refl) ∙ ap (λ c. is_some (answers_in c e past x.number)) call

      by : (b : Bool) → is_answered past x.number ≡ b → is_answered_by e past x ≡ false
      by true un = and_right_false (is_some (answers e past x.number)) (not (is_answered past x.number)) (ap not un)
      by false un = ap (λ b. b && not (is_answered past x.number)) (none un)

  results_ended : (t : ℕ) → has_ended past t ≡ true → flat_map (λ x. result past x) (filter (λ x. (eqb x.from t && not (has_ended past t)) && is_answered_by e past x) (sends past)) ≡ []
  results_ended t h = ap (flat_map (λ x. result past x)) (none_kept (λ x. (eqb x.from t && not (has_ended past t)) && is_answered_by e past x) (sends past) (all_false (λ x. (eqb x.from t && not (has_ended past t)) && is_answered_by e past x) (sends past) (λ x. ap (λ b. b && is_answered_by e past x) (and_right_false (eqb x.from t) (not (has_ended past t)) (ap not h)))))

  flat_none : {A B : Type 0} (P : A → Type 0) (g : A → List B) (xs : List A) → ((x : A) → P x → g x ≡ []) → AllByRecursion P xs → flat_map g xs ≡ []
  flat_none P g [] h k = refl
  flat_none P g (x ∷ xs) h k = ap (λ ys. ys ++ flat_map g xs) (h x k.0) ∙ flat_none P g xs h k.1

  -- the end of a thread leaves it nothing
  results_ending : (t : ℕ) → ends_thread e t ≡ true → flat_map (λ x. result past x) (filter (λ x. (eqb x.from t && not (has_ended past t)) && is_answered_by e past x) (sends past)) ≡ []
  results_ending t ending = flat_none (λ (x : SentMsg). (send past x.number ≡ Some x) × (x.from ≡ t) × (is_answered_by e past x ≡ true)) (λ x. result past x) (filter (λ x. (eqb x.from t && not (has_ended past t)) && is_answered_by e past x) (sends past))
      (λ x k. none x k.0 k.1 k.2 x.is_inside refl)
      (all_kept (λ (x : SentMsg). send past x.number ≡ Some x) (λ (x : SentMsg). (send past x.number ≡ Some x) × (x.from ≡ t) × (is_answered_by e past x ≡ true)) (λ x. (eqb x.from t && not (has_ended past t)) && is_answered_by e past x) (sends past)
      (λ x passes k. let a = and_both (eqb x.from t && not (has_ended past t)) (is_answered_by e past x) passes in (k, eqb-true x.from t (and_both (eqb x.from t) (not (has_ended past t)) a.0).0, a.1))
      (sends_found setup past n))
    where
      none : (x : SentMsg) → send past x.number ≡ Some x → x.from ≡ t → is_answered_by e past x ≡ true → (b : Bool) → x.is_inside ≡ b → result past x ≡ []
      none x found from by true is = ap (λ b. cond b [] (result_in past x x.kind)) is
      none x found from by false is = absurd (false≢true (sym (end_unanswering t x found ending from is) ∙ by))

  begun_ending : (t : ℕ) → ends_thread e t ≡ true → flat_map begun (filter (λ x. eqb x.to t) (sends_by e.call e past)) ≡ []
  begun_ending t ending = ap (λ xs. flat_map begun (filter (λ x. eqb x.to t) xs)) (makes_none e past (ap is_sent (end_is e.answer (and_both (is_end e.answer) (eqb e.who.0 t) ending).0)))

  ended_ready_next : (t : ℕ) → (has_ended past t ≡ true → ready past t ≡ []) → has_ended (e ∷ past) t ≡ true → ready (e ∷ past) t ≡ []
  ended_ready_next t before h = ready-next e past t f.unrefused ∙ either_true (has_ended past t) (ends_thread e t) (filter (λ r. not (departs t e past r)) (ready past t) ++ arrives t e past ≡ []) (sym (ever-next (λ (e : Entry) (before : Past). ends_thread e t) e past f.unrefused) ∙ h) was now
    where
      was : has_ended past t ≡ true → filter (λ r. not (departs t e past r)) (ready past t) ++ arrives t e past ≡ []
      was k = ap (λ rs. filter (λ r. not (departs t e past r)) rs ++ arrives t e past) (before k) ∙ ap (λ rs. rs ++ flat_map (λ x. result past x) (filter (λ x. (eqb x.from t && not (has_ended past t)) && is_answered_by e past x) (sends past))) (begun_none t k) ∙ results_ended t k

      now : ends_thread e t ≡ true → filter (λ r. not (departs t e past r)) (ready past t) ++ arrives t e past ≡ []
      now k =
          ap (λ rs. rs ++ arrives t e past) (none_kept (λ r. not (departs t e past r)) (ready past t) (all_false (λ r. not (departs t e past r)) (ready past t) (λ r. ap (λ b. not (b || is_over e past r)) k)))
          ∙ ap (λ rs. rs ++ flat_map (λ x. result past x) (filter (λ x. (eqb x.from t && not (has_ended past t)) && is_answered_by e past x) (sends past))) (begun_ending t k)
          ∙ results_ending t k

-- nothing is ready for a thread that has ended
pub ended_ready : (setup : Setup) (past : Past) (t : ℕ) → IsLawful setup past → has_ended past t ≡ true → ready past t ≡ []
ended_ready setup [] t h ended = refl
ended_ready setup (e ∷ past) t h ended = by (ended_ready setup past t h.0) (is_refused e) refl
  where
    by : (has_ended past t ≡ true → ready past t ≡ []) → (b : Bool) → is_refused e ≡ b → ready (e ∷ past) t ≡ []
    by before true is = ready-refused e past t is ∙ before (sym (first_way (is_refused e) (has_ended past t) (elim (has_ended past t) as (λ c. Bool) [ true ↦ true | false ↦ ends_thread e t ]) is) ∙ ended)
    by before false is = ended_ready_next setup past e (lawful_standing setup past h.0) (lawful_fits setup past e h.1 is) t before ended

-- ---- what is ready is unfinished

ever_less : (f g : Entry → Past → Bool) (past : Past) → ((e : Entry) (before : Past) → f e before ≡ true → g e before ≡ true) → ever f past ≡ true → ever g past ≡ true
ever_less f g [] h k = k
ever_less f g (e ∷ past) h k = by (is_refused e) (ever f past) (f e past) (ever_less f g past h) (h e past) k
  where
    by : (refused was is : Bool) → (was ≡ true → ever g past ≡ true) → (is ≡ true → g e past ≡ true) → (elim refused as (λ c. Bool) [ true ↦ was | false ↦ elim was as (λ c. Bool) [ true ↦ true | false ↦ is ] ]) ≡ true → (elim refused as (λ c. Bool) [ true ↦ ever g past | false ↦ elim (ever g past) as (λ c. Bool) [ true ↦ true | false ↦ g e past ] ]) ≡ true
    by true was is m l k = m k
    by false true is m l k = ap (λ b. elim b as (λ c. Bool) [ true ↦ true | false ↦ g e past ]) (m refl)
    by false false is m l k = second (ever g past) (g e past) (l k)
      where
        second : (a b : Bool) → b ≡ true → (elim a as (λ c. Bool) [ true ↦ true | false ↦ b ]) ≡ true
        second true b h = refl
        second false b h = h

-- a sender whose result wasn't handed on wasn't called back
pub not_called_back : (past : Past) (x : SentMsg) → was_handed_on past x.number ≡ false → was_called_back past x ≡ false
not_called_back past x h = never (was_called_back past x) (λ k. false≢true (sym h ∙ ever_less (λ (e : Entry) (before : Past). calls_back e.answer x.number && eqb e.who.0 x.from) (λ (e : Entry) (before : Past). hands_on e x.number) past (λ e before g. or_right (ends_await e.call e.answer x.number) (calls_back e.answer x.number) (and_both (calls_back e.answer x.number) (eqb e.who.0 x.from) g).0) k))

-- a message that is ready is of a send that is unfinished, and came at a place of the past
pub record IsPending (past : Past) (r : ReadyMsg) : Type 0 where
  pub of : SentMsg
  pub about : r ≡ to_enter of ⊎ (proc_no : ℕ) × (extra : ℕ) × (r ≡ to_call_back of proc_no extra (place_of r))
  pub found : send past of.number ≡ Some of
  pub unfinished : is_unfinished past of ≡ true

owed_now : (a b c d : Bool) → a ≡ true → b ≡ false → c ≡ false → d ≡ false → (a && (not b && (not c && not d))) ≡ true
owed_now true false false false h k l m = refl
owed_now false b c d h k l m = absurd (false≢true h)
owed_now true true c d h k l m = absurd (false≢true (sym k))
owed_now true false true d h k l m = absurd (false≢true (sym l))
owed_now true false false true h k l m = absurd (false≢true (sym m))

pending : (past : Past) (t : ℕ) → has_ended past t ≡ false → (r : ReadyMsg) → ReadyStands past t r → IsPending past r
pending past t lives (to_enter x) h = record { of = x; about = inl refl; found = h.found; unfinished = or_left (not (is_answered past x.number)) (is_stacked past x || is_owed past x) (ap not h.unanswered) }
pending past t lives (to_call_back x proc_no extra place) h = record {
  of = x;
  about = inr (proc_no, extra, refl);
  found = h.found;
  unfinished = or_right (not (is_answered past x.number)) (is_stacked past x || is_owed past x) (or_right (is_stacked past x) (is_owed past x) (owed_now (is_callback_kind x.kind) x.is_inside (has_ended past x.from) (was_called_back past x) (ap is_callback_kind h.is_kind) h.outside (ap (has_ended past) h.from ∙ lives) (not_called_back past x h.unhanded)));
}

-- all that is ready is of sends that are unfinished
pub ready_pending : (setup : Setup) (past : Past) (t : ℕ) → IsLawful setup past → AllByRecursion (IsPending past) (ready past t)
ready_pending setup past t h = by (has_ended past t) refl
  where
    by : (b : Bool) → has_ended past t ≡ b → AllByRecursion (IsPending past) (ready past t)
    by true ended = subst (AllByRecursion (IsPending past)) (sym (ended_ready setup past t h ended)) tt
    by false lives = all_weaker (ReadyStands past t) (IsPending past) (pending past t lives) (ready past t) ((lawful_standing setup past h).waiting t)
