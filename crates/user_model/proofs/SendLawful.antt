-- What stands of sends stands in every lawful past.
use Rattle.std.proofs.Common.{◌≡◌, ℕ, suc, ◌<◌, Bool, true, false, not, cond, eqb, List, [], ◌∷◌, length, drop, Option, Some, None, refl, ap, ◌∙◌, sym, subst, inl, inr, arith}
use Rattle.std.specs.Prelude.{◌&&◌, ◌||◌, ◌⊎◌, is_some, find, filter, unwrap_or, option_map}
use Rattle.std.specs.List.{AllByRecursion, list_any, flat_map}
use Rattle.std.proofs.lemmas.Bool.{false≢true, eqb-true}
use Rattle.win_num.specs.declared.send.Kind.{Kind}
use Rattle.win_num.specs.declared.send.Kind.TheVariants.{Wait as WaitKind, Timeout as WithTimeout, Notify, Callback as WithCallback}
use Rattle.win_num.specs.declared.send.Cause.TheVariants.{Proc, Loss}
use Rattle.win_num.specs.declared.send.Frame.{Frame}
use Rattle.win_num.specs.declared.send.Frame.TheVariants.{Entered, Inside as InsideFrame, Called as CalledFrame, CallbackRun, Await as AwaitFrame}
use Rattle.win_num.specs.declared.code.Code.{Code}
use Rattle.user_model.specs.declared.call.Call.{Call}
use Rattle.user_model.specs.declared.call.Call.TheVariants.{Leave}
use Rattle.user_model.specs.declared.entry.Entry.{Entry}
use Rattle.user_model.specs.declared.entry.Answer.{Answer}
use Rattle.user_model.specs.declared.entry.Answer.TheVariants as answers
use Rattle.user_model.specs.declared.entry.Setup.{Setup}
use Rattle.user_model.specs.Past.{Past, or_else, first, is_refused, is_refusal}
use Rattle.user_model.specs.Places.{has_ended, ends_thread}
use Rattle.user_model.specs.Threads.{is_thread, is_running}
use Rattle.user_model.specs.Windows.{Window, live, window, is_live, thread_of, drops, drops_window}
use Rattle.user_model.specs.Stacks.{stack, top, leaves}
use Rattle.user_model.specs.Sends.{SentMsg, Outcome, outcome, send, sends, sends_by, enters, is_entered, is_answered, answer, answers, answers_in, loses, left_by, is_callback_kind, calls_back}
use Rattle.user_model.specs.Ready.{ReadyMsg, to_enter, to_call_back, ready, arrives, departs, is_over, is_answered_by, begun, result, result_in}
use Rattle.user_model.specs.SendStories.{hands_on, was_handed_on, ends_await}
use Rattle.user_model.specs.Idle.{reply}
use Rattle.user_model.specs.Legal.{IsLawful}
use Rattle.user_model.proofs.ListLaws.{all_weaker, all_append, all_found}
use Rattle.user_model.proofs.ReplyLaws.{by_row, by_call}
use Rattle.user_model.proofs.SendReplies.{Tells, is_of_sends, entry_told, plain_told, of_thread}
use Rattle.user_model.specs.Deeds.{is_serving}
use Rattle.user_model.proofs.AnswerFacts.{LeftFrom}
use Rattle.user_model.proofs.SendLaws.{is_sent, makes_none, send-stays, is_entered-next, is_answered-next, answer-next, answer-stays, stack-other, ready-next}
use Rattle.user_model.proofs.SendStanding.{CountsFrom, IsOwedTo, ReadyStands, runs_for, HasWindow, SendStands, Standing, standing_empty, standing_refused}
use Rattle.user_model.proofs.SendSteps.{Fits, never, other_number, same_number, or_left, or_right, not_left, not_right, either_true, and_both, not_true, some_true, none_some, same_some, list_any_append, pushed, pops, remaining, fresh, top_stands, head_stands, entered_stays, entered_now, unentered_stays, unanswered_stays, unhanded_stays, await_top, inside_number, done_parts, unmade_entered}
use Rattle.user_model.proofs.SendMaking.{IsNew, drops_none, new_send, new_unmade, send_new, new_stays_unanswered, send_cases, counted_next, entered_next, answered_next, answers_place, placed_next, handed_next}
use Rattle.user_model.proofs.SendNext.{all_kept, all_flat, own_stack, own_runs, frames_next, once_next, ended_next, windows_next, window_stays}

and_thread : (a b : Bool) → (a && b) ≡ true → a ≡ true
and_thread true b h = refl
and_thread false b h = absurd (false≢true h)

pub live_window : (past : Past) (w : ℕ) → is_live past w ≡ true → (x : Window) × (window past w ≡ Some x)
live_window past w h = by (window past w) refl h
  where
    by : (o : Option Window) → window past w ≡ o → is_some o ≡ true → (x : Window) × (window past w ≡ Some x)
    by (Some x) is h = (x, is)
    by None is h = absurd (false≢true h)

pub thread_is : (past : Past) (w : ℕ) (x : Window) → window past w ≡ Some x → thread_of past w ≡ x.thread
thread_is past w x h = ap (λ o. unwrap_or (option_map (λ (y : Window). y.thread) o) 0) h

module _ (setup : Setup) (past : Past) (e : Entry) (n : Standing setup past) (f : Fits setup past e) where
  -- ---- sends

  -- an entry that pops the frame of a send's procedure answers the send
  popped_answers : (s : ℕ) (g : Frame) → top past e.who.0 ≡ Some g → pops e.call e.answer ≡ true → runs_for s g ≡ true → is_some (answers e past s) ≡ true
  popped_answers s g at pop runs = by e.answer refl f.tells pop
    where
      some_or_lost : (b : Bool) (o : Option Outcome) → is_some o ≡ true → is_some (cond b (Some (outcome past 0 Loss)) o) ≡ true
      some_or_lost true o h = refl
      some_or_lost false o h = h

      leaving : (v : ℕ) → e.call ≡ Leave v → left_by e.answer s ≡ true → is_some (answers e past s) ≡ true
      leaving v call left = some_or_lost (loses e past s) (answers_in e.call e past s) (ap (λ c. is_some (answers_in c e past s)) call ∙ ap (λ b. is_some (cond b (Some (outcome past v Proc)) None)) left)

      same_top : (h : Frame) → top past e.who.0 ≡ Some h → runs_for s h ≡ true
      same_top h is = subst (λ y. runs_for s y ≡ true) (same_some (top past e.who.0) g h at is) runs

      from : (o : Option Frame) (m : ℕ) → top past e.who.0 ≡ o → LeftFrom past o m → eqb m s ≡ true
      from (Some (Entered u)) m is h = same_number m s (h ∙ eqb-true u.0 s (same_top (Entered u) is))
      from (Some (InsideFrame u)) m is (inl h) = same_number m s (h ∙ eqb-true u.0 s (same_top (InsideFrame u) is))
      from (Some (InsideFrame u)) m is (inr h) = same_number m s (h.2 ∙ inside_number setup past e n f u h.0 h.1 ∙ eqb-true u.0 s (same_top (InsideFrame u) is))
      from (Some CalledFrame) m is h = absurd (false≢true (same_top CalledFrame is))
      from (Some CallbackRun) m is h = absurd (false≢true (same_top CallbackRun is))
      from (Some (AwaitFrame u)) m is h = absurd (false≢true (same_top (AwaitFrame u) is))
      from None m is h = let none : None ≡ Some g = sym is ∙ at in absurd cc

      no_service : (c : Call) → leaves c ≡ true → is_serving c ≡ true → ⊥
      no_service (Leave v) h k = false≢true k
      no_service _ h k = false≢true h

      by : (a : Answer) → e.answer ≡ a → Tells past e.who.0 e.call a → pops e.call a ≡ true → is_some (answers e past s) ≡ true
      by (answers.Left t) is k pop = leaving k.result k.is_call (ap (λ a. left_by a s) is ∙ from (top past e.who.0) t.0 refl k.from)
      by (answers.Callback t proc_no w message extra result) is (inl k) pop = absurd (no_service e.call pop k.serves)
      by (answers.Callback t proc_no w message extra result) is (inr k) pop = leaving result k.is_call (ap (λ a. left_by a s) is ∙ same_number t.0 s (k.is_send ∙ inside_number setup past e n f k.frame k.of k.found ∙ eqb-true k.frame.0 s (same_top (InsideFrame k.frame) k.is_top)))
      by (answers.Done result cause) is k pop = let r = await_top setup past e n f k.s k.is_call (ap is_of_sends is) in absurd (false≢true (same_top (AwaitFrame r.0) r.1))
      by _ is k pop = absurd (false≢true pop)

  -- the frame of an unanswered send remains
  remaining_runs : (s : ℕ) → is_some (answers e past s) ≡ false → list_any (runs_for s) (stack past e.who.0) ≡ true → list_any (runs_for s) (remaining e.call e.answer (stack past e.who.0)) ≡ true
  remaining_runs s unmet h = by (pops e.call e.answer) refl
    where
      popped : (fs : List Frame) → stack past e.who.0 ≡ fs → pops e.call e.answer ≡ true → list_any (runs_for s) fs ≡ true → list_any (runs_for s) (drop 1 fs) ≡ true
      popped [] is pop k = k
      popped (g ∷ fs) is pop k = either_true (runs_for s g) (list_any (runs_for s) fs) (list_any (runs_for s) fs ≡ true) k (λ runs. absurd (false≢true (sym unmet ∙ popped_answers s g (ap first is) pop runs))) (λ rest. rest)

      by : (b : Bool) → pops e.call e.answer ≡ b → list_any (runs_for s) (cond b (drop 1 (stack past e.who.0)) (stack past e.who.0)) ≡ true
      by true is = popped (stack past e.who.0) refl is h
      by false is = h

  pushed_runs : (t s : ℕ) → eqb e.who.0 t ≡ true → list_any (runs_for s) (pushed e.call e.answer) ≡ true → list_any (runs_for s) (stack (e ∷ past) t) ≡ true
  pushed_runs t s is h = ap (list_any (runs_for s)) (own_stack setup past e n f t is) ∙ list_any_append (runs_for s) (pushed e.call e.answer) (remaining e.call e.answer (stack past t)) ∙ or_left (list_any (runs_for s) (pushed e.call e.answer)) (list_any (runs_for s) (remaining e.call e.answer (stack past t))) h

  stays_running : (t s : ℕ) → is_some (answers e past s) ≡ false → list_any (runs_for s) (stack past t) ≡ true → list_any (runs_for s) (stack (e ∷ past) t) ≡ true
  stays_running t s unmet h = by (eqb e.who.0 t) refl
    where
      own : e.who.0 ≡ t → list_any (runs_for s) (remaining e.call e.answer (stack past t)) ≡ true
      own is = subst (λ m. list_any (runs_for s) (remaining e.call e.answer (stack past m)) ≡ true) is (remaining_runs s unmet (subst (λ m. list_any (runs_for s) (stack past m) ≡ true) (sym is) h))

      by : (b : Bool) → eqb e.who.0 t ≡ b → list_any (runs_for s) (stack (e ∷ past) t) ≡ true
      by true is = ap (list_any (runs_for s)) (own_stack setup past e n f t is) ∙ list_any_append (runs_for s) (pushed e.call e.answer) (remaining e.call e.answer (stack past t)) ∙ or_right (list_any (runs_for s) (pushed e.call e.answer)) (list_any (runs_for s) (remaining e.call e.answer (stack past t))) (own (eqb-true e.who.0 t is))
      by false is = ap (list_any (runs_for s)) (stack-other e past t is) ∙ h

  -- the procedure of a send that the entry enters runs for its receiver
  entering_runs : (s : ℕ) (x : SentMsg) → send past s ≡ Some x → enters e.answer s ≡ true → list_any (runs_for s) (stack (e ∷ past) x.to) ≡ true
  entering_runs s x found h = by e.answer refl f.tells h
    where
      by : (a : Answer) → e.answer ≡ a → Tells past e.who.0 e.call a → enters a s ≡ true → list_any (runs_for s) (stack (e ∷ past) x.to) ≡ true
      by (answers.Enter t proc_no w message wparam lparam) is k h =
          let r = head_stands setup past e n f e.who.0 (to_enter k.of) k.is_first in
          let at : k.of.number ≡ s = sym k.is_send ∙ eqb-true t.0 s h in
          let same : k.of ≡ x = same_some (send past s) k.of x (subst (λ m. send past m ≡ Some k.of) at r.found) found in
          pushed_runs x.to s (same_number e.who.0 x.to (sym r.to ∙ ap (λ (y : SentMsg). y.to) same)) (ap (λ a. list_any (runs_for s) (pushed e.call a)) is ∙ ap (λ b. b || false) h)
      by (answers.Inside t proc_no) is k h = absurd (none_some (send past s) (subst (λ m. send past m ≡ None) (sym k.made.is_next ∙ eqb-true t.0 s h) (fresh setup past e n f)) (some_true (send past s) x found))
      by _ is k h = absurd (false≢true h)

  kept_window : (s : ℕ) (x : SentMsg) → send past s ≡ Some x → loses e past s ≡ false → is_entered past s ≡ false → HasWindow past x → HasWindow (e ∷ past) x
  kept_window s x found kept unentered k = record { of = k.of; found = window_stays setup past e n f x.hwnd k.of k.found stays; is_thread = k.is_thread }
    where
      at_send : (o : Option SentMsg) → o ≡ Some x → (elim o as (λ _. Bool) [ Some y ↦ drops_window e past y.hwnd && not (is_entered past s) | None ↦ false ]) ≡ false → (drops_window e past x.hwnd && not (is_entered past s)) ≡ false
      at_send o is h = subst (λ p. (elim p as (λ _. Bool) [ Some y ↦ drops_window e past y.hwnd && not (is_entered past s) | None ↦ false ]) ≡ false) is h

      and_true : (b : Bool) → (b && true) ≡ b
      and_true true = refl
      and_true false = refl

      dropped : drops_window e past x.hwnd ≡ false
      dropped = sym (and_true (drops_window e past x.hwnd)) ∙ ap (λ b. drops_window e past x.hwnd && not b) (sym unentered) ∙ at_send (send past s) found kept

      stays : drops e (live past) k.of ≡ false
      stays = ap (λ o. unwrap_or (option_map (drops e (live past)) o) false) (sym k.found) ∙ dropped

  open_before : (s : ℕ) → is_answered (e ∷ past) s ≡ false → (is_answered past s ≡ false) × (is_some (answers e past s) ≡ false)
  open_before s h =
      let both : (is_answered past s || is_some (answers e past s)) ≡ false = sym (is_answered-next e past s f.unrefused) ∙ h in
      (not_left (is_answered past s) (is_some (answers e past s)) both, not_right (is_answered past s) (is_some (answers e past s)) both)

  unlost : (s : ℕ) → is_some (answers e past s) ≡ false → loses e past s ≡ false
  unlost s h = by (loses e past s) refl h
    where
      by : (b : Bool) → loses e past s ≡ b → is_some (cond b (Some (outcome past 0 Loss)) (answers_in e.call e past s)) ≡ false → loses e past s ≡ false
      by true is h = absurd (false≢true (sym h))
      by false is h = is

  sent_before : (s : ℕ) (x : SentMsg) → send past s ≡ Some x → SendStands setup (e ∷ past) s x
  sent_before s x found = record {
    is_number = k.is_number;
    from_thread = k.from_thread;
    to_thread = k.to_thread;
    own = k.own;
    inside_entered = λ is. entered_stays setup past e n f s (k.inside_entered is);
    running = λ en un. let unmet = open_before s un in by (is_entered past s) refl unmet.0 unmet.1 en;
    in_window = λ en un.
        let unmet = open_before s un in
        let both : (is_entered past s || enters e.answer s) ≡ false = sym (is_entered-next e past s f.unrefused) ∙ en in
        let unentered = not_left (is_entered past s) (enters e.answer s) both in
        kept_window s x found (unlost s unmet.1) unentered (k.in_window unentered unmet.0);
  }
    where
      k : SendStands setup past s x
      k = n.sent s x found

      by : (b : Bool) → is_entered past s ≡ b → is_answered past s ≡ false → is_some (answers e past s) ≡ false → is_entered (e ∷ past) s ≡ true → list_any (runs_for s) (stack (e ∷ past) x.to) ≡ true
      by true is un unmet en = stays_running x.to s unmet (k.running is un)
      by false is un unmet en = entering_runs s x found (sym (ap (λ b. b || enters e.answer s) is) ∙ sym (is_entered-next e past s f.unrefused) ∙ en)

  sent_now : (x : SentMsg) → IsNew past e x → SendStands setup (e ∷ past) x.number x
  sent_now x k = record {
    is_number = refl;
    from_thread = subst (λ m. is_thread setup m ≡ true) (sym k.from) (and_thread (is_thread setup e.who.0) (not (has_ended past e.who.0)) (own_runs setup past e n f k.told));
    to_thread = subst (λ m. is_thread setup m ≡ true) (sym at) (and_thread (is_thread setup w.0.thread) (not (has_ended past w.0.thread)) (all_found (λ y. is_running setup past y.thread ≡ true) (λ y. eqb y.number x.hwnd) (live past) w.0 n.windows w.1));
    own = ap (eqb x.to) k.from ∙ k.own;
    inside_entered = λ is. entered_now setup past e n f x.number (entering is);
    running = λ en un. by x.is_inside refl en;
    in_window = λ en un. record { of = w.0; found = window_stays setup past e n f x.hwnd w.0 w.1 (drops_none e (live past) w.0 k.no_drop k.no_end); is_thread = sym at };
  }
    where
      w : (y : Window) × (window past x.hwnd ≡ Some y)
      w = live_window past x.hwnd k.lives

      at : x.to ≡ w.0.thread
      at = k.to ∙ thread_is past x.hwnd w.0 w.1

      entering : x.is_inside ≡ true → enters e.answer x.number ≡ true
      entering is = k.entering x.number ∙ ap (λ b. b && eqb x.number x.number) is ∙ same_number x.number x.number refl

      own : x.is_inside ≡ true → eqb e.who.0 x.to ≡ true
      own is = same_number e.who.0 x.to (sym (eqb-true x.to e.who.0 (k.own ∙ is)))

      by : (b : Bool) → x.is_inside ≡ b → is_entered (e ∷ past) x.number ≡ true → list_any (runs_for x.number) (stack (e ∷ past) x.to) ≡ true
      by true is en = pushed_runs x.to x.number (own is) (ap (list_any (runs_for x.number)) (k.runs_inside is) ∙ ap (λ b. b || false) (same_number x.number x.number refl))
      by false is en = absurd (false≢true (sym (unentered_stays setup past e n f x.number (unmade_entered setup past e n f x.number (new_unmade setup past e n f x k)) (k.entering x.number ∙ ap (λ b. b && eqb x.number x.number) is)) ∙ en))

  sent_next : (s : ℕ) (x : SentMsg) → send (e ∷ past) s ≡ Some x → SendStands setup (e ∷ past) s x
  sent_next s x h = by (send_cases setup past e n f s x h)
    where
      by : (send past s ≡ Some x) ⊎ IsNew past e x × (x.number ≡ s) → SendStands setup (e ∷ past) s x
      by (inl found) = sent_before s x found
      by (inr k) = subst (λ m. SendStands setup (e ∷ past) m x) k.1 (sent_now x k.0)

  -- ---- what is ready

  -- a callback that leaves a result ready hands on another send's
  result_stays : (t : ℕ) (x : SentMsg) (proc_no extra place : ℕ) → IsOwedTo past t x proc_no extra place → (calls_back e.answer x.number && eqb e.who.0 x.from) ≡ false → hands_on e x.number ≡ false
  result_stays t x proc_no extra place h stays = never (hands_on e x.number) (λ k. either_true (ends_await e.call e.answer x.number) (calls_back e.answer x.number) ⊥ k done called)
    where
      done : ends_await e.call e.answer x.number ≡ true → ⊥
      done k =
          let p = done_parts e.call e.answer x.number k in
          let r = await_top setup past e n f p.3 p.4 (ap is_of_sends p.2) in
          let frame = top_stands setup past e n f e.who.0 (AwaitFrame r.0) r.1 in
          let same : frame.of ≡ x = same_some (send past x.number) frame.of x (subst (λ m. send past m ≡ Some frame.of) (r.2 ∙ p.5) frame.found) h.found in
          false≢true (sym frame.awaits ∙ ap (λ (y : SentMsg). is_callback_kind y.kind) same ∙ ap is_callback_kind h.is_kind)

      by : (a : Answer) → e.answer ≡ a → Tells past e.who.0 e.call a → calls_back a x.number ≡ true → ⊥
      by (answers.Callback s proc w message more value) is (inl k) c =
          let r = head_stands setup past e n f e.who.0 (to_call_back k.of proc more k.place) k.is_first in
          let at : k.of.number ≡ x.number = sym k.is_send ∙ eqb-true s.0 x.number c in
          let same : k.of ≡ x = same_some (send past x.number) k.of x (subst (λ m. send past m ≡ Some k.of) at r.found) h.found in
          false≢true (sym stays ∙ ap (λ b. b && eqb e.who.0 x.from) (ap (λ a. calls_back a x.number) is ∙ c) ∙ same_number e.who.0 x.from (sym r.from ∙ ap (λ (y : SentMsg). y.from) same))
      by (answers.Callback s proc w message more value) is (inr k) c =
          let frame = top_stands setup past e n f e.who.0 (InsideFrame k.frame) k.is_top in
          let at : k.frame.0 ≡ x.number = sym (inside_number setup past e n f k.frame k.of k.found) ∙ sym k.is_send ∙ eqb-true s.0 x.number c in
          let same : frame.of ≡ x = same_some (send past x.number) frame.of x (subst (λ m. send past m ≡ Some frame.of) at frame.found) h.found in
          false≢true (sym h.outside ∙ ap (λ (y : SentMsg). y.is_inside) (sym same) ∙ frame.inside)
      by _ is k c = false≢true c

      called : calls_back e.answer x.number ≡ true → ⊥
      called k = by e.answer refl f.tells k

  ready_stays : (t : ℕ) (r : ReadyMsg) → not (departs t e past r) ≡ true → ReadyStands past t r → ReadyStands (e ∷ past) t r
  ready_stays t (to_enter x) stays h =
      let kept = not_right (ends_thread e t) (is_over e past (to_enter x)) (not_true (departs t e past (to_enter x)) stays) in
      record {
        found = send-stays e past x.number x h.found;
        to = h.to;
        outside = h.outside;
        unentered = unentered_stays setup past e n f x.number h.unentered (not_left (enters e.answer x.number) (is_some (answers e past x.number)) kept);
        unanswered = unanswered_stays setup past e n f x.number h.unanswered (not_right (enters e.answer x.number) (is_some (answers e past x.number)) kept);
      }
  ready_stays t (to_call_back x proc_no extra place) stays h =
      let kept = not_right (ends_thread e t) (is_over e past (to_call_back x proc_no extra place)) (not_true (departs t e past (to_call_back x proc_no extra place)) stays) in
      record {
        found = send-stays e past x.number x h.found;
        from = h.from;
        outside = h.outside;
        is_kind = h.is_kind;
        of = h.of;
        answered = answer-stays e past x.number h.of h.answered;
        is_place = h.is_place;
        unhanded = unhanded_stays setup past e n f x.number h.unhanded (result_stays t x proc_no extra place h kept);
      }

  -- a send that is begun is ready
  begun_ready : (t : ℕ) (x : SentMsg) → IsNew past e x → x.to ≡ t → AllByRecursion (ReadyStands (e ∷ past) t) (begun x)
  begun_ready t x k to = by x.is_inside refl
    where
      by : (b : Bool) → x.is_inside ≡ b → AllByRecursion (ReadyStands (e ∷ past) t) (cond b [] (to_enter x ∷ []))
      by true is = tt
      by false is = (
        record {
          found = send_new setup past e n f x k;
          to = to;
          outside = is;
          unentered = unentered_stays setup past e n f x.number (unmade_entered setup past e n f x.number (new_unmade setup past e n f x k)) (k.entering x.number ∙ ap (λ b. b && eqb x.number x.number) is);
          unanswered = new_stays_unanswered setup past e n f x k;
        },
        tt,
      )

  none_is : (o : Option Outcome) → is_some o ≡ false → o ≡ None
  none_is None h = refl
  none_is (Some x) h = absurd (false≢true (sym h))

  some_is : (o : Option Outcome) → is_some o ≡ true → (x : Outcome) × (o ≡ Some x)
  some_is (Some x) h = (x, refl)
  some_is None h = absurd (false≢true h)

  -- the result of a callback send that the entry answers is ready
  result_owed : (t : ℕ) (x : SentMsg) (proc_no extra : ℕ) → send past x.number ≡ Some x → x.from ≡ t → is_answered_by e past x ≡ true → x.is_inside ≡ false → x.kind ≡ WithCallback proc_no extra → IsOwedTo (e ∷ past) t x proc_no extra (length past)
  result_owed t x proc_no extra found from by outside kind =
      let both = and_both (is_some (answers e past x.number)) (not (is_answered past x.number)) by in
      let un = not_true (is_answered past x.number) both.1 in
      let o = some_is (answers e past x.number) both.0 in
      let unhanded : was_handed_on past x.number ≡ false = never (was_handed_on past x.number) (λ g. false≢true (sym un ∙ (n.handed x.number g).1)) in
      record {
        found = send-stays e past x.number x found;
        from = from;
        outside = outside;
        is_kind = kind;
        of = o.0;
        answered = answer-next e past x.number f.unrefused ∙ ap (λ p. or_else p (answers e past x.number)) (none_is (answer past x.number) un) ∙ o.1;
        is_place = answers_place setup past e n f x.number o.0 o.1;
        unhanded = unhanded_stays setup past e n f x.number unhanded (never (hands_on e x.number) (λ k. either_true (ends_await e.call e.answer x.number) (calls_back e.answer x.number) ⊥ k done called));
      }
    where
      un_before : is_answered past x.number ≡ false
      un_before = not_true (is_answered past x.number) (and_both (is_some (answers e past x.number)) (not (is_answered past x.number)) by).1

      done : ends_await e.call e.answer x.number ≡ true → ⊥
      done k =
          let p = done_parts e.call e.answer x.number k in
          let r = await_top setup past e n f p.3 p.4 (ap is_of_sends p.2) in
          let frame = top_stands setup past e n f e.who.0 (AwaitFrame r.0) r.1 in
          let same : frame.of ≡ x = same_some (send past x.number) frame.of x (subst (λ m. send past m ≡ Some frame.of) (r.2 ∙ p.5) frame.found) found in
          false≢true (sym frame.awaits ∙ ap (λ (y : SentMsg). is_callback_kind y.kind) same ∙ ap is_callback_kind kind)

      by_answer : (a : Answer) → Tells past e.who.0 e.call a → calls_back a x.number ≡ true → ⊥
      by_answer (answers.Callback s proc w message more value) (inl k) c =
          let r = head_stands setup past e n f e.who.0 (to_call_back k.of proc more k.place) k.is_first in
          let at : k.of.number ≡ x.number = sym k.is_send ∙ eqb-true s.0 x.number c in
          false≢true (sym un_before ∙ subst (λ m. is_answered past m ≡ true) at (ap is_some r.answered))
      by_answer (answers.Callback s proc w message more value) (inr k) c =
          let frame = top_stands setup past e n f e.who.0 (InsideFrame k.frame) k.is_top in
          let at : k.frame.0 ≡ x.number = sym (inside_number setup past e n f k.frame k.of k.found) ∙ sym k.is_send ∙ eqb-true s.0 x.number c in
          let same : frame.of ≡ x = same_some (send past x.number) frame.of x (subst (λ m. send past m ≡ Some frame.of) at frame.found) found in
          false≢true (sym outside ∙ ap (λ (y : SentMsg). y.is_inside) (sym same) ∙ frame.inside)
      by_answer _ k c = false≢true c

      called : calls_back e.answer x.number ≡ true → ⊥
      called k = by_answer e.answer f.tells k

  result_ready : (t : ℕ) (x : SentMsg) → send past x.number ≡ Some x → x.from ≡ t → is_answered_by e past x ≡ true → AllByRecursion (ReadyStands (e ∷ past) t) (result past x)
  result_ready t x found from answered = by x.is_inside refl
    where
      by_kind : x.is_inside ≡ false → (k : Kind) → x.kind ≡ k → AllByRecursion (ReadyStands (e ∷ past) t) (result_in past x k)
      by_kind out WaitKind is = tt
      by_kind out (WithTimeout flags ms) is = tt
      by_kind out Notify is = tt
      by_kind out (WithCallback proc_no extra) is = (result_owed t x proc_no extra found from answered out is, tt)

      by : (b : Bool) → x.is_inside ≡ b → AllByRecursion (ReadyStands (e ∷ past) t) (cond b [] (result_in past x x.kind))
      by true is = tt
      by false is = by_kind is x.kind refl

  -- each send of the past is found by its number
  arrived_begun : (t : ℕ) → AllByRecursion (ReadyStands (e ∷ past) t) (flat_map begun (filter (λ x. eqb x.to t) (sends_by e.call e past)))
  arrived_begun t = by (is_sent e.answer) refl
    where
      one : (x : SentMsg) → IsNew past e x → (b : Bool) → eqb x.to t ≡ b → AllByRecursion (ReadyStands (e ∷ past) t) (flat_map begun (cond b (x ∷ []) []))
      one x k true is = all_append (ReadyStands (e ∷ past) t) (begun x) [] (begun_ready t x k (eqb-true x.to t is)) tt
      one x k false is = tt

      by : (b : Bool) → is_sent e.answer ≡ b → AllByRecursion (ReadyStands (e ∷ past) t) (flat_map begun (filter (λ x. eqb x.to t) (sends_by e.call e past)))
      by true is = let k = new_send setup past e n f is in subst (λ xs. AllByRecursion (ReadyStands (e ∷ past) t) (flat_map begun (filter (λ x. eqb x.to t) xs))) (sym k.1.makes) (one k.0 k.1 (eqb k.0.to t) refl)
      by false is = subst (λ xs. AllByRecursion (ReadyStands (e ∷ past) t) (flat_map begun (filter (λ x. eqb x.to t) xs))) (sym (makes_none e past is)) tt

  arrived_results : (t : ℕ) → AllByRecursion (λ x. send past x.number ≡ Some x) (sends past) → AllByRecursion (ReadyStands (e ∷ past) t) (flat_map (λ x. result past x) (filter (λ x. (eqb x.from t && not (has_ended past t)) && is_answered_by e past x) (sends past)))
  arrived_results t found = all_flat (λ (x : SentMsg). (send past x.number ≡ Some x) × (x.from ≡ t) × (is_answered_by e past x ≡ true)) (ReadyStands (e ∷ past) t) (λ x. result past x) (filter (λ x. (eqb x.from t && not (has_ended past t)) && is_answered_by e past x) (sends past))
      (λ x k. result_ready t x k.0 k.1 k.2)
      (all_kept (λ (x : SentMsg). send past x.number ≡ Some x) (λ (x : SentMsg). (send past x.number ≡ Some x) × (x.from ≡ t) × (is_answered_by e past x ≡ true)) (λ x. (eqb x.from t && not (has_ended past t)) && is_answered_by e past x) (sends past)
      (λ x passes k. let a = and_both (eqb x.from t && not (has_ended past t)) (is_answered_by e past x) passes in (k, eqb-true x.from t (and_both (eqb x.from t) (not (has_ended past t)) a.0).0, a.1))
      found)

  waiting_next : AllByRecursion (λ x. send past x.number ≡ Some x) (sends past) → (t : ℕ) → AllByRecursion (ReadyStands (e ∷ past) t) (ready (e ∷ past) t)
  waiting_next found t = subst (λ rs. AllByRecursion (ReadyStands (e ∷ past) t) rs) (sym (ready-next e past t f.unrefused)) (all_append (ReadyStands (e ∷ past) t) (filter (λ r. not (departs t e past r)) (ready past t)) (arrives t e past)
      (all_kept (ReadyStands past t) (ReadyStands (e ∷ past) t) (λ r. not (departs t e past r)) (ready past t) (ready_stays t) (n.waiting t))
      (all_append (ReadyStands (e ∷ past) t) (flat_map begun (filter (λ x. eqb x.to t) (sends_by e.call e past))) (flat_map (λ x. result past x) (filter (λ x. (eqb x.from t && not (has_ended past t)) && is_answered_by e past x) (sends past))) (arrived_begun t) (arrived_results t found)))

-- ---- every lawful past

found_there : (n : ℕ) (x y : SentMsg) (o : Option SentMsg) → x.number ≡ suc n → suc n < y.number → o ≡ Some y → cond (eqb x.number y.number) (Some x) o ≡ Some y
found_there n x y o is above h = ap (λ b. cond b (Some x) o) (other_number x.number y.number (λ same. omega arith)) ∙ h

-- each send is found by its number
found_each : (n : ℕ) (xs : List SentMsg) → CountsFrom n xs → AllByRecursion (λ y. (n < y.number) × (find (λ x. eqb x.number y.number) xs ≡ Some y)) xs
found_each n [] c = tt
found_each n (x ∷ xs) c = (
  (let is : x.number ≡ suc n = c.0 in omega arith, ap (λ b. cond b (Some x) (find (λ y. eqb y.number x.number) xs)) (same_number x.number x.number refl)),
  all_weaker (λ (y : SentMsg). (suc n < y.number) × (find (λ z. eqb z.number y.number) xs ≡ Some y)) (λ (y : SentMsg). (n < y.number) × (cond (eqb x.number y.number) (Some x) (find (λ z. eqb z.number y.number) xs) ≡ Some y)) (λ y k. (let more : suc n < y.number = k.0 in omega arith, found_there n x y (find (λ z. eqb z.number y.number) xs) c.0 k.0 k.1)) xs (found_each (suc n) xs c.1),
)

pub sends_found : (setup : Setup) (past : Past) → Standing setup past → AllByRecursion (λ x. send past x.number ≡ Some x) (sends past)
sends_found setup past n = all_weaker (λ (y : SentMsg). (0 < y.number) × (find (λ x. eqb x.number y.number) (sends past) ≡ Some y)) (λ x. send past x.number ≡ Some x) (λ x k. k.1) (sends past) (found_each 0 (sends past) n.counted)

-- an entry that wasn't refused leaves what stands
pub standing_next : (setup : Setup) (past : Past) (e : Entry) → Standing setup past → Fits setup past e → Standing setup (e ∷ past)
standing_next setup past e n f = record {
  counted = counted_next setup past e n f;
  entered = entered_next setup past e n f;
  answered = answered_next setup past e n f;
  placed = placed_next setup past e n f;
  handed = handed_next setup past e n f;
  frames = frames_next setup past e n f;
  once = once_next setup past e n f;
  waiting = waiting_next setup past e n f (sends_found setup past n);
  sent = sent_next setup past e n f;
  windows = windows_next setup past e n f;
  ended = ended_next setup past e n f;
}

-- what is known of an entry of a lawful past that wasn't refused
pub lawful_fits : (setup : Setup) (past : Past) (e : Entry) → e.answer ≡ reply setup past e.who.0 e.call → is_refused e ≡ false → Fits setup past e
lawful_fits setup past e right unrefused = record {
  unrefused = unrefused;
  tells = by (is_of_sends e.answer) refl;
  by_answer = λ h. by_row setup past e.who.0 e.call e.answer (sym right) (of_thread e.answer h);
  by_call = λ h. by_call setup past e.who.0 e.call e.answer (sym right) h unrefused;
}
  where
    by : (b : Bool) → is_of_sends e.answer ≡ b → Tells past e.who.0 e.call e.answer
    by true h = (entry_told setup past e.who.0 e.call e.answer (sym right) h).1
    by false h = (plain_told past e.who.0 e.call e.answer (record { misses = h })).tells

pub refusal_is : (a : Answer) → is_refusal a ≡ true → (code : Code) × (a ≡ answers.Refused code)
refusal_is (answers.Refused code) h = (code, refl)
refusal_is _ h = absurd (false≢true h)

-- in a lawful past that stands
pub lawful_standing : (setup : Setup) (past : Past) → IsLawful setup past → Standing setup past
lawful_standing setup [] h = standing_empty setup
lawful_standing setup (e ∷ past) h = by (lawful_standing setup past h.0) (is_refused e) refl
  where
    by : Standing setup past → (b : Bool) → is_refused e ≡ b → Standing setup (e ∷ past)
    by n true is = let r = refusal_is e.answer is in standing_refused setup past e r.0 r.1 n
    by n false is = standing_next setup past e n (lawful_fits setup past e h.1 is)
