-- The laws of sends and stacks, over every lawful past.
use Rattle.std.proofs.Common.{◌≡◌, ℕ, zero, suc, ◌+◌, ◌<◌, ◌≤◌, Bool, true, false, not, cond, eqb, List, [], ◌∷◌, ◌++◌, length, drop, Option, Some, None, refl, ap, ◌∙◌, sym, subst, inl, inr, arith}
use Rattle.std.specs.Prelude.{◌&&◌, ◌||◌, is_some, is_none, filter, find, nat_lt, nat_le}
use Rattle.std.specs.List.{AllByRecursion, list_any, count_by}
use Rattle.std.proofs.lemmas.Bool.{false≢true, eqb-true}
use Rattle.std.proofs.lemmas.Bool.Decides.{nat_tests}
use Rattle.std.proofs.lemmas.List.{append-nil}
use Rattle.std.proofs.lemmas.List.Sums.{sum_by-cons}
use Rattle.win_num.specs.declared.message.Thread.{Thread}
use Rattle.win_num.specs.declared.send.Cause.{Cause}
use Rattle.win_num.specs.declared.send.Cause.TheVariants.{Proc, Reply as ByReply, Loss, Timeout as ByTimeout, Hung as ByHung}
use Rattle.win_num.specs.declared.send.Kind.{Kind}
use Rattle.win_num.specs.declared.send.Kind.TheVariants.{Wait as WaitKind, Timeout as WithTimeout, Notify, Callback as WithCallback}
use Rattle.win_num.specs.declared.send.SendId.{SendId}
use Rattle.win_num.specs.declared.send.Frame.{Frame}
use Rattle.win_num.specs.declared.send.Frame.TheVariants.{Entered, Inside as InsideFrame, Called as CalledFrame, CallbackRun, Await as AwaitFrame}
use Rattle.win_num.specs.declared.code.Code.{Code}
use Rattle.user_model.specs.declared.call.Call.{Call}
use Rattle.user_model.specs.declared.call.Call.TheVariants.{Peek, Get, Await, Leave}
use Rattle.user_model.specs.declared.entry.Entry.{Entry}
use Rattle.user_model.specs.declared.entry.Answer.{Answer}
use Rattle.user_model.specs.declared.entry.Answer.TheVariants as answers
use Rattle.user_model.specs.declared.entry.Setup.{Setup}
use Rattle.user_model.specs.Past.{Past, is_refused, is_refusal, each_of, ever, or_else, first, place_after}
use Rattle.user_model.specs.Places.{has_ended, mine, is_end}
use Rattle.user_model.specs.Threads.{lowest, is_thread, is_running}
use Rattle.user_model.specs.Windows.{live}
use Rattle.user_model.specs.Stacks.{stack, stacked, top, leaves, waits}
use Rattle.user_model.specs.Sends.{SentMsg, Outcome, outcome, send, sends, enters, is_entered, is_answered, answer, answers, answers_in, is_timed_out, is_unfinished, is_stacked, is_owed, names_send}
use Rattle.user_model.specs.Counts.{same_cause, has_cause, send_count}
use Rattle.user_model.specs.ReplySends.{leave_from, left_inside}
use Rattle.user_model.specs.Replies.{row, is_barred_by}
use Rattle.user_model.specs.Idle.{have_all_ended}
use Rattle.user_model.specs.Legal.{IsLawful}
use Rattle.user_model.specs.SendStories.{Handing, hands_on, was_handed_on, handed_by, handings, entered_by, entries, result_handed, Follows, IsSendStory, IsPlaced, IsStackStory, IsStackStep, stays, pushes, pops_top, replaces, is_procedure, runs_callback, send_of, send_left, IsLeaving, IsAwaitDone, IsSettled, ends_await}
use Rattle.user_model.proofs.PastLaws.{each_of-next}
use Rattle.user_model.proofs.ListLaws.{all_weaker, all_append, all_found}
use Rattle.user_model.proofs.ReplyLaws.{is_of_clock}
use Rattle.user_model.proofs.SendReplies.{Tells, is_of_sends}
use Rattle.user_model.specs.Deeds.{is_serving}
use Rattle.user_model.proofs.SendLaws.{is_sent, stack-refused, answer-next, answer-stays, stack-next, stack-other}
use Rattle.user_model.proofs.SendStanding.{CountsFrom, FrameStands, SendStands, HasWindow, Standing, runs_for}
use Rattle.user_model.proofs.SendSteps.{Fits, never, await_top, done_parts, find_above, find_zero, same_number, or_neither, and_both, not_true, enters_fresh}
use Rattle.user_model.proofs.SendMaking.{is_drop, loses_none, new_send, new_unanswering, answers_place, handing}
use Rattle.user_model.proofs.SendLawful.{sends_found, lawful_fits, lawful_standing, refusal_is}

-- ---- lists of what entries did

none_added : {A : Type 0} (refused done now : Bool) (xs : List A) (x : A) → (elim refused as (λ c. Bool) [ true ↦ done | false ↦ elim done as (λ c. Bool) [ true ↦ true | false ↦ now ] ]) ≡ false → (done ≡ false → xs ≡ []) → (elim refused as (λ c. List A) [ true ↦ xs | false ↦ xs ++ cond now (x ∷ []) [] ]) ≡ []
none_added true done now xs x h f = f h
none_added false true now xs x h f = absurd (false≢true (sym h))
none_added false false true xs x h f = absurd (false≢true (sym h))
none_added false false false xs x h f = append-nil xs ∙ f refl

-- where no entry did it, none added to the list
none_did : {A : Type 0} (does : Entry → Past → Bool) (what : Entry → Past → A) (past : Past) → ever does past ≡ false → each_of (λ e before. cond (does e before) (what e before ∷ []) []) past ≡ []
none_did does what [] h = refl
none_did does what (e ∷ past) h = none_added (is_refused e) (ever does past) (does e past) (each_of (λ e before. cond (does e before) (what e before ∷ []) []) past) (what e past) h (λ k. none_did does what past k)

no_entries : (past : Past) (s : ℕ) → is_entered past s ≡ false → entries past s ≡ []
no_entries past s h = none_did (λ (e : Entry) (before : Past). enters e.answer s) (λ (e : Entry) (before : Past). place_after before) past h

abbrev handing_of : Entry → Past → Handing
handing_of e before = record { place = place_after before; result = result_handed e.answer }

no_handings : (past : Past) (s : ℕ) → was_handed_on past s ≡ false → handings past s ≡ []
no_handings past s h = none_did (λ (e : Entry) (before : Past). hands_on e s) (λ (e : Entry) (before : Past). handing_of e before) past h

-- ---- each send

story_refused : (who : Thread) (call : Call) (code : Code) (past : Past) (s : ℕ) → IsSendStory past s → IsSendStory (record { who = who; call = call; answer = answers.Refused code } ∷ past) s
story_refused who call code past s h = record {
  entered_once = h.entered_once;
  entered_before = h.entered_before;
  handed_once = h.handed_once;
  handed_after = all_weaker (Follows past s) (Follows (record { who = who; call = call; answer = answers.Refused code } ∷ past) s) (λ x k. record { of = k.of; answered = k.answered; not_before = k.not_before; same_result = k.same_result }) (handings past s) h.handed_after;
}

-- entries stand below the end of the past
entries_below : (past : Past) (s : ℕ) → AllByRecursion (λ place. place < length past) (entries past s)
entries_below [] s = tt
entries_below (e ∷ past) s = by (is_refused e) (all_weaker (λ place. place < length past) (λ place. place < suc (length past)) (λ place h. omega (arith, h)) (entries past s) (entries_below past s))
  where
    now : (b : Bool) → AllByRecursion (λ place. place < suc (length past)) (cond b (length past ∷ []) [])
    now true = (omega arith, tt)
    now false = tt

    by : (b : Bool) → AllByRecursion (λ place. place < suc (length past)) (entries past s) → AllByRecursion (λ place. place < suc (length past)) (elim b as (λ c. List ℕ) [ true ↦ entries past s | false ↦ entries past s ++ entered_by s e past ])
    by true h = h
    by false h = all_append (λ place. place < suc (length past)) (entries past s) (entered_by s e past) h (now (enters e.answer s))

module _ (setup : Setup) (past : Past) (e : Entry) (n : Standing setup past) (f : Fits setup past e) where
  -- an entry doesn't answer the send that it enters
  enters_unanswering : (s : ℕ) → enters e.answer s ≡ true → is_some (answers e past s) ≡ false
  enters_unanswering s h = by e.answer refl f.tells h
    where
      serving_call : (c : Call) → is_serving c ≡ true → is_drop c ≡ false
      serving_call (Peek w min max flags) k = refl
      serving_call (Get w min max) k = refl
      serving_call (Await t) k = refl
      serving_call _ k = absurd (false≢true k)

      unanswering : (c : Call) → is_serving c ≡ true → is_timed_out e.answer ≡ false → is_some (answers_in c e past s) ≡ false
      unanswering (Peek w min max flags) k late = refl
      unanswering (Get w min max) k late = refl
      unanswering (Await t) k late = ap (λ b. is_some (cond (b && eqb t s) (Some (outcome past 0 ByTimeout)) None)) late
      unanswering _ k late = absurd (false≢true k)

      by : (a : Answer) → e.answer ≡ a → Tells past e.who.0 e.call a → enters a s ≡ true → is_some (answers e past s) ≡ false
      by (answers.Inside t proc_no) is k h =
          let x = new_send setup past e n f (ap is_sent is) in
          let at = and_both x.0.is_inside (eqb x.0.number s) (sym (x.1.entering s) ∙ ap (λ a. enters a s) is ∙ h) in
          subst (λ m. is_some (answers e past m) ≡ false) (eqb-true x.0.number s at.1) (new_unanswering setup past e n f x.0 x.1)
      by (answers.Enter t proc_no w message wparam lparam) is k h =
          ap (λ b. is_some (cond b (Some (outcome past 0 Loss)) (answers_in e.call e past s))) (loses_none e past s (serving_call e.call k.serves) (ap is_end is))
          ∙ unanswering e.call k.serves (ap is_timed_out is)
      by _ is k h = absurd (false≢true h)

  entries_next : (s : ℕ) → entries (e ∷ past) s ≡ entries past s ++ entered_by s e past
  entries_next s = each_of-next (entered_by s) e past f.unrefused

  handings_next : (s : ℕ) → handings (e ∷ past) s ≡ handings past s ++ handed_by s e past
  handings_next s = each_of-next (handed_by s) e past f.unrefused

  entries_kept : (s : ℕ) → enters e.answer s ≡ false → entries (e ∷ past) s ≡ entries past s
  entries_kept s h = entries_next s ∙ ap (λ b. entries past s ++ cond b (length past ∷ []) []) h ∙ append-nil (entries past s)

  entries_one : (s : ℕ) → enters e.answer s ≡ true → entries (e ∷ past) s ≡ length past ∷ []
  entries_one s h = entries_next s ∙ ap (λ xs. xs ++ entered_by s e past) (no_entries past s (enters_fresh setup past e n f s h).0) ∙ ap (λ b. cond b (length past ∷ []) []) h

  handings_kept : (s : ℕ) → hands_on e s ≡ false → handings (e ∷ past) s ≡ handings past s
  handings_kept s h = handings_next s ∙ ap (λ b. handings past s ++ cond b (handing_of e past ∷ []) []) h ∙ append-nil (handings past s)

  handings_one : (s : ℕ) → hands_on e s ≡ true → handings (e ∷ past) s ≡ handing_of e past ∷ []
  handings_one s h = handings_next s ∙ ap (λ xs. xs ++ handed_by s e past) (no_handings past s (handing setup past e n f s h).unhanded) ∙ ap (λ b. cond b (handing_of e past ∷ []) []) h

  entered_once_next : (s : ℕ) → IsSendStory past s → length (entries (e ∷ past) s) ≤ 1
  entered_once_next s k = by (enters e.answer s) refl
    where
      by : (b : Bool) → enters e.answer s ≡ b → length (entries (e ∷ past) s) ≤ 1
      by true h = subst (λ xs. length xs ≤ 1) (sym (entries_one s h)) (omega arith)
      by false h = subst (λ xs. length xs ≤ 1) (sym (entries_kept s h)) k.entered_once

  handed_once_next : (s : ℕ) → IsSendStory past s → length (handings (e ∷ past) s) ≤ 1
  handed_once_next s k = by (hands_on e s) refl
    where
      by : (b : Bool) → hands_on e s ≡ b → length (handings (e ∷ past) s) ≤ 1
      by true h = subst (λ xs. length xs ≤ 1) (sym (handings_one s h)) (omega arith)
      by false h = subst (λ xs. length xs ≤ 1) (sym (handings_kept s h)) k.handed_once

  entered_before_next : (s : ℕ) → IsSendStory past s → (o : Outcome) → answer (e ∷ past) s ≡ Some o → AllByRecursion (λ place. place < o.place) (entries (e ∷ past) s)
  entered_before_next s k o h = by (answer past s) refl (sym (answer-next e past s f.unrefused) ∙ h)
    where
      before : (q : Outcome) → answer past s ≡ Some q → q ≡ o → AllByRecursion (λ place. place < o.place) (entries (e ∷ past) s)
      before q is same =
          let keeps : enters e.answer s ≡ false = never (enters e.answer s) (λ g. false≢true (sym (enters_fresh setup past e n f s g).1 ∙ ap is_some is)) in
          subst (λ xs. AllByRecursion (λ place. place < o.place) xs) (sym (entries_kept s keeps)) (k.entered_before o (is ∙ ap (λ x. Some x) same))

      now : answers e past s ≡ Some o → AllByRecursion (λ place. place < o.place) (entries (e ∷ past) s)
      now g =
          let keeps : enters e.answer s ≡ false = never (enters e.answer s) (λ en. false≢true (sym (enters_unanswering s en) ∙ ap is_some g)) in
          subst (λ xs. AllByRecursion (λ place. place < o.place) xs) (sym (entries_kept s keeps)) (subst (λ m. AllByRecursion (λ place. place < m) (entries past s)) (sym (answers_place setup past e n f s o g)) (entries_below past s))

      by : (p : Option Outcome) → answer past s ≡ p → or_else p (answers e past s) ≡ Some o → AllByRecursion (λ place. place < o.place) (entries (e ∷ past) s)
      by (Some q) is g = let same : q ≡ o = cc in before q is same
      by None is g = now g

  handed_after_next : (s : ℕ) → IsSendStory past s → AllByRecursion (Follows (e ∷ past) s) (handings (e ∷ past) s)
  handed_after_next s k = by (hands_on e s) refl
    where
      by : (b : Bool) → hands_on e s ≡ b → AllByRecursion (Follows (e ∷ past) s) (handings (e ∷ past) s)
      by true h = let r = handing setup past e n f s h in subst (λ xs. AllByRecursion (Follows (e ∷ past) s) xs) (sym (handings_one s h)) (record { of = r.of; answered = r.answered; not_before = r.early; same_result = r.same_result }, tt)
      by false h = subst (λ xs. AllByRecursion (Follows (e ∷ past) s) xs) (sym (handings_kept s h)) (all_weaker (Follows past s) (Follows (e ∷ past) s) (λ x c. record { of = c.of; answered = answer-stays e past s c.of c.answered; not_before = c.not_before; same_result = c.same_result }) (handings past s) k.handed_after)

  story_next : (s : ℕ) → IsSendStory past s → IsSendStory (e ∷ past) s
  story_next s k = record {
    entered_once = entered_once_next s k;
    entered_before = entered_before_next s k;
    handed_once = handed_once_next s k;
    handed_after = handed_after_next s k;
  }

-- in a lawful past each send is entered at most once and before its answer, which is handed on at most once
pub send_law : (setup : Setup) (past : Past) → IsLawful setup past → (s : ℕ) → IsSendStory past s
send_law setup [] h s = record { entered_once = omega arith; entered_before = λ o k. tt; handed_once = omega arith; handed_after = tt }
send_law setup (e ∷ past) h s = by (send_law setup past h.0 s) (is_refused e) refl
  where
    by : IsSendStory past s → (b : Bool) → is_refused e ≡ b → IsSendStory (e ∷ past) s
    by k true is = let r = refusal_is e.answer is in subst (λ a. IsSendStory (record { who = e.who; call = e.call; answer = a } ∷ past) s) (sym r.1) (story_refused e.who e.call r.0 past s k)
    by k false is = story_next setup past e (lawful_standing setup past h.0) (lawful_fits setup past e h.1 is) s k

-- ---- stacks

-- what an entry makes of a thread's stack
grown : Entry → ℕ → List Frame → List Frame
grown e t frames = elim (is_refused e) as (λ c. List Frame) [ true ↦ frames | false ↦ elim (eqb e.who.0 t) as (λ c. List Frame) [ true ↦ stacked e.call e.answer frames | false ↦ frames ] ]

grows : (e : Entry) (past : Past) (t : ℕ) → stack (e ∷ past) t ≡ grown e t (stack past t)
unfolding grown
grows e past t = refl

grow_own : (e : Entry) (past : Past) (t : ℕ) → stack past t ≡ stack (mine past t) t → stack (e ∷ past) t ≡ stack (mine (e ∷ past) t) t
grow_own e past t h = by (eqb e.who.0 t) refl
  where
    by : (b : Bool) → eqb e.who.0 t ≡ b → stack (e ∷ past) t ≡ stack (mine (e ∷ past) t) t
    by true is = grows e past t ∙ ap (grown e t) h ∙ sym (grows e (mine past t) t) ∙ ap (λ b. stack (cond b (e ∷ mine past t) (mine past t)) t) (sym is)
    by false is = stack-other e past t is ∙ h ∙ ap (λ b. stack (cond b (e ∷ mine past t) (mine past t)) t) (sym is)

own_entries : (past : Past) (t : ℕ) → stack past t ≡ stack (mine past t) t
own_entries [] t = refl
own_entries (e ∷ past) t = grow_own e past t (own_entries past t)

placed_frame : (past : Past) (t : ℕ) (g : Frame) → FrameStands past t g → IsPlaced past t g
placed_frame past t (Entered s) h = (h.of.from, record { of = h.of; found = h.found; is_from = refl; is_to = h.to })
placed_frame past t (InsideFrame s) h = record { of = h.of; found = h.found; is_from = h.from; is_to = h.to }
placed_frame past t (AwaitFrame s) h = (h.of.to, record { of = h.of; found = h.found; is_from = h.from; is_to = refl })
placed_frame past t CalledFrame h = tt
placed_frame past t CallbackRun h = tt

-- a stack is of its thread's own entries, and its frames name each send at most once a kind, on the right thread
pub stack_law : (setup : Setup) (past : Past) → IsLawful setup past → (t : ℕ) → IsStackStory past t
stack_law setup past h t =
    let n = lawful_standing setup past h in
    record { of_own_entries = own_entries past t; named_once = n.once t; placed = all_weaker (FrameStands past t) (IsPlaced past t) (placed_frame past t) (stack past t) (n.frames t) }

-- ---- leaving

kind_left : (x : SentMsg) (k : Kind) (v : ℕ) (g : Frame) (below : List Frame) → stacked (Leave v) (left_inside x k v) (g ∷ below) ≡ cond (runs_callback (left_inside x k v)) (CallbackRun ∷ below) below
kind_left x WaitKind v g below = refl
kind_left x (WithTimeout flags ms) v g below = refl
kind_left x Notify v g below = refl
kind_left x (WithCallback proc_no extra) v g below = refl

left_frames : (past : Past) (o : Option Frame) (v : ℕ) (g : Frame) (below : List Frame) → stacked (Leave v) (leave_from past o v) (g ∷ below) ≡ cond (runs_callback (leave_from past o v)) (CallbackRun ∷ below) below
left_frames past (Some (InsideFrame s)) v g below = by (send past s.0)
  where
    by : (o : Option SentMsg) → stacked (Leave v) (elim o as (λ _. Answer) [ Some x ↦ left_inside x x.kind v | None ↦ answers.Left s ]) (g ∷ below) ≡ cond (runs_callback (elim o as (λ _. Answer) [ Some x ↦ left_inside x x.kind v | None ↦ answers.Left s ])) (CallbackRun ∷ below) below
    by (Some x) = kind_left x x.kind v g below
    by None = refl
left_frames past (Some (Entered s)) v g below = refl
left_frames past (Some CalledFrame) v g below = refl
left_frames past (Some CallbackRun) v g below = refl
left_frames past (Some (AwaitFrame s)) v g below = refl
left_frames past None v g below = refl

leave_allowed : (v : ℕ) (fs : List Frame) → is_barred_by (Leave v) (first fs) ≡ false → (g : Frame) × (below : List Frame) × (fs ≡ g ∷ below) × (is_procedure g ≡ true)
leave_allowed v [] h = absurd (false≢true (sym h))
leave_allowed v (Entered s ∷ below) h = (Entered s, below, refl, refl)
leave_allowed v (InsideFrame s ∷ below) h = (InsideFrame s, below, refl, refl)
leave_allowed v (CalledFrame ∷ below) h = (CalledFrame, below, refl, refl)
leave_allowed v (CallbackRun ∷ below) h = (CallbackRun, below, refl, refl)
leave_allowed v (AwaitFrame s ∷ below) h = absurd (false≢true (sym h))

kind_send : (x : SentMsg) (k : Kind) (v : ℕ) → send_left (left_inside x k v) ≡ x.number
kind_send x WaitKind v = refl
kind_send x (WithTimeout flags ms) v = refl
kind_send x Notify v = refl
kind_send x (WithCallback proc_no extra) v = refl

left_send : (setup : Setup) (past : Past) → Standing setup past → (o : Option Frame) (g : Frame) (v : ℕ) → o ≡ Some g → is_procedure g ≡ true → send_left (leave_from past o v) ≡ send_of g
left_send setup past n None g v h k = absurd cc
left_send setup past n (Some (Entered s)) g v h k = let same : Entered s ≡ g = cc in ap send_of same
left_send setup past n (Some CalledFrame) g v h k = let same : CalledFrame ≡ g = cc in ap send_of same
left_send setup past n (Some CallbackRun) g v h k = let same : CallbackRun ≡ g = cc in ap send_of same
left_send setup past n (Some (AwaitFrame s)) g v h k = let same : g ≡ AwaitFrame s = cc in absurd (false≢true (sym (ap is_procedure same) ∙ k))
left_send setup past n (Some (InsideFrame s)) g v h k = let same : InsideFrame s ≡ g = cc in by (send past s.0) refl ∙ ap send_of same
  where
    by : (o : Option SentMsg) → send past s.0 ≡ o → send_left (elim o as (λ _. Answer) [ Some x ↦ left_inside x x.kind v | None ↦ answers.Left s ]) ≡ s.0
    by (Some x) is = kind_send x x.kind v ∙ (n.sent s.0 x is).is_number
    by None is = refl

-- a leave pops the procedure's frame on top of its thread's stack
pub leave_law : (setup : Setup) (past : Past) (e : Entry) (v : ℕ) → IsLawful setup (e ∷ past) → is_refused e ≡ false → e.call ≡ Leave v → IsLeaving past e
leave_law setup past e v h unrefused call =
    let f = lawful_fits setup past e h.1 unrefused in
    let by = f.by_call (ap is_of_clock call) in
    let at = leave_allowed v (stack past e.who.0) (subst (λ c. is_barred_by c (top past e.who.0) ≡ false) call by.allowed) in
    let is : leave_from past (top past e.who.0) v ≡ e.answer = subst (λ c. row setup past e.who.0 c ≡ e.answer) call by.is_row in
    record {
      frame = at.0;
      below = at.1;
      before = at.2;
      of_procedure = at.3;
      names_send = ap send_left (sym is) ∙ left_send setup past (lawful_standing setup past h.0) (top past e.who.0) at.0 v (ap first at.2) at.3;
      after = stack-next e past e.who.0 unrefused (same_number e.who.0 e.who.0 refl)
          ∙ ap (λ fs. stacked e.call e.answer fs) at.2
          ∙ ap (λ c. stacked c e.answer (at.0 ∷ at.1)) call
          ∙ ap (λ a. stacked (Leave v) a (at.0 ∷ at.1)) (sym is)
          ∙ left_frames past (top past e.who.0) v at.0 at.1
          ∙ ap (λ a. cond (runs_callback a) (CallbackRun ∷ at.1) at.1) is;
    }

unrefused_done : (call : Call) (a : Answer) (s : ℕ) → ends_await call a s ≡ true → (is_refusal a ≡ false) × (is_of_sends a ≡ true)
unrefused_done call a s h = let p = done_parts call a s h in (ap is_refusal p.2, ap is_of_sends p.2)

top_below : (fs : List Frame) (u : SendId) → first fs ≡ Some (AwaitFrame u) → fs ≡ AwaitFrame u ∷ drop 1 fs
top_below [] u h = absurd cc
top_below (g ∷ fs) u h = let same : g ≡ AwaitFrame u = cc in ap (λ x. x ∷ fs) same

-- an await that is done pops its frame from the top of its thread's stack
pub done_law : (setup : Setup) (past : Past) (e : Entry) (s : ℕ) → IsLawful setup (e ∷ past) → ends_await e.call e.answer s ≡ true → IsAwaitDone past e s
done_law setup past e s h done =
    let kinds = unrefused_done e.call e.answer s done in
    let f = lawful_fits setup past e h.1 kinds.0 in
    let p = done_parts e.call e.answer s done in
    let r = await_top setup past e (lawful_standing setup past h.0) f p.3 p.4 kinds.1 in
    record {
      frame = r.0;
      is_send = r.2 ∙ p.5;
      before = top_below (stack past e.who.0) r.0 r.1 ∙ ap (λ fs. AwaitFrame r.0 ∷ fs) (sym (stack-next e past e.who.0 kinds.0 (same_number e.who.0 e.who.0 refl) ∙ ap (λ a. stacked e.call a (stack past e.who.0)) p.2));
    }

-- ---- one entry

popped_top : (fs : List Frame) (g : Frame) → first fs ≡ Some g → fs ≡ g ∷ drop 1 fs
popped_top [] g h = absurd cc
popped_top (y ∷ fs) g h = let same : y ≡ g = cc in ap (λ x. x ∷ fs) same

left_top : (past : Past) (o : Option Frame) → is_barred_by (Leave 0) o ≡ false → (g : Frame) × (o ≡ Some g)
left_top past None h = absurd (false≢true (sym h))
left_top past (Some g) h = (g, refl)

barred_alike : (v : ℕ) (o : Option Frame) → is_barred_by (Leave v) o ≡ is_barred_by (Leave 0) o
barred_alike v None = refl
barred_alike v (Some (Entered s)) = refl
barred_alike v (Some (InsideFrame s)) = refl
barred_alike v (Some CalledFrame) = refl
barred_alike v (Some CallbackRun) = refl
barred_alike v (Some (AwaitFrame s)) = refl

module _ (setup : Setup) (past : Past) (e : Entry) (n : Standing setup past) (f : Fits setup past e) where
  -- what the answer makes of its thread's frames
  own_step : IsStackStep (stack past e.who.0) (stacked e.call e.answer (stack past e.who.0))
  own_step = at e.answer refl f.tells
    where
      begun : (s : SendId) (b : Bool) → IsStackStep (stack past e.who.0) (cond b (AwaitFrame s ∷ stack past e.who.0) (stack past e.who.0))
      begun s true = pushes (AwaitFrame s) refl
      begun s false = stays refl

      no_leave : (c : Call) → is_serving c ≡ true → leaves c ≡ false
      no_leave (Leave v) h = absurd (false≢true h)
      no_leave _ h = refl

      kept : (b : Bool) → b ≡ false → IsStackStep (stack past e.who.0) (CallbackRun ∷ cond b (drop 1 (stack past e.who.0)) (stack past e.who.0))
      kept true h = absurd (false≢true (sym h))
      kept false h = pushes CallbackRun refl

      placed : (b : Bool) → b ≡ true → (g : Frame) → top past e.who.0 ≡ Some g → IsStackStep (stack past e.who.0) (CallbackRun ∷ cond b (drop 1 (stack past e.who.0)) (stack past e.who.0))
      placed true h g is = replaces g (drop 1 (stack past e.who.0)) (popped_top (stack past e.who.0) g is) refl
      placed false h g is = absurd (false≢true h)

      by : (a : Answer) → e.answer ≡ a → Tells past e.who.0 e.call a → IsStackStep (stack past e.who.0) (stacked e.call a (stack past e.who.0))
      by (answers.Enter s proc_no w message wparam lparam) is k = pushes (Entered s) refl
      by (answers.Inside s proc_no) is k = pushes (InsideFrame s) refl
      by (answers.Called proc_no) is k = pushes CalledFrame refl
      by (answers.Begun s) is k = begun s (waits e.call)
      by (answers.Callback s proc_no w message extra result) is (inl k) = kept (leaves e.call) (no_leave e.call k.serves)
      by (answers.Callback s proc_no w message extra result) is (inr k) = placed (leaves e.call) (ap leaves k.is_call) (InsideFrame k.frame) k.is_top
      by (answers.Left s) is k =
          let allowed : is_barred_by (Leave 0) (top past e.who.0) ≡ false = sym (barred_alike k.result (top past e.who.0)) ∙ subst (λ c. is_barred_by c (top past e.who.0) ≡ false) k.is_call (f.by_answer (ap is_of_sends is)).allowed in
          let r = left_top past (top past e.who.0) allowed in
          pops_top r.0 (popped_top (stack past e.who.0) r.0 r.1)
      by (answers.Done result cause) is k = let r = await_top setup past e n f k.s k.is_call (ap is_of_sends is) in pops_top (AwaitFrame r.0) (popped_top (stack past e.who.0) (AwaitFrame r.0) r.1)
      by _ is k = stays refl

      at : (a : Answer) → e.answer ≡ a → Tells past e.who.0 e.call a → IsStackStep (stack past e.who.0) (stacked e.call e.answer (stack past e.who.0))
      at a is k = subst (λ a. IsStackStep (stack past e.who.0) (stacked e.call a (stack past e.who.0))) (sym is) (by a is k)

  step_next : (t : ℕ) → IsStackStep (stack past t) (stack (e ∷ past) t)
  step_next t = by (eqb e.who.0 t) refl
    where
      by : (b : Bool) → eqb e.who.0 t ≡ b → IsStackStep (stack past t) (stack (e ∷ past) t)
      by true is = subst (λ m. IsStackStep (stack past m) (stack (e ∷ past) m)) (eqb-true e.who.0 t is) (subst (λ fs. IsStackStep (stack past e.who.0) fs) (sym (stack-next e past e.who.0 f.unrefused (same_number e.who.0 e.who.0 refl))) own_step)
      by false is = stays (stack-other e past t is)

-- an entry changes a stack at its top alone
pub step_law : (setup : Setup) (past : Past) (e : Entry) (t : ℕ) → IsLawful setup (e ∷ past) → IsStackStep (stack past t) (stack (e ∷ past) t)
step_law setup past e t h = by (is_refused e) refl
  where
    by : (b : Bool) → is_refused e ≡ b → IsStackStep (stack past t) (stack (e ∷ past) t)
    by true is = stays (stack-refused e past t is)
    by false is = step_next setup past e (lawful_standing setup past h.0) (lawful_fits setup past e h.1 is) t

-- ---- numbers and answers

find_each : (n : ℕ) (xs : List SentMsg) (s : ℕ) → CountsFrom n xs → n < s → s ≤ n + length xs → is_some (find (λ x. eqb x.number s) xs) ≡ true
find_each n [] s c low high = absurd (omega arith)
find_each n (x ∷ xs) s c low high = by (eqb x.number s) refl (λ more. find_each (suc n) xs s c.1 more (omega arith))
  where
    next : eqb x.number s ≡ false → suc n < s
    next h = let is : x.number ≡ suc n = c.0 in let other : x.number ≡ s → ⊥ = λ same. false≢true (sym h ∙ same_number x.number s same) in omega (arith, is, other)

    by : (b : Bool) → eqb x.number s ≡ b → (suc n < s → is_some (find (λ x. eqb x.number s) xs) ≡ true) → is_some (cond b (Some x) (find (λ x. eqb x.number s) xs)) ≡ true
    by true h rest = refl
    by false h rest = rest (next h)

-- there is a send of each number from 1 to the count, and of no other
pub number_law : (setup : Setup) (past : Past) → IsLawful setup past → (s : ℕ) → is_some (send past s) ≡ (nat_lt 0 s && nat_le s (length (sends past)))
number_law setup past h s = by (nat_lt 0 s) (nat_le s (length (sends past))) refl refl
  where
    counted : CountsFrom 0 (sends past)
    counted = (lawful_standing setup past h).counted

    none : find (λ x. eqb x.number s) (sends past) ≡ None → is_some (send past s) ≡ false
    none k = ap (λ (o : Option SentMsg). is_some o) k

    above : (m k : ℕ) → nat_le m k ≡ false → k < m
    above m k h = grind (arith, nat_tests, h)

    within : (m k : ℕ) → nat_le m k ≡ true → m ≤ k
    within m k h = grind (arith, nat_tests, h)

    positive : (m : ℕ) → nat_lt 0 m ≡ true → 0 < m
    positive m h = grind (arith, nat_tests, h)

    nothing : (m : ℕ) → nat_lt 0 m ≡ false → m ≡ 0
    nothing m h = grind (arith, nat_tests, h)

    by : (a b : Bool) → nat_lt 0 s ≡ a → nat_le s (length (sends past)) ≡ b → is_some (send past s) ≡ (a && b)
    by true true low high = find_each 0 (sends past) s counted (positive s low) (let k = within s (length (sends past)) high in omega (arith, k))
    by true false low high = none (find_above 0 (sends past) s counted (let k = above s (length (sends past)) high in omega (arith, k)))
    by false b low high = none (subst (λ m. find (λ x. eqb x.number m) (sends past) ≡ None) (sym (nothing s low)) (find_zero 0 (sends past) counted))

-- an answer stays the same
pub answer_law : (newer past : Past) (s : ℕ) (o : Outcome) → answer past s ≡ Some o → answer (newer ++ past) s ≡ Some o
answer_law [] past s o h = h
answer_law (e ∷ newer) past s o h = answer-stays e (newer ++ past) s o (answer_law newer past s o h)

-- ---- where all threads have ended

or_none : (o p : Option ℕ) → is_none (or_else o p) ≡ true → (is_none o ≡ true) × (is_none p ≡ true)
or_none None p h = (refl, h)
or_none (Some m) p h = absurd (false≢true h)

none_if : (b : Bool) (m : ℕ) → is_none (cond b (Some m) None) ≡ true → b ≡ false
none_if true m h = absurd (false≢true h)
none_if false m h = refl

none_passes : (test : ℕ → Bool) (n t : ℕ) → is_none (lowest test n) ≡ true → 0 < t → t ≤ n → test t ≡ false
none_passes test zero t h low high = absurd (omega arith)
none_passes test (suc n) t h low high = by (eqb t (suc n)) refl (or_none (lowest test n) (cond (test (suc n)) (Some (suc n)) None) h) (λ less k. none_passes test n t k low less)
  where
    by : (b : Bool) → eqb t (suc n) ≡ b → (is_none (lowest test n) ≡ true) × (is_none (cond (test (suc n)) (Some (suc n)) None) ≡ true) → (t ≤ n → is_none (lowest test n) ≡ true → test t ≡ false) → test t ≡ false
    by true is k rest = subst (λ m. test m ≡ false) (sym (eqb-true t (suc n) is)) (none_if (test (suc n)) (suc n) k.1)
    by false is k rest = rest (less is) k.0
      where
        less : eqb t (suc n) ≡ false → t ≤ n
        less is = let other : t ≡ suc n → ⊥ = λ same. false≢true (sym is ∙ same_number t (suc n) same) in omega (arith, other)

not_false : (b : Bool) → not b ≡ false → b ≡ true
not_false true h = refl
not_false false h = absurd (false≢true (sym h))

least_thread : (setup : Setup) (t : ℕ) → is_thread setup t ≡ true → (0 < t) × (t ≤ setup.threads)
least_thread setup t h = let both = and_both (nat_le 1 t) (nat_le t setup.threads) h in (le_of 1 t both.0, le_of t setup.threads both.1)
  where
    le_of : (m k : ℕ) → nat_le m k ≡ true → m ≤ k
    le_of m k h = grind (arith, nat_tests, h)

all_ended : (setup : Setup) (past : Past) (t : ℕ) → have_all_ended setup past ≡ true → is_thread setup t ≡ true → has_ended past t ≡ true
all_ended setup past t h is = let r = least_thread setup t is in not_false (has_ended past t) (none_passes (λ t. not (has_ended past t)) setup.threads t h r.0 r.1)

module _ (setup : Setup) (past : Past) (n : Standing setup past) (done : have_all_ended setup past ≡ true) where
  empty_stack : (t : ℕ) → is_thread setup t ≡ true → stack past t ≡ []
  empty_stack t h = n.ended t (all_ended setup past t done h)

  no_window : (x : SentMsg) → is_thread setup x.to ≡ true → HasWindow past x → ⊥
  no_window x to w =
      let runs = all_found (λ y. is_running setup past y.thread ≡ true) (λ y. eqb y.number x.hwnd) (live past) w.of n.windows w.found in
      let lives = not_true (has_ended past w.of.thread) (and_both (is_thread setup w.of.thread) (not (has_ended past w.of.thread)) runs).1 in
      false≢true (sym lives ∙ subst (λ m. has_ended past m ≡ true) (sym w.is_thread) (all_ended setup past x.to done to))

  all_answered : (x : SentMsg) → send past x.number ≡ Some x → is_answered past x.number ≡ true
  all_answered x found = by (is_answered past x.number) refl (is_entered past x.number) refl
    where
      k : SendStands setup past x.number x
      k = n.sent x.number x found

      by : (b : Bool) → is_answered past x.number ≡ b → (c : Bool) → is_entered past x.number ≡ c → is_answered past x.number ≡ true
      by true un c en = un
      by false un true en = absurd (false≢true (ap (list_any (runs_for x.number)) (sym (empty_stack x.to k.to_thread)) ∙ k.running en un))
      by false un false en = absurd (no_window x k.to_thread (k.in_window en un))

  owed_false : (a b c d : Bool) → c ≡ true → (a && (b && (not c && d))) ≡ false
  owed_false true true true d h = refl
  owed_false true false c d h = refl
  owed_false false b c d h = refl
  owed_false true true false d h = absurd (false≢true h)

  all_finished : (x : SentMsg) → send past x.number ≡ Some x → is_unfinished past x ≡ false
  all_finished x found =
      or_neither (not (is_answered past x.number)) (is_stacked past x || is_owed past x) (ap not (all_answered x found))
      (or_neither (is_stacked past x) (is_owed past x)
      (or_neither (list_any (λ f. names_send f x.number) (stack past x.from)) (list_any (λ f. names_send f x.number) (stack past x.to)) (ap (list_any (λ f. names_send f x.number)) (empty_stack x.from k.from_thread)) (ap (list_any (λ f. names_send f x.number)) (empty_stack x.to k.to_thread)))
      (owed_false _ _ (has_ended past x.from) _ (all_ended setup past x.from done k.from_thread)))
    where
      k : SendStands setup past x.number x
      k = n.sent x.number x found

none_kept : {A : Type 0} (p : A → Bool) (xs : List A) → AllByRecursion (λ x. p x ≡ false) xs → filter p xs ≡ []
none_kept p [] h = refl
none_kept p (x ∷ xs) h = ap (λ b. cond b (x ∷ filter p xs) (filter p xs)) h.0 ∙ none_kept p xs h.1

-- an answer has one cause
one_cause : (o : Option Outcome) → is_some o ≡ true → cond (has_cause Proc o) 1 0 + cond (has_cause ByReply o) 1 0 + cond (has_cause Loss o) 1 0 + cond (has_cause ByTimeout o) 1 0 ≡ 1
one_cause None h = absurd (false≢true h)
one_cause (Some o) h = by o.cause
  where
    by : (c : Cause) → cond (same_cause c Proc) 1 0 + cond (same_cause c ByReply) 1 0 + cond (same_cause c Loss) 1 0 + cond (same_cause c ByTimeout) 1 0 ≡ 1
    by Proc = refl
    by ByReply = refl
    by Loss = refl
    by ByTimeout = refl
    by ByHung = refl

count_first : (given : SentMsg → Option Outcome) (c : Cause) (x : SentMsg) (xs : List SentMsg) → count_by (λ x. has_cause c (given x)) (x ∷ xs) ≡ cond (has_cause c (given x)) 1 0 + count_by (λ x. has_cause c (given x)) xs
count_first given c x xs = sum_by-cons (λ x. cond (has_cause c (given x)) 1 0) x xs

count_causes : (given : SentMsg → Option Outcome) (xs : List SentMsg) → AllByRecursion (λ x. is_some (given x) ≡ true) xs → length xs ≡ count_by (λ x. has_cause Proc (given x)) xs + count_by (λ x. has_cause ByReply (given x)) xs + count_by (λ x. has_cause Loss (given x)) xs + count_by (λ x. has_cause ByTimeout (given x)) xs
count_causes given [] h = refl
count_causes given (x ∷ xs) h = omega (arith, one_cause (given x) h.0, count_causes given xs h.1, count_first given Proc x xs, count_first given ByReply x xs, count_first given Loss x xs, count_first given ByTimeout x xs)

-- where all threads have ended, each send was answered by one cause, and none is unfinished
pub sum_law : (setup : Setup) (past : Past) → IsLawful setup past → have_all_ended setup past ≡ true → IsSettled past (send_count past)
sum_law setup past h done =
    let n = lawful_standing setup past h in
    record {
      all_answered = count_causes (λ x. answer past x.number) (sends past) (all_weaker (λ (x : SentMsg). send past x.number ≡ Some x) (λ x. is_answered past x.number ≡ true) (all_answered setup past n done) (sends past) (sends_found setup past n));
      none_unfinished = ap length (none_kept (is_unfinished past) (sends past) (all_weaker (λ (x : SentMsg). send past x.number ≡ Some x) (λ x. is_unfinished past x ≡ false) (all_finished setup past n done) (sends past) (sends_found setup past n)));
    }
