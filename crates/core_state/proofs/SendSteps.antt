-- The sends that an entry leaves stand for the past with the entry.
use Rattle.std.proofs.Common.{◌≡◌, ℕ, ◌<◌, ◌≤◌, Bool, true, false, cond, eqb, List, ◌∷◌, map, Option, Some, None, refl, ap, ◌∙◌, sym, subst, inl, inr, arith}
use Rattle.std.specs.Prelude.{is_some, option_map, nat_le, length}
use Rattle.std.specs.FinMap as finite
use Rattle.std.proofs.lemmas.Bool.{false≢true, eqb-true, eq-eqb}
use Rattle.std.proofs.lemmas.Bool.Decides.{nat_tests}
use Rattle.win_num.specs.declared.message.Thread.{Thread}
use Rattle.win_num.specs.declared.send.SendId.{SendId}
use Rattle.win_num.specs.declared.send.Cause.{Cause}
use Rattle.win_num.specs.declared.send.Kind.{Kind}
use Rattle.win_num.specs.declared.send.Kind.TheVariants.{Wait as WaitKind, Timeout as WithTimeout, Notify, Callback as WithCallback}
use Rattle.win_num.specs.declared.send.Frame.TheVariants.{Await as AwaitFrame}
use Rattle.win_rows.specs.declared.window.Window.{Window as KeptWindow}
use Rattle.user_model.specs.declared.call.Call.{Call}
use Rattle.user_model.specs.declared.call.Call.TheVariants as calls
use Rattle.user_model.specs.declared.entry.Answer.{Answer}
use Rattle.user_model.specs.declared.entry.Answer.TheVariants as answers
use Rattle.user_model.specs.declared.entry.Entry.{Entry}
use Rattle.user_model.specs.declared.entry.Setup.{Setup}
use Rattle.user_model.specs.Past.{Past, is_refusal, place_after}
use Rattle.user_model.specs.Places.{clock}
use Rattle.user_model.specs.Windows.{live}
use Rattle.user_model.specs.Stacks.{top}
use Rattle.user_model.specs.Sends.{Outcome, answer, is_answered, is_one, unfinished}
use Rattle.user_model.specs.Replies.{is_barred_by}
use Rattle.user_model.specs.Idle.{reply}
use Rattle.user_model.specs.Legal.{IsLawful}
use Rattle.user_model.proofs.SendReplies.{entry_told}
use Rattle.user_model.specs.Deeds.{SendParts as CallParts, is_serving, parts, parts_of}
use Rattle.user_model.proofs.AnswerFacts.{IsDone, IsInside, IsLeft, IsMade}
use Rattle.user_model.proofs.WindowReplies.{drop_okay}
use Rattle.send_frames.specs.declared.row.SendRow.{SendRow}
use Rattle.send_state.specs.Parts.{SendParts, ended, finished, lost, served, timed_out}
use Rattle.send_state.specs.Standing.{PartsStand, as_told, row_of}
use Rattle.send_state.proofs.Still.{is_drop, is_still, replies}
use Rattle.send_state.proofs.StandStill.{is_called, stand-refused, stand-still}
use Rattle.send_state.proofs.Told.{told-called, told-called_back, told-entered}
use Rattle.send_state.proofs.ToldBegun.{made, told-begun, told-inside}
use Rattle.send_state.proofs.ToldDone.{told-done}
use Rattle.send_state.proofs.ToldOwn.{told-leave}
use Rattle.send_state.proofs.ToldReplied.{told-replied}
use Rattle.thread_queues.specs.Deliveries.{goes_with}
use Rattle.core_state.specs.Frames.{IsOnTop}
use Rattle.core_state.specs.Sendings.{begun_with, called_back, added_sends, is_answered_in, is_of, left_by_call, replied_by_call, replied_if, sending, affected_sends, waited}
use Rattle.window_state.specs.Trees.{as_made}
use Rattle.core_state.proofs.Deliveries.{thread_in-is}
use Rattle.core_state.proofs.Tops.{top_answer, top_kept}
use Rattle.core_state.proofs.Unfinished.{known_count, known_few}
use Rattle.core_state.proofs.Waits.{IsWaitFor, allowed_wait}

-- a row to this thread
abbrev row_at : ℕ → ℕ → Thread → ℕ → ℕ → ℕ → ℕ → Kind → SendRow
row_at to time who w m p q kind = record { from = who; to = record { 0 = to }; hwnd = record { 0 = w }; number = m; wparam = p; lparam = q; kind = kind; time = time }

-- the send that a call makes is kept as it was made
pub sending_is : (past : Past) (ws : List KeptWindow) (who : Thread) (n : ℕ) (b : Bool) (call : Call) (of : CallParts) → map as_made ws ≡ live past → parts_of call ≡ Some of → sending ws (clock past) who call ≡ Some (row_of (made past who.0 of n b))
sending_is past ws who n b (calls.Send w m p q) of at is =
    let same : parts w m p q WaitKind ≡ of = cc in
    ap (λ t. let r : Option SendRow = Some (row_at t (clock past) who w m p q WaitKind) in r) (thread_in-is past ws w at) ∙ ap (λ (o : CallParts). Some (row_of (made past who.0 o n b))) same
sending_is past ws who n b (calls.SendTimeout w m p q flags ms) of at is =
    let same : parts w m p q (WithTimeout flags ms) ≡ of = cc in
    ap (λ t. let r : Option SendRow = Some (row_at t (clock past) who w m p q (WithTimeout flags ms)) in r) (thread_in-is past ws w at) ∙ ap (λ (o : CallParts). Some (row_of (made past who.0 o n b))) same
sending_is past ws who n b (calls.SendNotify w m p q) of at is =
    let same : parts w m p q Notify ≡ of = cc in
    ap (λ t. let r : Option SendRow = Some (row_at t (clock past) who w m p q Notify) in r) (thread_in-is past ws w at) ∙ ap (λ (o : CallParts). Some (row_of (made past who.0 o n b))) same
sending_is past ws who n b (calls.SendCallback w m p q proc_no extra) of at is =
    let same : parts w m p q (WithCallback proc_no extra) ≡ of = cc in
    ap (λ t. let r : Option SendRow = Some (row_at t (clock past) who w m p q (WithCallback proc_no extra)) in r) (thread_in-is past ws w at) ∙ ap (λ (o : CallParts). Some (row_of (made past who.0 o n b))) same
sending_is past ws who n b _ of at is = absurd cc

-- the wait of an await is on top
pub wait_top : (past : Past) (t s : ℕ) → IsWaitFor past t s → IsOnTop past t s
wait_top past t s w = record { frame = AwaitFrame w.frame; is_top = w.is_top; names = eq-eqb w.frame.0 s w.is_send }

told_some : (o : Option Outcome) → is_some (option_map as_told o) ≡ is_some o
told_some None = refl
told_some (Some o) = refl

-- a call that serves leaves no procedure
served_by : (place who : ℕ) (call : Call) (p : SendParts) → is_serving call ≡ true → called_back place who call p ≡ served p who
served_by place who (calls.Leave v) p h = absurd (false≢true h)
served_by place who _ p h = refl

module _ (setup : Setup) (past : Past) (e : Entry) (p : SendParts) (ws : List KeptWindow) (lawful : IsLawful setup (e ∷ past)) (h : PartsStand setup past p) (at : map as_made ws ≡ live past)
    (dropped : (w : ℕ) → e.call ≡ calls.Drop w → e.answer ≡ answers.Okay → PartsStand setup (e ∷ past) (lost (goes_with ws w) p (place_after past)))
    (over : e.answer ≡ answers.Ended → PartsStand setup (e ∷ past) (ended (lost (is_of ws e.who.0) p (place_after past)) e.who.0)) where
  abbrev Later : SendParts → Type 0
  Later q = PartsStand setup (e ∷ past) q

  abbrev Follows : Answer → Call → Type 0
  Follows a call = Later (affected_sends ws (place_after past) e.who.0 a call (added_sends ws (clock past) (place_after past) e.who a call p))

  few : finite.len p.book.known ≤ 1024
  few = known_few setup past p lawful.0 h

  right : (a : Answer) → e.answer ≡ a → reply setup past e.who.0 e.call ≡ a
  right a is = sym lawful.1 ∙ is

  -- an entry that says nothing of sends
  still : (a : Answer) → e.answer ≡ a → is_still a ≡ true → is_called a ≡ false → is_drop e.call ≡ false → replies e.call a ≡ false → Later p
  still a is quiet uncalled kept unreplied =
      stand-still setup past e p (record { answer = ap is_still is ∙ quiet; keeps_windows = kept; answers_none = ap (replies e.call) is ∙ unreplied }) (ap is_called is ∙ uncalled) h

  -- a drop that isn't refused answers okay
  undropped : (a : Answer) → e.answer ≡ a → is_refusal a ≡ false → (a ≡ answers.Okay → ⊥) → is_drop e.call ≡ false
  undropped a is fine other = by e.call refl
    where
      by : (call : Call) → e.call ≡ call → is_drop call ≡ false
      by (calls.Drop w) k = absurd (other (drop_okay setup past e.who.0 w a (ap (reply setup past e.who.0) (sym k) ∙ right a is) fine))
      by _ k = refl

  unreplied : (call : Call) (a : Answer) → is_one a ≡ false → replies call a ≡ false
  unreplied (calls.Reply v) a none = none
  unreplied _ a none = refl

  plain : (a : Answer) → e.answer ≡ a → is_still a ≡ true → is_called a ≡ false → is_refusal a ≡ false → is_one a ≡ false → (a ≡ answers.Okay → ⊥) → Later p
  plain a is quiet uncalled fine none other = still a is quiet uncalled (undropped a is fine other) (unreplied e.call a none)

  okay : (call : Call) → e.call ≡ call → e.answer ≡ answers.Okay → Follows answers.Okay call
  okay (calls.Drop w) k is = dropped w k is
  okay call k is = still answers.Okay is refl refl (ap is_drop k) (ap (λ c. replies c answers.Okay) k)

  value : (v : ℕ) → e.answer ≡ answers.Value v → Follows (answers.Value v) e.call
  value v is = by (eqb v 1) refl
    where
      first : (call : Call) → e.call ≡ call → eqb v 1 ≡ true → Later (replied_by_call (place_after past) e.who.0 call p)
      first (calls.Reply r) k one = told-replied setup past e p r lawful h few k (is ∙ ap answers.Value (eqb-true v 1 one))
      first call k one = still (answers.Value v) is refl refl (undropped (answers.Value v) is refl (λ clash. cc)) (ap (λ c. replies c (answers.Value v)) k)

      by : (b : Bool) → eqb v 1 ≡ b → Later (replied_if b (place_after past) e.who.0 e.call p)
      by true one = first e.call refl one
      by false none = plain (answers.Value v) is refl refl refl none (λ clash. cc)

  done : (v : ℕ) (c : Cause) → e.answer ≡ answers.Done v c → Follows (answers.Done v c) e.call
  done v c is =
      let told = entry_told setup past e.who.0 e.call (answers.Done v c) (right (answers.Done v c) is) refl in
      let d : IsDone past e.who.0 e.call v c = told.1 in
      let wait = allowed_wait past e.who.0 d.s (top past e.who.0) refl (ap (λ k. is_barred_by k (top past e.who.0)) (sym d.is_call) ∙ told.0.allowed) in
      let kept = top_kept setup past e.who.0 d.s lawful.0 (wait_top past e.who.0 d.s wait) in
      let same : is_answered_in p d.s ≡ is_answered past d.s = ap (λ (o : Option (ℕ × Cause)). is_some o) (top_answer setup past p d.s kept h) ∙ told_some (answer past d.s) in
      subst (λ k. Later (waited e.who.0 k p)) (sym d.is_call)
      (subst (λ b. Later (cond b (finished p e.who.0) (timed_out p e.who.0 d.s))) (sym same) (told-done setup past e p d.s v c lawful h d.is_call is))

  leave : (s : SendId) → e.answer ≡ answers.Left s → Follows (answers.Left s) e.call
  leave s is =
      let l : IsLeft past e.who.0 e.call s.0 = (entry_told setup past e.who.0 e.call (answers.Left s) (right (answers.Left s) is) refl).1 in
      subst (λ k. Later (left_by_call (place_after past) e.who.0 k p)) (sym l.is_call) (told-leave setup past e p l.result lawful h few l.is_call (ap is_refusal is))

  fewer : nat_le 1024 (length (unfinished past)) ≡ false → finite.len p.book.known < 1024
  fewer f = let same = known_count setup past p lawful.0 h in grind (arith, nat_tests, f, same)

  begin : (s : SendId) → e.answer ≡ answers.Begun s → Follows (answers.Begun s) e.call
  begin s is =
      let m : IsMade past e.who.0 e.call s.0 false = (entry_told setup past e.who.0 e.call (answers.Begun s) (right (answers.Begun s) is) refl).1 in
      subst (λ o. Later (begun_with (place_after past) o p)) (sym (sending_is past ws e.who s.0 false e.call m.of at m.is_call)) (told-begun setup past e p s lawful h (fewer m.few) m.of m.is_call is)

  inside : (s : SendId) (n : ℕ) → e.answer ≡ answers.Inside s n → Follows (answers.Inside s n) e.call
  inside s n is =
      let i : IsInside past e.who.0 e.call s.0 n = (entry_told setup past e.who.0 e.call (answers.Inside s n) (right (answers.Inside s n) is) refl).1 in
      subst (λ o. Later (begun_with (place_after past) o p)) (sym (sending_is past ws e.who s.0 true e.call i.made.of at i.made.is_call)) (told-inside setup past e p s lawful h (fewer i.made.few) i.made.of n i.made.is_call is)

  by_answer : (a : Answer) → e.answer ≡ a → Follows a e.call
  by_answer (answers.Refused code) is = stand-refused setup past e p code is h
  by_answer (answers.Enter s n w m q r) is = told-entered setup past e p lawful h s n w m q r is
  by_answer (answers.Callback s n w m extra v) is =
      elim (entry_told setup past e.who.0 e.call (answers.Callback s n w m extra v) (right (answers.Callback s n w m extra v) is) refl).1 [
        | inl k ↦ subst Later (sym (served_by (place_after past) e.who.0 e.call p k.serves)) (told-called_back setup past e p lawful h s n w m extra v k.serves is)
        | inr k ↦ subst (λ c. Later (called_back (place_after past) e.who.0 c p)) (sym k.is_call) (told-leave setup past e p v lawful h few k.is_call (ap is_refusal is))
      ]
  by_answer (answers.Called n) is = told-called setup past e p lawful h n is
  by_answer (answers.Left s) is = leave s is
  by_answer (answers.Value v) is = value v is
  by_answer (answers.Done v c) is = done v c is
  by_answer (answers.Begun s) is = begin s is
  by_answer (answers.Inside s n) is = inside s n is
  by_answer answers.Okay is = okay e.call refl is
  by_answer answers.Ended is = over is
  by_answer a is = plain a is refl refl refl refl (λ clash. cc)

  -- the sends that the entry leaves stand for the past with it
  pub sends_after : Follows e.answer e.call
  sends_after = by_answer e.answer refl
