-- The one walk over all calls: what the answer of a row says of its call.
use Rattle.std.proofs.Common.{◌≡◌, ℕ, suc, Bool, true, false, not, cond, eqb, List, [], ◌∷◌, length, Option, Some, None, refl, ap, ◌∙◌, sym, subst, inl, inr}
use Rattle.std.specs.Prelude.{◌&&◌, ◌||◌, unwrap_or, option_map, is_none, nat_lt, nat_le}
use Rattle.std.proofs.lemmas.Bool.{false≢true}
use Rattle.win_num.specs.declared.message.Filter.{Filter}
use Rattle.win_num.specs.declared.message.Hwnd.{Hwnd}
use Rattle.win_num.specs.declared.send.SendId.{SendId}
use Rattle.win_num.specs.declared.send.Cause.TheVariants.{Timeout as ByTimeout}
use Rattle.win_num.specs.declared.send.Kind.{Kind}
use Rattle.win_num.specs.declared.send.Kind.TheVariants.{Wait as WaitKind, Timeout as WithTimeout, Notify, Callback as WithCallback}
use Rattle.win_num.specs.declared.send.Frame.{Frame}
use Rattle.win_num.specs.declared.send.Frame.TheVariants.{Entered, Inside as InsideFrame, Called as CalledFrame, CallbackRun, Await as AwaitFrame}
use Rattle.win_num.specs.declared.code.Code.{Code}
use Rattle.win_num.specs.declared.code.Code.TheVariants.{Full, NoTarget}
use Rattle.win_num.specs.declared.names.TheConstants.{WM_CHAR, WM_KEYDOWN}
use Rattle.user_model.specs.declared.call.Call.{Call}
use Rattle.user_model.specs.declared.call.Call.TheVariants.{Peek, Get, Post, PostThread, PostQuit, Status, Dispatch, Send, SendTimeout, SendNotify, SendCallback, Await, Leave, Reply, InSend, Message, Translate, Register, Unregister, NewWindow, Doom, Unmake, Drop, Place, Show, Enable, Find, AwaitTitle, NextTop, ChildAfter, StyleOf, WindowAt, IsWindow, Parent, SetFocus, SetActive, SetCapture, ReleaseCapture, GetFocus, GetActive, GetCapture, Attach, Detach, Mouse, Key, KeyState, BeginDialog, DialogState, EndDialog, Invalidate, Validate, UpdateRect, BeginPaint, EndPaint, Fill, Erase, Snap, SetTimer, KillTimer, EndThread, Clock, SleepUntil, Yield, Tick, Advance}
use Rattle.user_model.specs.declared.dialog.Dialog.{Dialog}
use Rattle.user_model.specs.declared.dialog.Dialog.TheVariants as dialogs
use Rattle.user_model.specs.declared.entry.Answer.{Answer}
use Rattle.user_model.specs.declared.entry.Answer.TheVariants as answers
use Rattle.user_model.specs.declared.entry.Setup.{Setup}
use Rattle.user_model.specs.Setups.{post_limit}
use Rattle.user_model.specs.Past.{Past, or_else}
use Rattle.user_model.specs.Places.{clock}
use Rattle.user_model.specs.Deeds.{SendParts, parts, parts_of, retrieves, is_serving}
use Rattle.user_model.specs.Characters.{character, has_character}
use Rattle.user_model.specs.Keys.{is_shift_down}
use Rattle.user_model.specs.Inputs.{Element, Injection, of_mouse, of_key, injection, home_of, key_message}
use Rattle.user_model.specs.Targets.{to_take}
use Rattle.user_model.specs.Pixels.{point}
use Rattle.user_model.specs.Threads.{is_running}
use Rattle.user_model.specs.Windows.{Window, window, is_live, thread_of}
use Rattle.user_model.specs.ZOrder.{titled}
use Rattle.user_model.specs.Destruction.{Step, told, ended, is_marked, next_step}
use Rattle.user_model.specs.Classes.{proc_of}
use Rattle.user_model.specs.Dialogs.{dialog}
use Rattle.user_model.specs.Filters.{filter_of, is_no_filter_window}
use Rattle.user_model.specs.Posts.{PostedMsg, PostedQuit, posted, queue_of, first_post, quit}
use Rattle.user_model.specs.Stacks.{top, has_room, waits}
use Rattle.user_model.specs.Sends.{SentMsg, Outcome, send, answer, unfinished}
use Rattle.user_model.specs.Ready.{ReadyMsg, to_enter, to_call_back, ready_head}
use Rattle.user_model.specs.Next.{next, next_ready, next_posted, next_quit, next_input, next_paint, next_timer, run_for, got_posted, got_quit, got_input, got_paint, got_timer, is_empty}
use Rattle.user_model.specs.Painting.{to_paint}
use Rattle.user_model.specs.Timers.{WinTimer, due}
use Rattle.user_model.specs.Colours.{snapped}
use Rattle.user_model.specs.Refusals.{refuse, is_no_message, invalid_parameter, invalid_window_handle, access_denied, stack_overflow, not_enough_quota, invalid_thread_id}
use Rattle.user_model.specs.ReplyDelivery.{next_post_number, is_no_post_window, post_to}
use Rattle.user_model.specs.ReplyInput.{inject, is_no_key, is_no_mouse, has_no_place, next_input_number}
use Rattle.user_model.specs.ReplyWindows.{step_answer, unmake_step}
use Rattle.user_model.specs.ReplyDialogs.{standing_told, standing_reply}
use Rattle.user_model.specs.ReplyClock.{woken}
use Rattle.user_model.specs.ReplySends.{send_made, send_if_room, waiting_send, other_send, next_send_number, deadline, has_come, served, blocks, left_inside, leave_from, reply_in, in_send_at}
use Rattle.user_model.specs.Replies.{row}
use Rattle.user_model.proofs.ReplyLaws.{not_false}
use Rattle.user_model.proofs.AnswerFacts.{LeftFrom, NoneComes, is_not_now, Says, Said}

-- ---- answers that say nothing of their call

abbrev is_plain : Answer → Bool
is_plain answers.Okay = true
is_plain (answers.Value v) = true
is_plain (answers.Window w) = true
is_plain (answers.Was w) = true
is_plain answers.Gone = true
is_plain answers.Running = true
is_plain (answers.Finished v) = true
is_plain (answers.Update kind l t r b) = true
is_plain (answers.Painting erase l t r b) = true
is_plain (answers.Refused code) = not (is_not_now code)
is_plain _ = false

record IsPlain (a : Answer) : Type 0 where
  so : is_plain a ≡ true

plain : (a : Answer) → is_plain a ≡ true → IsPlain a
plain a h = record { so = h }

plain_behind : (b : Bool) (code : Code) (x : Answer) → is_not_now code ≡ false → IsPlain x → IsPlain (refuse b code x)
plain_behind true code x h k = record { so = ap not h }
plain_behind false code x h k = k

plain_reply : (past : Past) (o : Option Frame) → IsPlain (reply_in past o)
plain_reply past (Some (Entered s)) = record { so = refl }
plain_reply past _ = record { so = refl }

plain_in_send : (past : Past) (o : Option Frame) → IsPlain (in_send_at past o)
plain_in_send past (Some (Entered s)) = record { so = refl }
plain_in_send past _ = record { so = refl }

plain_parent : (o : Option Window) → IsPlain (elim o as (λ _. Answer) [ None ↦ refuse true invalid_window_handle answers.Okay | Some x ↦ answers.Window (record { 0 = cond (eqb x.parent 0) x.owner x.parent }) ])
plain_parent None = record { so = refl }
plain_parent (Some x) = record { so = refl }

plain_standing : (o : Option Dialog) → IsPlain (standing_told o)
plain_standing None = record { so = refl }
plain_standing (Some dialogs.Running) = record { so = refl }
plain_standing (Some (dialogs.Finished v)) = record { so = refl }

plain_dialog_state : (past : Past) (who w : ℕ) (o : Option Window) → IsPlain (elim o as (λ _. Answer) [ None ↦ answers.Gone | Some x ↦ standing_reply past who w x ])
plain_dialog_state past who w None = record { so = refl }
plain_dialog_state past who w (Some x) = plain_behind (is_none (dialog past w)) invalid_parameter _ refl (plain_behind (not (eqb x.thread who)) access_denied _ refl (plain_standing (dialog past w)))

properly : (b : Bool) → not b ≡ true → b ≡ false
properly true h = absurd (false≢true h)
properly false h = refl

own_room : (own room : Bool) → (own && not room) ≡ false → (own || false) ≡ true → room ≡ true
own_room true true h g = refl
own_room true false h g = absurd (false≢true (sym h))
own_room false room h g = absurd (false≢true g)

empty_is : {A : Type 0} (xs : List A) → is_empty xs ≡ true → xs ≡ []
empty_is [] e = refl
empty_is (x ∷ xs) e = absurd (false≢true e)

-- what comes where no quit does, and what comes where no input does either
abbrev from_paint : Setup → Past → ℕ → Filter → Option Answer
from_paint setup past who f = or_else (next_paint setup past who f) (next_timer past who f)

abbrev from_input : Setup → Past → ℕ → Filter → Option Answer
from_input setup past who f = or_else (next_input setup past who f) (from_paint setup past who f)

-- what is known of a call that sends
record Sending (past : Past) (who : ℕ) (call : Call) (of : SendParts) : Type 0 where
  is_call : parts_of call ≡ Some of
  lives : is_live past of.hwnd ≡ true
  room : (eqb (thread_of past of.hwnd) who || waits call) ≡ true → has_room past who ≡ true

-- ---- one call

module _ (setup : Setup) (past : Past) (who : ℕ) (call : Call) where
  plainly : (a : Answer) → IsPlain a → Said setup past who call a
  plainly a h = record { says = by a h.so }
    where
      by : (a : Answer) → is_plain a ≡ true → Says setup past who call a
      by answers.Okay h = tt
      by (answers.Value v) h = tt
      by (answers.Window w) h = tt
      by (answers.Was w) h = tt
      by answers.Gone h = tt
      by answers.Running h = tt
      by (answers.Finished v) h = tt
      by (answers.Update kind l t r b) h = tt
      by (answers.Painting erase l t r b) h = tt
      by (answers.Refused code) h = inl (properly (is_not_now code) h)
      by _ h = absurd (false≢true h)

  behind : (b : Bool) (code : Code) (x : Answer) → is_not_now code ≡ false → (b ≡ false → Said setup past who call x) → Said setup past who call (refuse b code x)
  behind true code x proper h = record { says = inl proper }
  behind false code x proper h = h refl

  either : (b : Bool) (x y : Answer) → (b ≡ true → Said setup past who call x) → (b ≡ false → Said setup past who call y) → Said setup past who call (cond b x y)
  either true x y h k = h refl
  either false x y h k = k refl

  -- ---- what is ready

  ready_said : is_serving call ≡ true → (a : Answer) → next_ready past who ≡ Some a → Said setup past who call a
  ready_said s a e = by (has_room past who) (ready_head past who) refl refl e
    where
      by : (b : Bool) (r : Option ReadyMsg) → has_room past who ≡ b → ready_head past who ≡ r → cond b (option_map (run_for past) r) None ≡ Some a → Said setup past who call a
      by true (Some (to_enter x)) room is e =
          let same : run_for past (to_enter x) ≡ a = cc in
          subst (λ a. Said setup past who call a) same (record { says = record { of = x; serves = s; room = room; is_first = is; is_send = refl; is_proc = refl; is_window = refl; is_message = refl; is_wparam = refl; is_lparam = refl } })
      by true (Some (to_call_back x proc_no extra place)) room is e =
          let same : run_for past (to_call_back x proc_no extra place) ≡ a = cc in
          subst (λ a. Said setup past who call a) same (record { says = inl record { of = x; place = place; serves = s; room = room; is_first = is; is_send = refl; is_window = refl; is_message = refl; is_result = refl } })
      by true None room is e = absurd cc
      by false r room is e = absurd cc

  ready_or : is_serving call ≡ true → (o : Option Answer) (d : Answer) → next_ready past who ≡ o → Said setup past who call d → Said setup past who call (unwrap_or o d)
  ready_or s None d h k = k
  ready_or s (Some a) d h k = ready_said s a h

  -- ---- a retrieval with the filter f, which answers d where nothing comes

  module _ (f : Filter) (is : retrieves call ≡ Some f) (serves : is_serving call ≡ true) (d : Answer) (nothing : NoneComes setup past who call → Said setup past who call d) where
    none_comes : next_ready past who ≡ None → next_posted past who f ≡ None → next_quit past who ≡ None → next_input setup past who f ≡ None → next_paint setup past who f ≡ None → next_timer past who f ≡ None → Said setup past who call d
    none_comes h k l i m n = nothing (λ g same. subst (λ x. next setup past who x ≡ None) (by g same) (ap (λ o. or_else o (or_else (next_posted past who f) (or_else (next_quit past who) (from_input setup past who f)))) h ∙ ap (λ o. or_else o (or_else (next_quit past who) (from_input setup past who f))) k ∙ ap (λ o. or_else o (from_input setup past who f)) l ∙ ap (λ o. or_else o (from_paint setup past who f)) i ∙ ap (λ o. or_else o (next_timer past who f)) m ∙ n))
      where
        by : (g : Filter) → retrieves call ≡ Some g → f ≡ g
        by g h = let e : Some f ≡ Some g = sym is ∙ h in cc

    timer_said : next_ready past who ≡ None → first_post past who f ≡ None → next_quit past who ≡ None → to_take setup past who f ≡ None → to_paint setup past who f ≡ None → (o : Option WinTimer) → due past who f ≡ o → Said setup past who call (unwrap_or (option_map (got_timer past) o) d)
    timer_said h k l i m (Some x) first = record { says = record { pass = f; is_call = is; is_unready = h; is_none = k; no_quit = l; no_input = i; no_paint = m; of = x; is_first = first; is_zero = refl; is_message = refl } }
    timer_said h k l i m None first = none_comes h (ap (option_map got_posted) k) l (ap (option_map (got_input setup past)) i) (ap (option_map (got_paint past)) m) (ap (option_map (got_timer past)) first)

    paint_said : next_ready past who ≡ None → first_post past who f ≡ None → next_quit past who ≡ None → to_take setup past who f ≡ None → (o : Option Hwnd) → to_paint setup past who f ≡ o → Said setup past who call (unwrap_or (or_else (option_map (got_paint past) o) (next_timer past who f)) d)
    paint_said h k l i (Some w) first = record { says = record { pass = f; is_call = is; is_unready = h; is_none = k; no_quit = l; no_input = i; of = w; is_first = first; is_zero = refl; is_message = refl } }
    paint_said h k l i None first = timer_said h k l i first (due past who f) refl

    input_said : next_ready past who ≡ None → first_post past who f ≡ None → next_quit past who ≡ None → (o : Option Element) → to_take setup past who f ≡ o → Said setup past who call (unwrap_or (or_else (option_map (got_input setup past) o) (from_paint setup past who f)) d)
    input_said h k l (Some x) first = record { says = record { pass = f; is_call = is; is_unready = h; is_none = k; no_quit = l; of = x; is_first = first; is_number = refl; is_message = refl } }
    input_said h k l None first = paint_said h k l first (to_paint setup past who f) refl

    quit_said : next_ready past who ≡ None → first_post past who f ≡ None → (b : Bool) (q : Option PostedQuit) → is_empty (posted past who) ≡ b → quit past who ≡ q → Said setup past who call (unwrap_or (or_else (cond b (option_map (got_quit past) q) None) (from_input setup past who f)) d)
    quit_said h k true (Some x) empty stands = record { says = record { pass = f; is_call = is; is_unready = h; of = x; is_none = k; is_last = empty_is (posted past who) empty; stands = stands; is_zero = refl; is_message = refl } }
    quit_said h k true None empty stands = input_said h k (ap (λ b. cond b (option_map (got_quit past) (quit past who)) None) empty ∙ ap (option_map (got_quit past)) stands) (to_take setup past who f) refl
    quit_said h k false q empty stands = input_said h k (ap (λ b. cond b (option_map (got_quit past) (quit past who)) None) empty) (to_take setup past who f) refl

    post_said : next_ready past who ≡ None → (o : Option PostedMsg) → first_post past who f ≡ o → Said setup past who call (unwrap_or (or_else (option_map got_posted o) (or_else (next_quit past who) (from_input setup past who f))) d)
    post_said h (Some x) k = record { says = record { pass = f; is_call = is; is_unready = h; of = x; is_first = k; is_number = refl; is_message = refl } }
    post_said h None k = quit_said h k (is_empty (posted past who)) (quit past who) refl refl

    next_said : (o : Option Answer) → next_ready past who ≡ o → Said setup past who call (unwrap_or (or_else o (or_else (next_posted past who f) (or_else (next_quit past who) (from_input setup past who f)))) d)
    next_said None h = post_said h (first_post past who f) refl
    next_said (Some a) h = ready_said serves a h

    retrieved : Said setup past who call (unwrap_or (next setup past who f) d)
    retrieved = next_said (next_ready past who) refl

  -- ---- a send

  made_said : (of : SendParts) (inside : Bool) → Sending past who call of → eqb (thread_of past of.hwnd) who ≡ inside → nat_le 1024 (length (unfinished past)) ≡ false → Said setup past who call (cond inside (answers.Inside (record { 0 = next_send_number past }) (proc_of past of.hwnd)) (answers.Begun (record { 0 = next_send_number past })))
  made_said of true h own few = record { says = record { made = record { of = of; is_call = h.is_call; is_next = refl; lives = h.lives; is_own = own; room = λ g. h.room (ap (λ b. b || waits call) own ∙ g); few = few }; is_proc = refl } }
  made_said of false h own few = record { says = record { of = of; is_call = h.is_call; is_next = refl; lives = h.lives; is_own = own; room = λ g. h.room (ap (λ b. b || waits call) own ∙ g); few = few } }

  if_room_said : (of : SendParts) → Sending past who call of → Said setup past who call (send_if_room past who of.hwnd)
  if_room_said of h = behind (nat_le 1024 (length (unfinished past))) Full (send_made past who of.hwnd) refl (λ few. made_said of (eqb (thread_of past of.hwnd) who) h refl few)

  waiting_said : (of : SendParts) → parts_of call ≡ Some of → Said setup past who call (waiting_send past who of.hwnd)
  waiting_said of is =
      behind (not (is_live past of.hwnd)) invalid_window_handle (refuse (not (has_room past who)) stack_overflow (send_if_room past who of.hwnd)) refl (λ lives.
      behind (not (has_room past who)) stack_overflow (send_if_room past who of.hwnd) refl (λ room.
      if_room_said of record { is_call = is; lives = not_false (is_live past of.hwnd) lives; room = λ g. not_false (has_room past who) room }))

  going_said : (of : SendParts) → parts_of call ≡ Some of → waits call ≡ false → Said setup past who call (other_send past who of.hwnd)
  going_said of is goes =
      behind (not (is_live past of.hwnd)) invalid_window_handle (refuse (eqb (thread_of past of.hwnd) who && not (has_room past who)) stack_overflow (send_if_room past who of.hwnd)) refl (λ lives.
      behind (eqb (thread_of past of.hwnd) who && not (has_room past who)) stack_overflow (send_if_room past who of.hwnd) refl (λ room.
      if_room_said of record { is_call = is; lives = not_false (is_live past of.hwnd) lives; room = λ g. own_room (eqb (thread_of past of.hwnd) who) (has_room past who) room (ap (λ b. eqb (thread_of past of.hwnd) who || b) (sym goes) ∙ g) }))

  -- ---- a call that waits and retrieves nothing

  waits_said : retrieves call ≡ None → Said setup past who call answers.Wait
  waits_said h = record { says = λ pass is. let e : None ≡ Some pass = sym h ∙ is in absurd cc }

  woken_said : retrieves call ≡ None → (b : Bool) → Said setup past who call (woken b)
  woken_said h true = record { says = tt }
  woken_said h false = waits_said h

-- ---- the calls whose answer has more than one way

module _ (setup : Setup) (past : Past) (who : ℕ) where
  awaited : (s : ℕ) (o : Option Outcome) → answer past s ≡ o → Said setup past who (Await s) (elim o as (λ _. Answer) [ Some o ↦ answers.Done o.result o.cause | None ↦ cond (has_come (deadline past s) (clock past)) (answers.Done 0 ByTimeout) (served past who s) ])
  awaited s (Some o) h = record { says = record { s = s; is_call = refl; how = inl (o, h, refl, refl) } }
  awaited s None h =
      either setup past who (Await s) (has_come (deadline past s) (clock past)) (answers.Done 0 ByTimeout) (served past who s)
      (λ late. record { says = record { s = s; is_call = refl; how = inr (h, late, refl, refl) } })
      (λ soon. either setup past who (Await s) (blocks past s) answers.Wait (unwrap_or (next_ready past who) answers.Wait) (λ b. waits_said setup past who (Await s) refl) (λ b. ready_or setup past who (Await s) refl (next_ready past who) answers.Wait refl (waits_said setup past who (Await s) refl)))

  inside_left : (v : ℕ) (t : SendId) (x : SentMsg) (k : Kind) → top past who ≡ Some (InsideFrame t) → send past t.0 ≡ Some x → x.kind ≡ k → LeftFrom past (top past who) x.number → Said setup past who (Leave v) (left_inside x k v)
  inside_left v t x WaitKind top found is from = record { says = record { result = v; is_call = refl; from = from } }
  inside_left v t x (WithTimeout flags ms) top found is from = record { says = record { result = v; is_call = refl; from = from } }
  inside_left v t x Notify top found is from = record { says = record { result = v; is_call = refl; from = from } }
  inside_left v t x (WithCallback proc_no extra) top found is from = record { says = inr record { of = x; frame = t; is_call = refl; is_top = top; found = found; is_send = refl; is_kind = is; is_window = refl; is_message = refl } }

  -- the frame on top as a fact of its own
  from_top : (o q : Option Frame) (s : ℕ) → o ≡ q → LeftFrom past q s → LeftFrom past o s
  from_top o q s e h = rw e h

  own_left : (v : ℕ) (t : SendId) (o : Option SentMsg) → top past who ≡ Some (InsideFrame t) → send past t.0 ≡ o → Said setup past who (Leave v) (elim o as (λ _. Answer) [ Some x ↦ left_inside x x.kind v | None ↦ answers.Left t ])
  own_left v t None is found = record { says = record { result = v; is_call = refl; from = from_top (top past who) (Some (InsideFrame t)) t.0 is (inl refl) } }
  own_left v t (Some x) is found = inside_left v t x x.kind is found refl (from_top (top past who) (Some (InsideFrame t)) x.number is (inr (x, found, refl)))

  left : (v : ℕ) (o : Option Frame) → top past who ≡ o → Said setup past who (Leave v) (leave_from past o v)
  left v (Some (InsideFrame t)) h = own_left v t (send past t.0) h refl
  left v (Some (Entered t)) h = record { says = record { result = v; is_call = refl; from = from_top (top past who) (Some (Entered t)) t.0 h refl } }
  left v (Some CalledFrame) h = record { says = record { result = v; is_call = refl; from = from_top (top past who) (Some CalledFrame) 0 h refl } }
  left v (Some CallbackRun) h = record { says = record { result = v; is_call = refl; from = from_top (top past who) (Some CallbackRun) 0 h refl } }
  left v (Some (AwaitFrame t)) h = record { says = record { result = v; is_call = refl; from = from_top (top past who) (Some (AwaitFrame t)) 0 h refl } }
  left v None h = record { says = record { result = v; is_call = refl; from = from_top (top past who) None 0 h refl } }

  step_said : (w : ℕ) (o : Option Step) → Said setup past who (Unmake w) (step_answer w o)
  step_said w None = record { says = (w, refl) }
  step_said w (Some (told v)) = record { says = (w, refl) }
  step_said w (Some (ended v)) = record { says = (w, refl) }

  title_awaited : (title : ℕ) (o : Option Hwnd) → Said setup past who (AwaitTitle title) (elim o as (λ _. Answer) [ None ↦ answers.Wait | Some w ↦ answers.Window w ])
  title_awaited title None = waits_said setup past who (AwaitTitle title) refl
  title_awaited title (Some w) = record { says = tt }

  unmade : (w : ℕ) (o : Option Window) → Said setup past who (Unmake w) (elim o as (λ _. Answer) [ None ↦ answers.Gone | Some x ↦ unmake_step past who w x ])
  unmade w None = record { says = tt }
  unmade w (Some x) =
      behind setup past who (Unmake w) (not (is_marked past w)) invalid_parameter _ refl (λ marked.
      behind setup past who (Unmake w) (not (eqb x.thread who)) access_denied (step_answer w (next_step past x)) refl (λ own. step_said w (next_step past x)))

  posted_said : (w m p q : ℕ) → Said setup past who (Post w m p q) (row setup past who (Post w m p q))
  posted_said w m p q =
      let call = Post w m p q in
      behind setup past who call (is_no_message m) invalid_parameter _ refl (λ fits.
      behind setup past who call (is_no_post_window past w) invalid_window_handle _ refl (λ window.
      behind setup past who call (nat_le (post_limit setup (queue_of past who w)) (length (posted past (queue_of past who w)))) not_enough_quota (answers.Posted (next_post_number past)) refl (λ short.
      record { says = record { to = queue_of past who w; hwnd = w; number = m; wparam = p; lparam = q; is_call = inl (refl, refl, window); short = short; fits = fits; is_next = refl } })))

  posted_to_thread : (to m p q : ℕ) → Said setup past who (PostThread to m p q) (row setup past who (PostThread to m p q))
  posted_to_thread to m p q =
      let call = PostThread to m p q in
      behind setup past who call (is_no_message m) invalid_parameter _ refl (λ fits.
      behind setup past who call (not (is_running setup past to)) invalid_thread_id _ refl (λ runs.
      behind setup past who call (nat_le (post_limit setup to) (length (posted past to))) not_enough_quota (answers.Posted (next_post_number past)) refl (λ short.
      record { says = record { to = to; hwnd = 0; number = m; wparam = p; lparam = q; is_call = inr (refl, refl, not_false (is_running setup past to) runs); short = short; fits = fits; is_next = refl } })))

  translated : (w m key q : ℕ) → Said setup past who (Translate w m key q) (row setup past who (Translate w m key q))
  translated w m key q =
      let call = Translate w m key q in
      either setup past who call (eqb m WM_KEYDOWN && has_character key) (refuse (is_no_post_window past w) invalid_window_handle (post_to setup past (queue_of past who w))) (answers.Value 0)
      (λ typed. behind setup past who call (is_no_post_window past w) invalid_window_handle _ refl (λ window.
      behind setup past who call (nat_le (post_limit setup (queue_of past who w)) (length (posted past (queue_of past who w)))) not_enough_quota (answers.Posted (next_post_number past)) refl (λ short.
      record { says = record { to = queue_of past who w; hwnd = w; number = WM_CHAR; wparam = character (is_shift_down past who) key; lparam = q; is_call = inl (refl, refl, window); short = short; fits = refl; is_next = refl } })))
      (λ plain. record { says = tt })

  injected_said : (call : Call) (i : Injection) → injection call ≡ Some i → Said setup past who call (inject setup past i)
  injected_said call i is =
      behind setup past who call (eqb (home_of setup past i) 0) NoTarget _ refl (λ meant.
      behind setup past who call (has_no_place setup past i) Full (answers.Input (next_input_number past)) refl (λ room.
      record { says = record { of = i; is_call = is; is_meant = meant; room = room; is_next = refl } }))

  dispatched : (w m p q : ℕ) → Said setup past who (Dispatch w m p q) (row setup past who (Dispatch w m p q))
  dispatched w m p q =
      let call = Dispatch w m p q in
      behind setup past who call (is_no_message m) invalid_parameter _ refl (λ n.
      either setup past who call (eqb w 0) answers.Okay _ (λ z. record { says = tt }) (λ z.
      behind setup past who call (not (is_live past w)) invalid_window_handle _ refl (λ lives.
      behind setup past who call (not (eqb (thread_of past w) who)) access_denied _ refl (λ own.
      behind setup past who call (not (has_room past who)) stack_overflow (answers.Called (proc_of past w)) refl (λ room.
      record { says = record { w = w; message = m; wparam = p; lparam = q; is_call = refl; lives = not_false (is_live past w) lives; is_own = not_false (eqb (thread_of past w) who) own; room = not_false (has_room past who) room; is_proc = refl } })))))

-- ---- all calls

-- what the answer of each call says: one line for each call
pub row_said : (setup : Setup) (past : Past) (who : ℕ) (call : Call) → Said setup past who call (row setup past who call)
row_said setup past who (Peek w min max flags) = let call = Peek w min max flags in behind setup past who call (nat_lt 3 flags) invalid_parameter _ refl (λ a. behind setup past who call (is_no_filter_window past who w) invalid_window_handle _ refl (λ b. retrieved setup past who call (filter_of w min max) refl refl answers.Nothing (λ h. record { says = h })))
row_said setup past who (Get w min max) = let call = Get w min max in behind setup past who call (is_no_filter_window past who w) invalid_window_handle _ refl (λ b. retrieved setup past who call (filter_of w min max) refl refl answers.Wait (λ h. record { says = h }))
row_said setup past who (Post w m p q) = posted_said setup past who w m p q
row_said setup past who (PostThread to m p q) = posted_to_thread setup past who to m p q
row_said setup past who (PostQuit code) = record { says = tt }
row_said setup past who (Status flags) = plainly setup past who (Status flags) (row setup past who (Status flags)) (search (plain_behind, plain))
row_said setup past who (Dispatch w m p q) = dispatched setup past who w m p q
row_said setup past who (Send w m p q) = let call = Send w m p q in behind setup past who call _ invalid_parameter (waiting_send past who w) refl (λ n. waiting_said setup past who call (parts w m p q WaitKind) refl)
row_said setup past who (SendTimeout w m p q flags ms) = let call = SendTimeout w m p q flags ms in behind setup past who call _ invalid_parameter (waiting_send past who w) refl (λ n. waiting_said setup past who call (parts w m p q (WithTimeout flags ms)) refl)
row_said setup past who (SendNotify w m p q) = let call = SendNotify w m p q in behind setup past who call _ invalid_parameter (other_send past who w) refl (λ n. going_said setup past who call (parts w m p q Notify) refl refl)
row_said setup past who (SendCallback w m p q proc_no extra) = let call = SendCallback w m p q proc_no extra in behind setup past who call _ invalid_parameter (other_send past who w) refl (λ n. going_said setup past who call (parts w m p q (WithCallback proc_no extra)) refl refl)
row_said setup past who (Await s) = awaited setup past who s (answer past s) refl
row_said setup past who (Leave v) = left setup past who v (top past who) refl
row_said setup past who (Reply v) = plainly setup past who (Reply v) (row setup past who (Reply v)) (plain_reply past (top past who))
row_said setup past who InSend = plainly setup past who InSend (row setup past who InSend) (plain_in_send past (top past who))
row_said setup past who (Message name) = plainly setup past who (Message name) (row setup past who (Message name)) (search (plain_behind, plain))
row_said setup past who (Translate w m key q) = translated setup past who w m key q
row_said setup past who (Register name proc_no colour) = plainly setup past who (Register name proc_no colour) (row setup past who (Register name proc_no colour)) (search (plain_behind, plain))
row_said setup past who (Unregister name) = plainly setup past who (Unregister name) (row setup past who (Unregister name)) (search (plain_behind, plain))
row_said setup past who (NewWindow class title parent style ex l t r b) = plainly setup past who (NewWindow class title parent style ex l t r b) (row setup past who (NewWindow class title parent style ex l t r b)) (search (plain_behind, plain) depth 9)
row_said setup past who (Doom w) = plainly setup past who (Doom w) (row setup past who (Doom w)) (search (plain_behind, plain))
row_said setup past who (Unmake w) = unmade setup past who w (window past w)
row_said setup past who (Drop w) = plainly setup past who (Drop w) (row setup past who (Drop w)) (search (plain_behind, plain))
row_said setup past who (Place w after l t r b flags) = plainly setup past who (Place w after l t r b flags) (row setup past who (Place w after l t r b flags)) (search (plain_behind, plain))
row_said setup past who (Show w on) = plainly setup past who (Show w on) (row setup past who (Show w on)) (search (plain_behind, plain))
row_said setup past who (Enable w on) = plainly setup past who (Enable w on) (row setup past who (Enable w on)) (search (plain_behind, plain))
row_said setup past who (Find title) = record { says = tt }
row_said setup past who (AwaitTitle title) = title_awaited setup past who title (titled past title)
row_said setup past who (NextTop w) = record { says = tt }
row_said setup past who (ChildAfter w v) = plainly setup past who (ChildAfter w v) (row setup past who (ChildAfter w v)) (search (plain_behind, plain))
row_said setup past who (StyleOf w) = plainly setup past who (StyleOf w) (row setup past who (StyleOf w)) (search (plain_behind, plain))
row_said setup past who (WindowAt x y) = record { says = tt }
row_said setup past who (IsWindow w) = record { says = tt }
row_said setup past who (Parent w) = plainly setup past who (Parent w) (row setup past who (Parent w)) (plain_parent (window past w))
row_said setup past who (SetFocus w) = plainly setup past who (SetFocus w) (row setup past who (SetFocus w)) (search (plain_behind, plain))
row_said setup past who (SetActive w) = plainly setup past who (SetActive w) (row setup past who (SetActive w)) (search (plain_behind, plain))
row_said setup past who (SetCapture w) = plainly setup past who (SetCapture w) (row setup past who (SetCapture w)) (search (plain_behind, plain))
row_said setup past who ReleaseCapture = record { says = tt }
row_said setup past who GetFocus = record { says = tt }
row_said setup past who GetActive = record { says = tt }
row_said setup past who GetCapture = record { says = tt }
row_said setup past who (Attach t u) = plainly setup past who (Attach t u) (row setup past who (Attach t u)) (search (plain_behind, plain))
row_said setup past who (Detach t u) = plainly setup past who (Detach t u) (row setup past who (Detach t u)) (search (plain_behind, plain))
row_said setup past who (Mouse number x y) = let call = Mouse number x y in behind setup past who call (is_no_mouse setup number (point x y)) invalid_parameter _ refl (λ fits. injected_said setup past who call (of_mouse number (point x y)) refl)
row_said setup past who (Key down key) = let call = Key down key in behind setup past who call (nat_lt 1 down || is_no_key key) invalid_parameter _ refl (λ fits. injected_said setup past who call (of_key (key_message down) key) refl)
row_said setup past who (KeyState key) = plainly setup past who (KeyState key) (row setup past who (KeyState key)) (search (plain_behind, plain))
row_said setup past who (BeginDialog w) = plainly setup past who (BeginDialog w) (row setup past who (BeginDialog w)) (search (plain_behind, plain))
row_said setup past who (DialogState w) = plainly setup past who (DialogState w) (row setup past who (DialogState w)) (plain_dialog_state past who w (window past w))
row_said setup past who (EndDialog w v) = plainly setup past who (EndDialog w v) (row setup past who (EndDialog w v)) (search (plain_behind, plain))
row_said setup past who (Invalidate w l t r b erase) = plainly setup past who (Invalidate w l t r b erase) (row setup past who (Invalidate w l t r b erase)) (search (plain_behind, plain))
row_said setup past who (Validate w l t r b) = plainly setup past who (Validate w l t r b) (row setup past who (Validate w l t r b)) (search (plain_behind, plain))
row_said setup past who (UpdateRect w) = plainly setup past who (UpdateRect w) (row setup past who (UpdateRect w)) (search (plain_behind, plain))
row_said setup past who (BeginPaint w) = plainly setup past who (BeginPaint w) (row setup past who (BeginPaint w)) (search (plain_behind, plain))
row_said setup past who (EndPaint w) = plainly setup past who (EndPaint w) (row setup past who (EndPaint w)) (search (plain_behind, plain))
row_said setup past who (Fill w l t r b colour) = plainly setup past who (Fill w l t r b colour) (row setup past who (Fill w l t r b colour)) (search (plain_behind, plain))
row_said setup past who (Erase w) = plainly setup past who (Erase w) (row setup past who (Erase w)) (search (plain_behind, plain))
row_said setup past who Snap = behind setup past who Snap (nat_le 256 (length (snapped past))) Full (answers.Snap (suc (length (snapped past)))) refl (λ room. record { says = record { is_call = refl; is_next = refl } })
row_said setup past who (SetTimer w id ms) = plainly setup past who (SetTimer w id ms) (row setup past who (SetTimer w id ms)) (search (plain_behind, plain))
row_said setup past who (KillTimer w id) = plainly setup past who (KillTimer w id) (row setup past who (KillTimer w id)) (search (plain_behind, plain))
row_said setup past who EndThread = record { says = refl }
row_said setup past who Clock = record { says = tt }
row_said setup past who (SleepUntil time) = let call = SleepUntil time in behind setup past who call _ invalid_parameter _ refl (λ n. woken_said setup past who call refl (nat_le time (clock past)))
row_said setup past who Yield = record { says = tt }
row_said setup past who (Tick ms) = record { says = inr refl }
row_said setup past who Advance = record { says = inr refl }

-- the same where the answer is known
pub says_of : (setup : Setup) (past : Past) (who : ℕ) (call : Call) (a : Answer) → row setup past who call ≡ a → Says setup past who call a
says_of setup past who call a e = (subst (λ x. Said setup past who call x) e (row_said setup past who call)).says
