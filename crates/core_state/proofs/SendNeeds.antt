-- What the change of an entry needs of the sends holds where the entry is the reply.
use Rattle.std.proofs.Common.{◌≡◌, ◌≢◌, ℕ, suc, ◌+◌, ◌<◌, ◌≤◌, Bool, true, false, not, cond, eqb, List, [], ◌∷◌, length, map, Option, Some, None, refl, ap, ◌∙◌, sym, subst, inl, inr, arith}
use Rattle.std.specs.Prelude.{◌||◌, ◌&&◌, bit_and, find, is_none, is_some, IsSome, nat_lt, nat_le, option_map, unwrap_or}
use Rattle.std.specs.List.{AllByRecursion}
use Rattle.std.specs.FinMap as finite
use Rattle.std.proofs.lemmas.Bool.{false≢true, eqb-true, ne_eqb, or_parts}
use Rattle.std.proofs.lemmas.Bool.Decides.{nat_tests}
use Rattle.std.proofs.lemmas.Nat.{and_le_r}
use Rattle.win_num.specs.declared.code.Code.TheVariants.{Win, Full}
use Rattle.win_num.specs.declared.message.Hwnd.{Hwnd}
use Rattle.win_num.specs.declared.message.Thread.{Thread}
use Rattle.win_num.specs.declared.send.Cause.{Cause}
use Rattle.win_num.specs.declared.send.SendId.{SendId}
use Rattle.win_num.specs.declared.send.Kind.TheVariants.{Wait as WaitKind, Timeout as WithTimeout, Notify, Callback as WithCallback}
use Rattle.win_num.specs.declared.send.Frame.{Frame}
use Rattle.win_num.specs.declared.send.Frame.TheVariants.{Entered, Inside as InsideFrame, Called as CalledFrame, CallbackRun, Await as AwaitFrame}
use Rattle.win_rows.specs.declared.window.Window.{Window as KeptWindow}
use Rattle.user_model.specs.declared.call.Call.{Call}
use Rattle.user_model.specs.declared.call.Call.TheVariants as calls
use Rattle.user_model.specs.declared.entry.Answer.{Answer}
use Rattle.user_model.specs.declared.entry.Answer.TheVariants as answers
use Rattle.user_model.specs.declared.entry.Entry.{Entry}
use Rattle.user_model.specs.declared.entry.Setup.{Setup}
use Rattle.user_model.specs.Past.{Past, first, is_full, is_refusal, place_after}
use Rattle.user_model.specs.Places.{clock, has_ended}
use Rattle.user_model.specs.Windows.{Window, is_live, live, thread_of}
use Rattle.user_model.specs.Stacks.{has_room, stack, top, waits}
use Rattle.user_model.specs.Sends.{SentMsg, Outcome, answer, is_answered, is_callback_kind, is_entered, is_owed, is_unfinished, names_send, send, sends, was_called_back}
use Rattle.user_model.specs.Ready.{ReadyMsg, to_enter, to_call_back, ready, ready_head}
use Rattle.user_model.specs.Refusals.{has_beyond, invalid_parameter, is_no_message}
use Rattle.user_model.specs.Setups.{IsSetup}
use Rattle.user_model.specs.ReplySends.{other_send, waiting_send}
use Rattle.user_model.specs.Replies.{row}
use Rattle.user_model.specs.Threads.{is_running}
use Rattle.user_model.specs.Idle.{reply}
use Rattle.user_model.specs.Legal.{IsLawful}
use Rattle.user_model.proofs.ListLaws.{all_weaker}
use Rattle.user_model.proofs.ReplyLaws.{ByRow, by_call, not_false, not_refused}
use Rattle.user_model.proofs.SendReplies.{Tells, entry_told, is_of_sends}
use Rattle.user_model.specs.Deeds.{SendParts as CallParts, parts, parts_of}
use Rattle.user_model.proofs.AnswerFacts.{IsCalled, IsEntry, IsInside, IsMade}
use Rattle.user_model.proofs.SendLawful.{lawful_standing}
use Rattle.user_model.proofs.SendStanding.{CountsFrom, FrameStands, ReadyStands, Standing}
use Rattle.user_model.proofs.WindowReplies.{drop_told}
use Rattle.user_model.proofs.WindowFacts.{live_running, live_window}
use Rattle.send_frames.specs.Book.{KnownSend, is_too_deep, is_waiting, stack_of}
use Rattle.send_state.specs.Parts.{SendParts, CanAnswer, CanAnswerAs, CanLeaveFrom, CanReplyIn, CanServe, rank}
use Rattle.send_state.specs.Standing.{IsOurs, PartsStand, as_told, ready_as, row_of}
use Rattle.send_state.proofs.Frames.{eqb_turned, is_ours}
use Rattle.send_state.proofs.Joining.{can-join, pending-known}
use Rattle.send_state.proofs.Serving.{about, head_of-stands}
use Rattle.send_state.proofs.Told.{of_first, runs}
use Rattle.send_state.proofs.ToldBegun.{made}
use Rattle.send_state.proofs.ToldReplied.{unlisted}
use Rattle.send_state.proofs.Values.{known-stands, top-stands}
use Rattle.core_state.specs.Sendings.{FitsCallback, FitsDispatch, FitsDropped, FitsAddedSends, FitsLeave, FitsLeaving, FitsOption, FitsReplied, FitsReplying, FitsRow, FitsSending, FitsServing, FitsSendEffect, FitsWait, added_sends}
use Rattle.window_state.specs.Trees.{as_made}
use Rattle.core_state.proofs.Deliveries.{is_live-is}
use Rattle.core_state.proofs.SendLosses.{dropped_fits, ended_fits}
use Rattle.core_state.proofs.SendNumbers.{early, sends_bound}
use Rattle.core_state.proofs.SendSteps.{sending_is, wait_top}
use Rattle.core_state.proofs.Threads.{in_book}
use Rattle.core_state.proofs.Tops.{IsKept, top_kept}
use Rattle.core_state.proofs.Unfinished.{known_count, known_few}
use Rattle.core_state.proofs.Waits.{allowed_wait}

-- ---- a send that is made

small : (m : ℕ) → is_no_message m ≡ false → m ≤ 65535
small m h = grind (arith, nat_tests, h)

at_most : (n m : ℕ) → nat_lt n m ≡ false → m ≤ n
at_most n m h = grind (arith, nat_tests, h)

-- flags that the setup has
flags_fit : (setup : Setup) (flags : ℕ) → IsSetup setup → has_beyond flags setup.smto ≡ false → flags ≤ 11
flags_fit setup flags ready h =
    let same : bit_and flags setup.smto ≡ flags = eqb-true (bit_and flags setup.smto) flags (not_false (eqb (bit_and flags setup.smto) flags) h) in
    let within = and_le_r flags setup.smto in
    let one = ready.flags in
    omega (arith, same, within, one)

-- the window of a send that is made is live, and its numbers fit
fits_call : (setup : Setup) → IsSetup setup → (past : Past) (ws : List KeptWindow) (who : ℕ) (a : Answer) (call : Call) → map as_made ws ≡ live past → is_refusal a ≡ false → row setup past who call ≡ a → ((of : CallParts) → parts_of call ≡ Some of → is_live past of.hwnd ≡ true) → FitsSending ws call
fits_call setup ready past ws who a (calls.Send w m p q) at fine is lives =
    (is_live-is past ws w at ∙ lives (parts w m p q WaitKind) refl, small m (not_refused (is_no_message m) invalid_parameter (waiting_send past who w) a fine is).0)
fits_call setup ready past ws who a (calls.SendTimeout w m p q flags ms) at fine is lives =
    let beyond = has_beyond flags setup.smto in
    let both = or_parts (is_no_message m) (beyond || nat_lt 4294967295 ms) (not_refused (is_no_message m || (beyond || nat_lt 4294967295 ms)) invalid_parameter (waiting_send past who w) a fine is).0 in
    let two = or_parts beyond (nat_lt 4294967295 ms) both.1 in
    (is_live-is past ws w at ∙ lives (parts w m p q (WithTimeout flags ms)) refl, small m both.0, flags_fit setup flags ready two.0, at_most 4294967295 ms two.1)
fits_call setup ready past ws who a (calls.SendNotify w m p q) at fine is lives =
    (is_live-is past ws w at ∙ lives (parts w m p q Notify) refl, small m (not_refused (is_no_message m) invalid_parameter (other_send past who w) a fine is).0)
fits_call setup ready past ws who a (calls.SendCallback w m p q n extra) at fine is lives =
    (is_live-is past ws w at ∙ lives (parts w m p q (WithCallback n extra)) refl, small m (not_refused (is_no_message m) invalid_parameter (other_send past who w) a fine is).0)
fits_call setup ready past ws who a _ at fine is lives = tt

waits_by_kind : (call : Call) (of : CallParts) → parts_of call ≡ Some of → waits call ≡ is_waiting of.kind
waits_by_kind (calls.Send w m p q) of h = let k : parts w m p q WaitKind ≡ of = cc in ap (λ (o : CallParts). is_waiting o.kind) k
waits_by_kind (calls.SendTimeout w m p q flags ms) of h = let k : parts w m p q (WithTimeout flags ms) ≡ of = cc in ap (λ (o : CallParts). is_waiting o.kind) k
waits_by_kind (calls.SendNotify w m p q) of h = let k : parts w m p q Notify ≡ of = cc in ap (λ (o : CallParts). is_waiting o.kind) k
waits_by_kind (calls.SendCallback w m p q n extra) of h = let k : parts w m p q (WithCallback n extra) ≡ of = cc in ap (λ (o : CallParts). is_waiting o.kind) k
waits_by_kind _ of h = absurd cc

-- the thread of a live window
window_thread : (setup : Setup) (past : Past) (w : ℕ) → IsLawful setup past → is_live past w ≡ true → is_running setup past (thread_of past w) ≡ true
window_thread setup past w lawful lives =
    let x = live_window past w lives in
    ap (is_running setup past) (ap (λ (o : Option Window). unwrap_or (option_map (λ y. y.thread) o) 0) x.1) ∙ live_running setup past w x.0 lawful x.1

no_later : (n m : ℕ) (xs : List SentMsg) → CountsFrom n xs → n + length xs < m → find (λ x. eqb x.number m) xs ≡ None
no_later n m [] c h = refl
no_later n m (x ∷ xs) c h =
    let differ : x.number ≢ m = omega (arith, c.0, h) in
    ap (λ b. cond b (Some x) (find (λ y. eqb y.number m) xs)) (ne_eqb x.number m differ) ∙ no_later (suc n) m xs c.1 (omega (arith, h))

false_when : (b : Bool) → (b ≡ true → ⊥) → b ≡ false
false_when true k = absurd (k refl)
false_when false k = refl

-- nothing ready is about a send that isn't made yet
apart : (setup : Setup) (past : Past) (n : ℕ) → Standing setup past → send past n ≡ None → (t : ℕ) → AllByRecursion (λ r. eqb (about r) n ≡ false) (ready past t)
apart setup past n standing none t = all_weaker (ReadyStands past t) (λ r. eqb (about r) n ≡ false) each (ready past t) (standing.waiting t)
  where
    clash : (y : SentMsg) → send past y.number ≡ Some y → eqb y.number n ≡ true → ⊥
    clash y found k = let two : None ≡ Some y = sym none ∙ ap (send past) (sym (eqb-true y.number n k)) ∙ found in cc

    each : (r : ReadyMsg) → ReadyStands past t r → eqb (about r) n ≡ false
    each (to_enter y) k = false_when (eqb y.number n) (clash y k.found)
    each (to_call_back y m extra place) k = false_when (eqb y.number n) (clash y k.found)

none_deep : (pushes deep : Bool) → (pushes ≡ true → deep ≡ false) → (pushes && deep) ≡ false
none_deep true deep h = h refl
none_deep false deep h = refl

free_at : (deep full : Bool) → deep ≡ false → full ≡ false → (cond deep (Some (Win 1001)) (cond full (Some Full) None)) ≡ None
free_at deep full d f = ap (λ b. cond b (Some (Win 1001)) (cond full (Some Full) None)) d ∙ ap (λ b. cond b (Some Full) None) f

shallow : (n : ℕ) → nat_lt n 64 ≡ true → nat_le 64 n ≡ false
shallow n h = grind (arith, nat_tests, h)

module _ (setup : Setup) (past : Past) (p : SendParts) (ws : List KeptWindow) (who : Thread) (lawful : IsLawful setup past) (room : is_full past ≡ false) (h : PartsStand setup past p) (at : map as_made ws ≡ live past) where
  standing : Standing setup past
  standing = lawful_standing setup past lawful

  few : finite.len p.book.known ≤ 1024
  few = known_few setup past p lawful h

  -- a send that is made can be begun
  fits_row : (call : Call) (n : ℕ) (b : Bool) → is_running setup past who.0 ≡ true → (m : IsMade past who.0 call n b) → FitsRow p (place_after past) (row_of (made past who.0 m.of n b))
  fits_row call n b running m =
      let own = (runs setup past who.0 running).0 in
      let theirs = (runs setup past (thread_of past m.of.hwnd) (window_thread setup past m.of.hwnd lawful m.lives)).0 in
      let count = known_count setup past p lawful h in
      let fewer : nat_le 1024 (finite.len p.book.known) ≡ false = ap (nat_le 1024) count ∙ m.few in
      let same_side : eqb who.0 (thread_of past m.of.hwnd) ≡ b = eqb_turned who.0 (thread_of past m.of.hwnd) ∙ m.is_own in
      let pushes : (eqb who.0 (thread_of past m.of.hwnd) || is_waiting m.of.kind) ≡ (b || waits call) = ap (λ c. c || is_waiting m.of.kind) same_side ∙ ap (λ c. b || c) (sym (waits_by_kind call m.of m.is_call)) in
      let deep : (eqb who.0 (thread_of past m.of.hwnd) || is_waiting m.of.kind) ≡ true → nat_le 64 (length (stack_of p.book who.0)) ≡ false =
      λ k. ap (λ (l : List Frame). nat_le 64 (length l)) (h.book.stacks who.0 own) ∙ shallow (length (stack past who.0)) (m.room (sym pushes ∙ k)) in
      record {
        from = in_book setup past p who.0 h own;
        to = in_book setup past p (thread_of past m.of.hwnd) h theirs;
        early = early past room;
        joins = λ outside less.
            let next : p.book.begun + 1 ≡ suc (length (sends past)) = omega (arith, h.book.begun) in
            let none : send past (p.book.begun + 1) ≡ None = no_later 0 (p.book.begun + 1) (sends past) standing.counted (omega (arith, next)) in
            can-join setup past p (thread_of past m.of.hwnd) (p.book.begun + 1) lawful h theirs few (inr less) (apart setup past (p.book.begun + 1) standing none);
        free = free_at (is_too_deep p.book (row_of (made past who.0 m.of n b))) (nat_le 1024 (finite.len p.book.known))
            (none_deep (eqb who.0 (thread_of past m.of.hwnd) || is_waiting m.of.kind) (nat_le 64 (length (stack_of p.book who.0))) deep) fewer;
      }

  made_live : (call : Call) (n : ℕ) (b : Bool) → (m : IsMade past who.0 call n b) → (of : CallParts) → parts_of call ≡ Some of → is_live past of.hwnd ≡ true
  made_live call n b m of is =
      let both : Some m.of ≡ Some of = sym m.is_call ∙ is in
      let same : m.of ≡ of = cc in
      ap (λ (o : CallParts). is_live past o.hwnd) (sym same) ∙ m.lives

  grown_by : IsSetup setup → (a : Answer) (call : Call) → a ≡ reply setup past who.0 call → FitsAddedSends ws (clock past) (place_after past) who a call p
  grown_by ready (answers.Begun s) call right =
      let told = entry_told setup past who.0 call (answers.Begun s) (sym right) refl in
      let m : IsMade past who.0 call s.0 false = told.1 in (
        fits_call setup ready past ws who.0 (answers.Begun s) call at refl told.0.is_row (made_live call s.0 false m),
        subst (FitsOption p (place_after past)) (sym (sending_is past ws who s.0 false call m.of at m.is_call)) (fits_row call s.0 false told.0.running m),
      )
  grown_by ready (answers.Inside s n) call right =
      let told = entry_told setup past who.0 call (answers.Inside s n) (sym right) refl in
      let i : IsInside past who.0 call s.0 n = told.1 in (
        fits_call setup ready past ws who.0 (answers.Inside s n) call at refl told.0.is_row (made_live call s.0 true i.made),
        subst (FitsOption p (place_after past)) (sym (sending_is past ws who s.0 true call i.made.of at i.made.is_call)) (fits_row call s.0 true told.0.running i.made),
      )
  grown_by ready _ call right = tt

-- what a send that is made needs
pub grown_fits : (setup : Setup) (past : Past) (e : Entry) (p : SendParts) (ws : List KeptWindow) → IsSetup setup → IsLawful setup past → is_full past ≡ false → e.answer ≡ reply setup past e.who.0 e.call → PartsStand setup past p → map as_made ws ≡ live past → FitsAddedSends ws (clock past) (place_after past) e.who e.answer e.call p
grown_fits setup past e p ws ready lawful room right h at = grown_by setup past p ws e.who lawful room h at ready e.answer e.call right

-- ---- what is run, left and replied to

is_there : {X : Type 0} (o : Option X) → is_some o ≡ true → IsSome o
is_there (Some x) e = e
is_there None e = absurd (false≢true e)

module _ (setup : Setup) (past : Past) (p : SendParts) (who : ℕ) (lawful : IsLawful setup past) (room : is_full past ≡ false) (h : PartsStand setup past p) (running : is_running setup past who ≡ true) where
  own : IsOurs setup who
  own = (runs setup past who running).0

  low : finite.len p.book.known ≤ 1024
  low = known_few setup past p lawful h

  short_of : has_room past who ≡ true → length (stack_of p.book who) < 64
  short_of r = let same = ap (λ (l : List Frame). length l) (h.book.stacks who own) in grind (arith, nat_tests, r, same)

  -- what is first ready can be run
  fits_serving : (r : ReadyMsg) → has_room past who ≡ true → ready_head past who ≡ Some r → FitsServing p who
  fits_serving r free is = record {
    is_one = in_book setup past p who h own;
    room = short_of free;
    known = subst (CanServe p.book) (sym (head_of-stands setup past p who own h ∙ ap (option_map ready_as) is)) (served r (of_first (λ q. is_some (finite.get p.book.known (about q)) ≡ true) (ready past who) r (pending-known setup past p lawful h who) is));
  }
    where
      served : (q : ReadyMsg) → is_some (finite.get p.book.known (about q)) ≡ true → CanServe p.book (Some (ready_as q))
      served (to_enter x) k = is_there (finite.get p.book.known x.number) k
      served (to_call_back x n extra place) k = tt

  fits_dispatch : has_room past who ≡ true → FitsDispatch p who
  fits_dispatch free = record { is_one = in_book setup past p who h own; room = short_of free }

  unowed : (inside : Bool) (kind ended handed : Bool) → inside ≡ true → (kind && (not inside && (not ended && not handed))) ≡ true → ⊥
  unowed inside kind ended handed i k = by kind (ap (λ b. kind && (not b && (not ended && not handed))) (sym i) ∙ k)
    where
      by : (b : Bool) → (b && false) ≡ true → ⊥
      by true e = false≢true e
      by false e = false≢true e

  and_second : (a b : Bool) → (a && b) ≡ true → (a ≡ true) × (b ≡ true)
  and_second true b k = (refl, k)
  and_second false b k = absurd (false≢true k)

  none_told : (o : Option Outcome) → is_none (option_map as_told o) ≡ true → is_some o ≡ false
  none_told None k = refl
  none_told (Some o) k = absurd (false≢true k)

  -- the answer of an entered send can be given
  can_entered : (f : SendId) → (x : SentMsg) → send past f.0 ≡ Some x → is_unfinished past x ≡ true → is_entered past f.0 ≡ true → CanAnswer p f.0 (rank (place_after past) 0)
  can_entered f x found kept entered =
      let known = known-stands setup past p f.0 x h found kept in
      let number = ((lawful_standing setup past lawful).sent f.0 x found).is_number in
      let theirs : IsOurs setup x.from = is_ours setup x.from ((lawful_standing setup past lawful).sent f.0 x found).from_thread in
      subst (CanAnswerAs p.lists f.0 (rank (place_after past) 0)) (sym known) (λ k.
      let both = and_second (is_none (option_map as_told (answer past x.number))) (is_owed past x) k in
      let unanswered : is_answered past f.0 ≡ false = ap (is_answered past) (sym number) ∙ none_told (answer past x.number) both.0 in
      can-join setup past p x.from f.0 lawful h theirs low (inl (ap (λ (o : Option KnownSend). is_some o) known)) (unlisted setup past f.0 (lawful_standing setup past lawful) entered unanswered))

  can_inside : (f : SendId) → (x : SentMsg) → send past f.0 ≡ Some x → is_unfinished past x ≡ true → x.is_inside ≡ true → CanAnswer p f.0 (rank (place_after past) 0)
  can_inside f x found kept inside =
      subst (CanAnswerAs p.lists f.0 (rank (place_after past) 0)) (sym (known-stands setup past p f.0 x h found kept)) (λ k.
      let both = and_second (is_none (option_map as_told (answer past x.number))) (is_owed past x) k in
      absurd (unowed x.is_inside (is_callback_kind x.kind) (has_ended past x.from) (was_called_back past x) inside both.1))

  kept_here : (f : Frame) (s : ℕ) → top past who ≡ Some f → names_send f s ≡ true → IsKept past s
  kept_here f s is named = top_kept setup past who s lawful (record { frame = f; is_top = is; names = named })

  itself : (n : ℕ) → eqb n n ≡ true
  itself n = grind (arith, nat_tests)

  frame_here : (f : Frame) → top past who ≡ Some f → FrameStands past who f
  frame_here f is = of_frames (stack past who) is ((lawful_standing setup past lawful).frames who)
    where
      of_frames : (fs : List Frame) → first fs ≡ Some f → AllByRecursion (FrameStands past who) fs → FrameStands past who f
      of_frames [] e all = absurd cc
      of_frames (g ∷ gs) e all = let same : g ≡ f = cc in subst (FrameStands past who) same all.0

  kept_is : (s : ℕ) (k : IsKept past s) (x : SentMsg) → send past s ≡ Some x → is_unfinished past x ≡ true
  kept_is s k x found =
      let both : Some k.of ≡ Some x = sym k.found ∙ found in
      let same : k.of ≡ x = cc in
      ap (is_unfinished past) (sym same) ∙ k.unfinished

  leaving : (o : Option Frame) → top past who ≡ o → CanLeaveFrom p (rank (place_after past) 0) o
  leaving (Some (Entered f)) is = let k = frame_here (Entered f) is in can_entered f k.of k.found (kept_is f.0 (kept_here (Entered f) f.0 is (itself f.0)) k.of k.found) k.entered
  leaving (Some (InsideFrame f)) is = let k = frame_here (InsideFrame f) is in can_inside f k.of k.found (kept_is f.0 (kept_here (InsideFrame f) f.0 is (itself f.0)) k.of k.found) k.inside
  leaving (Some CalledFrame) is = tt
  leaving (Some CallbackRun) is = tt
  leaving (Some (AwaitFrame f)) is = tt
  leaving None is = tt

  fits_leaving : FitsLeaving p who (place_after past)
  fits_leaving = record {
    is_one = in_book setup past p who h own;
    early = early past room;
    joins = subst (CanLeaveFrom p (rank (place_after past) 0)) (sym (top-stands setup past p who own h)) (leaving (top past who) refl);
  }

  replying : (o : Option Frame) → top past who ≡ o → CanReplyIn p (rank (place_after past) 0) o
  replying (Some (Entered f)) is = let k = frame_here (Entered f) is in can_entered f k.of k.found (kept_is f.0 (kept_here (Entered f) f.0 is (itself f.0)) k.of k.found) k.entered
  replying (Some (InsideFrame f)) is = tt
  replying (Some CalledFrame) is = tt
  replying (Some CallbackRun) is = tt
  replying (Some (AwaitFrame f)) is = tt
  replying None is = tt

  fits_replying : FitsReplying p who (place_after past)
  fits_replying = record {
    is_one = in_book setup past p who h own;
    early = early past room;
    joins = subst (CanReplyIn p (rank (place_after past) 0)) (sym (top-stands setup past p who own h)) (replying (top past who) refl);
  }

-- a send that is found has a number that fits
found_low : (n s : ℕ) (xs : List SentMsg) (x : SentMsg) → CountsFrom n xs → find (λ y. eqb y.number s) xs ≡ Some x → s ≤ n + length xs
found_low n s [] x c e = absurd cc
found_low n s (y ∷ ys) x c e = by (found_low (suc n) s ys x c.1) (eqb y.number s) refl e
  where
    by : (find (λ z. eqb z.number s) ys ≡ Some x → s ≤ suc n + length ys) → (b : Bool) → eqb y.number s ≡ b → cond b (Some y) (find (λ z. eqb z.number s) ys) ≡ Some x → s ≤ n + length (y ∷ ys)
    by rest true k g = let same = eqb-true y.number s k in omega (arith, same, c.0)
    by rest false k g = let more = rest g in omega (arith, more)

module _ (setup : Setup) (past : Past) (p : SendParts) (ws : List KeptWindow) (who : Thread) (lawful : IsLawful setup past) (room : is_full past ≡ false) (h : PartsStand setup past p) (at : map as_made ws ≡ live past) where
  told_of : (a : Answer) (call : Call) → a ≡ reply setup past who.0 call → is_of_sends a ≡ true → ByRow setup past who.0 call a × Tells past who.0 call a
  told_of a call right of = entry_told setup past who.0 call a (sym right) of

  called_back_fits : (s : SendId) (n : ℕ) (w : Hwnd) (m extra v : ℕ) (call : Call) → answers.Callback s n w m extra v ≡ reply setup past who.0 call → FitsCallback (place_after past) who.0 call p
  called_back_fits s n w m extra v (calls.Leave r) right = fits_leaving setup past p who.0 lawful room h (told_of (answers.Callback s n w m extra v) (calls.Leave r) right refl).0.running
  called_back_fits s n w m extra v call right =
      let told = told_of (answers.Callback s n w m extra v) call right refl in
      elim told.1 [
        | inl k ↦ fits_serving setup past p who.0 lawful room h told.0.running (to_call_back k.of n extra k.place) k.room k.is_first
        | inr k ↦ absurd (let clash = k.is_call in cc)
      ]

  left_fits : (s : SendId) (call : Call) → answers.Left s ≡ reply setup past who.0 call → FitsLeave (place_after past) who.0 call p
  left_fits s (calls.Leave r) right = fits_leaving setup past p who.0 lawful room h (told_of (answers.Left s) (calls.Leave r) right refl).0.running
  left_fits s _ right = tt

  replied_fits : (v : ℕ) (b : Bool) (call : Call) → answers.Value v ≡ reply setup past who.0 call → FitsReplied b (place_after past) who.0 call p
  replied_fits v true (calls.Reply r) right = fits_replying setup past p who.0 lawful room h (by_call setup past who.0 (calls.Reply r) (answers.Value v) (sym right) refl refl).running
  replied_fits v true _ right = tt
  replied_fits v false call right = tt

  pub done_fits : (v : ℕ) (c : Cause) (call : Call) → answers.Done v c ≡ reply setup past who.0 call → FitsWait who.0 call p
  done_fits v c (calls.Await s) right =
      let told = told_of (answers.Done v c) (calls.Await s) right refl in
      let wait = allowed_wait past who.0 s (top past who.0) refl told.0.allowed in
      let kept = top_kept setup past who.0 s lawful (wait_top past who.0 s wait) in
      let low = found_low 0 s (sends past) kept.of (lawful_standing setup past lawful).counted kept.found in
      (in_book setup past p who.0 h (runs setup past who.0 told.0.running).0, omega (arith, low, sends_bound past, early past room))
  done_fits v c _ right = tt

  abbrev entry_of : Answer → Call → Entry
  entry_of a call = record { who = who; call = call; answer = a }

  okay_fits : (call : Call) → answers.Okay ≡ reply setup past who.0 call → FitsDropped ws (place_after past) call p
  okay_fits (calls.Drop w) right = (is_live-is past ws w at ∙ (drop_told setup past who.0 w (sym right)).0.is_live, dropped_fits setup past (entry_of answers.Okay (calls.Drop w)) p ws w (lawful, right) room h at refl refl)
  okay_fits _ right = tt

  settled_by : (a : Answer) (call : Call) → a ≡ reply setup past who.0 call → FitsSendEffect ws (place_after past) who.0 a call (added_sends ws (clock past) (place_after past) who a call p)
  settled_by (answers.Enter s n w m q r) call right =
      let told = told_of (answers.Enter s n w m q r) call right refl in
      let entry : IsEntry past who.0 call s.0 n w.0 m q r = told.1 in
      fits_serving setup past p who.0 lawful room h told.0.running (to_enter entry.of) entry.room entry.is_first
  settled_by (answers.Callback s n w m extra v) call right = called_back_fits s n w m extra v call right
  settled_by (answers.Called n) call right =
      let told = told_of (answers.Called n) call right refl in
      let called : IsCalled past who.0 call n = told.1 in
      fits_dispatch setup past p who.0 lawful room h told.0.running called.room
  settled_by (answers.Left s) call right = left_fits s call right
  settled_by (answers.Value v) call right = replied_fits v (eqb v 1) call right
  settled_by (answers.Done v c) call right = done_fits v c call right
  settled_by answers.Okay call right = okay_fits call right
  settled_by answers.Ended call right = (in_book setup past p who.0 h (runs setup past who.0 (told_of answers.Ended call right refl).0.running).0, ended_fits setup past (entry_of answers.Ended call) p ws (lawful, right) room h at refl)
  settled_by _ call right = tt

-- what an answer that takes no memory needs
pub settled_fits : (setup : Setup) (past : Past) (e : Entry) (p : SendParts) (ws : List KeptWindow) → IsLawful setup past → is_full past ≡ false → e.answer ≡ reply setup past e.who.0 e.call → PartsStand setup past p → map as_made ws ≡ live past → FitsSendEffect ws (place_after past) e.who.0 e.answer e.call (added_sends ws (clock past) (place_after past) e.who e.answer e.call p)
settled_fits setup past e p ws lawful room right h at = settled_by setup past p ws e.who lawful room h at e.answer e.call right
