-- A lawful entry that begins a send, or sends inside: the parts stand on.
use Rattle.std.proofs.Common.{◌≡◌, ℕ, ◌<◌, ◌≤◌, Bool, true, false, cond, eqb, List, ◌∷◌, Option, Some, None, refl, ap, ◌∙◌, sym, inr, arith}
use Rattle.std.specs.Prelude.{is_some}
use Rattle.std.specs.List.{AllByRecursion}
use Rattle.std.specs.FinMap as map
use Rattle.std.proofs.lemmas.Bool.{false≢true, eqb-true}
use Rattle.win_num.specs.declared.send.SendId.{SendId}
use Rattle.win_num.specs.declared.send.Kind.TheVariants.{Wait as WaitKind, Timeout as WithTimeout, Notify, Callback as WithCallback}
use Rattle.win_num.specs.declared.send.Frame.{Frame}
use Rattle.win_num.specs.declared.send.Frame.TheVariants.{Inside as InsideFrame, Await as AwaitFrame}
use Rattle.user_model.specs.declared.call.Call.{Call}
use Rattle.user_model.specs.declared.call.Call.TheVariants.{Drop, Send, SendTimeout, SendNotify, SendCallback}
use Rattle.user_model.specs.declared.entry.Entry.{Entry}
use Rattle.user_model.specs.declared.entry.Setup.{Setup}
use Rattle.user_model.specs.declared.entry.Answer.TheVariants as answers
use Rattle.user_model.specs.Past.{Past, is_refused, place_after}
use Rattle.user_model.specs.Places.{clock, is_end}
use Rattle.user_model.specs.Stacks.{stacked, waits}
use Rattle.user_model.specs.Windows.{thread_of}
use Rattle.user_model.specs.Sends.{SentMsg, calls_back, enters, is_one, is_timed_out, left_by, send, sent_as}
use Rattle.user_model.specs.Ready.{ReadyMsg, to_enter, to_call_back, ready}
use Rattle.user_model.specs.Legal.{IsLawful}
use Rattle.user_model.proofs.ListLaws.{all_weaker}
use Rattle.user_model.proofs.SendLaws.{makes_one}
use Rattle.user_model.proofs.SendLawful.{lawful_standing}
use Rattle.user_model.proofs.SendReplies.{entry_told}
use Rattle.user_model.specs.Deeds.{SendParts as CallParts, parts, parts_of}
use Rattle.user_model.proofs.AnswerFacts.{IsInside, IsMade}
use Rattle.user_model.proofs.SendStanding.{ReadyStands, Standing}
use Rattle.send_frames.specs.Book.{is_waiting}
use Rattle.send_state.specs.Parts.{SendParts, begun}
use Rattle.send_state.specs.Standing.{IsOurs, PartsStand, row_of}
use Rattle.send_state.proofs.Still.{is_drop}
use Rattle.send_state.proofs.Serving.{about, answers-none}
use Rattle.send_state.proofs.Frames.{eqb_turned, is_ours}
use Rattle.send_state.proofs.Beginning.{IsBeginning, framed, send-new, stand-begun, unsent}
use Rattle.send_state.proofs.Joining.{can-join}
use Rattle.send_state.proofs.Told.{runs}

keeps_windows : (call : Call) (of : CallParts) → parts_of call ≡ Some of → is_drop call ≡ false
keeps_windows (Drop w) of h = absurd cc
keeps_windows _ of h = refl

-- a call waits where its kind does
waits_by_kind : (call : Call) (of : CallParts) → parts_of call ≡ Some of → waits call ≡ is_waiting of.kind
waits_by_kind (Send w m p q) of h = let k : parts w m p q WaitKind ≡ of = cc in ap (λ (o : CallParts). is_waiting o.kind) k
waits_by_kind (SendTimeout w m p q flags ms) of h = let k : parts w m p q (WithTimeout flags ms) ≡ of = cc in ap (λ (o : CallParts). is_waiting o.kind) k
waits_by_kind (SendNotify w m p q) of h = let k : parts w m p q Notify ≡ of = cc in ap (λ (o : CallParts). is_waiting o.kind) k
waits_by_kind (SendCallback w m p q proc_no extra) of h = let k : parts w m p q (WithCallback proc_no extra) ≡ of = cc in ap (λ (o : CallParts). is_waiting o.kind) k
waits_by_kind _ of h = absurd cc

-- the send that the call makes
abbrev pub made : Past → ℕ → CallParts → ℕ → Bool → SentMsg
made past who of s is_inside = record { number = s; from = who; to = thread_of past of.hwnd; hwnd = of.hwnd; message = of.message; wparam = of.wparam; lparam = of.lparam; kind = of.kind; place = place_after past; time = clock past; is_inside = is_inside }

module _ (setup : Setup) (past : Past) (e : Entry) (p : SendParts) (s : SendId) (lawful : IsLawful setup (e ∷ past)) (h : PartsStand setup past p) (few : map.len p.book.known < 1024) where
  before : Standing setup past
  before = lawful_standing setup past lawful.0

  -- nothing ready is about a send that isn't made yet
  apart : (new : SentMsg) → send past new.number ≡ None → (t : ℕ) → AllByRecursion (λ r. eqb (about r) new.number ≡ false) (ready past t)
  apart new none t = all_weaker (ReadyStands past t) (λ r. eqb (about r) new.number ≡ false) each (ready past t) (before.waiting t) where
    false_when : (b : Bool) → (b ≡ true → ⊥) → b ≡ false
    false_when true k = absurd (k refl)
    false_when false k = refl

    clash : (y : SentMsg) → send past y.number ≡ Some y → eqb y.number new.number ≡ true → ⊥
    clash y found k = false≢true (sym (ap (λ (o : Option SentMsg). is_some o) none) ∙ ap (λ n. is_some (send past n)) (sym (eqb-true y.number new.number k)) ∙ ap (λ (o : Option SentMsg). is_some o) found)

    each : (r : ReadyMsg) → ReadyStands past t r → eqb (about r) new.number ≡ false
    each (to_enter y) k = false_when (eqb y.number new.number) (clash y k.found)
    each (to_call_back y proc_no extra place) k = false_when (eqb y.number new.number) (clash y k.found)

  finish : (new : SentMsg) → IsBeginning past e new → IsOurs setup e.who.0 → PartsStand setup (e ∷ past) (begun p (row_of new) (place_after past))
  finish new is own =
      let after = lawful_standing setup (e ∷ past) lawful in
      let to_ours : IsOurs setup new.to = is_ours setup new.to (after.sent new.number new (send-new setup past e new is before)).to_thread in
      let low : map.len p.book.known ≤ 1024 = omega (arith, few) in
      stand-begun setup past e new is before p own to_ours (λ _. can-join setup past p new.to new.number lawful.0 h to_ours low (inr few) (apart new (unsent setup past e new is before))) h

  -- a send to another thread is begun
  pub told-begun : (of : CallParts) → parts_of e.call ≡ Some of → e.answer ≡ answers.Begun s → PartsStand setup (e ∷ past) (begun p (row_of (made past e.who.0 of s.0 false)) (place_after past))
  told-begun of is_call is =
      let told = entry_told setup past e.who.0 e.call (answers.Begun s) (sym lawful.1 ∙ is) refl in
      let m : IsMade past e.who.0 e.call s.0 false = told.1 in
      let both : Some m.of ≡ Some of = sym m.is_call ∙ is_call in
      let same : m.of ≡ of = cc in
      let alive = runs setup past e.who.0 told.0.running in
      let other : eqb e.who.0 (thread_of past of.hwnd) ≡ false = eqb_turned e.who.0 (thread_of past of.hwnd) ∙ ap (λ (o : CallParts). eqb (thread_of past o.hwnd) e.who.0) (sym same) ∙ m.is_own in
      let is_new : IsBeginning past e (made past e.who.0 of s.0 false) = record {
        right = ap (λ a. is_refused (record e { answer = a })) is;
        running = ap is_end is;
        makes = makes_one e past of is_call ∙ ap (λ a. sent_as a e past of.hwnd of.message of.wparam of.lparam of.kind) is;
        tells = λ q. answers-none e past q (keeps_windows e.call of is_call) (ap is_end is) (ap (λ a. left_by a q) is) (ap is_one is) (ap is_timed_out is);
        enters_other = λ q differ. ap (λ a. enters a q) is;
        hands_none = λ q. ap (λ a. calls_back a q) is;
        number = m.is_next;
        place = refl;
        from = refl;
        lives = alive.1;
        own = other;
        frames = λ fs. ap (λ a. stacked e.call a fs) is ∙ ap (λ b. cond b (AwaitFrame s ∷ fs) fs) (waits_by_kind e.call of is_call) ∙ pushed_by (is_waiting of.kind) fs
            ∙ sym (ap (λ b. framed (cond b (Some (InsideFrame s)) (cond (is_waiting of.kind) (Some (AwaitFrame s)) None)) fs) other);
      } in
      finish (made past e.who.0 of s.0 false) is_new alive.0
    where
      pushed_by : (b : Bool) (fs : List Frame) → cond b (AwaitFrame s ∷ fs) fs ≡ framed (cond b (Some (AwaitFrame s)) None) fs
      pushed_by true fs = refl
      pushed_by false fs = refl

  -- a send to an own window goes inside
  pub told-inside : (of : CallParts) (proc_no : ℕ) → parts_of e.call ≡ Some of → e.answer ≡ answers.Inside s proc_no → PartsStand setup (e ∷ past) (begun p (row_of (made past e.who.0 of s.0 true)) (place_after past))
  told-inside of proc_no is_call is =
      let told = entry_told setup past e.who.0 e.call (answers.Inside s proc_no) (sym lawful.1 ∙ is) refl in
      let inside : IsInside past e.who.0 e.call s.0 proc_no = told.1 in
      let m : IsMade past e.who.0 e.call s.0 true = inside.made in
      let both : Some m.of ≡ Some of = sym m.is_call ∙ is_call in
      let same : m.of ≡ of = cc in
      let alive = runs setup past e.who.0 told.0.running in
      let own : eqb e.who.0 (thread_of past of.hwnd) ≡ true = eqb_turned e.who.0 (thread_of past of.hwnd) ∙ ap (λ (o : CallParts). eqb (thread_of past o.hwnd) e.who.0) (sym same) ∙ m.is_own in
      let is_new : IsBeginning past e (made past e.who.0 of s.0 true) = record {
        right = ap (λ a. is_refused (record e { answer = a })) is;
        running = ap is_end is;
        makes = makes_one e past of is_call ∙ ap (λ a. sent_as a e past of.hwnd of.message of.wparam of.lparam of.kind) is;
        tells = λ q. answers-none e past q (keeps_windows e.call of is_call) (ap is_end is) (ap (λ a. left_by a q) is) (ap is_one is) (ap is_timed_out is);
        enters_other = λ q differ. ap (λ a. enters a q) is ∙ differ;
        hands_none = λ q. ap (λ a. calls_back a q) is;
        number = m.is_next;
        place = refl;
        from = refl;
        lives = alive.1;
        own = own;
        frames = λ fs. ap (λ a. stacked e.call a fs) is ∙ sym (ap (λ b. framed (cond b (Some (InsideFrame s)) (cond (is_waiting of.kind) (Some (AwaitFrame s)) None)) fs) own);
      } in
      finish (made past e.who.0 of s.0 true) is_new alive.0
