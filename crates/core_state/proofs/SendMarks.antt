-- The marks of ready lists after an entry.
use Rattle.std.proofs.Common.{◌≡◌, ◌∙◌, ℕ, ◌+◌, Bool, true, false, not, cond, List, ◌∷◌, length, Option, Some, None, refl, sym, ap, subst, arith}
use Rattle.std.specs.Prelude.{◌&&◌, ◌==◌}
use Rattle.std.proofs.lemmas.Bool.{false≢true}
use Rattle.std.proofs.lemmas.Bool.Decides.{nat_tests}
use Rattle.win_num.specs.declared.message.Thread.{Thread}
use Rattle.win_rows.specs.declared.window.Window.{Window}
use Rattle.user_model.specs.declared.call.Call.{Call}
use Rattle.user_model.specs.declared.call.Call.TheVariants as calls
use Rattle.user_model.specs.declared.entry.Answer.{Answer}
use Rattle.user_model.specs.declared.entry.Answer.TheVariants as answers
use Rattle.user_model.specs.declared.entry.Entry.{Entry}
use Rattle.user_model.specs.declared.entry.Setup.{Setup}
use Rattle.user_model.specs.Past.{Past, is_full, is_refused, place_after}
use Rattle.user_model.specs.Idle.{reply}
use Rattle.user_model.specs.Status.{is_look}
use Rattle.user_model.specs.Threads.{is_running}
use Rattle.user_model.proofs.ReplyLaws.{by_call, is_of_clock}
use Rattle.send_frames.specs.declared.row.SendRow.{SendRow}
use Rattle.send_variants.specs.Lists.{AreBelow, list_of}
use Rattle.send_state.specs.Parts.{SendParts, finished, looked, rank, timed_out}
use Rattle.send_state.specs.Standing.{IsOurs, MarksStand, PartsStand}
use Rattle.send_state.proofs.Marks.{left-marks, lost-marks, marks-look, marks-other, marks-refused, replied-marks}
use Rattle.core_state.specs.Sendings.{FitsLook, added_sends, affected_sends, begun_with, called_back, dropped_sends, is_answered_in, is_looking, is_of, left_by_call, looked_by, replied_by_call, replied_if, sending, waited}
use Rattle.core_state.proofs.Threads.{in_book}

-- ---- an entry's sends leave the marks

begun_marks : (place : ℕ) (o : Option SendRow) (p : SendParts) → (begun_with place o p).marks ≡ p.marks
begun_marks place None p = refl
begun_marks place (Some row) p = refl

added_marks : (ws : List Window) (time place : ℕ) (who : Thread) (a : Answer) (call : Call) (p : SendParts) → (added_sends ws time place who a call p).marks ≡ p.marks
added_marks ws time place who (answers.Inside s n) call p = begun_marks place (sending ws time who call) p
added_marks ws time place who (answers.Begun s) call p = begun_marks place (sending ws time who call) p
added_marks ws time place who _ call p = refl

left_marks : (place who : ℕ) (call : Call) (p : SendParts) → (left_by_call place who call p).marks ≡ p.marks
left_marks place who (calls.Leave v) p = left-marks p who v place
left_marks place who _ p = refl

called_marks : (place who : ℕ) (call : Call) (p : SendParts) → (called_back place who call p).marks ≡ p.marks
called_marks place who (calls.Leave v) p = left-marks p who v place
called_marks place who _ p = refl

reply_marks : (place who : ℕ) (call : Call) (p : SendParts) → (replied_by_call place who call p).marks ≡ p.marks
reply_marks place who (calls.Reply v) p = replied-marks p who v place
reply_marks place who _ p = refl

replied_marks : (first : Bool) (place who : ℕ) (call : Call) (p : SendParts) → (replied_if first place who call p).marks ≡ p.marks
replied_marks true place who call p = reply_marks place who call p
replied_marks false place who call p = refl

ended_wait : (b : Bool) (who s : ℕ) (p : SendParts) → (let q : SendParts = cond b (finished p who) (timed_out p who s) in q).marks ≡ p.marks
ended_wait true who s p = refl
ended_wait false who s p = refl

wait_marks : (who : ℕ) (call : Call) (p : SendParts) → (waited who call p).marks ≡ p.marks
wait_marks who (calls.Await s) p = ended_wait (is_answered_in p s) who s p
wait_marks who _ p = refl

dropped_marks : (ws : List Window) (place : ℕ) (call : Call) (p : SendParts) → (dropped_sends ws place call p).marks ≡ p.marks
dropped_marks ws place (calls.Drop v) p = lost-marks _ p place
dropped_marks ws place _ p = refl

affected_marks : (ws : List Window) (place who : ℕ) (a : Answer) (call : Call) (p : SendParts) → (affected_sends ws place who a call p).marks ≡ p.marks
affected_marks ws place who (answers.Callback s n w m extra v) call p = called_marks place who call p
affected_marks ws place who (answers.Left s) call p = left_marks place who call p
affected_marks ws place who (answers.Value v) call p = replied_marks (v == 1) place who call p
affected_marks ws place who (answers.Done v c) call p = wait_marks who call p
affected_marks ws place who answers.Okay call p = dropped_marks ws place call p
affected_marks ws place who answers.Ended call p = lost-marks (is_of ws who) p place
affected_marks ws place who _ call p = refl

pub marks_kept : (ws1 ws2 : List Window) (time place : ℕ) (e : Entry) (p q r : SendParts) → q ≡ added_sends ws1 time place e.who e.answer e.call p → r ≡ affected_sends ws2 place e.who.0 e.answer e.call q → r.marks ≡ p.marks
marks_kept ws1 ws2 time place e p q r added affected =
    ap (λ (s : SendParts). s.marks) affected ∙ affected_marks ws2 place e.who.0 e.answer e.call q
    ∙ ap (λ (s : SendParts). s.marks) added ∙ added_marks ws1 time place e.who e.answer e.call p

-- ---- a look

both_true : (b c : Bool) → (b && not c) ≡ true → (b ≡ true) × (c ≡ false)
both_true true false h = (refl, refl)
both_true true true h = absurd (false≢true h)
both_true false c h = absurd (false≢true h)

not_of_clock : (call : Call) → is_look call ≡ true → is_of_clock call ≡ false
not_of_clock (calls.Tick ms) h = absurd (false≢true h)
not_of_clock calls.Advance h = absurd (false≢true h)
not_of_clock _ h = refl

-- only a thread looks
looks_ours : (setup : Setup) (past : Past) (e : Entry) → e.answer ≡ reply setup past e.who.0 e.call → is_looking e ≡ true → IsOurs setup e.who.0
looks_ours setup past e right h =
    let parts = both_true (is_look e.call) (is_refused e) h in
    let running : is_running setup past e.who.0 ≡ true = (by_call setup past e.who.0 e.call e.answer (sym right) (not_of_clock e.call parts.0) parts.1).running in
    (grind (arith, nat_tests, running), grind (arith, nat_tests, running))

-- its place is above all that is ready
pub look_fits : (setup : Setup) (past : Past) (e : Entry) (place : ℕ) (p : SendParts) → is_full past ≡ false → e.answer ≡ reply setup past e.who.0 e.call → place ≡ place_after past → PartsStand setup (e ∷ past) p → is_looking e ≡ true → FitsLook p e.who.0 (place + 1)
look_fits setup past e place p room right here h looks =
    let next : place_after (e ∷ past) ≡ place + 1 = omega (arith, here) in
    record {
      is_one = in_book setup (e ∷ past) p e.who.0 h (looks_ours setup past e right looks);
      early = grind (arith, nat_tests, room, here);
      above = subst (λ n. AreBelow (rank n 0) (list_of p.lists e.who.0)) next (h.lists.below e.who.0);
    }

parts_looked : (b : Bool) (setup : Setup) (past : Past) (p : SendParts) (t n : ℕ) → PartsStand setup past p → PartsStand setup past (cond b (looked p t n) p)
parts_looked true setup past p t n h = record { book = h.book; lists = h.lists }
parts_looked false setup past p t n h = h

marks_looked : (setup : Setup) (past : Past) (e : Entry) (p : SendParts) → (is_looking e ≡ true → IsOurs setup e.who.0) → MarksStand setup past p.marks → MarksStand setup (e ∷ past) (looked_by e (length (e ∷ past)) p).marks
marks_looked setup past e p caller h = by (is_look e.call) refl (is_refused e) refl
  where
    told : (b c : Bool) → is_look e.call ≡ b → is_refused e ≡ c → is_looking e ≡ (b && not c)
    told b c l r = ap (λ d. d && not (is_refused e)) l ∙ ap (λ d. b && not d) r

    with_marks : (b : Bool) → is_looking e ≡ b → MarksStand setup (e ∷ past) (let q : SendParts = cond b (looked p e.who.0 (length (e ∷ past))) p in q).marks → MarksStand setup (e ∷ past) (looked_by e (length (e ∷ past)) p).marks
    with_marks b is m = subst (λ d. MarksStand setup (e ∷ past) (let q : SendParts = cond d (looked p e.who.0 (length (e ∷ past))) p in q).marks) (sym is) m

    by : (b : Bool) → is_look e.call ≡ b → (c : Bool) → is_refused e ≡ c → MarksStand setup (e ∷ past) (looked_by e (length (e ∷ past)) p).marks
    by true l false r = with_marks true (told true false l r) (marks-look setup past e p.marks r l (caller (told true false l r)) h)
    by true l true r = with_marks false (told true true l r) (marks-refused setup past e p.marks r h)
    by false l c r = with_marks false (told false c l r) (marks-other setup past e p.marks l h)

-- what is ready and the marks stand for the past with the entry
pub looks_stand : (setup : Setup) (past : Past) (e : Entry) (place : ℕ) (p q r : SendParts) → e.answer ≡ reply setup past e.who.0 e.call → place ≡ place_after past → MarksStand setup past p.marks → q.marks ≡ p.marks → PartsStand setup (e ∷ past) q → r ≡ looked_by e (place + 1) q
    → PartsStand setup (e ∷ past) r × MarksStand setup (e ∷ past) r.marks
looks_stand setup past e place p q r right here marks same parts is =
    let next : place + 1 ≡ length (e ∷ past) = omega (arith, here) in
    let told : r ≡ looked_by e (length (e ∷ past)) q = is ∙ ap (λ n. looked_by e n q) next in (
      subst (PartsStand setup (e ∷ past)) (sym told) (parts_looked (is_looking e) setup (e ∷ past) q e.who.0 (length (e ∷ past)) parts),
      subst (λ (s : SendParts). MarksStand setup (e ∷ past) s.marks) (sym told) (marks_looked setup past e q (looks_ours setup past e right) (subst (MarksStand setup past) (sym same) marks)),
    )
