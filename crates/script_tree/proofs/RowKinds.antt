-- How each part of a program ends by the rows: statements with the variables or at a `return`, calls with an answer, procedures with a result.
use Rattle.std.proofs.Common.{◌≡◌, ℕ, refl, ap, sym, subst}
use Rattle.user_model.specs.declared.call.Call.{Call}
use Rattle.user_model.specs.declared.call.Call.TheVariants.{Doom, SleepUntil}
use Rattle.user_model.specs.declared.entry.Answer.{Answer}
use Rattle.user_model.specs.declared.entry.Answer.TheVariants.{Refused}
use Rattle.script_tree.specs.declared.statement.CompoundStatement.{CompoundStatement}
use Rattle.script_tree.specs.declared.statement.CompoundStatement.TheVariants.{PostAll, NotifyAll, Pump, Dialog as DialogOf}
use Rattle.script_tree.specs.declared.frame.Modal.{Modal}
use Rattle.script_tree.specs.declared.frame.Modal.TheVariants.{Pump as PumpLoop, Dialog as DialogLoop}
use Rattle.script_tree.specs.declared.variables.Parameters.{Parameters}
use Rattle.script_tree.specs.declared.variables.Variables.{Variables}
use Rattle.script_tree.specs.Tree.{Tree}
use Rattle.script_tree.specs.Values.{value_of, call_of, settling_call, creation_call, time_after}
use Rattle.script_tree.specs.Pieces.{State, Going, Returning, Given, Trace}
use Rattle.script_tree.specs.Rows.{Point, At, CutBefore, on, settling, giving, returning, restoring, defaulting, undone, concluding, Part, Body, Line, Asleep, Frame, Exit, Rows, call_cut, after_cut, body_over, body, body_left, lets, computes, if_holds, if_fails, if_first, if_second, while_ends, while_left, while_cut, while_again, while_yields, returns, makes, sleeps, asleep_refused, asleep, defaults, destroys, creates, compounds, call_waits, call_enters, call_back, leave_back, call_inside, call_calls, call_begins, call_ends, frame, exit_returned, exit_callback, exit_default, default_close, default_paint, default_erase, default_activate, default_cancel, default_greeting, default_other, destruction, doom_refused, doomed, unmaking, unmade_tell, unmade_last, unmade_refused, unmade_gone, create_refused, create_none, created, greeted_no, greeted, told_refused, told_no, told, compound_part, notifying, notified_refused, notified, sends_over, sends_next, broadcasts, found_refused, found_none, found, loop_part, quit_part, fetches, fetched_refused, fetched_none, fetched_quit, fetched_key, fetched, hands, closes_pump, opens, opened_refused, opened_alone, opened, disabled, disabled_before, asks, asked_running, asked_finished, asked_refused, asked_gone, quits, finishes, closes_alone, closes_dialog, thread}

-- an answer, or a cut
abbrev pub IsGiven : Point → Type 0
IsGiven (At (Given v a x)) = Unit {0}
IsGiven (At st) = ⊥
IsGiven (CutBefore call) = Unit {0}

-- a result, or a cut
abbrev pub IsReturned : Point → Type 0
IsReturned (At (Returning v x)) = Unit {0}
IsReturned (At st) = ⊥
IsReturned (CutBefore call) = Unit {0}

-- no answer
abbrev pub IsRun : Point → Type 0
IsRun (At (Given v a x)) = ⊥
IsRun (At st) = Unit {0}
IsRun (CutBefore call) = Unit {0}

-- how a part ends
abbrev pub HasKind : Part → Point → Type 0
HasKind (Body lines) out = IsRun out
HasKind (Line line) out = IsRun out
HasKind (Asleep ms) out = IsRun out
HasKind (Frame run) out = IsReturned out
HasKind (Exit run) out = IsReturned out
HasKind part out = IsGiven out

pub cut_kind : (part : Part) (call : Call) → HasKind part (CutBefore call)
cut_kind (Body lines) call = tt
cut_kind (Line line) call = tt
cut_kind (Asleep ms) call = tt
cut_kind (Frame run) call = tt
cut_kind (Exit run) call = tt
cut_kind part call = tt

part_given : (c : CompoundStatement) (v : Variables) (out : Point) → HasKind (compound_part c v) out → IsGiven out
part_given (PostAll m p q) v out k = k
part_given (NotifyAll m p q) v out k = k
part_given Pump v out k = k
part_given (DialogOf w) v out k = k
part_given c v out k = k

loop_given : (l : Modal) (out : Point) → HasKind (loop_part l) out → IsGiven out
loop_given PumpLoop out k = k
loop_given (DialogLoop d) out k = k

quit_given : (l : Modal) (code : ℕ) (out : Point) → HasKind (quit_part l code) out → IsGiven out
quit_given PumpLoop code out k = k
quit_given (DialogLoop d) code out k = k

settling_run : (call : Call) (got : Point) → IsGiven got → IsRun (on (settling call) got)
settling_run call (At (Given v a x)) k = tt
settling_run call (At st) k = absurd k
settling_run call (CutBefore c) k = tt

defaulting_given : (x : _) (got : Point) → IsGiven got → IsGiven (on (defaulting x) got)
defaulting_given x (At (Given v (Refused code) y)) k = tt
defaulting_given x (At (Given v a y)) k = tt
defaulting_given x (At st) k = absurd k
defaulting_given x (CutBefore c) k = tt

-- the answer to the one call of a compound is its end
abbrev pub answering : State → State
answering (Given v a x) = Given v a 0
answering st = st

pub answering_given : (got : Point) → IsGiven got → IsGiven (on answering got)
answering_given (At (Given v a x)) k = tt
answering_given (At st) k = absurd k
answering_given (CutBefore c) k = tt

-- which makes nothing else of the result of the default procedure
answered_default : (x : ℕ) (st : State) → defaulting x st ≡ defaulting x (answering st)
answered_default x (Given v (Refused code) y) = refl
answered_default x (Given v a y) = refl
answered_default x (Going v) = refl
answered_default x (Returning v y) = refl

pub default_answered : (x : ℕ) (got : Point) → on (defaulting x) got ≡ on (defaulting x) (on answering got)
default_answered x (At st) = ap At (answered_default x st)
default_answered x (CutBefore c) = refl

giving_given : (a : Answer) (got : Point) → IsReturned got → IsGiven (on (giving a) got)
giving_given a (At (Returning v x)) k = tt
giving_given a (At st) k = absurd k
giving_given a (CutBefore c) k = tt

returning_returned : (x : _) (got : Point) → IsGiven got → IsReturned (on (returning x) got)
returning_returned x (At (Given v a y)) k = tt
returning_returned x (At st) k = absurd k
returning_returned x (CutBefore c) k = tt

restoring_returned : (p : Parameters) (got : Point) → IsReturned got → IsReturned (on (restoring p) got)
restoring_returned p (At (Returning v x)) k = tt
restoring_returned p (At st) k = absurd k
restoring_returned p (CutBefore c) k = tt

undone_given : (got : Point) → IsGiven got → IsGiven (on undone got)
undone_given (At (Given v a x)) k = tt
undone_given (At st) k = absurd k
undone_given (CutBefore c) k = tt

concluding_given : (b : Answer) (got : Point) → IsGiven got → IsGiven (on (concluding b) got)
concluding_given b (At (Given v a x)) k = tt
concluding_given b (At st) k = absurd k
concluding_given b (CutBefore c) k = tt

module _ (s : Tree) where
  pub kind : {part : Part} {before : Point} {tr : Trace} {out : Point} → Rows s part before tr out → HasKind part out
  kind call_cut = tt
  kind (after_cut {part} {call}) = cut_kind part call
  kind body_over = tt
  kind (body d e f) = kind e
  kind body_left = tt
  kind lets = tt
  kind computes = tt
  kind (if_holds h d) = kind d
  kind (if_fails h) = tt
  kind (if_first h d) = kind d
  kind (if_second h d) = kind d
  kind (while_ends h) = tt
  kind (while_left h d) = tt
  kind (while_cut h d) = tt
  kind (while_again h d g e f) = kind e
  kind (while_yields h d c e f) = kind e
  kind returns = tt
  kind (makes {ask = ask} {v = v} {got = got} d f) = subst IsRun (sym f) (settling_run (call_of ask v) got (kind d))
  kind (sleeps d e f) = kind e
  kind (asleep_refused h) = tt
  kind (asleep {ms = ms} {x = x} {got = got} h d f) = subst IsRun (sym f) (settling_run (SleepUntil (time_after x ms)) got (kind d))
  kind (defaults {v = v} {got = got} d f) = subst IsRun (sym f) (settling_run (Doom v.parameters.hwnd) got (kind d))
  kind (destroys {e = e} {v = v} {got = got} d f) = subst IsRun (sym f) (settling_run (Doom (value_of e v)) got (kind d))
  kind (creates {c = c} {v = v} {got = got} d e f g) = subst IsRun (sym g) (settling_run (creation_call c v) got (kind e))
  kind (compounds {c = c} {v = v} {got = got} d f) = subst IsRun (sym f) (settling_run (settling_call c v) got (part_given c v got (kind d)))
  kind (call_waits d) = kind d
  kind (call_enters h d e f) = kind e
  kind (call_back h g d e f) = kind e
  kind (leave_back {mid = mid} h g d f) = subst IsGiven (sym f) (giving_given _ mid (kind d))
  kind (call_inside {mid = mid} h d f) = subst IsGiven (sym f) (giving_given _ mid (kind d))
  kind (call_calls {mid = mid} h d f) = subst IsGiven (sym f) (giving_given _ mid (kind d))
  kind (call_begins h d) = kind d
  kind (call_ends h) = tt
  kind (frame {end = end} d e f g) = subst IsReturned (sym g) (restoring_returned _ end (kind e))
  kind (exit_returned {got = got} d f) = subst IsReturned (sym f) (returning_returned _ got (kind d))
  kind (exit_callback {got = got} h d f) = subst IsReturned (sym f) (returning_returned _ got (kind d))
  kind (exit_default h d e f) = kind e
  kind (default_close {got = got} h d f) = subst IsGiven (sym f) (defaulting_given 0 got (kind d))
  kind (default_paint {got = got} h d f) = subst IsGiven (sym f) (defaulting_given 0 got (kind d))
  kind (default_erase {got = got} h d f) = subst IsGiven (sym f) (defaulting_given 1 got (kind d))
  kind (default_activate {got = got} h g d f) = subst IsGiven (sym f) (defaulting_given 0 got (kind d))
  kind (default_cancel {got = got} h d f) = subst IsGiven (sym f) (defaulting_given 0 got (kind d))
  kind (default_greeting h) = tt
  kind (default_other h g k a c i) = tt
  kind (destruction d e f) = kind e
  kind (doom_refused h) = tt
  kind (doomed h d) = kind d
  kind (unmaking d e f) = kind e
  kind (unmade_tell d e f) = kind e
  kind (unmade_last c d e f) = kind e
  kind (unmade_refused h) = tt
  kind (unmade_gone h) = tt
  kind (create_refused h) = tt
  kind (create_none h) = tt
  kind (created d e f) = kind e
  kind (greeted_no {got = got} h d f) = subst IsGiven (sym f) (undone_given got (kind d))
  kind (greeted h d e f) = kind e
  kind (told_refused {got = got} h d f) = subst IsGiven (sym f) (undone_given got (kind d))
  kind (told_no {got = got} h g d f) = subst IsGiven (sym f) (undone_given got (kind d))
  kind (told h g) = tt
  kind (notifying d e f) = kind e
  kind (notified_refused h) = tt
  kind (notified h d) = kind d
  kind (sends_over h) = tt
  kind (sends_next h d e f) = kind e
  kind (broadcasts d e f) = kind e
  kind (found_refused h) = tt
  kind (found_none h g) = tt
  kind (found h g d e f) = kind e
  kind (fetches d e f) = kind e
  kind (fetched_refused h d) = kind d
  kind (fetched_none h d) = kind d
  kind (fetched_quit {l = l} {msg = msg} {out = out} h d) = quit_given l msg.wparam out (kind d)
  kind (fetched_key h d e f) = kind e
  kind (fetched h g d) = kind d
  kind (hands {l = l} {out = out} d e f) = loop_given l out (kind e)
  kind closes_pump = tt
  kind (opens d e f) = kind e
  kind (opened_refused h) = tt
  kind (opened_alone h g d) = kind d
  kind (opened h g d e f) = kind e
  kind (disabled h d) = kind d
  kind (disabled_before h d) = kind d
  kind (asks d e f) = kind e
  kind (asked_running d) = kind d
  kind (asked_finished d) = kind d
  kind (asked_refused h d) = kind d
  kind (asked_gone h d) = kind d
  kind (quits d e f) = kind e
  kind (finishes d e f) = kind e
  kind (closes_alone h) = tt
  kind (closes_dialog {a = a} {got = got} h d f) = subst IsGiven (sym f) (concluding_given a got (kind d))
  kind (thread d e f) = kind e
