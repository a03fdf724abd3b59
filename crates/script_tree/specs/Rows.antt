-- The traces of a thread as a reader of the script tells them: one row for each form of statement, call and procedure.
use Rattle.std.specs.Prelude.{◌≡◌, ◌≢◌, ℕ, not, Bool, true, false, if◌then◌else◌, List, [], ◌∷◌, ◌++◌, Some, None}
use Rattle.script_tree.specs.declared.messages.TheConstants.{WM_PAINT, WM_ERASEBKGND, WM_CLOSE, WM_ACTIVATE, WM_CANCELMODE, WM_NCCREATE, WM_CREATE, WM_DESTROY, WM_NCDESTROY}
use Rattle.win_num.specs.declared.message.Hwnd.{Hwnd}
use Rattle.win_num.specs.declared.message.Msg.{Msg}
use Rattle.win_num.specs.declared.names.TheConstants.{WM_QUIT, WM_KEYDOWN}
use Rattle.win_num.specs.declared.send.SendId.{SendId}
use Rattle.win_num.specs.declared.send.Frame.TheVariants.{Entered, Inside as InsideFrame, Called as CalledFrame, CallbackRun}
use Rattle.user_model.specs.declared.call.Call.{Call}
use Rattle.user_model.specs.declared.call.Call.TheVariants.{Get, PostQuit, Enable, BeginDialog, DialogState, EndDialog, Await, Leave, Doom, Unmake, Drop, NextTop, SetFocus, ReleaseCapture, Erase, Clock, SleepUntil, Yield, EndThread}
use Rattle.user_model.specs.declared.entry.Answer.{Answer}
use Rattle.user_model.specs.declared.entry.Answer.TheVariants.{Wait, Value, Window as WindowMade, Called, Inside, Begun, Enter, Callback, Tell, Last, Running, Finished, Got, Refused}
use Rattle.user_model.specs.declared.entry.Origin.{Origin}
use Rattle.user_model.specs.Stacks.{leaves, waits}
use Rattle.script_tree.specs.declared.operand.Letter.{Letter}
use Rattle.script_tree.specs.declared.operand.Operand.{Operand}
use Rattle.script_tree.specs.declared.operand.Operator.{Operator}
use Rattle.script_tree.specs.declared.operand.Test.{Test}
use Rattle.script_tree.specs.declared.statement.CallStatement.{CallStatement}
use Rattle.script_tree.specs.declared.statement.CompoundStatement.{CompoundStatement}
use Rattle.script_tree.specs.declared.statement.CompoundStatement.TheVariants.{PostAll, NotifyAll, Pump, Dialog as DialogOf}
use Rattle.script_tree.specs.declared.statement.Creation.{Creation}
use Rattle.script_tree.specs.declared.statement.Statement.{Statement, items-the_row-Statement}
use Rattle.script_tree.specs.declared.statement.Statement.TheVariants.{Let, Compute, If', IfElse', While', Return, Call as CallOf, Sleep, Create, Destroy, Compound as CompoundOf, Default}
use Rattle.script_tree.specs.declared.variables.Parameters.{Parameters}
use Rattle.script_tree.specs.declared.variables.Variables.{Variables}
use Rattle.script_tree.specs.declared.frame.Run.{Run}
use Rattle.script_tree.specs.declared.frame.Dialog.{Dialog}
use Rattle.script_tree.specs.declared.frame.Modal.{Modal}
use Rattle.script_tree.specs.declared.frame.Modal.TheVariants.{Pump as PumpLoop, Dialog as DialogLoop}
use Rattle.script_tree.specs.declared.frame.Notice.{Notice}
use Rattle.script_tree.specs.declared.frame.Notices.{Notices}
use Rattle.script_tree.specs.declared.frame.Broadcast.{Broadcast}
use Rattle.script_tree.specs.declared.frame.Spread.TheVariants.{Posts, Notifies}
use Rattle.script_tree.specs.Modals.{dialog_on, was_enabled}
use Rattle.script_tree.specs.Notices.{number_in, next_notice, others, notices_after, result_after}
use Rattle.script_tree.specs.Tree.{Tree, body_of, procedure_of}
use Rattle.script_tree.specs.Values.{value_of, computed, holds, assigned, call_of, first_call, settling_call, dispatch_of, translate_of, creation_call, time_after, start, inside_of, received, settled}
use Rattle.script_tree.specs.Compounds.{sent, validation, notice_call, broadcast, reach, default_result}
use Rattle.script_tree.specs.Pieces.{State, Going, Returning, Given, Trace, End, Whole, Cut}
use Rattle.script_tree.specs.Steps.{is_callback, is_last, parameters_from, parameters_of, run_of, result_of, variables_of}

-- where a part of a program begins, and where it ends
pub data Point : Type 0 where
  -- with the variables, the value of a `return` or the answer to a call
  At : State → Point
  -- the trace is cut before this call
  CutBefore : Call → Point

-- what a state becomes; a trace that is cut stays cut
abbrev pub on : (State → State) → Point → Point
on f (At st) = At (f st)
on f (CutBefore call) = CutBefore call

-- only the variables go on
abbrev pub going : State → State
going st = Going (variables_of st)

-- the answer to a statement's call sets r and err
abbrev pub settling : Call → State → State
settling call (Given v a x) = Going (settled v call a x)
settling call st = st

-- the result of a procedure is that of a call with this answer
abbrev pub giving : Answer → State → State
giving a (Returning v x) = Given v a x
giving a st = st

-- after the answer to a call a procedure has this result
abbrev pub returning : ℕ → State → State
returning x (Given v a y) = Returning v x
returning x st = st

-- the parameters of the procedure around come back
abbrev pub restoring : Parameters → State → State
restoring p (Going v) = Going (inside_of v p)
restoring p (Returning v x) = Returning (inside_of v p) x
restoring p st = st

-- the default procedure has this result, where what it makes isn't refused
abbrev pub defaulting : ℕ → State → State
defaulting x (Given v (Refused code) y) = Given v (Refused code) 0
defaulting x (Given v a y) = Given v (Value x) 0
defaulting x st = st

-- a compound ends with an answer, and without a procedure's result
abbrev pub ended : Variables → Answer → Point
ended v a = At (Given v a 0)

-- a `create` whose window was destroyed ends with 0
abbrev pub undone : State → State
undone (Given v a x) = Given v (Value 0) 0
undone st = st

-- whether the answer ends a call that isn't a thread's last: no procedure runs, and no send is waited for
abbrev pub ends_call : Call → Answer → Bool
ends_call call (Enter s proc_no w number wparam lparam) = false
ends_call call (Callback s proc_no w number extra result) = false
ends_call call (Inside s proc_no) = false
ends_call call (Called proc_no) = false
ends_call call (Begun s) = not (waits call)
ends_call call a = true

-- whether the answer is the last of its call; that to the last call of a thread is, except `wait`
abbrev pub is_final : Call → Answer → Bool
is_final call Wait = false
is_final call a = if is_last call then true else ends_call call a

-- whether a call was refused
abbrev pub is_refusal : Answer → Bool
is_refusal (Refused code) = true
is_refusal _ = false

-- whether an answer to `new_window` is a window or a refusal
abbrev pub is_made : Answer → Bool
is_made (WindowMade w) = true
is_made (Refused code) = true
is_made _ = false

-- whether an answer to `unmake` leaves something to be done, or is a refusal
abbrev pub is_undone : Answer → Bool
is_undone (Tell w) = true
is_undone (Last w) = true
is_undone (Refused code) = true
is_undone _ = false

-- whether an answer to `get` is a message or a refusal
abbrev pub is_fetched : Answer → Bool
is_fetched (Got origin number msg) = true
is_fetched (Refused code) = true
is_fetched _ = false

-- whether an answer to `dialog_state` tells that the dialog runs or its result, or is a refusal
abbrev pub is_standing : Answer → Bool
is_standing Running = true
is_standing (Finished v) = true
is_standing (Refused code) = true
is_standing _ = false

-- a dialog ends with that answer, whatever became of its owner
abbrev pub concluding : Answer → State → State
concluding b (Given v a x) = Given v b 0
concluding b st = st

-- the procedure of a send that is entered
abbrev pub entered : SendId → ℕ → ℕ → ℕ → ℕ → ℕ → Run
entered s proc_no w number wparam lparam = run_of proc_no (parameters_from w number wparam lparam) (Entered s)

-- the procedure of a callback: the extra value and the result are its parameters
abbrev pub called_back : ℕ → ℕ → ℕ → ℕ → ℕ → Run
called_back proc_no w number extra result = run_of proc_no (parameters_from w number extra result) CallbackRun

-- parts of a program that have a trace
pub data Part : Type 0 where
  -- statements, one after another
  Body : List Statement → Part
  -- one statement
  Line : Statement → Part
  -- a `sleep` of so many milliseconds, behind its `clock`
  Asleep : ℕ → Part
  -- a call, its operands taken once
  Calls : Call → Part
  -- a procedure with its parameters
  Frame : Run → Part
  -- the end of a procedure, behind its statements
  Exit : Run → Part
  -- the default procedure
  DefaultFor : Parameters → Part
  -- the destruction of a window
  Destruction : ℕ → Part
  -- the same, behind its `doom`
  Doomed : ℕ → Part
  -- the same, from one of its `unmake` on
  Unmaking : ℕ → Part
  -- the same, behind that `unmake`
  Unmade : ℕ → Part
  -- a `create`, behind its `new_window`
  Created : Part
  -- the same, behind WM_NCCREATE
  Greeted : ℕ → Part
  -- the same, behind WM_CREATE
  Told : ℕ → Part
  -- a compound that makes a call and then sends messages
  Notifying : Call → Part
  -- the same, behind its call
  Notified : Call → Part
  -- messages, one after another, and the result of the compound that sends them
  Sends : Notices → ℕ → Part
  -- a message to each top-level window above that one
  Broadcasts : Broadcast → ℕ → Part
  -- the same, behind the `next_top` that asks for the first of them
  Found : Broadcast → Part
  -- a loop of messages, from one of its `get` on
  Fetches : Modal → Part
  -- the same, behind that `get`
  Fetched : Modal → Part
  -- the same, with a message that goes to its window's procedure
  Hands : Modal → Msg → Part
  -- the same, where the loop is over with that answer
  Closes : Modal → Answer → Part
  -- a dialog on that window
  Opens : ℕ → Part
  -- the same, behind its `begin_dialog`
  Opened : ℕ → Part
  -- the same, behind the compound that disables its owner
  Disabled : Dialog → Part
  -- the same, from one of its `dialog_state` on
  Asks : Dialog → Part
  -- the same, behind that `dialog_state`
  Asked : Dialog → Part
  -- the same, where WM_QUIT came with that code
  Quits : Dialog → ℕ → Part
  -- the same, behind the `post_quit` for that
  Finishes : Dialog → Part
  -- a thread
  Thread : ℕ → Part

-- where a loop of messages goes on
abbrev pub loop_part : Modal → Part
loop_part PumpLoop = Fetches PumpLoop
loop_part (DialogLoop d) = Asks d

-- what a loop does with a WM_QUIT of that code: `pump` is over, and the code is its result; a dialog posts it once more
abbrev pub quit_part : Modal → ℕ → Part
quit_part PumpLoop code = Closes PumpLoop (Value code)
quit_part (DialogLoop d) code = Quits d code

-- a compound statement of a message for each top-level window begins above no window, `pump` with its loop, and `dialog` on its window; any other makes its call and sends messages
abbrev pub compound_part : CompoundStatement → Variables → Part
compound_part (PostAll m p q) v = Broadcasts (broadcast Posts (value_of m v) (value_of p v) (value_of q v)) 0
compound_part (NotifyAll m p q) v = Broadcasts (broadcast Notifies (value_of m v) (value_of p v) (value_of q v)) 0
compound_part Pump v = loop_part PumpLoop
compound_part (DialogOf w) v = Opens (value_of w v)
compound_part c v = Notifying (first_call c v)

-- The part has that trace, from the place before it to the place after it.
pub data Rows (s : Tree) : Part → Point → Trace → Point → Type 0 where
  -- any call may be cut
  call_cut : {call : Call} {v : Variables} → Rows s (Calls call) (At (Going v)) [] (CutBefore call)
  -- after a cut all that follows is empty
  after_cut : {part : Part} {call : Call} → Rows s part (CutBefore call) [] (CutBefore call)
  -- no statements: nothing
  body_over : {v : Variables} → Rows s (Body []) (At (Going v)) [] (At (Going v))
  -- statements: the trace of the first, and then that of the others
  body : {line : Statement} {lines : List Statement} {v : Variables} {tr first second : Trace} {mid out : Point} → Rows s (Line line) (At (Going v)) first mid → Rows s (Body lines) mid second out → tr ≡ first ++ second → Rows s (Body (line ∷ lines)) (At (Going v)) tr out
  -- after a `return` nothing of them follows
  body_left : {lines : List Statement} {v : Variables} {x : ℕ} → Rows s (Body lines) (At (Returning v x)) [] (At (Returning v x))
  -- `let` sets a variable
  lets : {x : Letter} {e : Operand} {v : Variables} → Rows s (Line (Let x e)) (At (Going v)) [] (At (Going (assigned v x (value_of e v))))
  -- `let` with an operator
  computes : {x : Letter} {e f : Operand} {op : Operator} {v : Variables} → Rows s (Line (Compute x e op f)) (At (Going v)) [] (At (Going (assigned v x (computed (value_of e v) op (value_of f v)))))
  -- `if` whose test holds: its body
  if_holds : {t : Test} {k : _} {a : _} {v : Variables} {tr : Trace} {out : Point} → holds t v ≡ true → Rows s (Body (items-the_row-Statement _ a)) (At (Going v)) tr out → Rows s (Line (If' t k a)) (At (Going v)) tr out
  -- `if` whose test fails: nothing
  if_fails : {t : Test} {k : _} {a : _} {v : Variables} → holds t v ≡ false → Rows s (Line (If' t k a)) (At (Going v)) [] (At (Going v))
  -- `if` with `else`: the first body where the test holds
  if_first : {t : Test} {k j : _} {a : _} {b : _} {v : Variables} {tr : Trace} {out : Point} → holds t v ≡ true → Rows s (Body (items-the_row-Statement _ a)) (At (Going v)) tr out → Rows s (Line (IfElse' t k a j b)) (At (Going v)) tr out
  -- and the second where it fails
  if_second : {t : Test} {k j : _} {a : _} {b : _} {v : Variables} {tr : Trace} {out : Point} → holds t v ≡ false → Rows s (Body (items-the_row-Statement _ b)) (At (Going v)) tr out → Rows s (Line (IfElse' t k a j b)) (At (Going v)) tr out
  -- `while` whose test fails: nothing
  while_ends : {t : Test} {k : _} {a : _} {v : Variables} → holds t v ≡ false → Rows s (Line (While' t k a)) (At (Going v)) [] (At (Going v))
  -- `while` whose body comes to a `return`: that is all
  while_left : {t : Test} {k : _} {a : _} {v v1 : Variables} {x : ℕ} {tr : Trace} → holds t v ≡ true → Rows s (Body (items-the_row-Statement _ a)) (At (Going v)) tr (At (Returning v1 x)) → Rows s (Line (While' t k a)) (At (Going v)) tr (At (Returning v1 x))
  -- `while` whose body is cut: that is all
  while_cut : {t : Test} {k : _} {a : _} {v : Variables} {call : Call} {tr : Trace} → holds t v ≡ true → Rows s (Body (items-the_row-Statement _ a)) (At (Going v)) tr (CutBefore call) → Rows s (Line (While' t k a)) (At (Going v)) tr (CutBefore call)
  -- `while` whose body made an entry: that trace, and then that of the same `while`
  while_again : {t : Test} {k : _} {a : _} {v v1 : Variables} {tr first second : Trace} {out : Point} → holds t v ≡ true → Rows s (Body (items-the_row-Statement _ a)) (At (Going v)) first (At (Going v1)) → first ≢ [] → Rows s (Line (While' t k a)) (At (Going v1)) second out → tr ≡ first ++ second → Rows s (Line (While' t k a)) (At (Going v)) tr out
  -- `while` whose body made none: `yield`, and then the same `while`
  while_yields : {t : Test} {k : _} {a : _} {v v1 : Variables} {tr first second : Trace} {mid out : Point} → holds t v ≡ true → Rows s (Body (items-the_row-Statement _ a)) (At (Going v)) [] (At (Going v1)) → Rows s (Calls Yield) (At (Going v1)) first mid → Rows s (Line (While' t k a)) (on going mid) second out → tr ≡ first ++ second → Rows s (Line (While' t k a)) (At (Going v)) tr out
  -- `return` ends the statements with its value
  returns : {e : Operand} {v : Variables} → Rows s (Line (Return e)) (At (Going v)) [] (At (Returning v (value_of e v)))
  -- a statement that makes a call: that call, whose answer sets r and err
  makes : {ask : CallStatement} {v : Variables} {tr : Trace} {got out : Point} → Rows s (Calls (call_of ask v)) (At (Going v)) tr got → out ≡ on (settling (call_of ask v)) got → Rows s (Line (CallOf ask)) (At (Going v)) tr out
  -- `sleep`: the clock, and then the rest of the `sleep`
  sleeps : {e : Operand} {v : Variables} {tr first second : Trace} {got out : Point} → Rows s (Calls Clock) (At (Going v)) first got → Rows s (Asleep (value_of e v)) got second out → tr ≡ first ++ second → Rows s (Line (Sleep e)) (At (Going v)) tr out
  -- a refused clock ends it
  asleep_refused : {ms x : ℕ} {v : Variables} {a : Answer} → is_refusal a ≡ true → Rows s (Asleep ms) (At (Given v a x)) [] (At (Going (settled v Clock a x)))
  -- else it sleeps until so many milliseconds after the clock
  asleep : {ms x : ℕ} {v : Variables} {a : Answer} {tr : Trace} {got out : Point} → is_refusal a ≡ false → Rows s (Calls (SleepUntil (time_after x ms))) (At (Going (settled v Clock a x))) tr got → out ≡ on (settling (SleepUntil (time_after x ms))) got → Rows s (Asleep ms) (At (Given v a x)) tr out
  -- `default`: the default procedure, which sets r and err at its end: to its result and 0, or to 0 and the refusal
  defaults : {v : Variables} {tr : Trace} {got out : Point} → Rows s (DefaultFor v.parameters) (At (Going v)) tr got → out ≡ on (settling (Doom v.parameters.hwnd)) got → Rows s (Line Default) (At (Going v)) tr out
  -- `destroy`: the destruction of the window, which sets r and err at its end
  destroys : {e : Operand} {v : Variables} {tr : Trace} {got out : Point} → Rows s (Destruction (value_of e v)) (At (Going v)) tr got → out ≡ on (settling (Doom (value_of e v))) got → Rows s (Line (Destroy e)) (At (Going v)) tr out
  -- `create`: `new_window`, and then the rest of the `create`, which sets r and err at its end
  creates : {c : Creation} {v : Variables} {tr first second : Trace} {mid got out : Point} → Rows s (Calls (creation_call c v)) (At (Going v)) first mid → Rows s Created mid second got → tr ≡ first ++ second → out ≡ on (settling (creation_call c v)) got → Rows s (Line (Create c)) (At (Going v)) tr out
  -- one of the other compound statements, which sets r and err at its end
  compounds : {c : CompoundStatement} {v : Variables} {tr : Trace} {got out : Point} → Rows s (compound_part c v) (At (Going v)) tr got → out ≡ on (settling (settling_call c v)) got → Rows s (Line (CompoundOf c)) (At (Going v)) tr out
  -- an attempt that is told to wait, and then the same call
  call_waits : {call : Call} {v : Variables} {tr : Trace} {out : Point} → Rows s (Calls call) (At (Going v)) tr out → Rows s (Calls call) (At (Going v)) ((call, Wait) ∷ tr) out
  -- an attempt that is entered: the procedure of the send, and then the same call
  call_enters : {call : Call} {v : Variables} {sid : SendId} {proc_no number wparam lparam : ℕ} {w : Hwnd} {tr first second : Trace} {mid out : Point} → is_last call ≡ false → Rows s (Frame (entered sid proc_no w.0 number wparam lparam)) (At (Going v)) first mid → Rows s (Calls call) (on going mid) second out → tr ≡ first ++ second → Rows s (Calls call) (At (Going v)) ((call, Enter sid proc_no w number wparam lparam) ∷ tr) out
  -- an attempt that is called back: the callback procedure, and then the same call
  call_back : {call : Call} {v : Variables} {sid : SendId} {proc_no number extra result : ℕ} {w : Hwnd} {tr first second : Trace} {mid out : Point} → is_last call ≡ false → leaves call ≡ false → Rows s (Frame (called_back proc_no w.0 number extra result)) (At (Going v)) first mid → Rows s (Calls call) (on going mid) second out → tr ≡ first ++ second → Rows s (Calls call) (At (Going v)) ((call, Callback sid proc_no w number extra result) ∷ tr) out
  -- a `leave` that is called back: the callback procedure, and no second `leave`
  leave_back : {call : Call} {v : Variables} {sid : SendId} {proc_no number extra result : ℕ} {w : Hwnd} {tr : Trace} {mid out : Point} → is_last call ≡ false → leaves call ≡ true → Rows s (Frame (called_back proc_no w.0 number extra result)) (At (Going v)) tr mid → out ≡ on (giving (Callback sid proc_no w number extra result)) mid → Rows s (Calls call) (At (Going v)) ((call, Callback sid proc_no w number extra result) ∷ tr) out
  -- a send to an own window: its procedure, whose result is the send's
  call_inside : {call : Call} {v : Variables} {sid : SendId} {proc_no : ℕ} {tr : Trace} {mid out : Point} → is_last call ≡ false → Rows s (Frame (run_of proc_no (parameters_of call) (InsideFrame sid))) (At (Going v)) tr mid → out ≡ on (giving (Inside sid proc_no)) mid → Rows s (Calls call) (At (Going v)) ((call, Inside sid proc_no) ∷ tr) out
  -- a dispatched message: the procedure of its window, whose result is that of `dispatch`
  call_calls : {call : Call} {v : Variables} {proc_no : ℕ} {tr : Trace} {mid out : Point} → is_last call ≡ false → Rows s (Frame (run_of proc_no (parameters_of call) CalledFrame)) (At (Going v)) tr mid → out ≡ on (giving (Called proc_no)) mid → Rows s (Calls call) (At (Going v)) ((call, Called proc_no) ∷ tr) out
  -- a send that waits for another thread: then the call `await`, whose answer is the send's
  call_begins : {call : Call} {v : Variables} {sid : SendId} {tr : Trace} {out : Point} → waits call ≡ true → Rows s (Calls (Await sid.0)) (At (Going v)) tr out → Rows s (Calls call) (At (Going v)) ((call, Begun sid) ∷ tr) out
  -- any other answer ends the call, and a message that was got is the last one got
  call_ends : {call : Call} {v : Variables} {a : Answer} → is_final call a ≡ true → Rows s (Calls call) (At (Going v)) ((call, a) ∷ []) (At (Given (received v a) a (result_of a)))
  -- a procedure: its statements with its parameters, its exit, and then the parameters around it come back
  frame : {run : Run} {v : Variables} {tr first second : Trace} {mid end out : Point} → Rows s (Body (procedure_of s run.procedure)) (At (Going (inside_of v run.parameters))) first mid → Rows s (Exit run) mid second end → tr ≡ first ++ second → out ≡ on (restoring v.parameters) end → Rows s (Frame run) (At (Going v)) tr out
  -- after `return`: `leave` with its value, which is the result whatever that is answered
  exit_returned : {run : Run} {v : Variables} {x : ℕ} {tr : Trace} {got out : Point} → Rows s (Calls (Leave x)) (At (Going v)) tr got → out ≡ on (returning x) got → Rows s (Exit run) (At (Returning v x)) tr out
  -- at the end of a callback procedure: `leave 0`
  exit_callback : {run : Run} {v : Variables} {tr : Trace} {got out : Point} → is_callback run.frame ≡ true → Rows s (Calls (Leave 0)) (At (Going v)) tr got → out ≡ on (returning 0) got → Rows s (Exit run) (At (Going v)) tr out
  -- at the end of any other: the default procedure, and then as after a `return` of its result, whatever it was answered
  exit_default : {run : Run} {v : Variables} {tr first second : Trace} {mid out : Point} → is_callback run.frame ≡ false → Rows s (DefaultFor run.parameters) (At (Going v)) first mid → Rows s (Exit run) (on (returning (default_result run.parameters)) mid) second out → tr ≡ first ++ second → Rows s (Exit run) (At (Going v)) tr out
  -- the default procedure of WM_CLOSE: the destruction of the window, and the result 0 or the refusal
  default_close : {p : Parameters} {v : Variables} {tr : Trace} {got out : Point} → p.number ≡ WM_CLOSE → Rows s (Destruction p.hwnd) (At (Going v)) tr got → out ≡ on (defaulting 0) got → Rows s (DefaultFor p) (At (Going v)) tr out
  -- of WM_PAINT: the call that makes all of the window clean, and the result 0 or the refusal
  default_paint : {p : Parameters} {v : Variables} {tr : Trace} {got out : Point} → p.number ≡ WM_PAINT → Rows s (Calls (validation p.hwnd)) (At (Going v)) tr got → out ≡ on (defaulting 0) got → Rows s (DefaultFor p) (At (Going v)) tr out
  -- of WM_ERASEBKGND: the call that paints the window with the colour of its class, and the result 1 or the refusal
  default_erase : {p : Parameters} {v : Variables} {tr : Trace} {got out : Point} → p.number ≡ WM_ERASEBKGND → Rows s (Calls (Erase p.hwnd)) (At (Going v)) tr got → out ≡ on (defaulting 1) got → Rows s (DefaultFor p) (At (Going v)) tr out
  -- of WM_ACTIVATE with a wParam: the compound that gives the window the focus, and the result 0 or the refusal
  default_activate : {p : Parameters} {v : Variables} {tr : Trace} {got out : Point} → p.number ≡ WM_ACTIVATE → p.wparam ≢ 0 → Rows s (Notifying (SetFocus p.hwnd)) (At (Going v)) tr got → out ≡ on (defaulting 0) got → Rows s (DefaultFor p) (At (Going v)) tr out
  -- of WM_CANCELMODE: the compound that takes the capture away, and the result 0 or the refusal
  default_cancel : {p : Parameters} {v : Variables} {tr : Trace} {got out : Point} → p.number ≡ WM_CANCELMODE → Rows s (Notifying ReleaseCapture) (At (Going v)) tr got → out ≡ on (defaulting 0) got → Rows s (DefaultFor p) (At (Going v)) tr out
  -- of WM_NCCREATE: nothing, and the result 1
  default_greeting : {p : Parameters} {v : Variables} → p.number ≡ WM_NCCREATE → Rows s (DefaultFor p) (At (Going v)) [] (ended v (Value 1))
  -- of all other messages: nothing, and the result 0
  default_other : {p : Parameters} {v : Variables} → p.number ≢ WM_CLOSE → p.number ≢ WM_PAINT → p.number ≢ WM_ERASEBKGND → (p.number ≡ WM_ACTIVATE → p.wparam ≡ 0) → p.number ≢ WM_CANCELMODE → p.number ≢ WM_NCCREATE → Rows s (DefaultFor p) (At (Going v)) [] (ended v (Value 0))
  -- a destruction: `doom`, and then the rest
  destruction : {w : ℕ} {v : Variables} {tr first second : Trace} {got out : Point} → Rows s (Calls (Doom w)) (At (Going v)) first got → Rows s (Doomed w) got second out → tr ≡ first ++ second → Rows s (Destruction w) (At (Going v)) tr out
  -- a refused `doom` ends it
  doom_refused : {w x : ℕ} {v : Variables} {a : Answer} → is_refusal a ≡ true → Rows s (Doomed w) (At (Given v a x)) [] (ended v a)
  -- else `unmake` again and again
  doomed : {w x : ℕ} {v : Variables} {a : Answer} {tr : Trace} {out : Point} → is_refusal a ≡ false → Rows s (Unmaking w) (At (Going v)) tr out → Rows s (Doomed w) (At (Given v a x)) tr out
  -- one `unmake`, and what its answer asks for
  unmaking : {w : ℕ} {v : Variables} {tr first second : Trace} {got out : Point} → Rows s (Calls (Unmake w)) (At (Going v)) first got → Rows s (Unmade w) got second out → tr ≡ first ++ second → Rows s (Unmaking w) (At (Going v)) tr out
  -- a window is told that it is destroyed, and then the next `unmake`
  unmade_tell : {w x : ℕ} {told : Hwnd} {v : Variables} {tr first second : Trace} {mid out : Point} → Rows s (Calls (sent told.0 WM_DESTROY)) (At (Going v)) first mid → Rows s (Unmaking w) (on going mid) second out → tr ≡ first ++ second → Rows s (Unmade w) (At (Given v (Tell told) x)) tr out
  -- a window gets its last message and is dropped, and then the next `unmake`
  unmade_last : {w x : ℕ} {part : Hwnd} {v : Variables} {tr first second third : Trace} {mid after out : Point} → Rows s (Calls (sent part.0 WM_NCDESTROY)) (At (Going v)) first mid → Rows s (Calls (Drop part.0)) (on going mid) second after → Rows s (Unmaking w) (on going after) third out → tr ≡ first ++ (second ++ third) → Rows s (Unmade w) (At (Given v (Last part) x)) tr out
  -- a refused `unmake` ends it
  unmade_refused : {w x : ℕ} {v : Variables} {a : Answer} → is_refusal a ≡ true → Rows s (Unmade w) (At (Given v a x)) [] (ended v a)
  -- with `gone`, and with an answer that isn't one of `unmake`, it ends with 1
  unmade_gone : {w x : ℕ} {v : Variables} {a : Answer} → is_undone a ≡ false → Rows s (Unmade w) (At (Given v a x)) [] (ended v (Value 1))
  -- a `create` whose `new_window` is refused ends there
  create_refused : {x : ℕ} {v : Variables} {a : Answer} → is_refusal a ≡ true → Rows s Created (At (Given v a x)) [] (ended v a)
  -- with an answer that isn't one of `new_window` it ends with 0
  create_none : {x : ℕ} {v : Variables} {a : Answer} → is_made a ≡ false → Rows s Created (At (Given v a x)) [] (ended v (Value 0))
  -- the new window gets WM_NCCREATE
  created : {x : ℕ} {w : Hwnd} {v : Variables} {tr first second : Trace} {mid out : Point} → Rows s (Calls (sent w.0 WM_NCCREATE)) (At (Going v)) first mid → Rows s (Greeted w.0) mid second out → tr ≡ first ++ second → Rows s Created (At (Given v (WindowMade w) x)) tr out
  -- where its result is 0, as where it is refused, the window is destroyed
  greeted_no : {w x : ℕ} {v : Variables} {a : Answer} {tr : Trace} {got out : Point} → x ≡ 0 → Rows s (Destruction w) (At (Going v)) tr got → out ≡ on undone got → Rows s (Greeted w) (At (Given v a x)) tr out
  -- else it gets WM_CREATE
  greeted : {w x : ℕ} {v : Variables} {a : Answer} {tr first second : Trace} {mid out : Point} → x ≢ 0 → Rows s (Calls (sent w WM_CREATE)) (At (Going v)) first mid → Rows s (Told w) mid second out → tr ≡ first ++ second → Rows s (Greeted w) (At (Given v a x)) tr out
  -- where that is refused the window is destroyed
  told_refused : {w x : ℕ} {v : Variables} {a : Answer} {tr : Trace} {got out : Point} → is_refusal a ≡ true → Rows s (Destruction w) (At (Going v)) tr got → out ≡ on undone got → Rows s (Told w) (At (Given v a x)) tr out
  -- where its result is minus one too
  told_no : {w x : ℕ} {v : Variables} {a : Answer} {tr : Trace} {got out : Point} → is_refusal a ≡ false → x ≡ 18446744073709551615 → Rows s (Destruction w) (At (Going v)) tr got → out ≡ on undone got → Rows s (Told w) (At (Given v a x)) tr out
  -- else the window is the result
  told : {w x : ℕ} {v : Variables} {a : Answer} → is_refusal a ≡ false → x ≢ 18446744073709551615 → Rows s (Told w) (At (Given v a x)) [] (ended v (Value w))
  -- a compound that sends messages: its call, and then the rest
  notifying : {call : Call} {v : Variables} {tr first second : Trace} {got out : Point} → Rows s (Calls call) (At (Going v)) first got → Rows s (Notified call) got second out → tr ≡ first ++ second → Rows s (Notifying call) (At (Going v)) tr out
  -- where the call is refused it ends with that
  notified_refused : {call : Call} {x : ℕ} {v : Variables} {a : Answer} → is_refusal a ≡ true → Rows s (Notified call) (At (Given v a x)) [] (ended v a)
  -- else it sends what its row says after that answer, and then it has the result that its row says
  notified : {call : Call} {x : ℕ} {v : Variables} {a : Answer} {tr : Trace} {out : Point} → is_refusal a ≡ false → Rows s (Sends (notices_after call (number_in a)) (result_after call (number_in a))) (At (Going v)) tr out → Rows s (Notified call) (At (Given v a x)) tr out
  -- no messages are left
  sends_over : {n : Notices} {y : ℕ} {v : Variables} → next_notice n ≡ None → Rows s (Sends n y) (At (Going v)) [] (ended v (Value y))
  -- the next message is sent, whatever becomes of it, and then the others
  sends_next : {n : Notices} {x : Notice} {y : ℕ} {v : Variables} {tr first second : Trace} {mid out : Point} → next_notice n ≡ Some x → Rows s (Calls (notice_call x)) (At (Going v)) first mid → Rows s (Sends (others n) y) (on going mid) second out → tr ≡ first ++ second → Rows s (Sends n y) (At (Going v)) tr out
  -- a message to each top-level window: `next_top`, and then the rest
  broadcasts : {b : Broadcast} {w : ℕ} {v : Variables} {tr first second : Trace} {got out : Point} → Rows s (Calls (NextTop w)) (At (Going v)) first got → Rows s (Found b) got second out → tr ≡ first ++ second → Rows s (Broadcasts b w) (At (Going v)) tr out
  -- a refused `next_top` ends it
  found_refused : {b : Broadcast} {x : ℕ} {v : Variables} {a : Answer} → is_refusal a ≡ true → Rows s (Found b) (At (Given v a x)) [] (ended v a)
  -- where there is no window above it ends with 1
  found_none : {b : Broadcast} {x : ℕ} {v : Variables} {a : Answer} → is_refusal a ≡ false → number_in a ≡ 0 → Rows s (Found b) (At (Given v a x)) [] (ended v (Value 1))
  -- the message goes to the window, whatever becomes of it, and then to those above
  found : {b : Broadcast} {x : ℕ} {v : Variables} {a : Answer} {tr first second : Trace} {mid out : Point} → is_refusal a ≡ false → number_in a ≢ 0 → Rows s (Calls (reach b (number_in a))) (At (Going v)) first mid → Rows s (Broadcasts b (number_in a)) (on going mid) second out → tr ≡ first ++ second → Rows s (Found b) (At (Given v a x)) tr out
  -- a loop of messages: `get`, and then what comes
  fetches : {l : Modal} {v : Variables} {tr first second : Trace} {got out : Point} → Rows s (Calls (Get 0 0 0)) (At (Going v)) first got → Rows s (Fetched l) got second out → tr ≡ first ++ second → Rows s (Fetches l) (At (Going v)) tr out
  -- a refused `get` ends it
  fetched_refused : {l : Modal} {x : ℕ} {v : Variables} {a : Answer} {tr : Trace} {out : Point} → is_refusal a ≡ true → Rows s (Closes l a) (At (Going v)) tr out → Rows s (Fetched l) (At (Given v a x)) tr out
  -- with an answer that isn't one of `get` it ends with 0
  fetched_none : {l : Modal} {x : ℕ} {v : Variables} {a : Answer} {tr : Trace} {out : Point} → is_fetched a ≡ false → Rows s (Closes l (Value 0)) (At (Going v)) tr out → Rows s (Fetched l) (At (Given v a x)) tr out
  -- WM_QUIT comes
  fetched_quit : {l : Modal} {o : Origin} {number x : ℕ} {msg : Msg} {v : Variables} {tr : Trace} {out : Point} → msg.number ≡ WM_QUIT → Rows s (quit_part l msg.wparam) (At (Going v)) tr out → Rows s (Fetched l) (At (Given v (Got o number msg) x)) tr out
  -- a key goes down: `translate`, whatever becomes of that, and then the message goes to its window's procedure
  fetched_key : {l : Modal} {o : Origin} {number x : ℕ} {msg : Msg} {v : Variables} {tr first second : Trace} {mid out : Point} → msg.number ≡ WM_KEYDOWN → Rows s (Calls (translate_of msg)) (At (Going v)) first mid → Rows s (Hands l msg) (on going mid) second out → tr ≡ first ++ second → Rows s (Fetched l) (At (Given v (Got o number msg) x)) tr out
  -- any other message goes there at once
  fetched : {l : Modal} {o : Origin} {number x : ℕ} {msg : Msg} {v : Variables} {tr : Trace} {out : Point} → msg.number ≢ WM_QUIT → msg.number ≢ WM_KEYDOWN → Rows s (Hands l msg) (At (Going v)) tr out → Rows s (Fetched l) (At (Given v (Got o number msg) x)) tr out
  -- `dispatch`, whatever becomes of it, and then the loop goes on
  hands : {l : Modal} {msg : Msg} {v : Variables} {tr first second : Trace} {mid out : Point} → Rows s (Calls (dispatch_of msg)) (At (Going v)) first mid → Rows s (loop_part l) (on going mid) second out → tr ≡ first ++ second → Rows s (Hands l msg) (At (Going v)) tr out
  -- `pump` ends with the answer of its loop
  closes_pump : {a : Answer} {v : Variables} → Rows s (Closes PumpLoop a) (At (Going v)) [] (ended v a)
  -- a dialog: `begin_dialog`, and then the rest
  opens : {w : ℕ} {v : Variables} {tr first second : Trace} {got out : Point} → Rows s (Calls (BeginDialog w)) (At (Going v)) first got → Rows s (Opened w) got second out → tr ≡ first ++ second → Rows s (Opens w) (At (Going v)) tr out
  -- a refused `begin_dialog` ends it
  opened_refused : {w x : ℕ} {v : Variables} {a : Answer} → is_refusal a ≡ true → Rows s (Opened w) (At (Given v a x)) [] (ended v a)
  -- without an owner its loop begins
  opened_alone : {w x : ℕ} {v : Variables} {a : Answer} {tr : Trace} {out : Point} → is_refusal a ≡ false → number_in a ≡ 0 → Rows s (Asks (dialog_on w 0)) (At (Going v)) tr out → Rows s (Opened w) (At (Given v a x)) tr out
  -- else the owner is disabled as by `enable_window`, and then its loop begins
  opened : {w x : ℕ} {v : Variables} {a : Answer} {tr first second : Trace} {got out : Point} → is_refusal a ≡ false → number_in a ≢ 0 → Rows s (Notifying (Enable (number_in a) 0)) (At (Going v)) first got → Rows s (Disabled (dialog_on w (number_in a))) got second out → tr ≡ first ++ second → Rows s (Opened w) (At (Given v a x)) tr out
  -- an owner that had been enabled is enabled again after it
  disabled : {d : Dialog} {x : ℕ} {v : Variables} {a : Answer} {tr : Trace} {out : Point} → was_enabled a ≡ true → Rows s (Asks d) (At (Going v)) tr out → Rows s (Disabled d) (At (Given v a x)) tr out
  -- any other isn't
  disabled_before : {d : Dialog} {x : ℕ} {v : Variables} {a : Answer} {tr : Trace} {out : Point} → was_enabled a ≡ false → Rows s (Asks (dialog_on d.window 0)) (At (Going v)) tr out → Rows s (Disabled d) (At (Given v a x)) tr out
  -- the loop of a dialog: `dialog_state`, and then what that tells
  asks : {d : Dialog} {v : Variables} {tr first second : Trace} {got out : Point} → Rows s (Calls (DialogState d.window)) (At (Going v)) first got → Rows s (Asked d) got second out → tr ≡ first ++ second → Rows s (Asks d) (At (Going v)) tr out
  -- while it runs a message is got
  asked_running : {d : Dialog} {x : ℕ} {v : Variables} {tr : Trace} {out : Point} → Rows s (Fetches (DialogLoop d)) (At (Going v)) tr out → Rows s (Asked d) (At (Given v Running x)) tr out
  -- its result ends the loop
  asked_finished : {d : Dialog} {result x : ℕ} {v : Variables} {tr : Trace} {out : Point} → Rows s (Closes (DialogLoop d) (Value result)) (At (Going v)) tr out → Rows s (Asked d) (At (Given v (Finished result) x)) tr out
  -- a refused `dialog_state` ends it
  asked_refused : {d : Dialog} {x : ℕ} {v : Variables} {a : Answer} {tr : Trace} {out : Point} → is_refusal a ≡ true → Rows s (Closes (DialogLoop d) a) (At (Going v)) tr out → Rows s (Asked d) (At (Given v a x)) tr out
  -- with `gone`, and with an answer that isn't one of `dialog_state`, it ends with 0
  asked_gone : {d : Dialog} {x : ℕ} {v : Variables} {a : Answer} {tr : Trace} {out : Point} → is_standing a ≡ false → Rows s (Closes (DialogLoop d) (Value 0)) (At (Going v)) tr out → Rows s (Asked d) (At (Given v a x)) tr out
  -- WM_QUIT in a dialog: `post_quit` with its code, whatever becomes of that
  quits : {d : Dialog} {code : ℕ} {v : Variables} {tr first second : Trace} {mid out : Point} → Rows s (Calls (PostQuit code)) (At (Going v)) first mid → Rows s (Finishes d) (on going mid) second out → tr ≡ first ++ second → Rows s (Quits d code) (At (Going v)) tr out
  -- then `end_dialog` with the result 0, whatever becomes of that, and the loop goes on
  finishes : {d : Dialog} {v : Variables} {tr first second : Trace} {mid out : Point} → Rows s (Calls (EndDialog d.window 0)) (At (Going v)) first mid → Rows s (Asks d) (on going mid) second out → tr ≡ first ++ second → Rows s (Finishes d) (At (Going v)) tr out
  -- a dialog whose owner isn't to be enabled ends with the answer of its loop
  closes_alone : {d : Dialog} {a : Answer} {v : Variables} → d.owner ≡ 0 → Rows s (Closes (DialogLoop d) a) (At (Going v)) [] (ended v a)
  -- any other enables its owner as by `enable_window`, whatever becomes of that, and then ends so
  closes_dialog : {d : Dialog} {a : Answer} {v : Variables} {tr : Trace} {got out : Point} → d.owner ≢ 0 → Rows s (Notifying (Enable d.owner 1)) (At (Going v)) tr got → out ≡ on (concluding a) got → Rows s (Closes (DialogLoop d) a) (At (Going v)) tr out
  -- a thread: its statements from variables of zeros on, and then `end_thread`
  thread : {t : ℕ} {tr first second : Trace} {mid out : Point} → Rows s (Body (body_of s t)) (At (Going start)) first mid → Rows s (Calls EndThread) (on going mid) second out → tr ≡ first ++ second → Rows s (Thread t) (At (Going start)) tr out

-- how a trace ends that comes to that place
abbrev pub end_of : Point → End
end_of (At st) = Whole
end_of (CutBefore call) = Cut call

-- the trace is one of the thread by the rows, whole or cut before a call
abbrev pub ByRows : Tree → ℕ → Trace → End → Type 0
ByRows s t tr e = (out : Point) × Rows s (Thread t) (At (Going start)) tr out × (e ≡ end_of out)
