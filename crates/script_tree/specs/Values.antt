-- The values of variables, operands and tests, and what a statement does to the variables.
use Rattle.std.specs.Int.{cast_signed, w64}
use Rattle.std.specs.Prelude.{ℕ, ◌+◌, ◌-◌, ◌%◌, ◌^◌, ◌==◌, nat_lt, bit_and, bit_or, Bool, not, if◌then◌else◌, ℤ, pos, slice_get, unwrap_or, min}
use Rattle.win_num.specs.declared.message.Msg.{Msg}
use Rattle.win_num.specs.Codes.{number_of}
use Rattle.name_table.specs.Constants.{constant_values}
use Rattle.user_model.specs.declared.call.Call.{Call}
use Rattle.user_model.specs.declared.call.Call.TheVariants.{BeginDialog, EndDialog, Place, Show, Enable, SetFocus, SetActive, SetCapture, ReleaseCapture, BeginPaint, Peek, Get, Post, PostThread, PostQuit, Status, Dispatch, Translate, Send, SendTimeout, SendNotify, SendCallback, Reply, InSend, Message as MessageCall, Register, Unregister, NewWindow, Find, AwaitTitle, NextTop, WindowAt, IsWindow, Parent, GetFocus, GetActive, GetCapture, Attach, Detach, Mouse, Key, KeyState, Invalidate, Validate, UpdateRect, EndPaint, Fill, Snap, SetTimer, KillTimer, Clock, Yield}
use Rattle.user_model.specs.declared.entry.Answer.{Answer}
use Rattle.user_model.specs.declared.entry.Answer.TheVariants.{Okay, Ended, Nothing, Wait, Stuck, Gone, Running, Finished, Value, Window as WindowAnswer, Was, Posted, Input, Called, Inside, Begun, Left, Tell, Last, Advanced, Busy, Update, Painting, Snap as SnapAnswer, Enter, Callback, Done, Got, Refused}
use Rattle.win_num.specs.declared.send.Cause.{Cause}
use Rattle.win_num.specs.declared.send.Cause.TheVariants.{Loss, Timeout, Hung}
use Rattle.script_tree.specs.declared.operand.Letter.{Letter}
use Rattle.script_tree.specs.declared.operand.Letter.TheVariants.{A, B, C, D, E, F, G, H}
use Rattle.script_tree.specs.declared.operand.Variable.{Variable}
use Rattle.script_tree.specs.declared.operand.Variable.TheVariants.{Letter as LetterOf, Result as LastResult, Error as LastError, GotWindow, GotMessage, GotWparam, GotLparam, GotTime, Window, Message as MessageOf, Wparam, Lparam}
use Rattle.script_tree.specs.declared.operand.Operand.{Operand}
use Rattle.script_tree.specs.declared.operand.Operand.TheVariants.{Number, Minus as Negative, Message, Constant, Variable as VariableOf}
use Rattle.script_tree.specs.declared.operand.Operator.{Operator}
use Rattle.script_tree.specs.declared.operand.Operator.TheVariants.{Plus, Minus, And, Or}
use Rattle.script_tree.specs.declared.operand.Comparison.{Comparison}
use Rattle.script_tree.specs.declared.operand.Comparison.TheVariants.{Equal, Different, Below}
use Rattle.script_tree.specs.declared.operand.Test.{Test}
use Rattle.script_tree.specs.declared.statement.CallStatement.{CallStatement}
use Rattle.script_tree.specs.declared.statement.CallStatement.TheVariants.{Peek as PeekStatement, Get as GetStatement, Post as PostStatement, PostThread as PostThreadStatement, PostQuit as PostQuitStatement, Status as StatusStatement, Dispatch as DispatchStatement, Translate as TranslateStatement, Send as SendStatement, SendTimeout as SendTimeoutStatement, SendNotify as SendNotifyStatement, SendCallback as SendCallbackStatement, Reply as ReplyStatement, InSend as InSendStatement, Message as MessageStatement, Register as RegisterStatement, Unregister as UnregisterStatement, IsWindow as IsWindowStatement, Parent as ParentStatement, NextTop as NextTopStatement, Find as FindStatement, AwaitTitle as AwaitTitleStatement, WindowAt as WindowAtStatement, GetFocus as GetFocusStatement, GetActive as GetActiveStatement, GetCapture as GetCaptureStatement, Attach as AttachStatement, Detach as DetachStatement, Mouse as MouseStatement, Key as KeyStatement, KeyState as KeyStateStatement, EndDialog as EndDialogStatement, Invalidate as InvalidateStatement, Validate as ValidateStatement, UpdateRect as UpdateRectStatement, EndPaint as EndPaintStatement, Fill as FillStatement, Snap as SnapStatement, SetTimer as SetTimerStatement, KillTimer as KillTimerStatement, Clock as ClockStatement, Yield as YieldStatement}
use Rattle.script_tree.specs.declared.statement.CompoundStatement.{CompoundStatement}
use Rattle.script_tree.specs.declared.statement.CompoundStatement.TheVariants.{ShowWindow, EnableWindow, SetWindowPos, SetFocus as SetFocusStatement, SetActive as SetActiveStatement, SetCapture as SetCaptureStatement, ReleaseCapture as ReleaseCaptureStatement, BeginPaint as BeginPaintStatement, UpdateWindow, PostAll, NotifyAll, Pump, Dialog as DialogStatement}
use Rattle.script_tree.specs.declared.statement.Creation.{Creation}
use Rattle.script_tree.specs.declared.variables.Letters.{Letters}
use Rattle.script_tree.specs.declared.variables.Parameters.{Parameters}
use Rattle.script_tree.specs.declared.variables.Variables.{Variables}

-- the value of a letter
abbrev pub letter_value : Letter → Letters → ℕ
letter_value A l = l.a
letter_value B l = l.b
letter_value C l = l.c
letter_value D l = l.d
letter_value E l = l.e
letter_value F l = l.f
letter_value G l = l.g
letter_value H l = l.h

-- the value of a variable
abbrev pub variable_value : Variable → Variables → ℕ
variable_value (LetterOf x) v = letter_value x v.letters
variable_value LastResult v = v.last_result
variable_value LastError v = v.last_error
variable_value GotWindow v = v.got.hwnd.0
variable_value GotMessage v = v.got.number
variable_value GotWparam v = v.got.wparam
variable_value GotLparam v = v.got.lparam
variable_value GotTime v = v.got.time
variable_value Window v = v.parameters.hwnd
variable_value MessageOf v = v.parameters.number
variable_value Wparam v = v.parameters.wparam
variable_value Lparam v = v.parameters.lparam

-- the value of an operand
abbrev pub value_of : Operand → Variables → ℕ
value_of (Number n) v = n
value_of (Negative n) v = (2 ^ 64 - n) % 2 ^ 64
value_of (Message n) v = n
value_of (Constant n) v = unwrap_or (slice_get constant_values n) 0
value_of (VariableOf x) v = variable_value x v

-- the value of an operand as a number with sign, by two's complement of 64 bits
abbrev pub edge_of : Operand → Variables → ℤ
edge_of e v = cast_signed w64 (value_of e v)

-- the value of an operator, modulo 2^64
abbrev pub computed : ℕ → Operator → ℕ → ℕ
computed x Plus y = (x + y) % 2 ^ 64
computed x Minus y = (x + 2 ^ 64 - y) % 2 ^ 64
computed x And y = bit_and x y
computed x Or y = bit_or x y

-- whether two numbers compare so
abbrev pub compared : ℕ → Comparison → ℕ → Bool
compared x Equal y = x == y
compared x Different y = not (x == y)
compared x Below y = nat_lt x y

-- whether a test holds
abbrev pub holds : Test → Variables → Bool
holds t v = compared (value_of t.left v) t.comparison (value_of t.right v)

-- the message handed to its window's procedure
abbrev pub dispatch_of : Msg → Call
dispatch_of got = Dispatch got.hwnd.0 got.number got.wparam got.lparam

-- the character of a key that is down is posted behind its message
abbrev pub translate_of : Msg → Call
translate_of got = Translate got.hwnd.0 got.number got.wparam got.lparam

-- the call of a statement, with the values of its operands
abbrev pub call_of : CallStatement → Variables → Call
call_of (PeekStatement w min max flags) v = Peek (value_of w v) (value_of min v) (value_of max v) (value_of flags v)
call_of (GetStatement w min max) v = Get (value_of w v) (value_of min v) (value_of max v)
call_of (PostStatement w m p q) v = Post (value_of w v) (value_of m v) (value_of p v) (value_of q v)
call_of (PostThreadStatement t m p q) v = PostThread (value_of t v) (value_of m v) (value_of p v) (value_of q v)
call_of (PostQuitStatement code) v = PostQuit (value_of code v)
call_of (StatusStatement flags) v = Status (value_of flags v)
call_of DispatchStatement v = dispatch_of v.got
call_of TranslateStatement v = translate_of v.got
call_of (SendStatement w m p q) v = Send (value_of w v) (value_of m v) (value_of p v) (value_of q v)
call_of (SendTimeoutStatement w m p q flags ms) v = SendTimeout (value_of w v) (value_of m v) (value_of p v) (value_of q v) (value_of flags v) (value_of ms v)
call_of (SendNotifyStatement w m p q) v = SendNotify (value_of w v) (value_of m v) (value_of p v) (value_of q v)
call_of (SendCallbackStatement w m p q proc_no extra) v = SendCallback (value_of w v) (value_of m v) (value_of p v) (value_of q v) proc_no (value_of extra v)
call_of (ReplyStatement x) v = Reply (value_of x v)
call_of InSendStatement v = InSend
call_of (MessageStatement name) v = MessageCall name
call_of (RegisterStatement class proc_no colour) v = Register class proc_no (value_of colour v)
call_of (UnregisterStatement class) v = Unregister class
call_of (IsWindowStatement w) v = IsWindow (value_of w v)
call_of (ParentStatement w) v = Parent (value_of w v)
call_of (NextTopStatement w) v = NextTop (value_of w v)
call_of (FindStatement title) v = Find title
call_of (AwaitTitleStatement title) v = AwaitTitle title
call_of (WindowAtStatement x y) v = WindowAt (edge_of x v) (edge_of y v)
call_of GetFocusStatement v = GetFocus
call_of GetActiveStatement v = GetActive
call_of GetCaptureStatement v = GetCapture
call_of (AttachStatement t u) v = Attach (value_of t v) (value_of u v)
call_of (DetachStatement t u) v = Detach (value_of t v) (value_of u v)
call_of (MouseStatement m x y) v = Mouse (value_of m v) (edge_of x v) (edge_of y v)
call_of (KeyStatement down k) v = Key (value_of down v) (value_of k v)
call_of (KeyStateStatement k) v = KeyState (value_of k v)
call_of (EndDialogStatement w x) v = EndDialog (value_of w v) (value_of x v)
call_of (InvalidateStatement w l t r b erase) v = Invalidate (value_of w v) (edge_of l v) (edge_of t v) (edge_of r v) (edge_of b v) (value_of erase v)
call_of (ValidateStatement w l t r b) v = Validate (value_of w v) (edge_of l v) (edge_of t v) (edge_of r v) (edge_of b v)
call_of (UpdateRectStatement w) v = UpdateRect (value_of w v)
call_of (EndPaintStatement w) v = EndPaint (value_of w v)
call_of (FillStatement w l t r b colour) v = Fill (value_of w v) (edge_of l v) (edge_of t v) (edge_of r v) (edge_of b v) (value_of colour v)
call_of SnapStatement v = Snap
call_of (SetTimerStatement w id ms) v = SetTimer (value_of w v) (value_of id v) (value_of ms v)
call_of (KillTimerStatement w id) v = KillTimer (value_of w v) (value_of id v)
call_of ClockStatement v = Clock
call_of YieldStatement v = Yield

-- a statement that sends
abbrev pub IsSend : CallStatement → Type 0
IsSend (SendStatement w m p q) = Unit {0}
IsSend (SendTimeoutStatement w m p q flags ms) = Unit {0}
IsSend (SendNotifyStatement w m p q) = Unit {0}
IsSend (SendCallbackStatement w m p q proc_no extra) = Unit {0}
IsSend _ = ⊥

-- a statement of a window and a rectangle
abbrev pub IsRectangle : CallStatement → Type 0
IsRectangle (InvalidateStatement w l t r b erase) = Unit {0}
IsRectangle (ValidateStatement w l t r b) = Unit {0}
IsRectangle (FillStatement w l t r b colour) = Unit {0}
IsRectangle _ = ⊥

-- a statement about focus, active window, capture, attached threads, the mouse, keys or dialogs
abbrev pub IsOfInput : CallStatement → Type 0
IsOfInput GetFocusStatement = Unit {0}
IsOfInput GetActiveStatement = Unit {0}
IsOfInput GetCaptureStatement = Unit {0}
IsOfInput (AttachStatement t u) = Unit {0}
IsOfInput (DetachStatement t u) = Unit {0}
IsOfInput (MouseStatement m x y) = Unit {0}
IsOfInput (KeyStatement down k) = Unit {0}
IsOfInput (KeyStateStatement k) = Unit {0}
IsOfInput (EndDialogStatement w x) = Unit {0}
IsOfInput TranslateStatement = Unit {0}
IsOfInput _ = ⊥

-- a statement with three operands at most
abbrev pub IsShort : CallStatement → Type 0
IsShort (PeekStatement w min max flags) = ⊥
IsShort (GetStatement w min max) = ⊥
IsShort (PostStatement w m p q) = ⊥
IsShort (PostThreadStatement t m p q) = ⊥
IsShort (PostQuitStatement code) = ⊥
IsShort (StatusStatement flags) = ⊥
IsShort DispatchStatement = ⊥
IsShort (SendStatement w m p q) = ⊥
IsShort (SendTimeoutStatement w m p q flags ms) = ⊥
IsShort (SendNotifyStatement w m p q) = ⊥
IsShort (SendCallbackStatement w m p q proc_no extra) = ⊥
IsShort (InvalidateStatement w l t r b erase) = ⊥
IsShort (ValidateStatement w l t r b) = ⊥
IsShort (FillStatement w l t r b colour) = ⊥
IsShort _ = Unit {0}

-- the first call of a compound statement, with the values of its operands
abbrev pub first_call : CompoundStatement → Variables → Call
first_call (ShowWindow w on) v = Show (value_of w v) (value_of on v)
first_call (EnableWindow w on) v = Enable (value_of w v) (value_of on v)
first_call (SetWindowPos w after l t r b flags) v = Place (value_of w v) (edge_of after v) (edge_of l v) (edge_of t v) (edge_of r v) (edge_of b v) (value_of flags v)
first_call (SetFocusStatement w) v = SetFocus (value_of w v)
first_call (SetActiveStatement w) v = SetActive (value_of w v)
first_call (SetCaptureStatement w) v = SetCapture (value_of w v)
first_call ReleaseCaptureStatement v = ReleaseCapture
first_call (BeginPaintStatement w) v = BeginPaint (value_of w v)
first_call (UpdateWindow w) v = UpdateRect (value_of w v)
first_call (PostAll m p q) v = NextTop 0
first_call (NotifyAll m p q) v = NextTop 0
first_call Pump v = Get 0 0 0
first_call (DialogStatement w) v = BeginDialog (value_of w v)

-- the call by which the end of a compound statement sets r and err: its first one, but a refused `pump` gives 0, and not what a refused `get` does
abbrev pub settling_call : CompoundStatement → Variables → Call
settling_call Pump v = Dispatch 0 0 0 0
settling_call c v = first_call c v

-- the call that makes the window of a `create`
abbrev pub creation_call : Creation → Variables → Call
creation_call c v = NewWindow c.class c.title (value_of c.parent v) (value_of c.style v) (value_of c.extended_style v) (edge_of c.left v) (edge_of c.top v) (edge_of c.right v) (edge_of c.bottom v)

-- the time so many milliseconds after another, or the last there is
abbrev pub time_after : ℕ → ℕ → ℕ
time_after time ms = min (time + ms) (2 ^ 64 - 1)

-- a message of zeros
abbrev pub no_message : Msg
no_message = record { hwnd = record { 0 = 0 }; number = 0; wparam = 0; lparam = 0; time = 0; point = record { x = pos 0; y = pos 0 } }

-- parameters of zeros
abbrev pub no_parameters : Parameters
no_parameters = record { hwnd = 0; number = 0; wparam = 0; lparam = 0 }

-- at a thread's start all variables are 0
abbrev pub start : Variables
start = record { letters = record { a = 0; b = 0; c = 0; d = 0; e = 0; f = 0; g = 0; h = 0 }; last_result = 0; last_error = 0; got = no_message; parameters = no_parameters }

-- the letters with one of them set
abbrev pub with_letter : Letters → Letter → ℕ → Letters
with_letter l A n = record l { a = n }
with_letter l B n = record l { b = n }
with_letter l C n = record l { c = n }
with_letter l D n = record l { d = n }
with_letter l E n = record l { e = n }
with_letter l F n = record l { f = n }
with_letter l G n = record l { g = n }
with_letter l H n = record l { h = n }

-- the variables after `let`
abbrev pub assigned : Variables → Letter → ℕ → Variables
assigned v x n = record v { letters = with_letter v.letters x n }

-- the variables inside of a procedure with these parameters
abbrev pub inside_of : Variables → Parameters → Variables
inside_of v p = record v { parameters = p }

-- the variables with r and err set
abbrev pub resulting : Variables → ℕ → ℕ → Variables
resulting v r err = record v { last_result = r; last_error = err }

-- the variables when a call is answered: a message that was got is the last one got at once
abbrev pub received : Variables → Answer → Variables
received v (Got origin number msg) = record v { got = msg }
received v _ = v

-- what r is where a call is refused
abbrev pub refused_result : Call → ℕ
refused_result (Get w min max) = 18446744073709551615
refused_result _ = 0

-- what r is where a call went inside, and its procedure gave that result: a callback send doesn't tell it
abbrev pub inside_result : Call → ℕ → ℕ
inside_result (SendCallback w m p q proc_no extra) x = 1
inside_result _ x = x

-- what r is where a call was done: a dispatch for no window has no result
abbrev pub okay_result : Call → ℕ
okay_result (Dispatch w m p q) = 0
okay_result _ = 1

-- what err is where a send was answered so
abbrev pub cause_number : Cause → ℕ
cause_number Timeout = 1460
cause_number Hung = 1460
cause_number Loss = 1400
cause_number _ = 0

-- the variables after a statement whose call had this answer, and this result of the procedure that ran for it
abbrev pub settled : Variables → Call → Answer → ℕ → Variables
settled v call (Refused code) x = resulting v (refused_result call) (number_of code)
settled v call (Done result cause) x = resulting v result (cause_number cause)
settled v call (Value n) x = resulting v n 0
settled v call (WindowAnswer w) x = resulting v w.0 0
settled v call (Was w) x = resulting v w.0 0
settled v call (Update kind l t r b) x = resulting v kind 0
settled v call (Got origin number msg) x = resulting v (if msg.number == 18 then 0 else 1) 0
settled v call Nothing x = resulting v 0 0
settled v call (Called proc_no) x = resulting v x 0
settled v call (Inside s proc_no) x = resulting v (inside_result call x) 0
settled v call Okay x = resulting v (okay_result call) 0
settled v call Ended x = resulting v 1 0
settled v call Wait x = resulting v 1 0
settled v call Stuck x = resulting v 1 0
settled v call Gone x = resulting v 1 0
settled v call Running x = resulting v 1 0
settled v call (Finished n) x = resulting v 1 0
settled v call (Posted number) x = resulting v 1 0
settled v call (Input number) x = resulting v 1 0
settled v call (Begun s) x = resulting v 1 0
settled v call (Left s) x = resulting v 1 0
settled v call (Tell w) x = resulting v 1 0
settled v call (Last w) x = resulting v 1 0
settled v call (Advanced time) x = resulting v 1 0
settled v call (Busy thread) x = resulting v 1 0
settled v call (Painting erase l t r b) x = resulting v 1 0
settled v call (SnapAnswer k) x = resulting v 1 0
settled v call (Enter s proc_no w number p q) x = resulting v 1 0
settled v call (Callback s proc_no w number extra result) x = resulting v 1 0
