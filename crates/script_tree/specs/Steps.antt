-- What each piece of a program does, one line for each.
use Rattle.std.specs.Prelude.{ℕ, ◌==◌, Bool, true, false, if◌then◌else◌, List, [], ◌∷◌, Option, Some, None}
use Rattle.win_num.specs.declared.send.Frame.{Frame}
use Rattle.win_num.specs.declared.send.Frame.TheVariants.{Entered, Inside as InsideFrame, Called as CalledFrame, CallbackRun}
use Rattle.user_model.specs.declared.call.Call.{Call}
use Rattle.user_model.specs.declared.call.Call.TheVariants.{Dispatch, Send, SendTimeout, SendNotify, SendCallback, Await, Leave, Doom, Clock, SleepUntil, Yield, EndThread}
use Rattle.user_model.specs.declared.entry.Answer.{Answer}
use Rattle.user_model.specs.declared.entry.Answer.TheVariants.{Okay, Ended, Nothing, Wait, Stuck, Gone, Running as RunningDialog, Finished, Value, Window as WindowMade, Was, Posted, Input, Called, Inside, Begun, Left as LeftOf, Tell, Last, Advanced, Busy, Update, Painting, Snap, Enter, Callback, Done, Got, Refused}
use Rattle.user_model.specs.Stacks.{leaves, waits}
use Rattle.script_tree.specs.declared.statement.Statement.{Statement, items-the_row-Statement}
use Rattle.script_tree.specs.declared.statement.Statement.TheVariants.{Let, Compute, If', IfElse', While', Return, Call as CallOf, Sleep, Create, Destroy, Compound as CompoundOf, Default as DefaultOf}
use Rattle.script_tree.specs.declared.variables.Parameters.{Parameters}
use Rattle.script_tree.specs.declared.variables.Variables.{Variables}
use Rattle.script_tree.specs.declared.frame.Run.{Run}
use Rattle.script_tree.specs.declared.frame.Begin.{Begin}
use Rattle.script_tree.specs.declared.frame.Place.TheVariants.{Defaulting}
use Rattle.script_tree.specs.declared.frame.Lead.{Lead}
use Rattle.script_tree.specs.declared.frame.Lead.TheVariants.{Calls, Runs, Ends}
use Rattle.script_tree.specs.Tree.{Tree, procedure_of}
use Rattle.script_tree.specs.Values.{value_of, computed, holds, assigned, call_of, settling_call, creation_call, time_after, no_parameters, inside_of, received, settled}
use Rattle.script_tree.specs.Compounds.{creation, destruction, compound_begin, default_begin, default_result, compound_after}
use Rattle.script_tree.specs.Pieces.{Piece, Lines, One, PassEnd, Making, Again, Giving, Settle, Quiet, Sleeping, Running, Leaving, Leaves, Left, Restore, Feed, State, Going, Returning, Given, Step, Becomes, Asks}

-- nothing more: the state goes to the next piece
abbrev pub passes : State → Step
passes st = Becomes [] st

-- a compound begins, and behind its end these pieces are left
abbrev pub begun_over : Begin → List Piece → List Piece
begun_over b ps = Making b.call ∷ Feed b.place ∷ ps

-- the pieces of the default procedure with the compound inside of it, if there is one, and that result
abbrev pub default_over : Option Begin → ℕ → List Piece → List Piece
default_over (Some b) x ps = begun_over b (Feed (Defaulting x) ∷ ps)
default_over None x ps = Giving (Value x) ∷ ps

-- the pieces of the default procedure, and those behind its end
abbrev pub default_pieces : Parameters → List Piece → List Piece
default_pieces p ps = default_over (default_begin p) (default_result p) ps

-- a call of a statement, which sets r and err
abbrev pub makes : Call → Variables → Step
makes call v = Becomes (Making call ∷ Settle call ∷ []) (Going v)

-- one statement, after so many entries of the thread
abbrev pub statement : Statement → Variables → ℕ → Step
statement (Let x e) v n = passes (Going (assigned v x (value_of e v)))
statement (Compute x e op f) v n = passes (Going (assigned v x (computed (value_of e v) op (value_of f v))))
statement (If' t k a) v n = if holds t v then Becomes (Lines (items-the_row-Statement _ a) ∷ []) (Going v) else passes (Going v)
statement (IfElse' t k a j b) v n = Becomes (Lines (if holds t v then items-the_row-Statement _ a else items-the_row-Statement _ b) ∷ []) (Going v)
statement (While' t k body) v n = if holds t v then Becomes (Lines (items-the_row-Statement _ body) ∷ PassEnd (While' t k body) n ∷ []) (Going v) else passes (Going v)
statement (Return e) v n = passes (Returning v (value_of e v))
statement (CallOf ask) v n = makes (call_of ask v) v
statement (Sleep e) v n = Becomes (Making Clock ∷ Sleeping (value_of e v) ∷ []) (Going v)
statement (Create c) v n = Becomes (begun_over (creation (creation_call c v)) (Settle (creation_call c v) ∷ [])) (Going v)
statement (Destroy e) v n = Becomes (begun_over (destruction (value_of e v)) (Settle (Doom (value_of e v)) ∷ [])) (Going v)
statement (CompoundOf c) v n = Becomes (begun_over (compound_begin c v) (Settle (settling_call c v) ∷ [])) (Going v)
statement DefaultOf v n = Becomes (default_pieces v.parameters (Settle (Doom v.parameters.hwnd) ∷ [])) (Going v)

-- whether the frame is that of a callback procedure
abbrev pub is_callback : Frame → Bool
is_callback CallbackRun = true
is_callback _ = false

-- the end of a procedure's statements: a callback gives 0, any other the default procedure's result, whatever that was answered
abbrev pub leaving : Run → Variables → Step
leaving run v = if is_callback run.frame then Becomes (Leaves run.frame 0 ∷ Left 0 ∷ []) (Going v) else Becomes (default_pieces run.parameters (Left (default_result run.parameters) ∷ Leaving run ∷ [])) (Going v)

-- what a piece does that gets the variables alone, after so many entries of the thread
abbrev pub begins : Tree → Piece → Variables → ℕ → Step
begins s (Lines []) v n = passes (Going v)
begins s (Lines (line ∷ lines)) v n = Becomes (One line ∷ Lines lines ∷ []) (Going v)
begins s (One line) v n = statement line v n
begins s (PassEnd loop began) v n = if n == began then Becomes (Making Yield ∷ Quiet ∷ One loop ∷ []) (Going v) else Becomes (One loop ∷ []) (Going v)
begins s (Making call) v n = Asks call
begins s (Giving a) v n = passes (Given v a 0)
begins s (Running run) v n = Becomes (Lines (procedure_of s run.procedure) ∷ Leaving run ∷ Restore v.parameters ∷ []) (Going (inside_of v run.parameters))
begins s (Leaving run) v n = leaving run v
begins s (Leaves frame x) v n = Asks (Leave x)
begins s (Restore p) v n = passes (Going (inside_of v p))
begins s p v n = passes (Going v)

-- what a piece does that gets the value of a `return` or the result of a procedure; a thread that returns comes to its end
abbrev pub returns_to : Piece → Variables → ℕ → Step
returns_to (Making call) v x = Asks call
returns_to (Again call) v x = Becomes (Making call ∷ []) (Going v)
returns_to (Giving a) v x = passes (Given v a x)
returns_to (Leaving run) v x = Becomes (Leaves run.frame x ∷ Left x ∷ []) (Going v)
returns_to (Restore p) v x = passes (Returning (inside_of v p) x)
returns_to p v x = passes (Returning v x)

-- what a compound does next
abbrev pub goes_on : Variables → Lead → Step
goes_on v (Calls call q) = Becomes (Making call ∷ Feed q ∷ []) (Going v)
goes_on v (Runs b q) = Becomes (begun_over b (Feed q ∷ [])) (Going v)
goes_on v (Ends a) = passes (Given v a 0)

-- a `sleep` whose `clock` answered so: a refusal ends it
abbrev pub sleeps : ℕ → Variables → Answer → ℕ → Step
sleeps ms v (Refused code) x = passes (Going v)
sleeps ms v _ x = makes (SleepUntil (time_after x ms)) v

-- what a piece does that gets the answer to a call and its result
abbrev pub takes : Piece → Variables → Answer → ℕ → Step
takes (Settle call) v a x = passes (Going (settled v call a x))
takes Quiet v a x = passes (Going v)
takes (Sleeping ms) v a x = sleeps ms (settled v Clock a x) a x
takes (Left result) v a x = passes (Returning v result)
takes (Feed q) v a x = goes_on v (compound_after q a x)
takes p v a x = passes (Given v a x)

-- what a piece of that script does
abbrev pub step : Tree → Piece → State → ℕ → Step
step s p (Going v) n = begins s p v n
step s p (Returning v x) n = returns_to p v x
step s p (Given v a x) n = takes p v a x

-- parameters from their numbers
abbrev pub parameters_from : ℕ → ℕ → ℕ → ℕ → Parameters
parameters_from w number p q = record { hwnd = w; number = number; wparam = p; lparam = q }

-- the parameters of the procedure that a call runs
abbrev pub parameters_of : Call → Parameters
parameters_of (Dispatch w m p q) = parameters_from w m p q
parameters_of (Send w m p q) = parameters_from w m p q
parameters_of (SendTimeout w m p q flags ms) = parameters_from w m p q
parameters_of (SendNotify w m p q) = parameters_from w m p q
parameters_of (SendCallback w m p q proc_no extra) = parameters_from w m p q
parameters_of _ = no_parameters

-- a run from its parts
abbrev pub run_of : ℕ → Parameters → Frame → Run
run_of proc_no p frame = record { procedure = proc_no; parameters = p; frame = frame }

-- the result of an answer
abbrev pub result_of : Answer → ℕ
result_of (Value n) = n
result_of (Done n cause) = n
result_of Okay = 0
result_of Ended = 0
result_of Nothing = 0
result_of Wait = 0
result_of Stuck = 0
result_of Gone = 0
result_of RunningDialog = 0
result_of (Finished n) = 0
result_of (WindowMade w) = 0
result_of (Was w) = 0
result_of (Posted number) = 0
result_of (Input number) = 0
result_of (Called proc_no) = 0
result_of (Inside s proc_no) = 0
result_of (Begun s) = 0
result_of (LeftOf s) = 0
result_of (Tell w) = 0
result_of (Last w) = 0
result_of (Advanced time) = 0
result_of (Busy thread) = 0
result_of (Update kind l t r b) = 0
result_of (Painting erase l t r b) = 0
result_of (Snap k) = 0
result_of (Enter s proc_no w number wparam lparam) = 0
result_of (Callback s proc_no w number extra result) = 0
result_of (Got origin number msg) = 0
result_of (Refused code) = 0

-- whether the call is the last of a thread
abbrev pub is_last : Call → Bool
is_last EndThread = true
is_last _ = false

-- the pieces that follow a call and an answer other than `wait`: the procedure that runs, the same call after an attempt, the wait for a send
abbrev pub following : Call → Answer → List Piece
following call (Enter s proc_no w number wparam lparam) = Running (run_of proc_no (parameters_from w.0 number wparam lparam) (Entered s)) ∷ Again call ∷ []
following call (Callback s proc_no w number extra result) = Running (run_of proc_no (parameters_from w.0 number extra result) CallbackRun) ∷ (if leaves call then Giving (Callback s proc_no w number extra result) else Again call) ∷ []
following call (Inside s proc_no) = Running (run_of proc_no (parameters_of call) (InsideFrame s)) ∷ Giving (Inside s proc_no) ∷ []
following call (Called proc_no) = Running (run_of proc_no (parameters_of call) CalledFrame) ∷ Giving (Called proc_no) ∷ []
following call (Begun s) = if waits call then Making (Await s.0) ∷ [] else []
following call a = []

-- the pieces that follow a call and its answer: after `wait` the same call, and nothing after the last call of a thread
abbrev pub follows : Call → Answer → List Piece
follows call Wait = Making call ∷ []
follows call a = if is_last call then [] else following call a

-- the state behind an answer with nothing else to follow: a message that was got is got at once
abbrev pub given : Variables → Answer → State
given v a = Given (received v a) a (result_of a)

-- the state after a call and an answer other than `wait`
abbrev pub after_answer : Call → Answer → Variables → State
after_answer call (Enter s proc_no w number wparam lparam) v = Going v
after_answer call (Callback s proc_no w number extra result) v = Going v
after_answer call (Inside s proc_no) v = Going v
after_answer call (Called proc_no) v = Going v
after_answer call (Begun s) v = if waits call then Going v else given v (Begun s)
after_answer call a v = given v a

-- the state after a call and its answer
abbrev pub answered : Call → Answer → Variables → State
answered call Wait v = Going v
answered call a v = if is_last call then given v a else after_answer call a v

-- the variables of a state
abbrev pub variables_of : State → Variables
variables_of (Going v) = v
variables_of (Returning v x) = v
variables_of (Given v a x) = v
