-- What a thread has left to do.
use Rattle.std.specs.Prelude.{ℕ, List}
use Rattle.win_num.specs.declared.send.Frame.{Frame}
use Rattle.user_model.specs.declared.call.Call.{Call}
use Rattle.user_model.specs.declared.entry.Answer.{Answer}
use Rattle.script_tree.specs.declared.statement.Statement.{Statement}
use Rattle.script_tree.specs.declared.frame.Run.{Run}
use Rattle.script_tree.specs.declared.frame.Place.{Place}
use Rattle.script_tree.specs.declared.variables.Parameters.{Parameters}
use Rattle.script_tree.specs.declared.variables.Variables.{Variables}

-- a piece of a thread's program
pub data Piece : Type 0 where
  -- statements, one after another
  Lines : List Statement → Piece
  -- one statement
  One : Statement → Piece
  -- the end of a pass of that `while`, which began after so many entries
  PassEnd : Statement → ℕ → Piece
  -- a call, made until its answer is that of no attempt
  Making : Call → Piece
  -- the same call once more, after the procedure of an attempt
  Again : Call → Piece
  -- the answer is given, with the result of the procedure that ran for it, or without one
  Giving : Answer → Piece
  -- a statement that began with that call sets r and err
  Settle : Call → Piece
  -- the `yield` of a `while` sets nothing
  Quiet : Piece
  -- the `clock` of a `sleep` of so many milliseconds
  Sleeping : ℕ → Piece
  -- a procedure runs: its statements, and `leave`
  Running : Run → Piece
  -- the end of a procedure
  Leaving : Run → Piece
  -- the `leave` of a frame, with its result
  Leaves : Frame → ℕ → Piece
  -- the result of a procedure stays, whatever its `leave` or the default procedure was answered
  Left : ℕ → Piece
  -- the parameters of the procedure around come back
  Restore : Parameters → Piece
  -- a compound takes the answer to its call, or that of the compound inside of it
  Feed : Place → Piece

-- what a piece hands to the next one
pub data State : Type 0 where
  -- the variables
  Going : Variables → State
  -- the variables, and the value of a `return` or the result of a procedure
  Returning : Variables → ℕ → State
  -- the variables, the answer to a call, and its result
  Given : Variables → Answer → ℕ → State

-- what a piece does: it becomes other pieces, or it makes a call
pub data Step : Type 0 where
  Becomes : List Piece → State → Step
  Asks : Call → Step

-- calls with their answers, the oldest first
abbrev pub Trace : Type 0
Trace = List (Call × Answer)

-- how a trace ends: nothing is left, or it is cut before this call
pub data End : Type 0 where
  Whole : End
  Cut : Call → End
