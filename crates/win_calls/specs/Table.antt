-- What a compound statement asks of its caller, by the table of steps.
use Rattle.std.specs.Prelude.{◌≡◌, ℕ, Bool, List, [], ◌∷◌, ◌++◌, Option, Some, None}
use Rattle.script_tree.specs.declared.frame.Run.{Run}
use Rattle.script_tree.specs.declared.frame.Begin.{Begin}
use Rattle.script_tree.specs.declared.variables.Parameters.{Parameters}
use Rattle.script_tree.specs.declared.variables.Variables.{Variables}
use Rattle.script_tree.specs.Tree.{Tree}
use Rattle.script_tree.specs.declared.frame.Spread.TheVariants.{Posts, Notifies}
use Rattle.script_tree.specs.declared.statement.CompoundStatement.{CompoundStatement}
use Rattle.script_tree.specs.declared.statement.CompoundStatement.TheVariants as statements
use Rattle.script_tree.specs.Values.{value_of, edge_of}
use Rattle.script_tree.specs.Compounds.{creation, destruction, notifying, broadcast, broadcasting}
use Rattle.script_tree.specs.Pieces.{Piece, Making, Settle, Running, Leaving, Restore, State, Going, Returning, Becomes, Asks}
use Rattle.script_tree.specs.Steps.{step, follows, answered, variables_of, parameters_from, begun_over, default_pieces, is_callback}
use Rattle.user_model.specs.declared.call.Call.{Call}
use Rattle.user_model.specs.declared.call.Call.TheVariants.{NewWindow, Doom, Show, Enable, Place as PlaceCall, SetFocus as SetFocusCall, SetActive as SetActiveCall, SetCapture as SetCaptureCall, ReleaseCapture as ReleaseCaptureCall, BeginPaint as BeginPaintCall, UpdateRect}
use Rattle.user_model.specs.declared.entry.Answer.{Answer}
use Rattle.win_calls.specs.declared.compound.Compound.{Compound}
use Rattle.win_calls.specs.declared.compound.Compound.TheVariants.{Create, Destroy, ShowWindow, EnableWindow, SetWindowPos, SetFocus, SetActive, SetCapture, ReleaseCapture, BeginPaint, UpdateWindow, PostAll, NotifyAll, Default as DefaultOf}
use Rattle.win_calls.specs.declared.compound.Got.{Got}
use Rattle.win_calls.specs.declared.compound.Got.TheVariants.{Start, Answered, Returned}
use Rattle.win_calls.specs.declared.compound.Next.{Next}
use Rattle.win_calls.specs.declared.compound.Next.TheVariants.{Make, Run as RunOf, Done}

-- how a compound begins; `default` only where it destroys its window
abbrev pub begin_of : Compound → Begin
begin_of (Create class title parent style extended left top right bottom) = creation (NewWindow class title parent style extended left top right bottom)
begin_of (Destroy w) = destruction w
begin_of (ShowWindow w on) = notifying (Show w on)
begin_of (EnableWindow w on) = notifying (Enable w on)
begin_of (SetWindowPos w after l t r b flags) = notifying (PlaceCall w after l t r b flags)
begin_of (SetFocus w) = notifying (SetFocusCall w)
begin_of (SetActive w) = notifying (SetActiveCall w)
begin_of (SetCapture w) = notifying (SetCaptureCall w)
begin_of ReleaseCapture = notifying ReleaseCaptureCall
begin_of (BeginPaint w) = notifying (BeginPaintCall w)
begin_of (UpdateWindow w) = notifying (UpdateRect w)
begin_of (PostAll m p q) = broadcasting (broadcast Posts m p q)
begin_of (NotifyAll m p q) = broadcasting (broadcast Notifies m p q)
begin_of (DefaultOf w number p q) = destruction w

-- a compound statement with the values of its operands; none for a loop of messages, which isn't one of these
abbrev pub compound_of : CompoundStatement → Variables → Option Compound
compound_of (statements.ShowWindow w on) v = Some (ShowWindow (value_of w v) (value_of on v))
compound_of (statements.EnableWindow w on) v = Some (EnableWindow (value_of w v) (value_of on v))
compound_of (statements.SetWindowPos w after l t r b flags) v = Some (SetWindowPos (value_of w v) (edge_of after v) (edge_of l v) (edge_of t v) (edge_of r v) (edge_of b v) (value_of flags v))
compound_of (statements.SetFocus w) v = Some (SetFocus (value_of w v))
compound_of (statements.SetActive w) v = Some (SetActive (value_of w v))
compound_of (statements.SetCapture w) v = Some (SetCapture (value_of w v))
compound_of statements.ReleaseCapture v = Some ReleaseCapture
compound_of (statements.BeginPaint w) v = Some (BeginPaint (value_of w v))
compound_of (statements.UpdateWindow w) v = Some (UpdateWindow (value_of w v))
compound_of (statements.PostAll m p q) v = Some (PostAll (value_of m v) (value_of p v) (value_of q v))
compound_of (statements.NotifyAll m p q) v = Some (NotifyAll (value_of m v) (value_of p v) (value_of q v))
compound_of statements.Pump v = None
compound_of (statements.Dialog w) v = None

-- the pieces of a statement that begins so
abbrev pub begun_with : Begin → List Piece
begun_with b = begun_over b (Settle b.call ∷ [])

-- the pieces of a compound statement, as its line in the table has them
abbrev pub begun : Compound → List Piece
begun (DefaultOf w number p q) = default_pieces (parameters_from w number p q) (Settle (Doom w) ∷ [])
begun c = begun_with (begin_of c)

-- the pieces of a statement that is this call alone, as its line in the table has them
abbrev pub made : Call → List Piece
made call = Making call ∷ Settle call ∷ []

-- that procedure is to run with these parameters
abbrev pub run_asked : ℕ → Parameters → Bool → Next
run_asked proc_no p callback = RunOf proc_no (record { 0 = p.hwnd }) p.number p.wparam p.lparam callback

-- a run of the table is to run
abbrev pub asked_of : Run → Next
asked_of run = run_asked run.procedure run.parameters (is_callback run.frame)

-- the procedure that runs where these pieces come, if they begin with one
abbrev pub runs_first : List Piece → Option Next
runs_first (Running run ∷ ps) = Some (asked_of run)
runs_first ps = None

-- a piece that runs no procedure
abbrev pub IsNoRun : Piece → Type 0
IsNoRun (Running run) = ⊥
IsNoRun p = Unit {0}

-- Where the table goes on from these pieces and that state when this is handed in.
pub data Handed (s : Tree) (n : ℕ) : List Piece → State → Got → List Piece → State → Type 0 where
  -- at the start nothing has happened
  started : {ps : List Piece} {st : State} → Handed s n ps st Start ps st
  -- the call that the first piece makes is answered
  was_answered : {p : Piece} {left : List Piece} {st : State} (call : Call) (a : Answer) → step s p st n ≡ Asks call → Handed s n (p ∷ left) st (Answered a) (follows call a ++ left) (answered call a (variables_of st))
  -- the statements of a procedure have given a result, and made of the variables whatever they do
  was_returned : {left : List Piece} {v : Variables} (run : Run) (w : Variables) (x : ℕ) → Handed s n (Running run ∷ left) (Going v) (Returned x) (Leaving run ∷ Restore v.parameters ∷ left) (Returning w x)

-- What comes next by the table: after silent steps a call, a procedure that is to run, or the end; and the pieces and the state that the table is then at.
pub data Comes (s : Tree) (n : ℕ) : List Piece → State → Next → List Piece → State → Type 0 where
  -- a piece that becomes other pieces has what comes of them
  silent : {p : Piece} {left : List Piece} {st : State} {next : Next} {qs : List Piece} {sq : State} (ps : List Piece) (st' : State) → IsNoRun p → step s p st n ≡ Becomes ps st' → Comes s n (ps ++ left) st' next qs sq → Comes s n (p ∷ left) st next qs sq
  -- a piece that makes a call
  calls : {p : Piece} {left : List Piece} {st : State} (call : Call) → step s p st n ≡ Asks call → Comes s n (p ∷ left) st (Make call) (p ∷ left) st
  -- a procedure, in place of its statements
  runs : {left : List Piece} {v : Variables} (run : Run) → Comes s n (Running run ∷ left) (Going v) (asked_of run) (Running run ∷ left) (Going v)
  -- nothing is left: r and err are those of the variables
  over : {v : Variables} → Comes s n [] (Going v) (Done v.last_result v.last_error) [] (Going v)
