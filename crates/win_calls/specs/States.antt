-- The pieces that the state of a compound stands for.
use Rattle.std.specs.Prelude.{◌≡◌, ◌<◌, ◌≤◌, ◌^◌, ℕ, false, List, [], ◌∷◌, Option, Some, None}
use Rattle.script_tree.specs.declared.frame.Begin.{Begin}
use Rattle.script_tree.specs.declared.frame.Run.{Run}
use Rattle.script_tree.specs.declared.frame.Place.{Place}
use Rattle.script_tree.specs.declared.frame.Place.TheVariants.{Making as MakingWindow, Greeting, Telling, Undoing, Dooming, Unmaking, Destroying, Parting, Dropping, Single, Calling, Notifying, Seeking, Reaching, Getting, Translating, Dispatching, Opening, Disabling, Asking, Requitting, Finishing, Enabling, Defaulting}
use Rattle.script_tree.specs.declared.frame.Modal.{Modal}
use Rattle.script_tree.specs.declared.frame.Modal.TheVariants.{Pump, Dialog as DialogLoop}
use Rattle.script_tree.specs.declared.variables.Parameters.{Parameters}
use Rattle.script_tree.specs.declared.variables.Variables.{Variables}
use Rattle.script_tree.specs.Tree.{Tree}
use Rattle.script_tree.specs.Pieces.{Piece, Making, Again, Giving, Settle, Running, Leaves, Left, Restore, Feed, State, Going}
use Rattle.script_tree.specs.Steps.{is_last, parameters_of}
use Rattle.user_model.specs.Stacks.{leaves}
use Rattle.user_model.specs.declared.call.Call.{Call}
use Rattle.user_model.specs.declared.call.Call.TheVariants.{Leave}
use Rattle.user_model.specs.declared.entry.Answer.{Answer}
use Rattle.user_model.specs.declared.entry.Answer.TheVariants.{Enter, Callback, Inside, Called}
use Rattle.win_calls.specs.declared.compound.Compound.{Compound}
use Rattle.win_calls.specs.declared.compound.Got.{Got}
use Rattle.win_calls.specs.declared.compound.Got.TheVariants.{Start, Answered, Returned}
use Rattle.win_calls.specs.declared.compound.Next.{Next}
use Rattle.win_calls.specs.declared.compound.Next.TheVariants.{Make, Run as RunOf}
use Rattle.win_calls.specs.declared.stage.Around.{Around}
use Rattle.win_calls.specs.declared.stage.Around.TheVariants.{Nobody, One, Two}
use Rattle.win_calls.specs.declared.stage.Turn.{Turn}
use Rattle.win_calls.specs.declared.stage.Then.{Then}
use Rattle.win_calls.specs.declared.stage.Then.TheVariants.{Again as AgainThen, Giving as GivingThen}
use Rattle.win_calls.specs.declared.stage.Stage.{Stage}
use Rattle.win_calls.specs.declared.stage.Stage.TheVariants.{Fresh, Ready, Asked, Running as RunningStage, Leaving as LeavingStage, Over}
use Rattle.win_calls.specs.Table.{begun, Comes}

-- a window and a message's number of 32 bits
abbrev pub AreNarrow : Parameters → Type 0
AreNarrow p = (p.hwnd < 2 ^ 32) × (p.number < 2 ^ 32)

-- the call isn't a `leave`
abbrev pub LeavesNot : Call → Type 0
LeavesNot (Leave x) = ⊥
LeavesNot call = Unit {0}

-- The answer may follow the call: none enters a send where the call is a `leave`, and a procedure runs for the call itself only where its window and its message's number are of 32 bits. A lawful machine gives no other.
abbrev pub MayFollow : Call → Answer → Type 0
MayFollow call (Enter s proc_no w number wparam lparam) = LeavesNot call
MayFollow call (Inside s proc_no) = AreNarrow (parameters_of call)
MayFollow call (Called proc_no) = AreNarrow (parameters_of call)
MayFollow call a = Unit {0}

-- what may be handed in where that was asked for: an answer after a call, a result after a procedure
abbrev pub Awaits : Next → Got → Type 0
Awaits (Make call) (Answered a) = MayFollow call a
Awaits (RunOf proc_no w number wparam lparam callback) (Returned x) = Unit {0}
Awaits next got = ⊥

-- a procedure is to run
abbrev pub IsRun : Next → Type 0
IsRun (RunOf proc_no w number wparam lparam callback) = Unit {0}
IsRun next = ⊥

-- what may be handed in at that stage
abbrev pub Accepts : Stage → Got → Type 0
Accepts (Fresh c) Start = Unit {0}
Accepts (Ready turn) Start = Unit {0}
Accepts (Asked turn) (Answered a) = MayFollow turn.call a
Accepts (RunningStage turn next first) (Returned x) = Unit {0}
Accepts (LeavingStage turn next first value) (Answered a) = MayFollow (Leave value) a
Accepts stage got = ⊥

-- how many compounds may begin inside of one another in a loop of messages
abbrev pub modal_depth : Modal → ℕ
modal_depth Pump = 0
modal_depth (DialogLoop d) = 1

-- the same from that place on
abbrev pub depth : Place → ℕ
depth MakingWindow = 1
depth (Greeting w) = 1
depth (Telling w) = 1
depth Undoing = 0
depth (Dooming w) = 0
depth (Unmaking w) = 0
depth (Destroying w) = 0
depth (Parting w v) = 0
depth (Dropping w) = 0
depth Single = 0
depth (Calling call) = 0
depth (Notifying n y) = 0
depth (Seeking b) = 0
depth (Reaching b w) = 0
depth (Getting m) = modal_depth m
depth (Translating m msg) = modal_depth m
depth (Dispatching m) = modal_depth m
depth (Opening w) = 1
depth (Disabling d) = 1
depth (Asking d) = 1
depth (Requitting d) = 1
depth (Finishing d) = 1
depth (Enabling a) = 0
depth (Defaulting x) = 0

-- the compounds around that place wait for one inside of them, and with all that may begin they are three deep at most
abbrev pub IsInside : Place → Around → Type 0
IsInside q Nobody = depth q ≤ 2
IsInside q (One a) = (depth q ≤ 1) × (depth a ≤ 2)
IsInside q (Two a b) = (depth q ≤ 0) × (depth a ≤ 1) × (depth b ≤ 2)

-- one compound more around the one that begins inside of it
abbrev pub within : Place → Around → Around
within q Nobody = One q
within q (One a) = Two q a
within q (Two a b) = Two q a

-- how many compounds are around
abbrev pub count : Around → ℕ
count Nobody = 0
count (One a) = 1
count (Two a b) = 2

-- the same where its end may lead to a place; a statement that is one call alone is inside of none
abbrev pub IsPlaced : Option Place → Around → Type 0
IsPlaced (Some q) around = IsInside q around
IsPlaced None Nobody = Unit {0}
IsPlaced None around = ⊥

-- a call that is neither a `leave` nor the end of a thread
pub record StandsAlone (call : Call) : Type 0 where
  pub stays : leaves call ≡ false
  pub goes_on : is_last call ≡ false

-- a call that a statement makes itself, neither a `leave` nor the end of a thread, before that place
pub record Suits (call : Call) (place : Option Place) (around : Around) : Type 0 where
  pub stays : leaves call ≡ false
  pub goes_on : is_last call ≡ false
  pub inside : IsPlaced place around

-- the same turn at the place of the compound around it, where one is around
abbrev pub outer_in : Turn → Around → Option Turn
outer_in turn Nobody = None
outer_in turn (One a) = Some (record turn { place = Some a; around = Nobody })
outer_in turn (Two a b) = Some (record turn { place = Some a; around = One b })

-- the same by the compounds that are around the turn
abbrev pub outer : Turn → Option Turn
outer turn = outer_in turn turn.around

-- a call that a statement makes itself
abbrev pub IsTurn : Turn → Type 0
IsTurn turn = Suits turn.call turn.place turn.around

-- the first call of a compound
abbrev pub first_turn : Begin → Around → Call → Turn
first_turn b around call = record { call = b.call; place = Some b.place; around = around; statement = call }

-- the pieces of the compounds around one, before others
abbrev pub around_pieces : Around → List Piece → List Piece
around_pieces Nobody ps = ps
around_pieces (One a) ps = Feed a ∷ ps
around_pieces (Two a b) ps = Feed a ∷ Feed b ∷ ps

-- the piece of a place, before others
abbrev pub placed : Option Place → List Piece → List Piece
placed (Some q) ps = Feed q ∷ ps
placed None ps = ps

-- the pieces behind a call
abbrev pub behind : Turn → List Piece
behind turn = placed turn.place (around_pieces turn.around (Settle turn.statement ∷ []))

-- the piece behind the procedure that runs for a call
abbrev pub then_piece : Call → Then → Piece
then_piece call AgainThen = Again call
then_piece call (GivingThen a) = Giving a

-- what comes behind the procedure that runs after an answer to a call other than `leave`
abbrev pub then_of : Answer → Then
then_of (Enter s proc_no w number wparam lparam) = AgainThen
then_of (Callback s proc_no w number extra result) = AgainThen
then_of a = GivingThen a

-- Pieces that hand this result on to the rest, whatever the answer to the `leave` above them: the result of the first procedure. The procedures that ran for its `leave` have left theirs above it.
pub data Hands (x : ℕ) (rest : List Piece) : List Piece → Type 0 where
  -- the first procedure has left its result
  first : (p : Parameters) → Hands x rest (Left x ∷ Restore p ∷ rest)
  -- one more, for the answer to the `leave` of another
  more : {ps : List Piece} (y : ℕ) (p : Parameters) (a : Answer) → Hands x rest ps → Hands x rest (Left y ∷ Restore p ∷ Giving a ∷ ps)

-- The pieces below a procedure that runs: the rest where it is the first, and else those that hand on the first result.
pub data Below (rest : List Piece) : Option ℕ → List Piece → Type 0 where
  is_first : Below rest None rest
  is_later : {ps : List Piece} (x : ℕ) (a : Answer) → Hands x rest ps → Below rest (Some x) (Giving a ∷ ps)

-- a piece that leaves with that result
abbrev pub IsLeave : ℕ → Piece → Type 0
IsLeave x (Leaves frame y) = y ≡ x
IsLeave x (Making call) = call ≡ Leave x
IsLeave x p = ⊥

-- The pieces and the state of the table that a stage stands for.
pub data StandsFor : Stage → List Piece → State → Type 0 where
  -- before the first call: the pieces of the statement
  is_fresh : (c : Compound) (v : Variables) → StandsFor (Fresh c) (begun c) (Going v)
  -- before the first call, which is that one
  is_ready : (turn : Turn) (v : Variables) → IsTurn turn → StandsFor (Ready turn) (Making turn.call ∷ behind turn) (Going v)
  -- a call is made, and what it leads to is behind it
  is_asked : (turn : Turn) (v : Variables) → IsTurn turn → StandsFor (Asked turn) (Making turn.call ∷ behind turn) (Going v)
  -- a procedure runs
  is_running : {qs : List Piece} (turn : Turn) (next : Then) (first : Option ℕ) (run : Run) (v : Variables) → IsTurn turn → Below (then_piece turn.call next ∷ behind turn) first qs → StandsFor (RunningStage turn next first) (Running run ∷ qs) (Going v)
  -- a procedure is left
  is_leaving : {qs : List Piece} (turn : Turn) (next : Then) (x value : ℕ) (p : Piece) (v : Variables) → IsTurn turn → IsLeave value p → Hands x (then_piece turn.call next ∷ behind turn) qs → StandsFor (LeavingStage turn next x value) (p ∷ qs) (Going v)
  -- nothing is left
  is_over : (v : Variables) → StandsFor Over [] (Going v)

-- From these pieces and that state the table comes to what is asked for, and the stage stands for where it then is.
pub record Leads (s : Tree) (n : ℕ) (ps : List Piece) (st : State) (stage : Stage) (next : Next) : Type 0 where
  pub left : List Piece
  pub state : State
  pub comes : Comes s n ps st next left state
  pub stands : StandsFor stage left state
