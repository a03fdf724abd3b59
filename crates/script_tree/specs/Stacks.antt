-- The frames among the pieces that are left, the innermost first.
use Rattle.std.specs.Prelude.{◌≡◌, Bool, true, false, not, ◌||◌, List, [], ◌∷◌}
use Rattle.win_num.specs.declared.send.Frame.{Frame}
use Rattle.win_num.specs.declared.send.Frame.TheVariants.{Await as AwaitFrame}
use Rattle.user_model.specs.declared.call.Call.{Call}
use Rattle.user_model.specs.declared.call.Call.TheVariants.{Peek, Get, Dispatch, Send, SendTimeout, SendNotify, SendCallback, Await, Leave, EndThread}
use Rattle.user_model.specs.declared.entry.Answer.{Answer}
use Rattle.user_model.specs.declared.entry.Answer.TheVariants.{Wait, Called, Inside, Begun, Left as LeftOf, Enter, Callback, Done, Ended}
use Rattle.user_model.specs.Stacks.{leaves, stacked}
use Rattle.script_tree.specs.Steps.{is_last}
use Rattle.script_tree.specs.Pieces.{Piece, Lines, One, PassEnd, Making, Again, Giving, Settle, Quiet, Sleeping, Running, Leaving, Leaves, Left, Restore, Feed, State, Going, Returning, Given, Trace}

-- the stack after a trace that begins with these frames
abbrev pub stack_after : List Frame → Trace → List Frame
stack_after frames [] = frames
stack_after frames (x ∷ tr) = stack_after (stacked x.0 x.1 frames) tr

-- the frame of a call that waits for a send
abbrev pub awaited : Call → List Frame → List Frame
awaited (Await s) frames = AwaitFrame (record { 0 = s }) ∷ frames
awaited call frames = frames

-- the frames among pieces, the innermost first
abbrev pub frames_in : List Piece → List Frame
frames_in [] = []
frames_in (Making call ∷ ps) = awaited call (frames_in ps)
frames_in (Again call ∷ ps) = awaited call (frames_in ps)
frames_in (Running run ∷ ps) = run.frame ∷ frames_in ps
frames_in (Leaving run ∷ ps) = run.frame ∷ frames_in ps
frames_in (Leaves frame x ∷ ps) = frame ∷ frames_in ps
frames_in (p ∷ ps) = frames_in ps

-- whether the call serves sends of others and callbacks
abbrev pub serves : Call → Bool
serves (Peek w min max flags) = true
serves (Get w min max) = true
serves (Await s) = true
serves _ = false

-- whether the call sends
abbrev pub sends : Call → Bool
sends (Send w m p q) = true
sends (SendTimeout w m p q flags ms) = true
sends (SendNotify w m p q) = true
sends (SendCallback w m p q proc_no extra) = true
sends _ = false

-- whether the call hands a message to a procedure
abbrev pub dispatches : Call → Bool
dispatches (Dispatch w m p q) = true
dispatches _ = false

-- whether the call waits for a send
abbrev pub awaits : Call → Bool
awaits (Await s) = true
awaits _ = false

-- whether the answer may stand behind the call, as far as it touches the stack or ends the thread
abbrev pub is_listed : Call → Answer → Bool
is_listed call Wait = not (leaves call)
is_listed call (Enter s proc_no w number wparam lparam) = serves call
is_listed call (Callback s proc_no w number extra result) = serves call || leaves call
is_listed call (Inside s proc_no) = sends call
is_listed call (Begun s) = sends call
is_listed call (Called proc_no) = dispatches call
is_listed call (LeftOf s) = leaves call
is_listed call (Done result cause) = awaits call
is_listed call Ended = is_last call
is_listed call _ = not (leaves call || awaits call)

-- all answers of a trace may stand behind their calls
abbrev pub AreListed : Trace → Type 0
AreListed [] = Unit {0}
AreListed (x ∷ tr) = (is_listed x.0 x.1 ≡ true) × AreListed tr

-- what a piece gets
pub data Kind : Type 0 where
  Goes : Kind
  Returns : Kind
  Gives : Kind

abbrev pub kind_of : State → Kind
kind_of (Going v) = Goes
kind_of (Returning v x) = Returns
kind_of (Given v a x) = Gives

-- the frame of a procedure
abbrev pub IsProcedure : Frame → Type 0
IsProcedure (AwaitFrame s) = ⊥
IsProcedure frame = Unit {0}

-- no send is waited for on top
abbrev pub AwaitsNone : List Frame → Type 0
AwaitsNone [] = Unit {0}
AwaitsNone (frame ∷ frames) = IsProcedure frame

-- a call fits the stack: a `leave` stands on a procedure, an `await` on its send, the end of the thread on no frame, and any other call on no send
abbrev pub Fits : Call → List Frame → Type 0
Fits (Leave x) frames = (frame : Frame) × (rest : List Frame) × (frames ≡ frame ∷ rest) × IsProcedure frame
Fits (Await s) frames = (rest : List Frame) × (frames ≡ AwaitFrame (record { 0 = s }) ∷ rest)
Fits EndThread frames = frames ≡ []
Fits call frames = AwaitsNone frames

-- what has to hold where a call is to be made with these frames below: `leave` is made by its frame alone, `await` needs no more, the end of the thread stands on no frame, any other call on no send
abbrev pub MakingSuits : Call → Kind → List Frame → Type 0 → Type 0
MakingSuits call Gives frames next = ⊥
MakingSuits (Leave x) k frames next = ⊥
MakingSuits EndThread k frames next = (frames ≡ []) × next
MakingSuits (Await s) Goes frames next = next
MakingSuits call Goes frames next = AwaitsNone frames × next
MakingSuits call Returns frames next = ⊥

-- the same for a call that is to be made again
abbrev pub AgainSuits : Call → List Frame → Type 0 → Type 0
AgainSuits (Leave x) frames next = ⊥
AgainSuits EndThread frames next = ⊥
AgainSuits (Await s) frames next = next
AgainSuits call frames next = AwaitsNone frames × next

-- each of the pieces gets what it can begin with, and no send is waited for where another call may come
abbrev pub Suits : List Piece → Kind → Type 0
Suits [] k = Unit {0}
Suits (Lines lines ∷ ps) Goes = AwaitsNone (frames_in ps) × Suits ps Goes × Suits ps Returns
Suits (Lines lines ∷ ps) Returns = Suits ps Returns
Suits (One line ∷ ps) Goes = AwaitsNone (frames_in ps) × Suits ps Goes × Suits ps Returns
Suits (One line ∷ ps) Returns = Suits ps Returns
Suits (PassEnd loop began ∷ ps) Goes = AwaitsNone (frames_in ps) × Suits ps Goes × Suits ps Returns
Suits (PassEnd loop began ∷ ps) Returns = Suits ps Returns
Suits (Making call ∷ ps) k = MakingSuits call k (frames_in ps) (Suits ps Gives)
Suits (Again call ∷ ps) Returns = AgainSuits call (frames_in ps) (Suits ps Gives)
Suits (Giving a ∷ ps) Goes = Suits ps Gives
Suits (Giving a ∷ ps) Returns = Suits ps Gives
Suits (Settle call ∷ ps) Gives = Suits ps Goes
Suits (Quiet ∷ ps) Gives = Suits ps Goes
Suits (Sleeping ms ∷ ps) Gives = AwaitsNone (frames_in ps) × Suits ps Goes
Suits (Running run ∷ ps) Goes = IsProcedure run.frame × Suits ps Returns
Suits (Leaving run ∷ ps) Goes = IsProcedure run.frame × Suits ps Returns
Suits (Leaving run ∷ ps) Returns = IsProcedure run.frame × Suits ps Returns
Suits (Leaves frame x ∷ ps) Goes = IsProcedure frame × Suits ps Gives
Suits (Left x ∷ ps) Gives = Suits ps Returns
Suits (Restore p ∷ ps) Returns = Suits ps Returns
Suits (Feed q ∷ ps) Gives = AwaitsNone (frames_in ps) × Suits ps Gives
Suits (p ∷ ps) k = ⊥
