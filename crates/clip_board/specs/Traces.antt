-- The traces of the states at the clipboard: their calls there, and the sends between them by the table of steps.
use Rattle.std.specs.Prelude.{◌≡◌, ℕ, ◌==◌, Bool, true, false, if◌then◌else◌, List, Option, Some, None}
use Rattle.win_num.specs.declared.message.Hwnd.{Hwnd}
use Rattle.win_num.specs.declared.code.Code.{Code}
use Rattle.win_num.specs.Codes.{number_of}
use Rattle.user_model.specs.declared.call.Call.{Call}
use Rattle.user_model.specs.declared.call.Call.TheVariants.{Send}
use Rattle.script_tree.specs.Tree.{Tree}
use Rattle.script_tree.specs.Pieces.{Piece, State, Going}
use Rattle.script_tree.specs.declared.variables.Variables.{Variables}
use Rattle.win_calls.specs.declared.compound.Next.{Next}
use Rattle.win_calls.specs.declared.compound.Next.TheVariants.{Make, Run as RunOf, Done as DoneOf}
use Rattle.win_calls.specs.declared.compound.Got.{Got}
use Rattle.win_calls.specs.declared.compound.Got.TheVariants.{Start}
use Rattle.win_calls.specs.declared.call_state.CallState.{CallState}
use Rattle.win_calls.specs.Table.{made, Handed as HandedIn, Comes as ComesTo}
use Rattle.win_calls.specs.States.{StandsFor, Accepts as AcceptsIn, Awaits as AwaitsOf}
use Rattle.clip_board.specs.declared.entry.ClipCall.{ClipCall}
use Rattle.clip_board.specs.declared.entry.ClipCall.TheVariants.{Get, Empty}
use Rattle.clip_board.specs.declared.entry.ClipAnswer.{ClipAnswer}
use Rattle.clip_board.specs.declared.entry.ClipAnswer.TheVariants.{Done, Was, Value, Ask, Nothing, Refused}
use Rattle.clip_board.specs.declared.entry.TheConstants.{WM_RENDERFORMAT, WM_DESTROYCLIPBOARD}
use Rattle.clip_board.specs.declared.moves.ClipNext.{ClipNext}
use Rattle.clip_board.specs.declared.moves.ClipNext.TheVariants.{Clip, User}
use Rattle.clip_board.specs.declared.moves.ClipGot.{ClipGot}
use Rattle.clip_board.specs.declared.moves.ClipGot.TheVariants.{Clip as ClipAnswered, User as UserGot}
use Rattle.clip_board.specs.declared.errand.Errand.{Errand}
use Rattle.clip_board.specs.declared.errand.Errand.TheVariants.{Getting, Emptying}
use Rattle.clip_board.specs.declared.errand.Stage.{Stage}
use Rattle.clip_board.specs.declared.errand.Move.{Move}
use Rattle.clip_board.specs.declared.errand.Stage.TheVariants.{Fresh, First, Sending, Again, Over}

-- the answers that a clipboard gives to the calls of the states
abbrev pub MayAnswer : ClipCall → ClipAnswer → Type 0
MayAnswer (Get f) (Value v) = Unit {0}
MayAnswer (Get f) (Ask w) = Unit {0}
MayAnswer (Get f) Nothing = Unit {0}
MayAnswer (Get f) (Refused code) = Unit {0}
MayAnswer Empty (Was w) = Unit {0}
MayAnswer Empty (Refused code) = Unit {0}
MayAnswer call a = ⊥

-- the end, with these values of r and err
abbrev pub done : ℕ → ℕ → ClipNext
done r err = User (DoneOf r err)

-- how a get ends: with the value, or with 0 and the number of what else it was told
abbrev pub get_end : ClipAnswer → ClipNext
get_end (Value v) = done v 0
get_end (Refused code) = done 0 (number_of code)
get_end (Ask w) = done 0 60004
get_end a = done 0 60003

-- how an `Empty` ends
abbrev pub empty_end : ClipAnswer → ClipNext
empty_end (Refused code) = done 0 (number_of code)
empty_end a = done 1 0

-- the call of the clipboard that a state makes
abbrev pub call_of : Errand → ClipCall
call_of (Getting f) = Get f
call_of Emptying = Empty

-- the owner is asked to render the format, or told that its formats are gone
abbrev pub send_to : Hwnd → ℕ → ℕ → Call
send_to w number f = Send w.0 number f 0

-- the send that the answer to its first call leads to, if any
abbrev pub send_after : Errand → ClipAnswer → Option Call
send_after (Getting f) (Ask w) = Some (send_to w WM_RENDERFORMAT f)
send_after Emptying (Was w) = if w.0 == 0 then None else Some (send_to w WM_DESTROYCLIPBOARD 0)
send_after errand a = None

-- how it ends with the answer to its last call
abbrev pub end_of : Errand → ClipAnswer → ClipNext
end_of (Getting f) a = get_end a
end_of Emptying a = empty_end a

-- Where a state is in its trace.
pub data Point : Type 0 where
  -- its first call is to be made
  calling : Errand → Point
  -- its first call was answered
  called : Errand → ClipAnswer → Point
  -- its send is where the table of steps has these pieces and that state
  sending : Errand → List Piece → State → Point
  -- its second `Get` of the format is to be made
  calling_again : ℕ → Point
  -- its last call was answered
  told : Errand → ClipAnswer → Point
  -- nothing is left
  over : Point

-- Where the trace goes on when this is handed in.
pub data Handed (s : Tree) (n : ℕ) : Point → ClipGot → Point → Type 0 where
  -- at the start nothing has happened
  started : (e : Errand) → Handed s n (calling e) (UserGot Start) (calling e)
  -- the first call is answered
  answered : (e : Errand) (a : ClipAnswer) → Handed s n (calling e) (ClipAnswered a) (called e a)
  -- the send goes on as the table of steps does
  went_on : (e : Errand) {ps qs : List Piece} {st sq : State} {g : Got} → HandedIn s n ps st g qs sq → Handed s n (sending e ps st) (UserGot g) (sending e qs sq)
  -- the second `Get` is answered
  answered_again : (f : ℕ) (a : ClipAnswer) → Handed s n (calling_again f) (ClipAnswered a) (told (Getting f) a)

-- it isn't the end of a statement
abbrev pub IsOn : Next → Type 0
IsOn (Make call) = Unit {0}
IsOn (RunOf proc_no w number wparam lparam callback) = Unit {0}
IsOn (DoneOf r err) = ⊥

-- What comes next in the trace, and where the state then is.
pub data Comes (s : Tree) (n : ℕ) : Point → ClipNext → Point → Type 0 where
  -- the first call
  calls : (e : Errand) → Comes s n (calling e) (Clip (call_of e)) (calling e)
  -- an answer that leads to a send has what comes of that send's statement
  sends : (e : Errand) (a : ClipAnswer) (call : Call) (v : Variables) {next : ClipNext} {p : Point} → send_after e a ≡ Some call → Comes s n (sending e (made call) (Going v)) next p → Comes s n (called e a) next p
  -- any other is the last
  ends_at_once : (e : Errand) (a : ClipAnswer) → send_after e a ≡ None → Comes s n (called e a) (end_of e a) over
  -- what the send asks for
  asks : (e : Errand) {ps qs : List Piece} {st sq : State} (next : Next) → IsOn next → ComesTo s n ps st next qs sq → Comes s n (sending e ps st) (User next) (sending e qs sq)
  -- behind the send the second `Get`, whatever the send gave
  gets_again : (f : ℕ) {ps qs : List Piece} {st sq : State} (r err : ℕ) → ComesTo s n ps st (DoneOf r err) qs sq → Comes s n (sending (Getting f) ps st) (Clip (Get f)) (calling_again f)
  -- behind that of an `Empty` its end
  emptied : {ps qs : List Piece} {st sq : State} (r err : ℕ) → ComesTo s n ps st (DoneOf r err) qs sq → Comes s n (sending Emptying ps st) (done 1 0) over
  -- the end
  ends : (e : Errand) (a : ClipAnswer) → Comes s n (told e a) (end_of e a) over

-- what may be handed in where that was asked for
abbrev pub Awaits : ClipNext → ClipGot → Type 0
Awaits (Clip call) (ClipAnswered a) = MayAnswer call a
Awaits (User next) (UserGot g) = AwaitsOf next g
Awaits next got = ⊥

-- what may be handed in at that stage
abbrev pub Accepts : Stage → ClipGot → Type 0
Accepts (Fresh e) (UserGot Start) = Unit {0}
Accepts (First e) (ClipAnswered a) = MayAnswer (call_of e) a
Accepts (Sending e send) (UserGot g) = AcceptsIn send.stage g
Accepts (Again f) (ClipAnswered a) = MayAnswer (Get f) a
Accepts stage got = ⊥

-- Where in its trace a state of that stage is.
pub data StandsAt : Stage → Point → Type 0 where
  is_fresh : (e : Errand) → StandsAt (Fresh e) (calling e)
  is_first : (e : Errand) → StandsAt (First e) (calling e)
  is_sending : (e : Errand) (send : CallState) {ps : List Piece} {st : State} → StandsFor send.stage ps st → StandsAt (Sending e send) (sending e ps st)
  is_again : (f : ℕ) → StandsAt (Again f) (calling_again f)
  is_over : StandsAt Over over

-- From there the trace comes to what is asked for, and the stage is where it then is.
pub record Leads (s : Tree) (n : ℕ) (p : Point) (stage : Stage) (next : ClipNext) : Type 0 where
  pub at : Point
  pub comes : Comes s n p next at
  pub stands : StandsAt stage at

-- what comes behind the send, and the stage then
abbrev pub behind_of : Errand → Move
behind_of (Getting f) = record { stage = Again f; next = Clip (Get f) }
behind_of Emptying = record { stage = Over; next = done 1 0 }
