-- The trace of one key at a dialog.
use Rattle.std.specs.Prelude.{◌≡◌, if◌then◌else◌, ℕ, ◌==◌, Bool, true, false, List, [], ◌∷◌, ◌++◌, Option, Some, None, unwrap_or}
use Rattle.win_num.specs.Codes.{number_of}
use Rattle.user_model.specs.declared.call.Call.{Call}
use Rattle.user_model.specs.declared.call.Call.TheVariants.{Send, ChildAfter, StyleOf}
use Rattle.user_model.specs.declared.entry.Answer.{Answer}
use Rattle.user_model.specs.declared.entry.Answer.TheVariants.{Window, Value, Refused}
use Rattle.script_tree.specs.Tree.{Tree}
use Rattle.script_tree.specs.Pieces.{Piece, State, Going}
use Rattle.script_tree.specs.declared.variables.Variables.{Variables}
use Rattle.win_calls.specs.declared.compound.Compound.TheVariants.{SetFocus}
use Rattle.win_calls.specs.declared.compound.Next.{Next}
use Rattle.win_calls.specs.declared.compound.Next.TheVariants.{Make, Run as RunOf, Done}
use Rattle.win_calls.specs.declared.compound.Got.{Got}
use Rattle.win_calls.specs.declared.compound.Got.TheVariants.{Start, Answered}
use Rattle.win_calls.specs.Table.{begun, made, Handed as HandedIn, Comes as ComesTo}
use Rattle.dialog_keys.specs.declared.key.DialogKey.{DialogKey}
use Rattle.dialog_keys.specs.declared.key.Errand.TheVariants.{Moves, Commands, Nothing}
use Rattle.dialog_keys.specs.declared.key.TheConstants.{WM_COMMAND}
use Rattle.dialog_keys.specs.Keys.{errand_of}
use Rattle.dialog_keys.specs.Controls.{is_open, next_control}

-- Where in its trace a key is.
pub data Point : Type 0 where
  -- nothing has happened
  beginning : DialogKey → Point
  -- `child_after` of that number is to be made; so many children were open until then, in the order of the walk
  walking : DialogKey → Bool → List ℕ → ℕ → Point
  -- `style_of` of that child is to be made
  looking : DialogKey → Bool → List ℕ → ℕ → Point
  -- the walk is over: these children were open
  walked : DialogKey → Bool → List ℕ → Point
  -- the walk was refused by an error of that number
  refused : ℕ → Point
  -- the statement that the key leads to is where the table of steps has these pieces and that state; a `set_focus` gives its window
  stating : Option ℕ → List Piece → State → Point
  -- nothing is left
  over : Point

-- the calls of the walk
abbrev pub child_call : DialogKey → ℕ → Call
child_call k v = ChildAfter k.dialog.0 v

-- the command that is sent to the dialog, with the window that has the focus
abbrev pub command_call : DialogKey → ℕ → Call
command_call k id = Send k.dialog.0 WM_COMMAND id k.focus.0

-- the number of the error, where a call was refused
abbrev pub error_of : Answer → Option ℕ
error_of (Refused code) = Some (number_of code)
error_of a = None

-- the child that a `child_after` gives; 0 is none
abbrev pub child_of : Answer → Option ℕ
child_of (Window w) = if w.0 == 0 then None else Some w.0
child_of a = None

-- where an error, or else a child, leads: where the call is refused to the end of all, with a child to its style, and without one to the end of the walk
abbrev pub led_to : DialogKey → Bool → List ℕ → Option ℕ → Option ℕ → Point
led_to k forwards ws (Some err) child = refused err
led_to k forwards ws None (Some w) = looking k forwards ws w
led_to k forwards ws None None = walked k forwards ws

-- where a `child_after` leads
abbrev pub child_told : DialogKey → Bool → List ℕ → Answer → Point
child_told k forwards ws a = led_to k forwards ws (error_of a) (child_of a)

-- whether the answer to a `style_of` says that the child is open; a refusal doesn't
abbrev pub tells_open : Answer → Bool
tells_open (Value style) = is_open style
tells_open a = false

-- the open children with one more, if that is open
abbrev pub seen : List ℕ → ℕ → Bool → List ℕ
seen ws w true = ws ++ w ∷ []
seen ws w false = ws

-- where a `style_of` leads: to the `child_after` of that child
abbrev pub style_told : DialogKey → Bool → List ℕ → ℕ → Answer → Point
style_told k forwards ws w a = walking k forwards (seen ws w (tells_open a)) w

-- Where the trace goes on when this is handed in.
pub data Handed (s : Tree) (n : ℕ) : Point → Got → Point → Type 0 where
  -- at the start nothing has happened
  started : (k : DialogKey) → Handed s n (beginning k) Start (beginning k)
  -- a `child_after` is answered
  was_child : (k : DialogKey) (forwards : Bool) (ws : List ℕ) (v : ℕ) (a : Answer) → Handed s n (walking k forwards ws v) (Answered a) (child_told k forwards ws a)
  -- a `style_of` is answered
  was_style : (k : DialogKey) (forwards : Bool) (ws : List ℕ) (w : ℕ) (a : Answer) → Handed s n (looking k forwards ws w) (Answered a) (style_told k forwards ws w a)
  -- the statement goes on as the table of steps does
  went_on : (gives : Option ℕ) {ps qs : List Piece} {st sq : State} {g : Got} → HandedIn s n ps st g qs sq → Handed s n (stating gives ps st) g (stating gives qs sq)

-- it isn't the end of a statement
abbrev pub IsOn : Next → Type 0
IsOn (Make call) = Unit {0}
IsOn (RunOf proc_no w number wparam lparam callback) = Unit {0}
IsOn (Done r err) = ⊥

-- What comes next in the trace, and where the key then is.
pub data Comes (s : Tree) (n : ℕ) : Point → Next → Point → Type 0 where
  -- a key that moves the focus begins the walk before the first child
  begins : (k : DialogKey) (forwards : Bool) → errand_of k.vk k.shift ≡ Moves forwards → Comes s n (beginning k) (Make (child_call k 0)) (walking k forwards [] 0)
  -- a key that commands has what comes of the statement `send`
  commands : (k : DialogKey) (id : ℕ) (v : Variables) {next : Next} {p : Point} → errand_of k.vk k.shift ≡ Commands id → Comes s n (stating None (made (command_call k id)) (Going v)) next p → Comes s n (beginning k) next p
  -- any other ends at once
  passes : (k : DialogKey) → errand_of k.vk k.shift ≡ Nothing → Comes s n (beginning k) (Done 0 0) over
  -- the call for the next child
  asks_child : (k : DialogKey) (forwards : Bool) (ws : List ℕ) (v : ℕ) → Comes s n (walking k forwards ws v) (Make (child_call k v)) (walking k forwards ws v)
  -- the call for the style of a child
  asks_style : (k : DialogKey) (forwards : Bool) (ws : List ℕ) (w : ℕ) → Comes s n (looking k forwards ws w) (Make (StyleOf w)) (looking k forwards ws w)
  -- behind the walk comes what comes of the statement `set_focus` of the next control
  focuses : (k : DialogKey) (forwards : Bool) (ws : List ℕ) (w : ℕ) (v : Variables) {next : Next} {p : Point} → next_control forwards k.focus.0 ws ≡ Some w → Comes s n (stating (Some w) (begun (SetFocus w)) (Going v)) next p → Comes s n (walked k forwards ws) next p
  -- where there is none it ends
  stays : (k : DialogKey) (forwards : Bool) (ws : List ℕ) → next_control forwards k.focus.0 ws ≡ None → Comes s n (walked k forwards ws) (Done 0 0) over
  -- a walk that was refused ends with the number of the error
  stops : (err : ℕ) → Comes s n (refused err) (Done 0 err) over
  -- what the statement asks for
  asks : (gives : Option ℕ) {ps qs : List Piece} {st sq : State} (next : Next) → IsOn next → ComesTo s n ps st next qs sq → Comes s n (stating gives ps st) next (stating gives qs sq)
  -- it ends with the err of the statement and with its r, or for a `set_focus` with the window
  ends : (gives : Option ℕ) {ps qs : List Piece} {st sq : State} (r err : ℕ) → ComesTo s n ps st (Done r err) qs sq → Comes s n (stating gives ps st) (Done (unwrap_or gives r) err) over
