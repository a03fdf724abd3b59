-- The compounds: how each begins, and where the answer to each of their calls leads. A compound may begin inside of another.
use Rattle.std.specs.Prelude.{ℕ, pos, ◌==◌, Bool, not, ◌&&◌, if◌then◌else◌, Option, Some, None}
use Rattle.script_tree.specs.declared.messages.TheConstants.{WM_PAINT, WM_ERASEBKGND, WM_CLOSE, WM_ACTIVATE, WM_CANCELMODE, WM_NCCREATE, WM_CREATE, WM_DESTROY, WM_NCDESTROY}
use Rattle.user_model.specs.declared.call.Call.{Call}
use Rattle.user_model.specs.declared.call.Call.TheVariants.{BeginDialog, Get, Post, Send, SendNotify, Doom, Unmake, Drop, NextTop, SetFocus, ReleaseCapture, Validate, Erase}
use Rattle.user_model.specs.declared.entry.Answer.{Answer}
use Rattle.user_model.specs.declared.entry.Answer.TheVariants.{Value, Window as WindowMade, Tell, Last, Refused}
use Rattle.script_tree.specs.declared.variables.Parameters.{Parameters}
use Rattle.script_tree.specs.declared.frame.Begin.{Begin}
use Rattle.script_tree.specs.declared.frame.Place.{Place}
use Rattle.script_tree.specs.declared.frame.Place.TheVariants.{Making, Greeting, Telling, Undoing, Dooming, Unmaking, Destroying, Parting, Dropping, Single, Calling, Notifying, Seeking, Reaching, Getting, Translating, Dispatching, Opening, Disabling, Asking, Requitting, Finishing, Enabling, Defaulting}
use Rattle.script_tree.specs.declared.frame.Modal.TheVariants.{Pump as PumpLoop, Dialog as DialogLoop}
use Rattle.script_tree.specs.declared.frame.Notice.{Notice}
use Rattle.script_tree.specs.declared.frame.Notices.{Notices}
use Rattle.script_tree.specs.declared.frame.Spread.{Spread}
use Rattle.script_tree.specs.declared.frame.Spread.TheVariants.{Posts, Notifies}
use Rattle.script_tree.specs.declared.frame.Broadcast.{Broadcast}
use Rattle.script_tree.specs.declared.frame.Lead.{Lead}
use Rattle.script_tree.specs.declared.frame.Lead.TheVariants.{Calls, Runs, Ends}
use Rattle.script_tree.specs.declared.statement.CompoundStatement.{CompoundStatement}
use Rattle.script_tree.specs.declared.statement.CompoundStatement.TheVariants.{PostAll, NotifyAll, Pump, Dialog as DialogOf}
use Rattle.script_tree.specs.declared.variables.Variables.{Variables}
use Rattle.script_tree.specs.Modals.{turns, dispatches, after_getting, after_opening, after_disabling, after_asking, finishes}
use Rattle.script_tree.specs.Notices.{number_in, next_notice, others, notices_after, result_after}
use Rattle.script_tree.specs.Values.{value_of, first_call}

-- a message without parameters is sent
abbrev pub sent : ℕ → ℕ → Call
sent w number = Send w number 0 0

-- a `create` begins with the call that makes the window
abbrev pub creation : Call → Begin
creation call = record { call = call; place = Making }

-- a `destroy` begins with `doom`
abbrev pub destruction : ℕ → Begin
destruction w = record { call = Doom w; place = Dooming w }

-- the call that makes all of a window clean: none is wider or higher than 4096 pixels
abbrev pub validation : ℕ → Call
validation w = Validate w (pos 0) (pos 0) (pos 4096) (pos 4096)

-- a compound of that call alone
abbrev pub cleaning : ℕ → Begin
cleaning w = record { call = validation w; place = Single }

-- the call that paints a window with the colour of its class, likewise
abbrev pub erasing : ℕ → Begin
erasing w = record { call = Erase w; place = Single }

-- a compound that makes a call and then sends messages
abbrev pub notifying : Call → Begin
notifying call = record { call = call; place = Calling call }

-- a compound that brings a message to each top-level window
abbrev pub broadcasting : Broadcast → Begin
broadcasting b = record { call = NextTop 0; place = Seeking b }

-- a message that goes to each top-level window
abbrev pub broadcast : Spread → ℕ → ℕ → ℕ → Broadcast
broadcast way number p q = record { spread = way; number = number; wparam = p; lparam = q }

-- `pump` begins with `get`
abbrev pub pumping : Begin
pumping = record { call = Get 0 0 0; place = Getting PumpLoop }

-- `dialog` begins with `begin_dialog`
abbrev pub dialog_begin : ℕ → Begin
dialog_begin w = record { call = BeginDialog w; place = Opening w }

-- how a compound statement begins
abbrev pub compound_begin : CompoundStatement → Variables → Begin
compound_begin (PostAll m p q) v = broadcasting (broadcast Posts (value_of m v) (value_of p v) (value_of q v))
compound_begin (NotifyAll m p q) v = broadcasting (broadcast Notifies (value_of m v) (value_of p v) (value_of q v))
compound_begin Pump v = pumping
compound_begin (DialogOf w) v = dialog_begin (value_of w v)
compound_begin c v = notifying (first_call c v)

-- whether the message makes its window the active one
abbrev pub activates : Parameters → Bool
activates p = (p.number == WM_ACTIVATE) && not (p.wparam == 0)

-- the default procedure destroys a window that is to close, makes one clean that is to paint, paints one whose background is to be painted, gives one the focus that becomes the active one, and takes the capture away where what is going on is to be left
abbrev pub default_begin : Parameters → Option Begin
default_begin p =
    if p.number == WM_CLOSE then Some (destruction p.hwnd) else if p.number == WM_PAINT then Some (cleaning p.hwnd) else if p.number == WM_ERASEBKGND then Some (erasing p.hwnd)
    else if activates p then Some (notifying (SetFocus p.hwnd)) else if p.number == WM_CANCELMODE then Some (notifying ReleaseCapture) else None

-- the result of the default procedure
abbrev pub default_result : Parameters → ℕ
default_result p = if p.number == WM_NCCREATE then 1 else if p.number == WM_ERASEBKGND then 1 else 0

-- `create`: its window is destroyed, by a compound inside of it
abbrev pub undoes : ℕ → Lead
undoes w = Runs (destruction w) Undoing

-- the next step of a destruction
abbrev pub unmakes : ℕ → Lead
unmakes w = Calls (Unmake w) (Unmaking w)

-- `create`: the window was made
abbrev pub after_making : Answer → Lead
after_making (WindowMade w) = Calls (sent w.0 WM_NCCREATE) (Greeting w.0)
after_making (Refused code) = Ends (Refused code)
after_making _ = Ends (Value 0)

-- `create`: without a result the window is destroyed
abbrev pub after_greeting : ℕ → ℕ → Lead
after_greeting w x = if x == 0 then undoes w else Calls (sent w WM_CREATE) (Telling w)

-- `create`: with minus one the window is destroyed, else it is the result
abbrev pub kept_or_undone : ℕ → ℕ → Lead
kept_or_undone w x = if x == 18446744073709551615 then undoes w else Ends (Value w)

-- `create`: the window was told
abbrev pub after_telling : ℕ → Answer → ℕ → Lead
after_telling w (Refused code) x = undoes w
after_telling w _ x = kept_or_undone w x

-- `destroy`: whether the windows are marked
abbrev pub after_dooming : ℕ → Answer → Lead
after_dooming w (Refused code) = Ends (Refused code)
after_dooming w _ = unmakes w

-- `destroy`: the step that comes
abbrev pub after_unmaking : ℕ → Answer → Lead
after_unmaking w (Tell v) = Calls (sent v.0 WM_DESTROY) (Destroying w)
after_unmaking w (Last v) = Calls (sent v.0 WM_NCDESTROY) (Parting w v.0)
after_unmaking w (Refused code) = Ends (Refused code)
after_unmaking w _ = Ends (Value 1)

-- the default procedure: its result, or the refusal of the compound inside of it
abbrev pub after_default : ℕ → Answer → Lead
after_default x (Refused code) = Ends (Refused code)
after_default x _ = Ends (Value x)

-- a message of a compound is sent
abbrev pub notice_call : Notice → Call
notice_call n = Send n.window n.number n.wparam n.lparam

-- the next of the messages is sent, and then the others; where there is none the compound ends with this result
abbrev pub notifies_by : Option Notice → Notices → ℕ → Lead
notifies_by (Some x) n y = Calls (notice_call x) (Notifying n y)
notifies_by None n y = Ends (Value y)

abbrev pub notifies : Notices → ℕ → Lead
notifies n y = notifies_by (next_notice n) (others n) y

-- the messages behind the first call, unless that is refused
abbrev pub after_calling : Call → Answer → Lead
after_calling call (Refused code) = Ends (Refused code)
after_calling call a = notifies (notices_after call (number_in a)) (result_after call (number_in a))

-- the message goes to that window
abbrev pub reach_by : Spread → Broadcast → ℕ → Call
reach_by Posts b w = Post w b.number b.wparam b.lparam
reach_by Notifies b w = SendNotify w b.number b.wparam b.lparam

abbrev pub reach : Broadcast → ℕ → Call
reach b w = reach_by b.spread b w

-- the message goes to the next top-level window, if there is one
abbrev pub reaches_or_ends : Broadcast → ℕ → Lead
reaches_or_ends b w = if w == 0 then Ends (Value 1) else Calls (reach b w) (Reaching b w)

abbrev pub after_seeking : Broadcast → Answer → Lead
after_seeking b (Refused code) = Ends (Refused code)
after_seeking b a = reaches_or_ends b (number_in a)

-- the top-level window behind that one is asked for
abbrev pub seeks : Broadcast → ℕ → Lead
seeks b w = Calls (NextTop w) (Seeking b)

-- where an answer and its result lead
abbrev pub compound_after : Place → Answer → ℕ → Lead
compound_after Making a x = after_making a
compound_after (Greeting w) a x = after_greeting w x
compound_after (Telling w) a x = after_telling w a x
compound_after Undoing a x = Ends (Value 0)
compound_after (Dooming w) a x = after_dooming w a
compound_after (Unmaking w) a x = after_unmaking w a
compound_after (Destroying w) a x = unmakes w
compound_after (Parting w v) a x = Calls (Drop v) (Dropping w)
compound_after (Dropping w) a x = unmakes w
compound_after Single a x = Ends a
compound_after (Calling call) a x = after_calling call a
compound_after (Notifying n y) a x = notifies n y
compound_after (Seeking b) a x = after_seeking b a
compound_after (Reaching b w) a x = seeks b w
compound_after (Getting m) a x = after_getting m a
compound_after (Translating m msg) a x = dispatches m msg
compound_after (Dispatching m) a x = turns m
compound_after (Opening w) a x = after_opening w a
compound_after (Disabling d) a x = after_disabling d a
compound_after (Asking d) a x = after_asking d a
compound_after (Requitting d) a x = finishes d
compound_after (Finishing d) a x = turns (DialogLoop d)
compound_after (Enabling b) a x = Ends b
compound_after (Defaulting y) a x = after_default y a
