-- The status of a thread's queue: which kinds of messages are there, and which of them came since the thread looked last.
use Rattle.std.specs.Prelude.{if◌then◌else◌, ℕ, ◌==◌, ◌+◌, ◌*◌, nat_le, Bool, true, false, not, ◌&&◌, ◌||◌, [], ◌∷◌, length, Option, Some, None, unwrap_or, bit_and}
use Rattle.std.specs.List.{list_any}
use Rattle.win_num.specs.declared.shapes.Point.{Point}
use Rattle.win_num.specs.declared.names.TheConstants.{QS_KEY, QS_MOUSEBUTTON, QS_MOUSEMOVE, QS_PAINT, QS_POSTMESSAGE, QS_SENDMESSAGE, QS_TIMER, WM_MOUSEMOVE}
use Rattle.user_model.specs.declared.call.Call.{Call}
use Rattle.user_model.specs.declared.call.Call.TheVariants.{Get, Peek, Status}
use Rattle.user_model.specs.declared.entry.Entry.{Entry}
use Rattle.user_model.specs.declared.entry.Setup.{Setup}
use Rattle.user_model.specs.Past.{Past, place_after, last_of}
use Rattle.user_model.specs.Windows.{live}
use Rattle.user_model.specs.Dirty.{is_dirty, pixels_of, has_some}
use Rattle.user_model.specs.Posts.{PostedQuit, posted, quit}
use Rattle.user_model.specs.Ready.{place_of, ready}
use Rattle.user_model.specs.Inputs.{untaken}
use Rattle.user_model.specs.Targets.{is_of_mouse, taker}
use Rattle.user_model.specs.Timers.{WinTimer, timers_of, is_due, sets}

-- whether the call is a look at what is there: a get, a peek or a status
abbrev pub is_look : Call → Bool
is_look (Get w min max) = true
is_look (Peek w min max flags) = true
is_look (Status flags) = true
is_look _ = false

-- the past with an entry that is a look of t
abbrev pub looked : ℕ → Entry → Past → Option Past
looked t e before = if is_look e.call && (e.who.0 == t) then Some (e ∷ before) else None

-- the past up to t's last look, which is its newest entry; the empty one, after which all came, where t hasn't looked
abbrev pub last_look : Past → ℕ → Past
last_look past t = unwrap_or (last_of (looked t) past) []

-- whether what is at this place came after the look
abbrev pub came_after : Past → ℕ → Bool
came_after look place = nat_le (length look) place

-- whether a message is a key's
abbrev pub is_of_key : ℕ → Bool
is_of_key message = not (is_of_mouse message)

-- whether it is a move of the mouse
abbrev pub is_move : ℕ → Bool
is_move message = message == WM_MOUSEMOVE

-- whether it is a button's
abbrev pub is_of_button : ℕ → Bool
is_of_button message = is_of_mouse message && not (is_move message)

-- whether there is input of a kind that t would take now, wherever it stands among the untaken, and that came after the look
abbrev pub has_input : (ℕ → Bool) → Setup → Past → ℕ → Past → Bool
has_input is_kind setup past t look = list_any (λ x. is_kind x.message && (came_after look x.place && (taker setup past x == t))) (untaken setup past)

-- whether a quit came after the look; it comes with its last posting
abbrev pub quit_came : Past → Option PostedQuit → Bool
quit_came look None = false
quit_came look (Some q) = came_after look q.place

-- whether there is a posted message for t, or quit, that came after the look
abbrev pub has_post : Past → ℕ → Past → Bool
has_post past t look = list_any (λ x. came_after look x.place) (posted past t) || quit_came look (quit past t)

-- the place of an entry that sets the timer of w with this id
abbrev pub setting_told : ℕ → ℕ → Entry → Past → Option ℕ
setting_told w id e before = if sets w id e.call then Some (place_after before) else None

-- the place at which a timer was set last
abbrev pub set_place : Past → WinTimer → ℕ
set_place past x = unwrap_or (last_of (setting_told x.hwnd x.id) past) 0

-- a timer came after the look where it was set after it, or wasn't due at it
abbrev pub timer_came : Past → Past → WinTimer → Bool
timer_came past look x = came_after look (set_place past x) || not (is_due look x)

-- whether a timer of t is due that came after the look
abbrev pub has_timer : Past → ℕ → Past → Bool
has_timer past t look = list_any (λ x. is_due past x && timer_came past look x) (timers_of past t)

-- whether a pixel is dirty for w that wasn't dirty for it at the look
abbrev pub is_newly_dirty : Setup → Past → Past → ℕ → Point → Bool
is_newly_dirty setup past look w p = is_dirty setup past w p && not (is_dirty setup look w p)

-- whether there is such a pixel of a window of t
abbrev pub has_paint : Setup → Past → ℕ → Past → Bool
has_paint setup past t look = list_any (λ x. (x.thread == t) && has_some (pixels_of setup (is_newly_dirty setup past look x.number))) (live past)

-- whether a send to t, or a result for it, is ready that came after the look
abbrev pub has_send : Past → ℕ → Past → Bool
has_send past t look = list_any (λ r. came_after look (place_of r)) (ready past t)

-- a bit, where there is what it stands for
abbrev pub bit_where : Bool → ℕ → ℕ
bit_where true bit = bit
bit_where false bit = 0

-- the bits of all that is there for t and came after the look
abbrev pub bits_since : Setup → Past → ℕ → Past → ℕ
bits_since setup past t look =
    bit_where (has_input is_of_key setup past t look) QS_KEY
    + bit_where (has_input is_move setup past t look) QS_MOUSEMOVE
    + bit_where (has_input is_of_button setup past t look) QS_MOUSEBUTTON
    + bit_where (has_post past t look) QS_POSTMESSAGE
    + bit_where (has_timer past t look) QS_TIMER
    + bit_where (has_paint setup past t look) QS_PAINT
    + bit_where (has_send past t look) QS_SENDMESSAGE

-- in the high word the bits of what is there, in the low word those of what came after t's last look; the flags mask both
abbrev pub status : Setup → Past → ℕ → ℕ → ℕ
status setup past t flags = 65536 * bit_and (bits_since setup past t []) flags + bit_and (bits_since setup past t (last_look past t)) flags
