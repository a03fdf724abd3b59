-- Where input goes: it is decided when it is taken.
use Rattle.std.specs.Prelude.{if◌then◌else◌, ℕ, zero, suc, ◌==◌, ◌+◌, ◌-◌, ◌*◌, ◌%◌, Bool, true, false, ◌&&◌, ◌||◌, ℤ, pos, negsuc, ◌-ℤ◌, find, take_while, Option}
use Rattle.win_num.specs.declared.message.Filter.{Filter}
use Rattle.win_num.specs.declared.message.Msg.{Msg}
use Rattle.win_num.specs.declared.shapes.Point.{Point}
use Rattle.win_num.specs.Numbers.{passes_range}
use Rattle.win_num.specs.declared.names.TheConstants.{WM_LBUTTONDOWN, WM_LBUTTONUP, WM_MOUSEMOVE, WM_RBUTTONDOWN, WM_RBUTTONUP}
use Rattle.user_model.specs.declared.entry.Setup.{Setup}
use Rattle.user_model.specs.Past.{Past}
use Rattle.user_model.specs.Windows.{live, parent_in, thread_of}
use Rattle.user_model.specs.Looks.{is_disabled}
use Rattle.user_model.specs.Pixels.{origin, owner}
use Rattle.user_model.specs.Filters.{passes_window}
use Rattle.user_model.specs.Focus.{focus, active, capture, value_of, if_of_group}
use Rattle.user_model.specs.Posts.{message}
use Rattle.user_model.specs.Inputs.{Element, or_window, untaken_of}

-- whether the number is that of a message of the mouse
abbrev pub is_of_mouse : ℕ → Bool
is_of_mouse number = (number == WM_MOUSEMOVE) || (number == WM_LBUTTONDOWN) || (number == WM_LBUTTONUP) || (number == WM_RBUTTONDOWN) || (number == WM_RBUTTONUP)

-- the first of w, its parent, and so on, that isn't disabled, or 0; a parent has a lesser number, which bounds the walk
abbrev pub enabled_within : ℕ → Past → ℕ → ℕ
enabled_within zero past w = 0
enabled_within (suc n) past w = elim (w == 0) [ true ↦ 0 | false ↦ elim (is_disabled past w) [ true ↦ enabled_within n past (parent_in (live past) w) | false ↦ w ] ]

-- w where it isn't disabled, else the nearest ancestor that isn't, or 0
abbrev pub enabled_at : Past → ℕ → ℕ
enabled_at past w = enabled_within w past w

-- the window of t's group that keys go to: the focus, else the active window
abbrev pub key_window : Past → ℕ → ℕ
key_window past t = or_window (value_of past t focus) (value_of past t active)

-- the window of t's group that the mouse goes to: the capture, else the enabled one at the pixel where that is the group's
abbrev pub mouse_window : Setup → Past → ℕ → Point → ℕ
mouse_window setup past t p = or_window (value_of past t capture) (if_of_group past t (enabled_at past (owner setup past p).0))

-- the window that an element goes to, or 0
abbrev pub target : Setup → Past → Element → ℕ
target setup past x = if is_of_mouse x.message then mouse_window setup past x.home x.point else key_window past x.home

-- the thread that takes an element for this window, or without one its home
abbrev pub taker_at : Past → Element → ℕ → ℕ
taker_at past x w = if w == 0 then x.home else thread_of past w

-- the thread that takes an element
abbrev pub taker : Setup → Past → Element → ℕ
taker setup past x = taker_at past x (target setup past x)

-- a number modulo 65536
abbrev pub low_word : ℤ → ℕ
low_word (pos n) = n % 65536
low_word (negsuc n) = 65535 - n % 65536

-- a pixel from the left top corner of w, or for 0 of the screen: x in the low word and y in the high word
abbrev pub packed : Past → ℕ → Point → ℕ
packed past w p = low_word (p.x -ℤ (origin past w).x) + 65536 * low_word (p.y -ℤ (origin past w).y)

-- the message of an element for this window
abbrev pub message_for : Past → Element → ℕ → Msg
message_for past x w = if is_of_mouse x.message then message w x.message 0 (packed past w x.point) x.time x.point else message w x.message x.key 1 x.time x.point

-- whether the filter lets an element pass
abbrev pub passes_input : Setup → Past → Filter → Element → Bool
passes_input setup past f x = passes_range f.min f.max x.message && passes_window past f.hwnd (target setup past x)

-- the first untaken element of t's group that passes, among those before which all are t's to take
abbrev pub to_take : Setup → Past → ℕ → Filter → Option Element
to_take setup past t f = find (passes_input setup past f) (take_while (λ x. taker setup past x == t) (untaken_of setup past t))
