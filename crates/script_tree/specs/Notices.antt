-- The messages that a compound sends after its first call, one row for each compound.
use Rattle.std.specs.Int.{cast_unsigned, w64}
use Rattle.std.specs.Option.{option_or}
use Rattle.std.specs.Prelude.{ℕ, ◌+◌, ◌-◌, ◌*◌, ◌%◌, ◌==◌, Bool, not, ◌&&◌, if◌then◌else◌, ℤ, Option, Some, None}
use Rattle.win_num.specs.declared.names.TheConstants.{SWP_SHOWWINDOW}
use Rattle.user_model.specs.declared.call.Call.{Call}
use Rattle.user_model.specs.declared.call.Call.TheVariants.{Place, Show, Enable, SetFocus, SetActive, SetCapture, ReleaseCapture, BeginPaint, UpdateRect}
use Rattle.user_model.specs.declared.entry.Answer.{Answer}
use Rattle.user_model.specs.declared.entry.Answer.TheVariants.{Value, Window as WindowAnswer, Was, Update, Painting}
use Rattle.user_model.specs.Windows.{has_flag}
use Rattle.script_tree.specs.declared.messages.TheConstants.{WM_ACTIVATE, WM_CANCELMODE, WM_CAPTURECHANGED, WM_ENABLE, WM_ERASEBKGND, WM_KILLFOCUS, WM_MOVE, WM_PAINT, WM_SETFOCUS, WM_SHOWWINDOW, WM_SIZE}
use Rattle.script_tree.specs.declared.frame.Notice.{Notice}
use Rattle.script_tree.specs.declared.frame.Notices.{Notices}

-- the number that an answer tells: a value; the window that is there or was there; the kind of the pixels that are to be painted; 1 where the background is to be erased; 0 where it tells none
abbrev pub number_in : Answer → ℕ
number_in (Value n) = n
number_in (WindowAnswer w) = w.0
number_in (Was w) = w.0
number_in (Update kind l t r b) = kind
number_in (Painting erase l t r b) = erase
number_in a = 0

-- a message
abbrev pub message : ℕ → ℕ → ℕ → ℕ → Notice
message w number p q = record { window = w; number = number; wparam = p; lparam = q }

-- that message where the test holds
abbrev pub where_so : Bool → Notice → Option Notice
where_so b n = if b then Some n else None

-- these messages
abbrev pub all_of : Option Notice → Option Notice → Option Notice → Notices
all_of x y z = record { first = x; second = y; third = z }

-- the first of them that is there
abbrev pub next_notice : Notices → Option Notice
next_notice n = option_or (option_or n.first n.second) n.third

-- they without that one
abbrev pub others_by : Option Notice → Option Notice → Option Notice → Notices
others_by (Some x) y z = all_of None y z
others_by None (Some y) z = all_of None None z
others_by None None z = all_of None None None

abbrev pub others : Notices → Notices
others n = others_by n.first n.second n.third

-- a coordinate modulo 65536
abbrev pub low_word : ℤ → ℕ
low_word z = cast_unsigned w64 z % 65536

-- two coordinates in one number, the second in its high word
abbrev pub packed : ℕ → ℕ → ℕ
packed x y = x + 65536 * y

-- from one coordinate to another, modulo 65536
abbrev pub distance : ℤ → ℤ → ℕ
distance from to = (low_word to + 65536 - low_word from) % 65536

-- whether it is a window, and another than the second
abbrev pub is_other : ℕ → ℕ → Bool
is_other w than = not (w == than) && not (w == 0)

-- `show_window`: where it changed
abbrev pub shown : ℕ → ℕ → ℕ → Notices
shown w on was = all_of (where_so (not (was == on)) (message w WM_SHOWWINDOW on 0)) None None

-- `enable_window`: where it changed, which is where what was disabled is enabled, or the other way round
abbrev pub enabled : ℕ → ℕ → ℕ → Notices
enabled w on was = all_of (where_so ((was == on) && (on == 0)) (message w WM_CANCELMODE 0 0)) (where_so (was == on) (message w WM_ENABLE on 0)) None

-- `set_window_pos`: the new corner, the new size, and whether it is shown now, as far as they changed
abbrev pub placed : ℕ → ℤ → ℤ → ℤ → ℤ → ℕ → ℕ → Notices
placed w l t r b flags changed =
    all_of (where_so (has_flag changed 1) (message w WM_MOVE 0 (packed (low_word l) (low_word t))))
    (where_so (has_flag changed 2) (message w WM_SIZE 0 (packed (distance l r) (distance t b))))
    (where_so (has_flag changed 4) (message w WM_SHOWWINDOW (if has_flag flags SWP_SHOWWINDOW then 1 else 0) 0))

-- `set_focus` after this window had the focus
abbrev pub focused : ℕ → ℕ → Notices
focused w was = all_of (where_so (is_other was w) (message was WM_KILLFOCUS w 0)) (where_so (is_other w was) (message w WM_SETFOCUS was 0)) None

-- `set_active` after this window was the active one
abbrev pub activated : ℕ → ℕ → Notices
activated w was = all_of (where_so (is_other was w) (message was WM_ACTIVATE 0 w)) (where_so (is_other w was) (message w WM_ACTIVATE 1 was)) None

-- `set_capture`, and for 0 `release_capture`, after this window had the capture
abbrev pub captured : ℕ → ℕ → Notices
captured w was = all_of (where_so (is_other was w) (message was WM_CAPTURECHANGED 0 w)) None None

-- `begin_paint`: where the background is to be erased
abbrev pub painted : ℕ → ℕ → Notices
painted w erases = all_of (where_so (erases == 1) (message w WM_ERASEBKGND 0 0)) None None

-- `update_window`: where something is to be painted, which is any kind but 1
abbrev pub updated : ℕ → ℕ → Notices
updated w kind = all_of (where_so (not (kind == 1)) (message w WM_PAINT 0 0)) None None

-- the messages that a compound sends after its first call, where the answer to that told this number
abbrev pub notices_after : Call → ℕ → Notices
notices_after (Show w on) told = shown w on told
notices_after (Enable w on) told = enabled w on told
notices_after (Place w after l t r b flags) told = placed w l t r b flags told
notices_after (SetFocus w) told = focused w told
notices_after (SetActive w) told = activated w told
notices_after (SetCapture w) told = captured w told
notices_after ReleaseCapture told = captured 0 told
notices_after (BeginPaint w) told = painted w told
notices_after (UpdateRect w) told = updated w told
notices_after call told = all_of None None None

-- the result of such a compound: what its first call told, and 1 for those that place and paint
abbrev pub result_after : Call → ℕ → ℕ
result_after (Place w after l t r b flags) told = 1
result_after (BeginPaint w) told = 1
result_after (UpdateRect w) told = 1
result_after call told = told
