-- Which keys and buttons are down.
use Rattle.std.specs.Prelude.{if◌then◌else◌, ℕ, ◌==◌, Bool, true, false, Option, Some, None, unwrap_or}
use Rattle.win_num.specs.declared.message.Msg.{Msg}
use Rattle.win_num.specs.declared.names.TheConstants.{VK_LBUTTON, VK_RBUTTON, VK_SHIFT, WM_KEYDOWN, WM_KEYUP, WM_LBUTTONDOWN, WM_LBUTTONUP, WM_RBUTTONDOWN, WM_RBUTTONUP}
use Rattle.user_model.specs.declared.entry.Entry.{Entry}
use Rattle.user_model.specs.Past.{Past, last_of}
use Rattle.user_model.specs.Retrievals.{input_got}
use Rattle.user_model.specs.Groups.{is_in_group}
use Rattle.user_model.specs.Focus.{if_among}

-- a key or a button, and whether it went down or up
pub record KeyChange : Type 0 where
  pub key : ℕ
  pub down : Bool

-- a change from its parts
abbrev pub change : ℕ → Bool → KeyChange
change key down = record { key = key; down = down }

-- the key or the button that goes down by a message of this number and wParam
abbrev pub pressed : ℕ → ℕ → Option ℕ
pressed number wparam = if number == WM_KEYDOWN then Some wparam else if number == WM_LBUTTONDOWN then Some VK_LBUTTON else if number == WM_RBUTTONDOWN then Some VK_RBUTTON else None

-- the one that goes up
abbrev pub released : ℕ → ℕ → Option ℕ
released number wparam = if number == WM_KEYUP then Some wparam else if number == WM_LBUTTONUP then Some VK_LBUTTON else if number == WM_RBUTTONUP then Some VK_RBUTTON else None

-- the change of what goes down, or of what goes up
abbrev pub change_from : Option ℕ → Option ℕ → Option KeyChange
change_from (Some key) up = Some (change key true)
change_from None (Some key) = Some (change key false)
change_from None None = None

-- the change that a message tells of
abbrev pub change_in : ℕ → ℕ → Option KeyChange
change_in number wparam = change_from (pressed number wparam) (released number wparam)

-- the same of a message that there may be
abbrev pub change_of : Option Msg → Option KeyChange
change_of None = None
change_of (Some m) = change_in m.number m.wparam

-- whether this key is down after the change
abbrev pub down_after : ℕ → Option KeyChange → Option Bool
down_after key None = None
down_after key (Some c) = if c.key == key then Some c.down else None

-- whether the key is down, by the input that an entry of one of these threads takes
abbrev pub down_told : (ℕ → Bool) → ℕ → Entry → Past → Option Bool
down_told among key e before = if_among among e.who.0 (down_after key (change_of (input_got e.answer e.call)))

-- whether the key is down, by the last input of it that one of these threads took
abbrev pub last_down : (ℕ → Bool) → ℕ → Past → Bool
last_down among key past = unwrap_or (last_of (down_told among key) past) false

-- whether the key is down for t's group
abbrev pub is_key_down : Past → ℕ → ℕ → Bool
is_key_down past t key = last_down (is_in_group past t) key past

-- whether Shift is
abbrev pub is_shift_down : Past → ℕ → Bool
is_shift_down past t = is_key_down past t VK_SHIFT
