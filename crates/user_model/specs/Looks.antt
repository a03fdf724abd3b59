-- How windows look: their style, extended style and place, as they were made and as later calls have changed them.
use Rattle.std.specs.Prelude.{if◌then◌else◌, ℕ, zero, suc, ◌+◌, ◌==◌, Bool, true, false, ℤ, pos, negsuc, ◌+ℤ◌, ◌-ℤ◌, [], ◌∷◌, bit_and, bit_or}
use Rattle.win_num.specs.PixelSets.{Box, box}
use Rattle.win_num.specs.declared.names.TheConstants.{SWP_HIDEWINDOW, SWP_NOMOVE, SWP_NOSIZE, SWP_NOZORDER, SWP_SHOWWINDOW, WS_CHILD, WS_DISABLED, WS_EX_TOPMOST, WS_POPUP, WS_VISIBLE}
use Rattle.user_model.specs.declared.entry.Answer.{Answer}
use Rattle.user_model.specs.declared.entry.Answer.TheVariants.{Value, Window as WindowMade}
use Rattle.user_model.specs.Past.{Past, is_refused}
use Rattle.user_model.specs.Deeds.{Deed, making, placing, showing, enabling, deed}
use Rattle.user_model.specs.Windows.{has_flag}

-- style and extended style, and the place from the parent's or the screen's left top corner
pub record Look : Type 0 where
  pub style : ℕ
  pub ex : ℕ
  pub place : Box

-- a look from its parts
abbrev pub look_of : ℕ → ℕ → Box → Look
look_of style ex place = record { style = style; ex = ex; place = place }

-- the styles but WS_VISIBLE
abbrev pub hidden_styles : ℕ
hidden_styles = WS_CHILD + WS_POPUP + WS_DISABLED

-- a style with WS_VISIBLE, or without
abbrev pub shown : Bool → ℕ → ℕ
shown true style = bit_or style WS_VISIBLE
shown false style = bit_and style hidden_styles

-- the styles but WS_DISABLED
abbrev pub enabled_styles : ℕ
enabled_styles = WS_CHILD + WS_POPUP + WS_VISIBLE

-- a style without WS_DISABLED, or with
abbrev pub enabled : Bool → ℕ → ℕ
enabled true style = bit_and style enabled_styles
enabled false style = bit_or style WS_DISABLED

-- a style, where flags may show or hide the window
abbrev pub styled_by : ℕ → ℕ → ℕ
styled_by flags style = if has_flag flags SWP_SHOWWINDOW then shown true style else if has_flag flags SWP_HIDEWINDOW then shown false style else style

-- an extended style, where minus one sets the topmost flag and minus two clears it
abbrev pub pinned : ℤ → ℕ → ℕ
pinned (negsuc zero) ex = WS_EX_TOPMOST
pinned (negsuc (suc zero)) ex = 0
pinned (negsuc (suc (suc n))) ex = ex
pinned (pos n) ex = ex

-- the same, unless flags keep the order
abbrev pub pinned_by : ℕ → ℤ → ℕ → ℕ
pinned_by flags after ex = if has_flag flags SWP_NOZORDER then ex else pinned after ex

-- the corner of one rectangle with the size of another
abbrev pub corner_and_size : Box → Box → Box
corner_and_size corner size = box corner.left corner.top (corner.left +ℤ (size.right -ℤ size.left)) (corner.top +ℤ (size.bottom -ℤ size.top))

-- the new place, where flags may keep the corner or the size of the old one
abbrev pub moved_by : ℕ → Box → Box → Box
moved_by flags new old = corner_and_size (if has_flag flags SWP_NOMOVE then old else new) (if has_flag flags SWP_NOSIZE then old else new)

-- a look, where the window is put at a place as flags say
abbrev pub placed : ℕ → ℤ → Box → Look → Look
placed flags after new old = look_of (styled_by flags old.style) (pinned_by flags after old.ex) (moved_by flags new old.place)

-- the look that a window is made with, where the answer is that it is w
abbrev pub made_look : ℕ → Answer → Look → Look → Look
made_look w (WindowMade v) new old = if v.0 == w then new else old
made_look w _ new old = old

-- the look that is set, where a value is answered and v is w
abbrev pub set_look : ℕ → ℕ → Answer → Look → Look → Look
set_look v w (Value told) new old = if v == w then new else old
set_look v w _ new old = old

-- a look with WS_VISIBLE, or without
abbrev pub shown_look : Bool → Look → Look
shown_look on old = look_of (shown on old.style) old.ex old.place

-- a look without WS_DISABLED, or with
abbrev pub enabled_look : Bool → Look → Look
enabled_look on old = look_of (enabled on old.style) old.ex old.place

-- what an answered call makes of the look of w
abbrev pub relooked : ℕ → Answer → Deed → Look → Look
relooked w a (making class title parent style ex l t r b) old = made_look w a (look_of style ex (box l t r b)) old
relooked w a (placing v after l t r b flags) old = set_look v w a (placed flags after (box l t r b) old) old
relooked w a (showing v on) old = set_look v w a (shown_look (on == 1) old) old
relooked w a (enabling v on) old = set_look v w a (enabled_look (on == 1) old) old
relooked w a _ old = old

-- the look before a window is made
abbrev pub no_look : Look
no_look = look_of 0 0 (box (pos 0) (pos 0) (pos 0) (pos 0))

-- how w looks
abbrev pub look : Past → ℕ → Look
look [] w = no_look
look (e ∷ past) w = elim (is_refused e) [ true ↦ look past w | false ↦ relooked w e.answer (deed e.call) (look past w) ]

-- the style of w
abbrev pub style_of : Past → ℕ → ℕ
style_of past w = (look past w).style

-- the extended style of w
abbrev pub ex_of : Past → ℕ → ℕ
ex_of past w = (look past w).ex

-- the place of w, from its parent's or the screen's left top corner
abbrev pub place_of : Past → ℕ → Box
place_of past w = (look past w).place

-- whether w has WS_VISIBLE
abbrev pub is_shown : Past → ℕ → Bool
is_shown past w = has_flag (style_of past w) WS_VISIBLE

-- whether w has WS_DISABLED
abbrev pub is_disabled : Past → ℕ → Bool
is_disabled past w = has_flag (style_of past w) WS_DISABLED
