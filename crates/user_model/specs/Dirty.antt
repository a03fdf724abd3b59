-- Dirty pixels, and the erase flag of a window.
use Rattle.std.specs.Prelude.{ℕ, ◌==◌, Bool, true, false, not, ◌&&◌, ◌||◌, ℤ, ◌-ℤ◌, List, [], ◌∷◌, filter, Option, Some, None, unwrap_or}
use Rattle.win_num.specs.declared.shapes.Point.{Point}
use Rattle.win_num.specs.declared.names.TheConstants.{SWP_NOCOPYBITS}
use Rattle.win_num.specs.PixelSets.{box, has_pixel, same_box}
use Rattle.region_box.specs.Screens.{screen_points}
use Rattle.user_model.specs.declared.call.Call.{Call}
use Rattle.user_model.specs.declared.call.Call.TheVariants.{Invalidate, Validate, BeginPaint, Place}
use Rattle.user_model.specs.declared.entry.Entry.{Entry}
use Rattle.user_model.specs.declared.entry.Setup.{Setup}
use Rattle.user_model.specs.Past.{Past, is_refused, last_of}
use Rattle.user_model.specs.Windows.{has_flag}
use Rattle.user_model.specs.Pixels.{point, origin, shifted, box_of, owner}

-- whether w is a window that owns the pixel
abbrev pub owns : Setup → Past → ℕ → Point → Bool
owns setup past w p = not (w == 0) && ((owner setup past p).0 == w)

-- whether w's rectangle on the screen is another after the entry
abbrev pub moves : Entry → Past → ℕ → Bool
moves e past w = not (same_box (box_of (e ∷ past) w) (box_of past w))

-- whether the call puts a window at a place and its flags let the window's pixels go with it
abbrev pub copies_bits : Call → Bool
copies_bits (Place v after l t r b flags) = not (has_flag flags SWP_NOCOPYBITS)
copies_bits _ = false

-- where the pixel was before the entry, as a part of w: as far from w's left top corner on the screen as it is after it
abbrev pub came_from : Entry → Past → ℕ → Point → Point
came_from e past w p = let old = box_of past w in let new = box_of (e ∷ past) w in point (p.x -ℤ (new.left -ℤ old.left)) (p.y -ℤ (new.top -ℤ old.top))

-- whether the entry carries the pixel for w; unclean says whether the pixel that it came from was dirty for w. A place carries it that
-- moves or resizes w, or what w stands below, where w owns it after and owned before the clean pixel that it came from. A point off the
-- screen has no owner
abbrev pub carries_if : Bool → Setup → Entry → Past → ℕ → Point → Bool
carries_if unclean setup e past w p = (copies_bits e.call && moves e past w) && (owns setup (e ∷ past) w p && (owns setup past w (came_from e past w p) && not unclean))

-- whether the entry exposes the pixel for w: w owns it after, and another owned it before or w's rectangle on the screen is another, and
-- the entry doesn't carry it
abbrev pub exposes_if : Bool → Setup → Entry → Past → ℕ → Point → Bool
exposes_if unclean setup e past w p = (owns setup (e ∷ past) w p && (moves e past w || not (owns setup past w p))) && not (carries_if unclean setup e past w p)

-- whether the pixel is one of a rectangle that is given from w's left top corner
abbrev pub is_in_client : Past → ℕ → ℤ → ℤ → ℤ → ℤ → Point → Bool
is_in_client past w l t r b p = has_pixel (shifted (origin past w) (box l t r b)) p

-- whether the call makes the pixel dirty for w
abbrev pub invalidates : Setup → Call → Past → ℕ → Point → Bool
invalidates setup (Invalidate v l t r b erase) past w p = (v == w) && (is_in_client past w l t r b p && owns setup past w p)
invalidates setup _ past w p = false

-- whether the call makes the pixel clean for w
abbrev pub cleans : Call → Past → ℕ → Point → Bool
cleans (Validate v l t r b) past w p = (v == w) && is_in_client past w l t r b p
cleans (BeginPaint v) past w p = v == w
cleans _ past w p = false

-- whether the pixel is dirty for w after an entry that wasn't refused: w owns it then, and the entry exposes it or makes it dirty, or it
-- was dirty before and the entry neither carries it nor makes it clean
abbrev pub stays_dirty : Bool → Bool → Setup → Entry → Past → ℕ → Point → Bool
stays_dirty unclean was setup e past w p = owns setup (e ∷ past) w p && ((exposes_if unclean setup e past w p || invalidates setup e.call past w p) || (not (carries_if unclean setup e past w p || cleans e.call past w p) && was))

-- whether the pixel is dirty for w: w owns it, an entry made it dirty, and no later entry made it clean
abbrev pub is_dirty : Setup → Past → ℕ → Point → Bool
is_dirty setup [] w p = false
is_dirty setup (e ∷ past) w p = elim (is_refused e) [ true ↦ is_dirty setup past w p | false ↦ stays_dirty (is_dirty setup past w (came_from e past w p)) (is_dirty setup past w p) setup e past w p ]

-- whether the entry carries the pixel for w
abbrev pub carries : Setup → Entry → Past → ℕ → Point → Bool
carries setup e past w p = carries_if (is_dirty setup past w (came_from e past w p)) setup e past w p

-- whether the entry exposes the pixel for w
abbrev pub exposes : Setup → Entry → Past → ℕ → Point → Bool
exposes setup e past w p = exposes_if (is_dirty setup past w (came_from e past w p)) setup e past w p

-- the pixels of the screen that pass a test, row after row
abbrev pub pixels_of : Setup → (Point → Bool) → List Point
pixels_of setup test = filter test (screen_points setup.width setup.height)

-- the pixels that are dirty for w
abbrev pub dirty_pixels : Setup → Past → ℕ → List Point
dirty_pixels setup past w = pixels_of setup (is_dirty setup past w)

-- whether there is a pixel
abbrev pub has_some : List Point → Bool
has_some [] = false
has_some (p ∷ ps) = true

-- whether a pixel is dirty for w
abbrev pub has_dirty : Setup → Past → ℕ → Bool
has_dirty setup past w = has_some (dirty_pixels setup past w)

-- whether the entry exposes a pixel for w
abbrev pub exposes_some : Setup → Entry → Past → ℕ → Bool
exposes_some setup e past w = has_some (pixels_of setup (exposes setup e past w))

-- a flag that is set to this where the test holds
abbrev pub set_where : Bool → Bool → Option Bool
set_where true flag = Some flag
set_where false flag = None

-- what a call says of the erase flag of w, read with the past after it: invalidate sets it where it is to erase, a validate clears it that
-- leaves no pixel dirty, and begin_paint clears it
abbrev pub flag_told : Setup → Call → Past → ℕ → Option Bool
flag_told setup (Invalidate v l t r b erase) after w = set_where ((v == w) && (erase == 1)) true
flag_told setup (Validate v l t r b) after w = set_where ((v == w) && not (has_dirty setup after w)) false
flag_told setup (BeginPaint v) after w = set_where (v == w) false
flag_told setup _ after w = None

-- what an entry says of the erase flag of w: one that exposes a pixel sets it
abbrev pub flags_erase : Setup → ℕ → Entry → Past → Option Bool
flags_erase setup w e past = elim (exposes_some setup e past w) [ true ↦ Some true | false ↦ flag_told setup e.call (e ∷ past) w ]

-- the erase flag of w, as the last entry has left it that set or cleared it
abbrev pub must_erase : Setup → Past → ℕ → Bool
must_erase setup past w = unwrap_or (last_of (flags_erase setup w) past) false
