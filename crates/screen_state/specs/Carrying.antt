-- The pixels that an entry carries to another place of the screen.
use Rattle.std.specs.Prelude.{if◌then◌else◌, ◌≡◌, ℕ, Bool, true, false, ◌&&◌, ℤ, pos, ◌-ℤ◌, ◌≤ℤ◌, int_lt, List, ◌∷◌, Option, Some, None}
use Rattle.win_num.specs.declared.shapes.Point.{Point}
use Rattle.win_num.specs.declared.shapes.Rect.{Rect}
use Rattle.win_num.specs.PixelSets.{has_pixel}
use Rattle.win_rows.specs.Windows.{Windows}
use Rattle.band_region.specs.Regions.{moved_back, region_has}
use Rattle.win_num.specs.declared.names.TheConstants.{SWP_NOCOPYBITS}
use Rattle.user_model.specs.declared.call.Call.{Call}
use Rattle.user_model.specs.declared.call.Call.TheVariants.{Place}
use Rattle.user_model.specs.declared.entry.Entry.{Entry}
use Rattle.user_model.specs.declared.entry.Setup.{Setup}
use Rattle.user_model.specs.Past.{Past, is_refused}
use Rattle.user_model.specs.Legal.{IsLawful}
use Rattle.user_model.specs.Windows.{has_flag, is_live}
use Rattle.user_model.specs.Pixels.{owner, screen}
use Rattle.user_model.specs.Dirty.{came_from, carries, copies_bits, moves}
use Rattle.window_state.specs.Trees.{IsTreeAt}
use Rattle.dirty_windows.specs.declared.carry.Shift.{Shift}
use Rattle.dirty_windows.specs.Carrying.{source, IsShort}

-- whether a pixel can be moved so far along an edge of so many pixels, and be on it again
abbrev pub is_near : ℤ → ℕ → Bool
is_near d edge = int_lt (pos 0 -ℤ pos edge) d && int_lt d (pos edge)

-- the window that a call puts at a place, where its pixels may go with it
abbrev pub copied_window : Call → Option ℕ
copied_window (Place w after l t r b flags) = if has_flag flags SWP_NOCOPYBITS then None else Some w
copied_window _ = None

-- the distance from one coordinate to another one, which no screen is as wide or high as
pub record IsStep (old new d : ℤ) : Type 0 where
  pub low : (pos 0 -ℤ pos 65535) ≤ℤ d
  pub high : d ≤ℤ pos 65535
  pub far : d ≡ new -ℤ old

-- there is none exactly where no pixel can be moved so far along the edge and be on it again
abbrev pub IsDistance : ℤ → ℤ → ℕ → Option ℤ → Type 0
IsDistance old new edge None = is_near (new -ℤ old) edge ≡ false
IsDistance old new edge (Some d) = IsStep old new d

-- the move is short, and is that from the one point to the other one
pub record IsShift (old new : Point) (s : Shift) : Type 0 where
  pub short : IsShort s
  pub across : s.dx ≡ new.x -ℤ old.x
  pub down : s.dy ≡ new.y -ℤ old.y

-- there is none exactly where no pixel of the screen can be moved so far and be on the screen again
abbrev pub IsShiftBetween : Setup → Point → Point → Option Shift → Type 0
IsShiftBetween setup old new None = (is_near (new.x -ℤ old.x) setup.width && is_near (new.y -ℤ old.y) setup.height) ≡ false
IsShiftBetween setup old new (Some s) = IsShift old new s

-- the entry carries no pixel for any window, where it has made the table t2 of the table t
abbrev pub CarriesNone : Setup → Windows → Windows → Entry → Type 0
CarriesNone setup t t2 e = (past : Past) → IsLawful setup (e ∷ past) → is_refused e ≡ false → IsTreeAt past t → IsTreeAt (e ∷ past) t2 → (w : ℕ) (p : Point) → carries setup e past w p ≡ false

-- the flags of the entry let pixels go with windows, and each window that stays and that it moves is moved so far
pub record MovesBy (past : Past) (e : Entry) (s : Shift) : Type 0 where
  pub copies : copies_bits e.call ≡ true
  pub from : (w : ℕ) (p : Point) → is_live past w ≡ true → is_live (e ∷ past) w ≡ true → moves e past w ≡ true → came_from e past w p ≡ source s p

-- where the entry has made the table t2 of the table t, it moves windows so far
pub record IsMoveOf (setup : Setup) (t t2 : Windows) (e : Entry) (s : Shift) : Type 0 where
  pub short : IsShort s
  pub moves : (past : Past) → IsLawful setup (e ∷ past) → is_refused e ≡ false → IsTreeAt past t → IsTreeAt (e ∷ past) t2 → MovesBy past e s

-- how far the entry moves the windows that it carries, or that it carries nothing
abbrev pub IsShiftOf : Setup → Windows → Windows → Entry → Option Shift → Type 0
IsShiftOf setup t t2 e None = CarriesNone setup t t2 e
IsShiftOf setup t t2 e (Some s) = IsMoveOf setup t t2 e s

-- the pixels are on the screen, and those that the move brings there
pub record IsOnScreen (setup : Setup) (rs : List Rect) (dx dy : ℤ) : Type 0 where
  pub here : (p : Point) → region_has rs p ≡ true → has_pixel (screen setup) p ≡ true
  pub there : (p : Point) → region_has rs p ≡ true → has_pixel (screen setup) (moved_back dx dy p) ≡ true

-- the pixels are those that an entry carries for the windows that own them after it, and so far it moves them
pub record IsCarriedAt (setup : Setup) (e : Entry) (past : Past) (rs : List Rect) (dx dy : ℤ) : Type 0 where
  pub pixels : (p : Point) → region_has rs p ≡ carries setup e past (owner setup (e ∷ past) p).0 p
  pub from : (w : ℕ) (p : Point) → carries setup e past w p ≡ true → came_from e past w p ≡ moved_back dx dy p
