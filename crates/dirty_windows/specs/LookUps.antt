-- What is dirty of each window, looked up in a list of entries.
use Rattle.std.specs.Prelude.{◌↔◌, ℕ, ◌<◌, ◌==◌, Bool, false, IsTrue, List, [], ◌∷◌, Option, Some, None, find, All}
use Rattle.std.specs.List.{list_any}
use Rattle.std.specs.List.Sorted.{IsNonDecreasingBy}
use Rattle.win_num.specs.declared.message.Hwnd.{Hwnd}
use Rattle.win_num.specs.declared.shapes.Rect.{Rect}
use Rattle.band_region.specs.Regions.{IsEmpty}
use Rattle.update_region.specs.Updates.{Dirty}
use Rattle.dirty_windows.specs.declared.entries.DirtyWindow.{DirtyWindow}

-- the numbers of the windows rise, from above a first number
abbrev pub RisesFrom : ℕ → List DirtyWindow → Type 0
RisesFrom first [] = Unit {0}
RisesFrom first (d ∷ ds) = (first < d.window.0) × RisesFrom d.window.0 ds

-- the entry of a window
abbrev pub entry_of : List DirtyWindow → ℕ → Option DirtyWindow
entry_of ds w = find (λ d. d.window.0 == w) ds

-- no dirty pixel, and the flag clear
abbrev pub nothing : Dirty
nothing = record { area = []; erases = false }

-- the dirty pixels and the flag of an entry, if there is one
abbrev pub update_in_entry : Option DirtyWindow → Dirty
update_in_entry None = nothing
update_in_entry (Some d) = d.update

-- the dirty pixels and the flag of a window
abbrev pub update_in : List DirtyWindow → ℕ → Dirty
update_in ds w = update_in_entry (entry_of ds w)

-- the dirty pixels of a window
abbrev pub area_in : List DirtyWindow → ℕ → List Rect
area_in ds w = (update_in ds w).area

-- the erase flag of a window
abbrev pub erases_in : List DirtyWindow → ℕ → Bool
erases_in ds w = (update_in ds w).erases

-- the dirty pixels of an entry
abbrev pub entry_area : DirtyWindow → List Rect
entry_area d = d.update.area

-- the dirty pixels and the flag of an entry
abbrev pub entry_update : DirtyWindow → Dirty
entry_update d = d.update

-- no pixel of the entry is dirty
abbrev pub IsClean : DirtyWindow → Type 0
IsClean d = IsEmpty d.update.area

-- no window has a dirty pixel
abbrev pub IsAllClean : List DirtyWindow → Type 0
IsAllClean ds = (w : ℕ) → IsEmpty (area_in ds w)

-- whether the window is among these
abbrev pub is_among : ℕ → List Hwnd → Bool
is_among w hs = list_any (λ h. h.0 == w) hs

-- the numbers of windows don't fall
abbrev pub AreSorted : List Hwnd → Type 0
AreSorted hs = IsNonDecreasingBy (λ h. h.0) hs

-- what is kept: numbers that rise, and whether each entry is clean
pub record AreKept (ds : List DirtyWindow) (clean : Bool) : Type 0 where
  pub rising : RisesFrom 0 ds
  pub told : IsTrue clean ↔ All IsClean ds
