-- What tables of windows and of the z-order show.
use Rattle.std.specs.Prelude.{if◌then◌else◌, ◌≡◌, ◌≢◌, ℕ, ◌==◌, Bool, not, ◌||◌, true, false, List, Option, Some, None}
use Rattle.std.specs.List.{filter}
use Rattle.win_num.specs.declared.message.Hwnd.{Hwnd}
use Rattle.win_num.specs.declared.names.TheConstants.{WS_VISIBLE}
use Rattle.win_num.specs.declared.shapes.Point.{Point}
use Rattle.win_num.specs.declared.shapes.Rect.{Rect}
use Rattle.win_order.specs.Layers.{Layers, siblings_of}
use Rattle.win_rows.specs.declared.window.Window.{Window}
use Rattle.win_rows.specs.Windows.{is_live, window_of}
use Rattle.band_region.specs.Regions.{region_has}
use Rattle.user_model.specs.Windows.{has_flag}
use Rattle.window_state.specs.Pixels.{owner_in}
use Rattle.window_state.specs.Placings.{shown_in}
use Rattle.screen_owners.specs.declared.screen.Corner.{Corner}
use Rattle.screen_owners.specs.declared.screen.Part.{Part}
use Rattle.screen_owners.specs.Owners.{is_on_screen, AreChildren}
use Rattle.screen_owners.specs.Shares.{is_one_of, part_has, seen_from, Passes}

-- no live window has WS_VISIBLE
abbrev pub NoneIsShown : List Window → Type 0
NoneIsShown ws = (w : ℕ) → shown_in ws w ≡ false

-- the place of a live window that has WS_VISIBLE
abbrev pub shown_place : List Window → ℕ → Option Rect
shown_place ws w = elim (window_of ws w) [ None ↦ None | Some x ↦ if has_flag x.row.style WS_VISIBLE then Some x.row.place else None ]

-- the children of w that have WS_VISIBLE, or for 0 such top-level windows, from the bottom to the top
abbrev pub shown_siblings : List Window → Layers → ℕ → List Hwnd
shown_siblings ws z w = filter (λ v. shown_in ws v.0) (siblings_of w z)

-- the windows with WS_VISIBLE are the same, at the same places, and those of the screen and of each of them stand in the same order
pub record ShowsSame (ws : List Window) (z : Layers) (us : List Window) (y : Layers) : Type 0 where
  pub places : (w : ℕ) → shown_place ws w ≡ shown_place us w
  pub siblings : (w : ℕ) → ((w == 0) || shown_in ws w) ≡ true → shown_siblings ws z w ≡ shown_siblings us y w

-- whether the window is none of these
abbrev pub is_other : List Hwnd → Hwnd → Bool
is_other hs v = not (is_one_of hs v)

-- the windows but these
abbrev pub others : List Hwnd → List Hwnd → List Hwnd
others hs vs = filter (is_other hs) vs

-- what is none of the new windows is none of the old ones
abbrev pub Keeps : List Hwnd → List Hwnd → Type 0
Keeps old new = (v : Hwnd) → is_one_of new v ≡ false → is_one_of old v ≡ false

-- but for these, some windows have WS_VISIBLE in both tables and the same place, or in none
abbrev pub LookSame : List Window → List Window → List Hwnd → List Hwnd → Type 0
LookSame ws us vs hs = (v : Hwnd) → is_one_of vs v ≡ true → is_one_of hs v ≡ false → shown_place ws v.0 ≡ shown_place us v.0

-- but for these, the windows with WS_VISIBLE are the same, at the same places
abbrev pub ShowsSamePlaces : List Hwnd → List Window → List Window → Type 0
ShowsSamePlaces hs ws us = (v : Hwnd) → is_one_of hs v ≡ false → shown_place ws v.0 ≡ shown_place us v.0

-- but for these, the children of each of some windows are the same, in the same order
abbrev pub ListsSameOf : List Hwnd → Layers → Layers → List Hwnd → Type 0
ListsSameOf hs z y vs = (v : Hwnd) → is_one_of vs v ≡ true → others hs (siblings_of v.0 z) ≡ others hs (siblings_of v.0 y)

-- but for these, the children of the screen and of each window of the second table are the same, in the same order
abbrev pub ListsSame : List Hwnd → Layers → List Window → Layers → Type 0
ListsSame hs z us y = (w : ℕ) → ((w == 0) || is_live us w) ≡ true → others hs (siblings_of w z) ≡ others hs (siblings_of w y)

-- the way down to the pixel comes through none of these windows
abbrev pub PassesNone : List Window → Layers → Point → List Hwnd → Type 0
PassesNone ws z p hs = (h : Hwnd) (q : Point) → is_one_of hs h ≡ true → h.0 ≢ 0 → Passes ws z p h q → ⊥

-- where the way down to a pixel comes through the window, its point is the pixel, counted from the corner
abbrev pub IsCornerOf : List Window → Hwnd → Corner → Type 0
IsCornerOf ws w corner = (z : Layers) → AreChildren ws z → (p q : Point) → Passes ws z p w q → q ≡ seen_from corner p

-- the rectangle has each pixel of the screen that the way down comes through the window to
abbrev pub HasWaysTo : List Window → ℕ → ℕ → Hwnd → Option Rect → Type 0
HasWaysTo ws width height h o = (z : Layers) → AreChildren ws z → (p q : Point) → is_on_screen width height p ≡ true → h.0 ≢ 0 → Passes ws z p h q → part_has o p ≡ true

-- the region has each pixel of the screen that the way down comes through one of the windows to
abbrev pub HasWays : List Window → ℕ → ℕ → List Hwnd → List Rect → Type 0
HasWays ws width height hs rs = (z : Layers) → AreChildren ws z → (h : Hwnd) (p q : Point) → is_one_of hs h ≡ true → is_on_screen width height p ≡ true → h.0 ≢ 0 → Passes ws z p h q → region_has rs p ≡ true

-- outside of the part each pixel of the screen has the same owner in both tables
abbrev pub KeepsOutside : List Window → Layers → List Window → Layers → Part → Type 0
KeepsOutside ws z us y part = (p : Point) → is_on_screen part.screen.width part.screen.height p ≡ true → region_has part.region p ≡ false → owner_in us y part.screen.width part.screen.height p ≡ owner_in ws z part.screen.width part.screen.height p
