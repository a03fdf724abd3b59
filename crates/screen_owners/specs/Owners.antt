-- Which pixels of the screen each window owns.
use Rattle.std.specs.Prelude.{◌≡◌, ℕ, ◌<◌, ◌==◌, Bool, false, not, ◌&&◌, ◌||◌, pos, List, [], Option, All, Some, None, find}
use Rattle.win_num.specs.declared.message.Hwnd.{Hwnd}
use Rattle.win_num.specs.declared.shapes.Point.{Point}
use Rattle.win_num.specs.declared.shapes.Rect.{Rect}
use Rattle.win_num.specs.PixelSets.{box, has_pixel}
use Rattle.win_order.specs.Layers.{Layers, siblings_of}
use Rattle.win_rows.specs.declared.window.Window.{Window}
use Rattle.win_rows.specs.Windows.{window_of}
use Rattle.band_region.specs.Regions.{region_has}
use Rattle.window_state.specs.Pixels.{owner_in}
use Rattle.screen_owners.specs.declared.owners.Owned.{Owned}
use Rattle.screen_owners.specs.declared.screen.Part.{Part}

-- whether the pixel is one of a screen of this width and height
abbrev pub is_on_screen : ℕ → ℕ → Point → Bool
is_on_screen width height p = has_pixel (box (pos 0) (pos 0) (pos width) (pos height)) p

-- whether the pixel is one of the screen, in its part
abbrev pub is_within : Part → Point → Bool
is_within part p = is_on_screen part.screen.width part.screen.height p && region_has part.region p

-- a live window, if v is one, has w as its parent, or 0 for a top-level window
abbrev pub IsChildOf : List Window → ℕ → Hwnd → Type 0
IsChildOf ws w v = (x : Window) → window_of ws v.0 ≡ Some x → x.row.parent.0 ≡ w

-- the listed children of each window are children of it
abbrev pub AreChildren : List Window → Layers → Type 0
AreChildren ws z = (w : ℕ) → All (IsChildOf ws w) (siblings_of w z)

-- the window of an entry
abbrev pub owned_window : Owned → Hwnd
owned_window o = o.window

-- the region of an entry
abbrev pub owned_region : Owned → List Rect
owned_region o = o.region

-- the window of the one entry has a lesser number than that of the other one
abbrev pub IsBefore : Owned → Owned → Type 0
IsBefore a b = a.window.0 < b.window.0

-- the entry of a window
abbrev pub entry_of : List Owned → ℕ → Option Owned
entry_of os w = find (λ o. o.window.0 == w) os

-- the region of a window, without pixels where it has no entry
abbrev pub region_in : List Owned → ℕ → List Rect
region_in os w = elim (entry_of os w) [ Some o ↦ o.region | None ↦ [] ]

-- the region of an entry has the pixels of the part that its window owns; window 0 owns those that no window does
abbrev pub IsOwned : List Window → Layers → Part → Owned → Type 0
IsOwned ws z part o = (p : Point) → region_has o.region p ≡ (is_within part p && ((owner_in ws z part.screen.width part.screen.height p).0 == o.window.0))

-- the region of each window, and of 0, has the pixels of the screen that it owns
abbrev pub AreOwners : List Window → Layers → ℕ → ℕ → List Owned → Type 0
AreOwners ws z width height os = (w : Hwnd) (p : Point) → region_has (region_in os w.0) p ≡ (is_on_screen width height p && ((owner_in ws z width height p).0 == w.0))

-- the region of each window, and of 0, has the pixels of the part that it owns
abbrev pub AreOwnersIn : List Window → Layers → Part → List Owned → Type 0
AreOwnersIn ws z part os = (w : Hwnd) (p : Point) → region_has (region_in os w.0) p ≡ (is_within part p && ((owner_in ws z part.screen.width part.screen.height p).0 == w.0))

-- outside of the part it has the pixels of the screen that it owns
abbrev pub AreOwnersOutside : List Window → Layers → Part → List Owned → Type 0
AreOwnersOutside ws z part os = (w : Hwnd) (p : Point) → region_has part.region p ≡ false → region_has (region_in os w.0) p ≡ (is_on_screen part.screen.width part.screen.height p && ((owner_in ws z part.screen.width part.screen.height p).0 == w.0))

-- whether a window has the pixel whose old region stays outside of a part, and whose new one is in it
abbrev pub joined_has : List Rect → List Owned → List Owned → ℕ → Point → Bool
joined_has part old new w p = (region_has (region_in old w) p && not (region_has part p)) || region_has (region_in new w) p
