-- The index of the live windows: where in the slab the row of each stands.
use Rattle.std.specs.Prelude.{◌≡◌, ◌⊎◌, if◌then◌else◌, ℕ, ◌<◌, ◌==◌, Bool, List, [], ◌∷◌, length, map, Option, Some, None, slice_index_or}
use Rattle.std.specs.List.{list_any}
use Rattle.slab.specs.Slab.{Slab, get}
use Rattle.win_num.specs.declared.message.Hwnd.{Hwnd}
use Rattle.win_rows.specs.declared.window.Window.{Window}
use Rattle.win_rows.specs.declared.rows.Place.{Place}
use Rattle.win_rows.specs.Windows.{number_of, window_of, RisesFrom}

-- the row under the key of the place
abbrev pub row_at : Slab Window → Place → Option Window
row_at s p = get s p.key

-- the number of the place
abbrev pub place_number : Place → Hwnd
place_number p = p.number

-- the rows at these places
abbrev pub rows_at : Slab Window → List Place → List Window
rows_at s [] = []
rows_at s (p ∷ ps) = elim (row_at s p) [ Some x ↦ x ∷ rows_at s ps | None ↦ rows_at s ps ]

-- each place has a row, of the window whose number it has, and the numbers rise
pub record IsIndex (s : Slab Window) (ps : List Place) : Type 0 where
  pub found : map (row_at s) ps ≡ map Some (rows_at s ps)
  pub numbers : map place_number ps ≡ map number_of (rows_at s ps)
  pub rising : RisesFrom 0 (rows_at s ps)

-- the window w stands at i
pub record IsPlace (ws : List Window) (w i : ℕ) : Type 0 where
  pub within : i < length ws
  pub same : (x : Window) → x ≡ slice_index_or ws i x → x.number.0 ≡ w
  pub found : (x : Window) → x ≡ slice_index_or ws i x → window_of ws w ≡ Some x

-- whether the number of the window is among these
abbrev pub has : List Hwnd → Window → Bool
has ks x = list_any (λ v. v.0 == x.number.0) ks

-- the row, if its number is among these
abbrev pub kept_row : List Hwnd → Option Window → Option Window
kept_row ks (Some x) = if has ks x then Some x else None
kept_row ks None = None

-- of the rows at the first i places those are left whose numbers are among these, and no other row changed
pub record IsFreed (ks : List Hwnd) (ps : List Place) (i : ℕ) (old new : Slab Window) : Type 0 where
  pub done : (j : ℕ) (p : Place) → j < i → p ≡ slice_index_or ps j p → row_at new p ≡ kept_row ks (row_at old p)
  pub each : (key : ℕ) → (get new key ≡ get old key) ⊎ (get new key ≡ kept_row ks (get old key))
