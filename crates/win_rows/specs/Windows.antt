-- The live windows, the oldest first.
use Rattle.std.specs.Prelude.{if◌then◌else◌, ℕ, ◌==◌, nat_lt, Bool, false, ◌&&◌, ◌||◌, List, [], ◌∷◌, Option, option_map, is_some, find, unwrap_or, ◌<◌, ◌≤◌}
use Rattle.win_num.specs.declared.message.Hwnd.{Hwnd}
use Rattle.win_num.specs.declared.shapes.Rect.{Rect}
use Rattle.win_rows.specs.declared.row.WindowRow.{WindowRow}
use Rattle.win_rows.specs.declared.window.Window.{Window}

-- the number that was given last, and the live windows, the oldest first
pub record Windows : Type 0 where
  pub last : ℕ
  pub live : List Window

-- no window yet: the first gets 16
abbrev pub no_windows : Windows
no_windows = record { last = 15; live = [] }

-- no window
abbrev pub nobody : Hwnd
nobody = record { 0 = 0 }

-- a window as it is made
abbrev pub made : Hwnd → WindowRow → Window
made number row = record { number = number; row = row; marked = false; told = false; ended = false }

-- its number
abbrev pub number_of : Window → Hwnd
number_of x = x.number

-- the window of a number
abbrev pub window_of : List Window → ℕ → Option Window
window_of ws w = find (λ x. x.number.0 == w) ws

-- whether the window is live
abbrev pub is_live : List Window → ℕ → Bool
is_live ws w = is_some (window_of ws w)

-- whether the window is live and marked
abbrev pub is_marked : List Window → ℕ → Bool
is_marked ws w = unwrap_or (option_map (λ x. x.marked) (window_of ws w)) false

-- whether the window is live and was told
abbrev pub is_told : List Window → ℕ → Bool
is_told ws w = unwrap_or (option_map (λ x. x.told) (window_of ws w)) false

-- whether the window is live and got its last message
abbrev pub is_ended : List Window → ℕ → Bool
is_ended ws w = unwrap_or (option_map (λ x. x.ended) (window_of ws w)) false

-- the parent of a child, else the owner, or 0
abbrev pub up : Window → Hwnd
up x = if x.row.parent.0 == 0 then x.row.owner else x.row.parent

-- the numbers rise from above a first one up to the last, and what stands above a window is older
abbrev pub IsOrdered : ℕ → ℕ → List Window → Type 0
IsOrdered from last [] = from ≤ last
IsOrdered from last (x ∷ ws) = (from < x.number.0) × ((up x).0 < x.number.0) × IsOrdered x.number.0 last ws

-- the window, told if it is w
abbrev pub told_if : ℕ → Window → Window
told_if w x = record x { told = x.told || (x.number.0 == w) }

-- the window, with its last message given if it is w
abbrev pub ended_if : ℕ → Window → Window
ended_if w x = record x { ended = x.ended || (x.number.0 == w) }

-- the window, marked also if this holds
abbrev pub marked_also : Bool → Window → Window
marked_also also x = record x { marked = x.marked || also }

-- the window, marked also if it is w
abbrev pub marked_if : ℕ → Window → Window
marked_if w x = marked_also (x.number.0 == w) x

-- the window, with this style and place if it is w
abbrev pub set_if : ℕ → ℕ → ℕ → Rect → Window → Window
set_if w style ex place x = if x.number.0 == w then record x { row = record x.row { style = style; ex = ex; place = place } } else x

-- the window with this parent, or for 0 the top-level window, of least number above v, or 0
abbrev pub next_child : List Window → ℕ → ℕ → Hwnd
next_child ws parent v = unwrap_or (option_map number_of (find (λ x. (x.row.parent.0 == parent) && nat_lt v x.number.0) ws)) nobody

-- the top-level window of least number above w, or 0
abbrev pub next_top : List Window → ℕ → Hwnd
next_top ws w = next_child ws 0 w

-- each number is above the one before it, and the first above this one
abbrev pub RisesFrom : ℕ → List Window → Type 0
RisesFrom from [] = Unit {0}
RisesFrom from (x ∷ ws) = (from < x.number.0) × RisesFrom x.number.0 ws
