-- The windows that stand as the code keeps them: each under its number, the oldest first.
use Rattle.std.specs.Prelude.{ℕ, ◌==◌, Bool, true, false, not, ◌&&◌, ◌||◌, List, [], ◌∷◌, map, reverse, Option, Some, None}
use Rattle.win_order.specs.declared.standings.Known.{Known}
use Rattle.win_order.specs.Standing.{Standing}
use Rattle.win_order.specs.Standings.{is_topmost}

-- a window with what is known of it
abbrev pub standing : (ℕ × Known) → Standing
standing e = record { window = record { 0 = e.0 }; parent = e.1.parent; owner = e.1.owner; topmost = e.1.topmost }

-- the windows, the newest first
abbrev pub newest_first : List (ℕ × Known) → List Standing
newest_first es = reverse (map standing es)

-- what is known of a window that stands
abbrev pub known : Standing → Known
known s = record { parent = s.parent; owner = s.owner; topmost = s.topmost }

-- what is known of a window, where it stands
abbrev pub known_of : List Standing → ℕ → Option Known
known_of [] w = None
known_of (s ∷ ss) w = elim (s.window.0 == w) [ true ↦ Some (known s) | false ↦ known_of ss w ]

-- whether a new window comes below the topmost ones: it is a top-level window, and neither it nor its owner is topmost
abbrev pub goes_low : List Standing → Known → Bool
goes_low ss k = (k.parent.0 == 0) && not (k.topmost || is_topmost ss k.owner.0)
