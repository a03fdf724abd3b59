-- Which windows are being painted, looked up in a list of sessions.
use Rattle.std.specs.Prelude.{ℕ, suc, ◌≤◌, ◌==◌, Bool, List, [], ◌∷◌, Option, find, option_map}
use Rattle.std.specs.List.{list_any}
use Rattle.std.specs.List.Sorted.{IsNonDecreasingBy}
use Rattle.win_num.specs.declared.message.Hwnd.{Hwnd}
use Rattle.win_num.specs.declared.shapes.Rect.{Rect}
use Rattle.paint_sessions.specs.declared.sessions.Session.{Session}

-- the numbers of the windows rise, from a first number on
abbrev pub RisesFrom : ℕ → List Session → Type 0
RisesFrom first [] = Unit {0}
RisesFrom first (s ∷ ss) = (first ≤ s.window.0) × RisesFrom (suc s.window.0) ss

-- the session of a window
abbrev pub session_of : List Session → ℕ → Option Session
session_of ss w = find (λ s. s.window.0 == w) ss

-- the clip of a session
abbrev pub session_clip : Session → List Rect
session_clip s = s.clip

-- the clip of a window, if it has a session
abbrev pub clip_in : List Session → ℕ → Option (List Rect)
clip_in ss w = option_map session_clip (session_of ss w)

-- whether a window has a session
abbrev pub is_begun : List Session → ℕ → Bool
is_begun ss w = list_any (λ s. s.window.0 == w) ss

-- whether the window is among these
abbrev pub is_among : ℕ → List Hwnd → Bool
is_among w hs = list_any (λ h. h.0 == w) hs

-- the numbers of windows don't fall
abbrev pub AreSorted : List Hwnd → Type 0
AreSorted hs = IsNonDecreasingBy (λ h. h.0) hs
