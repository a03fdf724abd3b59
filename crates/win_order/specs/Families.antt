-- The lists of siblings.
use Rattle.std.specs.Prelude.{ℕ, ◌==◌, true, false, not, List, [], ◌∷◌, length}
use Rattle.std.specs.List.{filter, insert, position_or_len}
use Rattle.win_num.specs.declared.message.Hwnd.{Hwnd}
use Rattle.win_order.specs.declared.after.After.{After}
use Rattle.win_order.specs.declared.after.After.TheVariants.{Bottom, Below, Top, Topmost, NoTopmost}
use Rattle.win_order.specs.Siblings.{Siblings}

-- the windows but this one
abbrev pub without : ℕ → List Hwnd → List Hwnd
without w ws = filter (λ v. not (v.0 == w)) ws

-- how many of the others stand below the place that is meant: none, those below the sibling, or all
abbrev pub place_in : After → List Hwnd → ℕ
place_in Bottom ws = 0
place_in (Below sibling) ws = position_or_len (λ v. v.0 == sibling.0) ws
place_in Top ws = length ws
place_in Topmost ws = length ws
place_in NoTopmost ws = length ws

-- the siblings with the window taken out and put where it is meant to stand
abbrev pub put : After → Hwnd → List Hwnd → List Hwnd
put after w ws = let others = without w.0 ws in insert others (place_in after others) w

-- the children of a window, or for 0 the top-level windows
abbrev pub windows_of : List Siblings → ℕ → List Hwnd
windows_of [] p = []
windows_of (f ∷ fs) p = elim (f.parent.0 == p) [ true ↦ f.windows | false ↦ windows_of fs p ]

-- the lists with these as the children of p
abbrev pub with_windows : Hwnd → List Hwnd → List Siblings → List Siblings
with_windows p ws [] = record { parent = p; windows = ws } ∷ []
with_windows p ws (f ∷ fs) = elim (f.parent.0 == p.0) [ true ↦ record { parent = p; windows = ws } ∷ fs | false ↦ f ∷ with_windows p ws fs ]

-- a list of siblings without the window
abbrev pub without_window : ℕ → Siblings → Siblings
without_window w f = record { parent = f.parent; windows = without w f.windows }
