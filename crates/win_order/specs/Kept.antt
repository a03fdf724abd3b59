-- What an order keeps in every state that its calls can reach.
use Rattle.std.specs.Prelude.{◌≡◌, ℕ, ◌==◌, Bool, true, false, ◌&&◌, ◌||◌, ⊤, List, [], ◌∷◌, cond, length, map, count_by}
use Rattle.std.specs.List.{list_all, list_any}
use Rattle.win_num.specs.declared.message.Hwnd.{Hwnd}
use Rattle.win_order.specs.Standing.{Standing}
use Rattle.win_order.specs.declared.top_level.TopLevel.{TopLevel}
use Rattle.win_order.specs.Layers.{Layers, IsNew, siblings_of}
use Rattle.win_order.specs.Mended.{IsMended}
use Rattle.win_order.specs.Siblings.{Siblings}
use Rattle.win_order.specs.Standings.{top_level}

-- each window came new to the older ones: it isn't 0 and isn't among them, its parent is 0 or among
-- them, and its owner is 0 or, of a top-level window, a top-level window among them
abbrev pub AllCameNew : List Standing → Type 0
AllCameNew [] = ⊤
AllCameNew (s ∷ ss) = IsNew s.window.0 s.parent.0 s.owner.0 (record { standings = ss; families = [] }) × AllCameNew ss

-- whether the window stands and has this parent, 0 for a top-level window
abbrev pub is_child : ℕ → ℕ → List Standing → Bool
is_child w p ss = list_any (λ s. (s.window.0 == w) && (s.parent.0 == p)) ss

-- how often the window is in a list
abbrev pub times : ℕ → List Hwnd → ℕ
times w ws = count_by (λ v. v.0 == w) ws

-- the top-level windows as mending sees them, from the bottom to the top
abbrev pub top_levels : Layers → List TopLevel
top_levels z = map (top_level z.standings) (siblings_of 0 z)

-- whether a list is that of a parent that is 0 or stands, and has children of that parent alone
abbrev pub is_family : List Standing → Siblings → Bool
is_family ss f = ((f.parent.0 == 0) || list_any (λ s. s.window.0 == f.parent.0) ss) && list_all (λ v. is_child v.0 f.parent.0 ss) f.windows

-- owners and parents are older windows that stand, owners and what they own are top-level windows, each
-- window is once in the list of its parent and in no other, each list is that of a parent that stands or
-- of the top-level windows, and the top-level windows are mended
pub record IsKept (z : Layers) : Type 0 where
  pub older : AllCameNew z.standings
  pub listed : (p w : ℕ) → times w (siblings_of p z) ≡ cond (is_child w p z.standings) 1 0
  pub families : list_all (is_family z.standings) z.families ≡ true
  pub mended : IsMended (top_levels z)

-- the age of a window: its place among all, counted from the oldest
abbrev pub age_in : List Standing → ℕ → ℕ
age_in [] w = 0
age_in (s ∷ ss) w = elim (s.window.0 == w) [ true ↦ length ss | false ↦ age_in ss w ]
