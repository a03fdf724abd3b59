-- The windows that stand directly under each window.
use Rattle.std.specs.Prelude.{◌≡◌, ℕ, ◌==◌, if◌then◌else◌, List, [], ◌∷◌, ◌++◌, length, zero, suc}
use Rattle.std.specs.List.{filter, AllByRecursion}
use Rattle.win_num.specs.declared.message.Hwnd.{Hwnd}
use Rattle.win_rows.specs.declared.links.Link.{Link}
use Rattle.win_rows.specs.declared.links.Link.TheVariants.{Parent, Owner}
use Rattle.win_rows.specs.declared.links.Group.{Group}
use Rattle.win_rows.specs.declared.links.Under.{Under}
use Rattle.win_rows.specs.declared.window.Window.{Window}

-- what the window stands under by the link
abbrev pub above_by : Link → Window → Hwnd
above_by Parent x = x.row.parent
above_by Owner x = x.row.owner

-- the windows directly under the number, in their order
abbrev pub under : Link → List Window → ℕ → List Window
under link ws n = filter (λ y. (above_by link y).0 == n) ws

-- at the place of each window is the group of those of us directly under it
abbrev pub AreGroups : Link → List Window → List Window → List Group → Type 0
AreGroups link us [] [] = Unit {0}
AreGroups link us [] (g ∷ gs) = ⊥
AreGroups link us (x ∷ ws) [] = ⊥
AreGroups link us (x ∷ ws) (g ∷ gs) = (g.windows.items ≡ under link us x.number.0) × AreGroups link us ws gs

-- each window's group has the windows directly under it
abbrev pub IsUnder : List Window → Under → Type 0
IsUnder ws u = AreGroups u.link ws ws u.groups.items

-- the groups with y put last in that of the number, where it is that of a window
abbrev pub IsPut : List Window → ℕ → Window → List Group → List Group → Type 0
IsPut [] n y [] [] = Unit {0}
IsPut [] n y [] (h ∷ hs) = ⊥
IsPut [] n y (g ∷ gs) hs = ⊥
IsPut (x ∷ ws) n y [] hs = ⊥
IsPut (x ∷ ws) n y (g ∷ gs) [] = ⊥
IsPut (x ∷ ws) n y (g ∷ gs) (h ∷ hs) = (h.windows.items ≡ (if x.number.0 == n then g.windows.items ++ y ∷ [] else g.windows.items)) × IsPut ws n y gs hs

-- the groups with y put last in that at p
abbrev pub IsPutAt : ℕ → Window → List Group → List Group → Type 0
IsPutAt p y [] hs = ⊥
IsPutAt p y (g ∷ gs) [] = ⊥
IsPutAt zero y (g ∷ gs) (h ∷ hs) = (h.windows.items ≡ g.windows.items ++ y ∷ []) × (hs ≡ gs)
IsPutAt (suc p) y (g ∷ gs) (h ∷ hs) = (h ≡ g) × IsPutAt p y gs hs

-- groups of no window, one for each of n
abbrev pub AreEmpty : ℕ → List Group → Type 0
AreEmpty n gs = (length gs ≡ n) × AllByRecursion (λ g. g.windows.items ≡ []) gs
