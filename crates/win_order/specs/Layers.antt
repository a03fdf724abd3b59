-- What contracts see of an order, and what each call makes of it.
use Rattle.std.specs.Prelude.{if◌then◌else◌, ℕ, ◌==◌, Bool, true, not, ◌&&◌, ◌||◌, IsTrue, List, [], ◌∷◌, map}
use Rattle.std.specs.List.{filter, list_any, list_all}
use Rattle.win_num.specs.declared.message.Hwnd.{Hwnd}
use Rattle.win_order.specs.declared.after.After.{After}
use Rattle.win_order.specs.declared.after.After.TheVariants.{Below, Top}
use Rattle.win_order.specs.Standing.{Standing}
use Rattle.win_order.specs.Families.{put, windows_of, with_windows, without_window}
use Rattle.win_order.specs.Mending.{mended}
use Rattle.win_order.specs.Siblings.{Siblings}
use Rattle.win_order.specs.Standings.{parent_of, top_level, pinned}

-- what is known of each window, the newest first, and the lists of siblings
pub record Layers : Type 0 where
  pub standings : List Standing
  pub families : List Siblings

-- no window stands
abbrev pub empty : Layers
empty = record { standings = []; families = [] }

-- the children of p, or for 0 the top-level windows, from the bottom to the top
abbrev pub siblings_of : ℕ → Layers → List Hwnd
siblings_of p z = windows_of z.families p

-- whether the window stands
abbrev pub stands : ℕ → Layers → Bool
stands w z = list_any (λ s. s.window.0 == w) z.standings

-- whether the window stands and is a top-level window
abbrev pub stands_on_top : ℕ → Layers → Bool
stands_on_top w z = list_any (λ s. (s.window.0 == w) && (s.parent.0 == 0)) z.standings

-- whether no window has it as its parent or owner
abbrev pub has_none : ℕ → Layers → Bool
has_none w z = list_all (λ s. not (s.parent.0 == w) && not (s.owner.0 == w)) z.standings

-- whether the window may come new under this parent and this owner
pub record IsNew (w p o : ℕ) (z : Layers) : Type 0 where
  pub window : IsTrue (not (w == 0))
  pub fresh : IsTrue (not (stands w z))
  pub parent : IsTrue ((p == 0) || stands p z)
  pub owner : IsTrue ((o == 0) || (p == 0) && stands_on_top o z)

-- whether the window stands, and the sibling that is named is one other than itself
abbrev pub has_place : ℕ → After → Layers → Bool
has_place w (Below sibling) z = not (sibling.0 == w) && list_any (λ v. v.0 == sibling.0) (siblings_of (parent_of z.standings w).0 z)
has_place w after z = true

pub record IsPlace (w : ℕ) (after : After) (z : Layers) : Type 0 where
  pub window : IsTrue (stands w z)
  pub sibling : IsTrue (has_place w after z)

-- only the list of top-level windows is mended
abbrev pub settled : List Standing → ℕ → List Hwnd → List Hwnd
settled ss p ws = if p == 0 then map (λ t. t.window) (mended (map (top_level ss) ws)) else ws

-- the lists with a window of parent p put where it is meant to stand
abbrev pub relisted : List Standing → Hwnd → Hwnd → After → List Siblings → List Siblings
relisted ss p w after fs = with_windows p (settled ss p.0 (put after w (windows_of fs p.0))) fs

-- a new window comes to the top of its siblings
abbrev pub inserted : Hwnd → Hwnd → Hwnd → Bool → Layers → Layers
inserted w p owner topmost z = let ss = record { window = w; parent = p; owner = owner; topmost = topmost } ∷ z.standings in record { standings = ss; families = relisted ss p w Top z.families }

-- a window is put where AFTER says, with its flag set or cleared where AFTER says so
abbrev pub placed : Hwnd → After → Layers → Layers
placed w after z = let ss = pinned after w.0 z.standings in record { standings = ss; families = relisted ss (parent_of z.standings w.0) w after z.families }

-- a window is taken out
abbrev pub removed : ℕ → Layers → Layers
removed w z = record { standings = filter (λ s. not (s.window.0 == w)) z.standings; families = map (without_window w) (filter (λ f. not (f.parent.0 == w)) z.families) }

-- whether a window of this number is among these
abbrev pub is_among : List Hwnd → ℕ → Bool
is_among ws w = list_any (λ v. v.0 == w) ws

-- whether a window goes, where these stay
abbrev pub is_gone : List Hwnd → ℕ → Bool
is_gone staying w = not (w == 0) && not (is_among staying w)

-- whether a window goes, where its parent or its owner does
abbrev pub goes_along_with : List Hwnd → Standing → Bool
goes_along_with staying s = is_gone staying s.window.0 || (not (is_gone staying s.parent.0) && not (is_gone staying s.owner.0))

-- whether all others may go at once: who stays has no parent or owner that goes
abbrev pub may_stay : List Hwnd → List Standing → Bool
may_stay staying ss = list_all (goes_along_with staying) ss

-- a list of siblings without those that go
abbrev pub staying_in : List Hwnd → Siblings → Siblings
staying_in staying f = record { parent = f.parent; windows = filter (λ v. not (is_gone staying v.0)) f.windows }

-- all windows but these are taken out
abbrev pub kept : List Hwnd → Layers → Layers
kept staying z = record { standings = filter (λ s. not (is_gone staying s.window.0)) z.standings; families = map (staying_in staying) (filter (λ f. not (is_gone staying f.parent.0)) z.families) }
