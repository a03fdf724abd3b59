-- What mending is for: the laws of a mended list. Each list goes from the bottom to the top.
use Rattle.std.specs.Prelude.{◌≡◌, ℕ, ◌==◌, nat_lt, Bool, true, false, not, ◌||◌, List, [], ◌∷◌, ◌++◌}
use Rattle.std.specs.List.{filter, list_all}
use Rattle.win_order.specs.declared.top_level.TopLevel.{TopLevel}
use Rattle.win_order.specs.Mending.{may_follow}

-- whether each window stands above its owner, with these windows below the list
abbrev pub is_above_owners : List TopLevel → List TopLevel → Bool
is_above_owners below [] = true
is_above_owners below (t ∷ ts) = elim (may_follow below t) [ true ↦ is_above_owners (below ++ t ∷ []) ts | false ↦ false ]

-- whether the topmost windows stand above all others
abbrev pub is_parted : List TopLevel → Bool
is_parted [] = true
is_parted (t ∷ ts) = elim t.topmost [ true ↦ list_all (λ v. v.topmost) ts | false ↦ is_parted ts ]

-- topmost windows stand above all others, and each owned window stands above its owner
pub record IsMended (ts : List TopLevel) : Type 0 where
  pub parted : is_parted ts ≡ true
  pub above : is_above_owners [] ts ≡ true

-- the windows that aren't topmost
abbrev pub ordinary : List TopLevel → List TopLevel
ordinary ts = filter (λ t. not t.topmost) ts

-- whether the window has no owner, or an older one
abbrev pub has_older_owner : (ℕ → ℕ) → TopLevel → Bool
has_older_owner age t = (t.owner.0 == 0) || nat_lt (age t.owner.0) (age t.window.0)

-- every owner is among the windows, older than what it owns, and topmost only where that is
pub record AreOwned (age : ℕ → ℕ) (ts : List TopLevel) : Type 0 where
  pub owners : list_all (may_follow ts) ts ≡ true
  pub ordinary_owners : list_all (may_follow (ordinary ts)) (ordinary ts) ≡ true
  pub older : list_all (has_older_owner age) ts ≡ true

-- whether a window goes, where its owner does
abbrev pub goes_along : (ℕ → Bool) → TopLevel → Bool
goes_along gone t = not (gone t.owner.0) || gone t.window.0

-- the windows that stay
abbrev pub staying : (ℕ → Bool) → List TopLevel → List TopLevel
staying gone ts = filter (λ t. not (gone t.window.0)) ts
