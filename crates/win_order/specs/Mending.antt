-- Mending: topmost windows come above all others, and owned windows above their owners. Each list goes from the bottom to the top.
use Rattle.std.specs.Prelude.{ℕ, zero, suc, ◌*◌, ◌==◌, Bool, true, false, not, ◌||◌, List, [], ◌∷◌, ◌++◌, length}
use Rattle.std.specs.List.{filter, list_any}
use Rattle.win_order.specs.declared.top_level.TopLevel.{TopLevel}

-- whether a window of this number is among these
abbrev pub has : ℕ → List TopLevel → Bool
has w ts = list_any (λ t. t.window.0 == w) ts

-- whether the window has no owner, or its owner is written
abbrev pub may_follow : List TopLevel → TopLevel → Bool
may_follow written t = (t.owner.0 == 0) || has t.owner.0 written

-- those that the window owns
abbrev pub owned_by : ℕ → List TopLevel → List TopLevel
owned_by w ts = filter (λ t. t.owner.0 == w) ts

-- those that the window doesn't own
abbrev pub not_owned_by : ℕ → List TopLevel → List TopLevel
not_owned_by w ts = filter (λ t. not (t.owner.0 == w)) ts

-- the list written anew: a window whose owner isn't written yet is held back, and once a window is
-- written the held windows that it owns come next, in their order. The number bounds the steps
abbrev pub rewritten : ℕ → List TopLevel → List TopLevel → List TopLevel → List TopLevel
rewritten zero written held next = written ++ held ++ next
rewritten (suc n) written held [] = written ++ held
rewritten (suc n) written held (t ∷ next) = elim (may_follow written t) [ true ↦ rewritten n (written ++ t ∷ []) (not_owned_by t.window.0 held) (owned_by t.window.0 held ++ next) | false ↦ rewritten n written (held ++ t ∷ []) next ]

-- topmost windows above all others, both parts in their order
abbrev pub parted : List TopLevel → List TopLevel
parted ts = filter (λ t. not t.topmost) ts ++ filter (λ t. t.topmost) ts

-- topmost windows above all others, then owned windows above their owners; each window is held back
-- at most once and written once, so two steps a window are enough
abbrev pub mended : List TopLevel → List TopLevel
mended ts = rewritten (2 * length (parted ts)) [] [] (parted ts)
