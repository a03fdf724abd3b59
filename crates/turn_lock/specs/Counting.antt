-- A beginning of a history is no longer than the history.
use Rattle.std.specs.Prelude.{ℕ, ◌≤◌, List, ◌++◌, length}
use Rattle.std.proofs.Common.{sym, subst}
use Rattle.std.proofs.Math.Nat.{le_trans, le-add_right}
use Rattle.std.proofs.lemmas.List.{length-append}

pub shorter : {E : Type 0} (limit : ℕ) (early late : List E) → length (early ++ late) ≤ limit → length early ≤ limit
shorter limit early late fits = le_trans (subst (λ n. length early ≤ n) (sym (length-append early late)) (le-add_right (length early) (length late))) fits
