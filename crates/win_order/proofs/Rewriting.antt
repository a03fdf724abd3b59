-- The steps of the rewriting, as the code makes them from a stack.
use Rattle.std.proofs.Common.{◌≡◌, ℕ, zero, suc, true, false, List, [], ◌∷◌, ◌++◌, append-nil, refl}
use Rattle.win_order.specs.declared.top_level.TopLevel.{TopLevel}
use Rattle.win_order.specs.Mending.{may_follow, owned_by, not_owned_by, rewritten}

pub rewritten_done : (n : ℕ) (written held : List TopLevel) → rewritten n written held [] ≡ written ++ held
rewritten_done zero written held = append-nil (written ++ held)
rewritten_done (suc n) written held = refl

pub rewritten_written : (n : ℕ) (written held next : List TopLevel) (t : TopLevel) → may_follow written t ≡ true → rewritten n (written ++ t ∷ []) (not_owned_by t.window.0 held) (owned_by t.window.0 held ++ next) ≡ rewritten (suc n) written held (t ∷ next)
rewritten_written n written held next t free = rw (rewritten, free) refl

pub rewritten_held : (n : ℕ) (written held next : List TopLevel) (t : TopLevel) → may_follow written t ≡ false → rewritten n written (held ++ t ∷ []) next ≡ rewritten (suc n) written held (t ∷ next)
rewritten_held n written held next t waits = rw (rewritten, waits) refl
