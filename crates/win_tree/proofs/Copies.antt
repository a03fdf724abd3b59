-- The first rows of a table, one more at a time.
use Rattle.std.proofs.Common.{◌≡◌, ℕ, zero, suc, ◌<◌, List, [], ◌∷◌, ◌++◌, length, get_or, take, sym, subst, arith}
use Rattle.win_rows.specs.declared.window.Window.{Window}
use Rattle.win_rows.specs.Windows.{RisesFrom}

-- the first rows and the next one rise
pub rises_taken : (from : ℕ) (ws : List Window) (i : ℕ) (x : Window) → RisesFrom from ws → i < length ws → x ≡ get_or ws i x → RisesFrom from (take i ws ++ x ∷ [])
rises_taken from [] i x h lt e = absurd (omega (arith, lt))
rises_taken from (y ∷ ws) zero x h lt e = (subst (λ (v : Window). from < v.number.0) (sym e) h.0, tt)
rises_taken from (y ∷ ws) (suc i) x h lt e = (h.0, rises_taken y.number.0 ws i x h.1 (omega (arith, lt)) e)
