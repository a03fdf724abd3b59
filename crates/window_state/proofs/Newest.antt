-- The window that a table got last.
use Rattle.std.proofs.Common.{◌≡◌, ◌∙◌, ℕ, suc, ◌<◌, ◌≤◌, Bool, true, false, cond, eqb, List, [], ◌∷◌, ◌++◌, Some, None, refl, sym, ap, subst, arith}
use Rattle.std.specs.Prelude.{find, OnOk, Result, Ok, Err}
use Rattle.std.proofs.lemmas.Bool.{eq-eqb, ne_eqb}
use Rattle.win_rows.specs.declared.row.WindowRow.{WindowRow}
use Rattle.win_rows.specs.declared.window.Window.{Window}
use Rattle.win_rows.specs.Windows.{IsOrdered, Windows, window_of}
use Rattle.win_tree.specs.Kin.{with_window}
use Rattle.win_order.specs.Layers.{Layers}
use Rattle.window_state.specs.Orders.{FitsEntering, IsEntered, IsRankable, added_as, with_row}

none_over : (from last : ℕ) (ws : List Window) (w : ℕ) → IsOrdered from last ws → last < w → window_of ws w ≡ None
none_over from last [] w h lt = refl
none_over from last (x ∷ ws) w h lt =
    ap (λ b. cond b (Some x) (window_of ws w)) (ne_eqb x.number.0 w (λ e. let le = within x.number.0 last ws h.2 in omega (arith, le, e, lt)))
    ∙ none_over x.number.0 last ws w h.2 lt
  where
    within : (less most : ℕ) (us : List Window) → IsOrdered less most us → less ≤ most
    within less most [] k = k
    within less most (y ∷ us) k = let rest = within y.number.0 most us k.2 in let least = k.0 in omega (arith, rest, least)

found_last : (p : Window → Bool) (ws : List Window) (x : Window) → find p ws ≡ None → p x ≡ true → find p (ws ++ x ∷ []) ≡ Some x
found_last p [] x none is = ap (λ b. cond b (Some x) None) is
found_last p (y ∷ ws) x none is = pick (found_last p ws x) (p y) none
  where
    pick : (find p ws ≡ None → p x ≡ true → find p (ws ++ x ∷ []) ≡ Some x) → (b : Bool) → cond b (Some y) (find p ws) ≡ None → cond b (Some y) (find p (ws ++ x ∷ [])) ≡ Some x
    pick rest true k = absurd cc
    pick rest false k = rest k is

-- it is found under the last number
pub newest_found : (t : Windows) (row : WindowRow) → IsOrdered 15 t.last t.live → window_of (with_window t row).live (suc t.last) ≡ Some (added_as t row)
newest_found t row ordered =
    found_last (λ (x : Window). eqb x.number.0 (suc t.last)) t.live (added_as t row) (none_over 15 t.last t.live (suc t.last) ordered (omega arith)) (eq-eqb (suc t.last) (suc t.last) refl)

pub rankable : (t now : Windows) (z : Layers) (row : WindowRow) → FitsEntering t z row → now ≡ with_window t row → IsRankable now z
rankable t now z row fits is = subst (λ (m : Windows). IsRankable m z) (sym is) (record {
  x = added_as t row;
  newest = newest_found t row fits.ordered;
  number = refl;
  new = fits.new;
})

-- what follows where the answer is ok
pub ok_then : {E : Type 0} (r : Result (Unit {0}) E) (P Q : Type 0) → (P → Q) → OnOk r P → OnOk r Q
ok_then (Ok u) P Q so p = so p
ok_then (Err e) P Q so p = tt

pub entered_by : {E : Type 0} (r : Result (Unit {0}) E) (old new : Windows) (row : WindowRow) (z z' : Layers) → OnOk r (new ≡ with_window old row) → OnOk r (z' ≡ with_row (added_as old row) z) → OnOk r (IsEntered old new z z')
entered_by (Ok u) old new row z z' table order = (added_as old row, ap (λ (m : Windows). m.live) table, order)
entered_by (Err e) old new row z z' table order = tt
