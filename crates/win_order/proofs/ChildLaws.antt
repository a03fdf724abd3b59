-- Who is in the list of a parent.
use Rattle.std.proofs.Common.{◌≡◌, ◌∙◌, ℕ, [], true, eqb, ltb, sym, ap}
use Rattle.std.specs.List.{list_any, list_all}
use Rattle.win_num.specs.declared.message.Hwnd.{Hwnd}
use Rattle.win_order.specs.Kept.{IsKept, is_child}
use Rattle.win_order.specs.Layers.{Layers, siblings_of}
use Rattle.win_order.proofs.Booleans.{all_one}
use Rattle.win_order.proofs.KeptLaws.{each_here, listed_any, test_of_count}

-- a window is in the list of a parent exactly where it is its child
pub child_listed : (z : Layers) → IsKept z → (p v : ℕ) → list_any (λ u. eqb u.0 v) (siblings_of p z) ≡ is_child v p z.standings
child_listed z k p v = listed_any v (siblings_of p z) ∙ (ap (ltb 0) (k.listed p v) ∙ test_of_count (is_child v p z.standings))

-- each in the list of a parent is its child
pub each_child : (z : Layers) → IsKept z → (p : ℕ) → list_all (λ w. is_child w.0 p z.standings) (siblings_of p z) ≡ true
each_child z k p = all_one (λ (w : Hwnd). list_any (λ u. eqb u.0 w.0) (siblings_of p z)) (λ w. is_child w.0 p z.standings) (λ w e. sym (child_listed z k p w.0) ∙ e) (siblings_of p z) (each_here [] (siblings_of p z))
