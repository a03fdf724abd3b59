-- What mending asks of the live windows, and what an order tells of them.
use Rattle.std.proofs.Common.{◌≡◌, ◌∙◌, ℕ, Bool, true, false, cond, eqb, List, [], ◌∷◌, map, Option, Some, None, refl, sym, ap, arith}
use Rattle.std.specs.Prelude.{◌&&◌, filter, option_map, unwrap_or}
use Rattle.std.specs.List.{list_any}
use Rattle.std.proofs.lemmas.Bool.{eqb-true, eq-eqb, false≢true}
use Rattle.win_num.specs.declared.message.Hwnd.{Hwnd}
use Rattle.win_order.specs.Kept.{is_child}
use Rattle.win_order.specs.Layers.{Layers, siblings_of, stands}
use Rattle.win_order.specs.Standing.{Standing}
use Rattle.win_order.specs.Standings.{parent_of}
use Rattle.win_order.proofs.Booleans.{any_over}
use Rattle.win_order.proofs.ChildLaws.{child_listed}
use Rattle.win_order.proofs.KeptLaws.{lone_child}
use Rattle.user_model.specs.Past.{Past}
use Rattle.user_model.specs.Windows.{Window, find_window, live, window, is_live, parent_in}
use Rattle.user_model.specs.ZOrder.{standing, standings}
use Rattle.user_model.proofs.Forests.{IsRising, none_before, number_found, rising_filter}
use Rattle.window_state.specs.Orders.{IsOrderAt}
use Rattle.window_state.proofs.Reversed.{any_found, any_rev, found_any}

-- some standing passes exactly where some live window does
pub any_standing : (past : Past) (q : Standing → Bool) → list_any q (standings past) ≡ list_any (λ x. q (standing past x)) (live past)
any_standing past q = any_rev q (map (standing past) (live past)) ∙ any_over (standing past) q (live past)

-- who stands is live
pub stands_live : (past : Past) (w : ℕ) → list_any (λ (s : Standing). eqb s.window.0 w) (standings past) ≡ is_live past w
stands_live past w = any_standing past (λ s. eqb s.window.0 w) ∙ sym (found_any (λ (x : Window). eqb x.number w) (live past))

-- a live window is a child of its parent
pub child_live : (past : Past) (w : ℕ) (x : Window) → window past w ≡ Some x → is_child w x.parent (standings past) ≡ true
child_live past w x e =
    any_standing past (λ s. eqb s.window.0 w && eqb s.parent.0 x.parent)
    ∙ any_found (λ (y : Window). eqb y.number w) (λ y. eqb y.number w && eqb y.parent x.parent) (live past) x e
    (ap (λ b. b && eqb x.parent x.parent) (eq-eqb x.number w (number_found (live past) w x e)) ∙ eq-eqb x.parent x.parent refl)

-- the parent of a window that was found
pub parent_found : (past : Past) (w : ℕ) (x : Window) → window past w ≡ Some x → parent_in (live past) w ≡ x.parent
parent_found past w x e = ap (λ (o : Option Window). unwrap_or (option_map (λ (y : Window). y.parent) o) 0) e

module _ (past : Past) (z : Layers) (at : IsOrderAt past z) where
  -- who stands is live
  pub stands_at : (w : ℕ) → stands w z ≡ is_live past w
  stands_at w = ap (list_any (λ (s : Standing). eqb s.window.0 w)) at.standings ∙ stands_live past w

  -- a live window is a child of its parent
  pub child_at : (w : ℕ) (x : Window) → window past w ≡ Some x → is_child w x.parent z.standings ≡ true
  child_at w x e = ap (is_child w x.parent) at.standings ∙ child_live past w x e

  -- the order has the parent of a live window
  pub parent_at : (w : ℕ) (x : Window) → window past w ≡ Some x → (parent_of z.standings w).0 ≡ x.parent
  parent_at w x e = pick (eqb (parent_of z.standings w).0 x.parent) refl
    where
      pick : (b : Bool) → eqb (parent_of z.standings w).0 x.parent ≡ b → (parent_of z.standings w).0 ≡ x.parent
      pick true h = eqb-true (parent_of z.standings w).0 x.parent h
      pick false h = absurd (false≢true (sym (lone_child z.standings at.kept.older w x.parent h) ∙ child_at w x e))

  -- it is in the list of its parent
  pub listed_at : (w : ℕ) (x : Window) → window past w ≡ Some x → list_any (λ (v : Hwnd). eqb v.0 w) (siblings_of x.parent z) ≡ true
  listed_at w x e = child_listed z at.kept x.parent w ∙ child_at w x e

-- what isn't in a list of numbers that rise, once what has the number is left out
pub found_out : (p : Window → Bool) (from last : ℕ) (ws : List Window) (w : ℕ) (x : Window) → IsRising from last ws → find_window ws w ≡ Some x → p x ≡ false → find_window (filter p ws) w ≡ None
found_out p from last [] w x h e out = absurd cc
found_out p from last (y ∷ ws) w x h e out = pick (found_out p y.number last ws w x h.2) (eqb y.number w) refl e
  where
    later : eqb y.number w ≡ true → find_window (filter p ws) w ≡ None
    later k = none_before y.number last (filter p ws) w (rising_filter p y.number last ws h.2) (omega (arith, eqb-true y.number w k))

    skipped : p y ≡ false → find_window (filter p (y ∷ ws)) w ≡ find_window (filter p ws) w
    skipped k = ap (λ b. find_window (cond b (y ∷ filter p ws) (filter p ws)) w) k

    kept_first : eqb y.number w ≡ false → find_window (filter p ws) w ≡ None → (b : Bool) → find_window (cond b (y ∷ filter p ws) (filter p ws)) w ≡ None
    kept_first k rest true = ap (λ b. cond b (Some y) (find_window (filter p ws) w)) k ∙ rest
    kept_first k rest false = rest

    pick : (find_window ws w ≡ Some x → p x ≡ false → find_window (filter p ws) w ≡ None) → (b : Bool) → eqb y.number w ≡ b → cond b (Some y) (find_window ws w) ≡ Some x → find_window (filter p (y ∷ ws)) w ≡ None
    pick rest true k f = let same : y ≡ x = cc in skipped (ap p same ∙ out) ∙ later k
    pick rest false k f = kept_first k (rest f out) (p y)
