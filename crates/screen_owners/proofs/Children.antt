-- The listed children of each window are its children, where the tables are those of a past.
use Rattle.std.proofs.Common.{◌≡◌, ◌⊎◌, inl, inr, ℕ, ◌<◌, Bool, true, false, cond, eqb, List, [], ◌∷◌, map, Some, refl, ap, ◌∙◌, sym, arith}
use Rattle.std.specs.Prelude.{◌&&◌, ◌||◌, reverse}
use Rattle.std.specs.List.{AllByRecursion, list_any, list_all}
use Rattle.std.proofs.lemmas.Bool.{eqb-true, false≢true}
use Rattle.std.proofs.lemmas.List.Elements.{All-from_recursion}
use Rattle.std.proofs.lemmas.List.Sorted.{IsPermutation-reverse, list_any-IsPermutation}
use Rattle.win_num.specs.declared.message.Hwnd.{Hwnd}
use Rattle.win_order.specs.Kept.{is_child}
use Rattle.win_order.specs.Layers.{Layers, siblings_of}
use Rattle.win_order.specs.Standing.{Standing}
use Rattle.win_order.proofs.ChildLaws.{each_child}
use Rattle.win_rows.specs.declared.window.Window.{Window}
use Rattle.win_rows.specs.Windows.{IsOrdered, Windows, window_of}
use Rattle.user_model.specs.Past.{Past}
use Rattle.user_model.specs.Windows.{live}
use Rattle.user_model.specs.Windows as model
use Rattle.user_model.specs.ZOrder.{standing}
use Rattle.window_state.specs.Orders.{IsOrderAt}
use Rattle.window_state.specs.Trees.{as_made, IsTreeAt}
use Rattle.screen_owners.specs.Owners.{AreChildren, IsChildOf}

any_map : {X Y : Type 0} (test : Y → Bool) (f : X → Y) (xs : List X) → list_any test (map f xs) ≡ list_any (λ x. test (f x)) xs
any_map test f [] = refl
any_map test f (x ∷ xs) = ap (λ b. test (f x) || b) (any_map test f xs)

both : (a b : Bool) → (a && b) ≡ true → (a ≡ true) × (b ≡ true)
both true b h = (refl, h)
both false b h = absurd (false≢true h)

one_of : (a b : Bool) → (a || b) ≡ true → (a ≡ true) ⊎ (b ≡ true)
one_of true b h = inl refl
one_of false b h = inr h

-- such a window has a number above the first
any_over : (from last : ℕ) (ws : List Window) (v w : ℕ) → IsOrdered from last ws → list_any (λ (x : Window). eqb x.number.0 v && eqb x.row.parent.0 w) ws ≡ true → from < v
any_over from last [] v w h e = absurd (false≢true e)
any_over from last (x ∷ xs) v w h e = pick (any_over x.number.0 last xs v w h.2) (one_of (eqb x.number.0 v && eqb x.row.parent.0 w) (list_any (λ (x : Window). eqb x.number.0 v && eqb x.row.parent.0 w) xs) e)
  where
    pick : (list_any (λ (x : Window). eqb x.number.0 v && eqb x.row.parent.0 w) xs ≡ true → x.number.0 < v) → ((eqb x.number.0 v && eqb x.row.parent.0 w) ≡ true) ⊎ (list_any (λ (x : Window). eqb x.number.0 v && eqb x.row.parent.0 w) xs ≡ true) → from < v
    pick rest (inl k) = omega (arith, h.0, eqb-true x.number.0 v (both (eqb x.number.0 v) (eqb x.row.parent.0 w) k).0)
    pick rest (inr k) = omega (arith, h.0, rest k)

-- the one window of the number has the parent
parent_found : (from last : ℕ) (ws : List Window) (v w : ℕ) (x : Window) → IsOrdered from last ws → list_any (λ (y : Window). eqb y.number.0 v && eqb y.row.parent.0 w) ws ≡ true → window_of ws v ≡ Some x → x.row.parent.0 ≡ w
parent_found from last [] v w x h e k = absurd (false≢true e)
parent_found from last (y ∷ ys) v w x h e k = pick (parent_found y.number.0 last ys v w x h.2) (eqb y.number.0 v) refl (one_of (eqb y.number.0 v && eqb y.row.parent.0 w) (list_any (λ (y : Window). eqb y.number.0 v && eqb y.row.parent.0 w) ys) e) k
  where
    pick : (list_any (λ (y : Window). eqb y.number.0 v && eqb y.row.parent.0 w) ys ≡ true → window_of ys v ≡ Some x → x.row.parent.0 ≡ w) → (b : Bool) → eqb y.number.0 v ≡ b → ((eqb y.number.0 v && eqb y.row.parent.0 w) ≡ true) ⊎ (list_any (λ (y : Window). eqb y.number.0 v && eqb y.row.parent.0 w) ys ≡ true) → cond b (Some y) (window_of ys v) ≡ Some x → x.row.parent.0 ≡ w
    pick rest true n (inl m) k = let same : y ≡ x = cc in ap (λ (u : Window). u.row.parent.0) (sym same) ∙ eqb-true y.row.parent.0 w (both (eqb y.number.0 v) (eqb y.row.parent.0 w) m).1
    pick rest true n (inr m) k = absurd (omega (arith, any_over y.number.0 last ys v w h.2 m, eqb-true y.number.0 v n))
    pick rest false n (inl m) k = absurd (false≢true (sym n ∙ (both (eqb y.number.0 v) (eqb y.row.parent.0 w) m).0))
    pick rest false n (inr m) k = rest m k

-- those of which a test holds
all_tested : {X : Type 0} (P : X → Type 0) (test : X → Bool) → ((x : X) → test x ≡ true → P x) → (xs : List X) → list_all test xs ≡ true → AllByRecursion P xs
all_tested P test each [] h = tt
all_tested P test each (x ∷ xs) h = let b = both (test x) (list_all test xs) h in (each x b.0, all_tested P test each xs b.1)

pub listed_children : (past : Past) (t : Windows) (z : Layers) → IsOrdered 15 t.last t.live → IsTreeAt past t → IsOrderAt past z → AreChildren t.live z
listed_children past t z ordered at order w = All-from_recursion (IsChildOf t.live w) (siblings_of w z) (all_tested (IsChildOf t.live w) (λ (v : Hwnd). is_child v.0 w z.standings) each (siblings_of w z) (each_child z order.kept w))
  where
    each : (v : Hwnd) → is_child v.0 w z.standings ≡ true → IsChildOf t.live w v
    each v stands x found = parent_found 15 t.last t.live v.0 w x ordered here found
      where
        all : List Standing
        all = map (standing past) (live past)

        among : list_any (λ (s : Standing). eqb s.window.0 v.0 && eqb s.parent.0 w) all ≡ true
        among = list_any-IsPermutation (λ (s : Standing). eqb s.window.0 v.0 && eqb s.parent.0 w) all (reverse all) (IsPermutation-reverse all) ∙ (ap (list_any (λ (s : Standing). eqb s.window.0 v.0 && eqb s.parent.0 w)) (sym order.standings) ∙ stands)

        here : list_any (λ (y : Window). eqb y.number.0 v.0 && eqb y.row.parent.0 w) t.live ≡ true
        here =
            sym (any_map (λ (y : model.Window). eqb y.number v.0 && eqb y.parent w) as_made t.live)
            ∙ (ap (list_any (λ (y : model.Window). eqb y.number v.0 && eqb y.parent w)) at.windows
            ∙ (sym (any_map (λ (s : Standing). eqb s.window.0 v.0 && eqb s.parent.0 w) (standing past) (live past)) ∙ among))
