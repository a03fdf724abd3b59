-- What each step of a destruction has.
use Rattle.std.proofs.Common.{◌≡◌, ℕ, zero, suc, not, List, [], ◌∷◌, ◌++◌, map, length, Some}
use Rattle.std.specs.List.{AllByRecursion, flat_map}
use Rattle.user_model.specs.Past.{Past}
use Rattle.user_model.specs.Windows.{Window, live}
use Rattle.user_model.specs.Destruction.{Step, told, ended, told_step, ended_step, owned_by, children_of, preorder, postorder, destruction, destruction_of, was_given, next_step}
use Rattle.user_model.proofs.ListLaws.{all_append, all_filter, all_found}

pub all_flat_map : {X Y : Type 0} (P : Y → Type 0) (Q : X → Type 0) (f : X → List Y) → ((x : X) → Q x → AllByRecursion P (f x)) → (xs : List X) → AllByRecursion Q xs → AllByRecursion P (flat_map f xs)
all_flat_map P Q f h [] k = tt
all_flat_map P Q f h (x ∷ xs) k = all_append P (f x) (flat_map f xs) (h x k.0) (all_flat_map P Q f h xs k.1)

pub all_map : {X Y : Type 0} (P : Y → Type 0) (Q : X → Type 0) (f : X → Y) → ((x : X) → Q x → P (f x)) → (xs : List X) → AllByRecursion Q xs → AllByRecursion P (map f xs)
all_map P Q f h [] k = tt
all_map P Q f h (x ∷ xs) k = (h x k.0, all_map P Q f h xs k.1)

-- the window of a step
abbrev pub window_of : Step → ℕ
window_of (told w) = w
window_of (ended w) = w

module _ (P : ℕ → Type 0) (ws : List Window) (h : AllByRecursion (λ x. P x.number) ws) where
  preorder_all : (n : ℕ) (x : Window) → P x.number → AllByRecursion (λ y. P y.number) (preorder n ws x)
  preorder_all zero x p = tt
  preorder_all (suc n) x p = (p, all_flat_map (λ y. P y.number) (λ y. P y.number) (preorder n ws) (λ y q. preorder_all n y q) (children_of ws x) (all_filter (λ y. P y.number) _ ws h))

  postorder_all : (n : ℕ) (x : Window) → P x.number → AllByRecursion (λ y. P y.number) (postorder n ws x)
  postorder_all zero x p = tt
  postorder_all (suc n) x p =
      all_append (λ y. P y.number) (flat_map (postorder n ws) (children_of ws x)) (x ∷ [])
      (all_flat_map (λ y. P y.number) (λ y. P y.number) (postorder n ws) (λ y q. postorder_all n y q) (children_of ws x) (all_filter (λ y. P y.number) _ ws h)) (p, tt)

  -- what all windows have, the window of each step has
  pub destruction_all : (n : ℕ) (x : Window) → P x.number → AllByRecursion (λ i. P (window_of i)) (destruction n ws x)
  destruction_all zero x p = tt
  destruction_all (suc n) x p =
      all_append (λ i. P (window_of i)) (flat_map (destruction n ws) (owned_by ws x)) (map told_step (preorder (suc n) ws x) ++ map ended_step (postorder (suc n) ws x))
      (all_flat_map (λ i. P (window_of i)) (λ y. P y.number) (destruction n ws) (λ y q. destruction_all n y q) (owned_by ws x) (all_filter (λ y. P y.number) _ ws h))
      (all_append (λ i. P (window_of i)) (map told_step (preorder (suc n) ws x)) (map ended_step (postorder (suc n) ws x))
      (all_map (λ i. P (window_of i)) (λ y. P y.number) told_step (λ y q. q) (preorder (suc n) ws x) (preorder_all (suc n) x p))
      (all_map (λ i. P (window_of i)) (λ y. P y.number) ended_step (λ y q. q) (postorder (suc n) ws x) (postorder_all (suc n) x p)))

-- what all live windows have, the window of the next step has
pub next_step_has : (P : ℕ → Type 0) (past : Past) (x : Window) (i : Step) → AllByRecursion (λ y. P y.number) (live past) → P x.number → next_step past x ≡ Some i → P (window_of i)
next_step_has P past x i h p e = all_found (λ j. P (window_of j)) (λ j. not (was_given past j)) (destruction_of (live past) x) i (destruction_all P (live past) h (length (live past)) x p) e
