-- The order of a destruction, as a whole.
use Rattle.std.specs.Prelude.{◌≡◌, if◌then◌else◌, ℕ, Bool, List, ◌∷◌, ◌++◌, length, count_by}
use Rattle.user_model.specs.Windows.{Window}
use Rattle.user_model.specs.Destruction.{Step, preorder, postorder, same_step}

-- x's subtree among these windows, each window before its children
abbrev pub subtree_down : List Window → Window → List Window
subtree_down ws x = preorder (length ws) ws x

-- x's subtree among these windows, each window after its children
abbrev pub subtree_up : List Window → Window → List Window
subtree_up ws x = postorder (length ws) ws x

-- how often a step stands in an order
abbrev pub times : Step → List Step → ℕ
times i steps = count_by (same_step i) steps

-- once where it is so, else never
abbrev pub once_if : Bool → ℕ
once_if b = if b then 1 else 0

-- one value comes before another in a list
pub record ComesBefore {A : Type 0} (i j : A) (xs : List A) : Type 0 where
  pub before : List A
  pub between : List A
  pub after : List A
  pub splits : xs ≡ before ++ i ∷ (between ++ j ∷ after)
