-- The order of a destruction: how far it walks, and that each of the kin is told and ended once.
use Rattle.std.proofs.Common.{◌≡◌, inl, inr, ◌≤◌, ◌<◌, ◌+◌, ℕ, zero, suc, eqb, Bool, true, false, cond, List, [], ◌∷◌, ◌++◌, map, length, refl, sym, ap, ◌∙◌, arith}
use Rattle.std.specs.List.{flat_map}
use Rattle.std.proofs.Math.Dec.{leb}
use Rattle.std.proofs.lemmas.Bool.{false≢true, eqb-true}
use Rattle.std.proofs.lemmas.Bool.Decides.{nat_tests}
use Rattle.user_model.specs.Windows.{Window}
use Rattle.user_model.specs.Destruction.{owned_by, children_of, preorder, postorder, told_step, ended_step, destruction, destruction_of}
use Rattle.user_laws.specs.Words.{IsIn}
use Rattle.user_laws.proofs.WordLaws.{in_filter}
use Rattle.user_laws.proofs.Forest.{IsForest, some_number, child_newer, owned_newer}

-- ---- sums

-- one where it is so
abbrev pub one : Bool → ℕ
one b = cond b 1 0

-- the sum over a list
abbrev pub total : {A : Type 0} → (A → ℕ) → List A → ℕ
total f [] = 0
total f (x ∷ xs) = f x + total f xs

pub total_same : {A : Type 0} (f g : A → ℕ) (xs : List A) → ((x : A) → IsIn x xs → f x ≡ g x) → total f xs ≡ total g xs
total_same f g [] h = refl
total_same f g (x ∷ xs) h = let here = h x (inl refl) in let rest = total_same f g xs (λ y is. h y (inr is)) in omega (arith, here, rest)

pub total_both : {A : Type 0} (f g : A → ℕ) (xs : List A) → total (λ x. f x + g x) xs ≡ total f xs + total g xs
total_both f g [] = refl
total_both f g (x ∷ xs) = let rest = total_both f g xs in omega (arith, rest)

pub total_none : {A : Type 0} (f : A → ℕ) (xs : List A) → ((x : A) → IsIn x xs → f x ≡ 0) → total f xs ≡ 0
total_none f [] h = refl
total_none f (x ∷ xs) h = let here = h x (inl refl) in let rest = total_none f xs (λ y is. h y (inr is)) in omega (arith, here, rest)

one_weaker : (b c : Bool) → (b ≡ true → c ≡ true) → one b ≤ one c
one_weaker true true h = omega arith
one_weaker true false h = absurd (false≢true (h refl))
one_weaker false true h = omega arith
one_weaker false false h = omega arith

total_weaker : {A : Type 0} (p q : A → Bool) (xs : List A) → ((x : A) → p x ≡ true → q x ≡ true) → total (λ x. one (p x)) xs ≤ total (λ x. one (q x)) xs
total_weaker p q [] h = omega arith
total_weaker p q (x ∷ xs) h = let here = one_weaker (p x) (q x) (h x) in let rest = total_weaker p q xs h in omega (arith, here, rest)

-- fewer pass a test that one fails which passes the other
total_fewer : {A : Type 0} (p q : A → Bool) (xs : List A) (z : A) → ((x : A) → p x ≡ true → q x ≡ true) → IsIn z xs → p z ≡ false → q z ≡ true → total (λ x. one (p x)) xs + 1 ≤ total (λ x. one (q x)) xs
total_fewer p q [] z h is fails passes = absurd is
total_fewer p q (x ∷ xs) z h (inl same) fails passes =
    let zero_is : one (p x) ≡ 0 = ap (λ y. one (p y)) (sym same) ∙ ap one fails in
    let one_is : one (q x) ≡ 1 = ap (λ y. one (q y)) (sym same) ∙ ap one passes in
    let rest = total_weaker p q xs h in
    omega (arith, zero_is, one_is, rest)
total_fewer p q (x ∷ xs) z h (inr is) fails passes = let here = one_weaker (p x) (q x) (h x) in let rest = total_fewer p q xs z h is fails passes in omega (arith, here, rest)

pub total_length : {A : Type 0} (p : A → Bool) (xs : List A) → total (λ x. one (p x)) xs ≤ length xs
total_length p [] = omega arith
total_length p (x ∷ xs) = let here = one_weaker (p x) true (λ e. refl) in let rest = total_length p xs in omega (arith, here, rest)

-- ---- how far the walks go

-- how many windows have at least this number, and how many have at most this number
abbrev newer_than : List Window → ℕ → ℕ
newer_than ws k = total (λ y. one (leb k y.number)) ws

abbrev pub older_than : List Window → ℕ → ℕ
older_than ws k = total (λ y. one (leb y.number k)) ws

leb_through : (a b c : ℕ) → a ≤ b → leb b c ≡ true → leb a c ≡ true
leb_through a b c le e = grind (arith, nat_tests, le, e)

leb_above : (a b c : ℕ) → b ≤ c → leb a b ≡ true → leb a c ≡ true
leb_above a b c le e = grind (arith, nat_tests, le, e)

leb_not : (a b : ℕ) → b < a → leb a b ≡ false
leb_not a b lt = grind (arith, nat_tests, lt)

leb_same : (a : ℕ) → leb a a ≡ true
leb_same a = grind (arith, nat_tests)

newer_less : (ws : List Window) (x : Window) (k : ℕ) → IsIn x ws → x.number < k → newer_than ws k + 1 ≤ newer_than ws x.number
newer_less ws x k is lt = total_fewer (λ y. leb k y.number) (λ y. leb x.number y.number) ws x (λ y e. leb_through x.number k y.number (omega (arith, lt)) e) is (leb_not k x.number lt) (leb_same x.number)

pub older_less : (ws : List Window) (x : Window) (k : ℕ) → IsIn x ws → k < x.number → older_than ws k + 1 ≤ older_than ws x.number
older_less ws x k is lt = total_fewer (λ y. leb y.number k) (λ y. leb y.number x.number) ws x (λ y e. leb_above y.number k x.number (omega (arith, lt)) e) is (leb_not x.number k lt) (leb_same x.number)

flat_same : {A : Type 0} (f g : Window → List A) (xs : List Window) → ((y : Window) → IsIn y xs → f y ≡ g y) → flat_map f xs ≡ flat_map g xs
flat_same f g [] h = refl
flat_same f g (x ∷ xs) h = ap (λ l. l ++ flat_map f xs) (h x (inl refl)) ∙ ap (λ l. g x ++ l) (flat_same f g xs (λ y is. h y (inr is)))

module _ (ws : List Window) (f : IsForest ws) where
  -- a child of x is a window, and newer
  pub child : (x y : Window) → IsIn x ws → IsIn y (children_of ws x) → IsIn y ws × ((y.parent ≡ x.number) × (x.number < y.number))
  child x y is there =
      let both = in_filter (λ (z : Window). eqb z.parent x.number) y ws there in
      let under = eqb-true y.parent x.number both.1 in
      (both.0, (under, child_newer ws x y f both.0 under (some_number ws x f is)))

  pub owned : (x y : Window) → IsIn x ws → IsIn y (owned_by ws x) → IsIn y ws × ((y.owner ≡ x.number) × (x.number < y.number))
  owned x y is there =
      let both = in_filter (λ (z : Window). eqb z.owner x.number) y ws there in
      let under = eqb-true y.owner x.number both.1 in
      (both.0, (under, owned_newer ws x y f both.0 under (some_number ws x f is)))

  some_left : (x : Window) → IsIn x ws → 1 ≤ newer_than ws x.number
  some_left x is = let more = newer_less ws x (x.number + 1) is (omega arith) in omega (arith, more)

  fewer_left : (x y : Window) (n : ℕ) → IsIn x ws → x.number < y.number → newer_than ws x.number ≤ suc n → newer_than ws y.number ≤ n
  fewer_left x y n is lt le = let more = newer_less ws x y.number is lt in omega (arith, more, le)

  -- more fuel changes nothing
  pub preorder_enough : (n m : ℕ) (x : Window) → IsIn x ws → newer_than ws x.number ≤ n → newer_than ws x.number ≤ m → preorder n ws x ≡ preorder m ws x
  preorder_enough zero m x is le too = absurd (let some = some_left x is in omega (arith, some, le))
  preorder_enough (suc n) zero x is le too = absurd (let some = some_left x is in omega (arith, some, too))
  preorder_enough (suc n) (suc m) x is le too =
      ap (λ l. x ∷ l) (flat_same (preorder n ws) (preorder m ws) (children_of ws x)
      (λ y there. let c = child x y is there in preorder_enough n m y c.0 (fewer_left x y n is c.1.1 le) (fewer_left x y m is c.1.1 too)))

  pub postorder_enough : (n m : ℕ) (x : Window) → IsIn x ws → newer_than ws x.number ≤ n → newer_than ws x.number ≤ m → postorder n ws x ≡ postorder m ws x
  postorder_enough zero m x is le too = absurd (let some = some_left x is in omega (arith, some, le))
  postorder_enough (suc n) zero x is le too = absurd (let some = some_left x is in omega (arith, some, too))
  postorder_enough (suc n) (suc m) x is le too =
      ap (λ l. l ++ x ∷ []) (flat_same (postorder n ws) (postorder m ws) (children_of ws x)
      (λ y there. let c = child x y is there in postorder_enough n m y c.0 (fewer_left x y n is c.1.1 le) (fewer_left x y m is c.1.1 too)))

  pub destruction_enough : (n m : ℕ) (x : Window) → IsIn x ws → newer_than ws x.number ≤ n → newer_than ws x.number ≤ m → destruction n ws x ≡ destruction m ws x
  destruction_enough zero m x is le too = absurd (let some = some_left x is in omega (arith, some, le))
  destruction_enough (suc n) zero x is le too = absurd (let some = some_left x is in omega (arith, some, too))
  destruction_enough (suc n) (suc m) x is le too =
      ap (λ l. l ++ (map told_step (preorder (suc n) ws x) ++ map ended_step (postorder (suc n) ws x)))
      (flat_same (destruction n ws) (destruction m ws) (owned_by ws x) (λ y there. let c = owned x y is there in destruction_enough n m y c.0 (fewer_left x y n is c.1.1 le) (fewer_left x y m is c.1.1 too)))
      ∙ ap (λ l. flat_map (destruction m ws) (owned_by ws x) ++ (map told_step l ++ map ended_step (postorder (suc n) ws x))) (preorder_enough (suc n) (suc m) x is le too)
      ∙ ap (λ l. flat_map (destruction m ws) (owned_by ws x) ++ (map told_step (preorder (suc m) ws x) ++ map ended_step l)) (postorder_enough (suc n) (suc m) x is le too)

  newer_length : (x : Window) → newer_than ws x.number ≤ length ws
  newer_length x = total_length (λ y. leb x.number y.number) ws

  pub more_changes_nothing : (n : ℕ) (x : Window) → IsIn x ws → length ws ≤ n → destruction n ws x ≡ destruction_of ws x
  more_changes_nothing n x is le = let all = newer_length x in destruction_enough n (length ws) x is (omega (arith, all, le)) all

  -- the orders, without a bound
  pub preorder_is : (x : Window) → IsIn x ws → preorder (length ws) ws x ≡ x ∷ flat_map (preorder (length ws) ws) (children_of ws x)
  preorder_is x is = let all = newer_length x in preorder_enough (length ws) (suc (length ws)) x is all (omega (arith, all))

  pub postorder_is : (x : Window) → IsIn x ws → postorder (length ws) ws x ≡ flat_map (postorder (length ws) ws) (children_of ws x) ++ x ∷ []
  postorder_is x is = let all = newer_length x in postorder_enough (length ws) (suc (length ws)) x is all (omega (arith, all))

  pub destruction_is : (x : Window) → IsIn x ws → destruction_of ws x ≡ flat_map (destruction_of ws) (owned_by ws x) ++ (map told_step (preorder (length ws) ws x) ++ map ended_step (postorder (length ws) ws x))
  destruction_is x is =
      let all = newer_length x in
      destruction_enough (length ws) (suc (length ws)) x is all (omega (arith, all))
      ∙ ap (λ l. flat_map (destruction_of ws) (owned_by ws x) ++ (map told_step l ++ map ended_step (postorder (suc (length ws)) ws x))) (preorder_enough (suc (length ws)) (length ws) x is (omega (arith, all)) all)
      ∙ ap (λ l. flat_map (destruction_of ws) (owned_by ws x) ++ (map told_step (preorder (length ws) ws x) ++ map ended_step l)) (postorder_enough (suc (length ws)) (length ws) x is (omega (arith, all)) all)
