-- Each of the kin is told once and ended once.
use Rattle.std.proofs.Common.{◌≡◌, inl, inr, ◌≤◌, ◌<◌, ◌+◌, ℕ, zero, suc, eqb, Bool, true, false, cond, List, [], ◌∷◌, ◌++◌, map, filter, length, Option, Some, None, refl, sym, ap, ◌∙◌, subst, arith}
use Rattle.std.specs.Prelude.{count_by, option_map, unwrap_or}
use Rattle.std.specs.List.{flat_map}
use Rattle.std.proofs.Math.Dec.{leb}
use Rattle.std.proofs.lemmas.Bool.{eqb-true, eqb-false, eq-eqb, ne_eqb}
use Rattle.std.proofs.lemmas.List.Sums.{sum_by-append, sum_by-cons}
use Rattle.user_model.specs.Windows.{Window, find_window, up, above, kin_within, is_kin}
use Rattle.user_model.specs.Destruction.{Step, told, ended, owned_by, children_of, preorder, postorder, told_step, ended_step, destruction, destruction_of, same_step}
use Rattle.user_model.proofs.Forests.{IsRising, number_found, above_less, kin_enough, no_kin}
use Rattle.user_laws.specs.Words.{IsIn}
use Rattle.user_laws.proofs.WordLaws.{in_filter}
use Rattle.user_laws.proofs.Forest.{IsForest, in_found, some_number, up_less, found_in, rising_over}
use Rattle.user_laws.proofs.Walks.{one, total, total_same, total_both, total_none, total_length, older_than, older_less, child, owned}

-- ---- counts

count_next : (i : Step) (j : Step) (steps : List Step) → count_by (same_step i) (j ∷ steps) ≡ one (same_step i j) + count_by (same_step i) steps
count_next i j steps = sum_by-cons (λ k. cond (same_step i k) 1 0) j steps

count_more : (i : Step) (xs ys : List Step) → count_by (same_step i) (xs ++ ys) ≡ count_by (same_step i) xs + count_by (same_step i) ys
count_more i xs ys = sum_by-append (λ k. cond (same_step i k) 1 0) xs ys

count_flat : (i : Step) (f : Window → List Step) (xs : List Window) → count_by (same_step i) (flat_map f xs) ≡ total (λ y. count_by (same_step i) (f y)) xs
count_flat i f [] = refl
count_flat i f (x ∷ xs) = count_more i (f x) (flat_map f xs) ∙ ap (λ n. count_by (same_step i) (f x) + n) (count_flat i f xs)

-- how many windows of a list have this number
abbrev tally : ℕ → List Window → ℕ
tally w xs = total (λ y. one (eqb w y.number)) xs

tally_more : (w : ℕ) (xs ys : List Window) → tally w (xs ++ ys) ≡ tally w xs + tally w ys
tally_more w [] ys = omega arith
tally_more w (x ∷ xs) ys = let rest = tally_more w xs ys in omega (arith, rest)

tally_flat : (w : ℕ) (f : Window → List Window) (xs : List Window) → tally w (flat_map f xs) ≡ total (λ y. tally w (f y)) xs
tally_flat w f [] = refl
tally_flat w f (x ∷ xs) = tally_more w (f x) (flat_map f xs) ∙ ap (λ n. tally w (f x) + n) (tally_flat w f xs)

told_told : (w : ℕ) (xs : List Window) → count_by (same_step (told w)) (map told_step xs) ≡ tally w xs
told_told w [] = refl
told_told w (x ∷ xs) = count_next (told w) (told_step x) (map told_step xs) ∙ ap (λ n. one (eqb w x.number) + n) (told_told w xs)

told_ended : (w : ℕ) (xs : List Window) → count_by (same_step (told w)) (map ended_step xs) ≡ 0
told_ended w [] = refl
told_ended w (x ∷ xs) = let here = count_next (told w) (ended_step x) (map ended_step xs) in let rest = told_ended w xs in omega (arith, here, rest)

ended_ended : (w : ℕ) (xs : List Window) → count_by (same_step (ended w)) (map ended_step xs) ≡ tally w xs
ended_ended w [] = refl
ended_ended w (x ∷ xs) = count_next (ended w) (ended_step x) (map ended_step xs) ∙ ap (λ n. one (eqb w x.number) + n) (ended_ended w xs)

ended_told : (w : ℕ) (xs : List Window) → count_by (same_step (ended w)) (map told_step xs) ≡ 0
ended_told w [] = refl
ended_told w (x ∷ xs) = let here = count_next (ended w) (told_step x) (map told_step xs) in let rest = ended_told w xs in omega (arith, here, rest)

-- ---- subtrees

-- a subtree is as large either way
post_pre : (w n : ℕ) (ws : List Window) (x : Window) → tally w (postorder n ws x) ≡ tally w (preorder n ws x)
post_pre w zero ws x = refl
post_pre w (suc n) ws x =
    let parts = tally_more w (flat_map (postorder n ws) (children_of ws x)) (x ∷ []) in
    let below = tally_flat w (postorder n ws) (children_of ws x) ∙ total_same (λ y. tally w (postorder n ws y)) (λ y. tally w (preorder n ws y)) (children_of ws x) (λ y is. post_pre w n ws y) ∙ sym (tally_flat w (preorder n ws) (children_of ws x)) in
    omega (arith, parts, below)

-- none of a list has the number
none_has : (w : ℕ) (xs : List Window) → ((y : Window) → IsIn y xs → eqb w y.number ≡ false) → tally w xs ≡ 0
none_has w xs h = total_none (λ y. one (eqb w y.number)) xs (λ y is. ap one (h y is))

-- a window is found once where it passes
once : (from last : ℕ) (ws : List Window) (q : Window → Bool) (z : Window) → IsRising from last ws → IsIn z ws → tally z.number (filter q ws) ≡ one (q z)
once from last [] q z rising is = absurd is
once from last (y ∷ ws) q z rising (inl same) = subst (λ (u : Window). tally u.number (filter q (y ∷ ws)) ≡ one (q u)) (sym same) (here (q y))
  where
    rest : tally y.number (filter q ws) ≡ 0
    rest = none_has y.number (filter q ws) (λ u there. ne_eqb y.number u.number (λ e. (let over = rising_over y.number last ws u rising.2 (in_filter q u ws there).0 in omega (arith, e, over))))

    here : (b : Bool) → tally y.number (cond b (y ∷ filter q ws) (filter q ws)) ≡ one b
    here true = let hit = ap one (eq-eqb y.number y.number refl) in omega (arith, hit, rest)
    here false = rest
once from last (y ∷ ws) q z rising (inr is) = here (once y.number last ws q z rising.2 is) (q y)
  where
    other : eqb z.number y.number ≡ false
    other = ne_eqb z.number y.number (λ e. (let over = rising_over y.number last ws z rising.2 is in omega (arith, e, over)))

    here : tally z.number (filter q ws) ≡ one (q z) → (b : Bool) → tally z.number (cond b (y ∷ filter q ws) (filter q ws)) ≡ one (q z)
    here rest true = let miss = ap one other in omega (arith, miss, rest)
    here rest false = rest

module _ (ws : List Window) (f : IsForest ws) where
  -- a window is found in a subtree where it is the root, or where its parent is found there with one step less
  pre_step : (n : ℕ) (x z : Window) → IsIn z ws → tally z.number (preorder (suc n) ws x) ≡ one (eqb z.number x.number) + tally z.parent (preorder n ws x)
  pre_step zero x z is =
      let none = tally_flat z.number (preorder zero ws) (children_of ws x) ∙ total_none (λ y. tally z.number (preorder zero ws y)) (children_of ws x) (λ y there. refl) in
      omega (arith, none)
  pre_step (suc n) x z is =
      let below = tally_flat z.number (preorder (suc n) ws) (children_of ws x) ∙ total_same (λ y. tally z.number (preorder (suc n) ws y)) (λ y. one (eqb z.number y.number) + tally z.parent (preorder n ws y)) (children_of ws x) (λ y there. pre_step n y z is)
      ∙ total_both (λ y. one (eqb z.number y.number)) (λ y. tally z.parent (preorder n ws y)) (children_of ws x) in
      let itself = once 15 f.last ws (λ y. eqb y.parent x.number) z f.rising is in
      let parent = tally_flat z.parent (preorder n ws) (children_of ws x) in
      omega (arith, below, itself, parent)

  -- a number that is no window's is in no subtree
  no_pre : (n : ℕ) (x : Window) (w : ℕ) → IsIn x ws → ((y : Window) → IsIn y ws → eqb w y.number ≡ false) → tally w (preorder n ws x) ≡ 0
  no_pre zero x w is h = refl
  no_pre (suc n) x w is h =
      let here = ap one (h x is) in
      let below = tally_flat w (preorder n ws) (children_of ws x) ∙ total_none (λ y. tally w (preorder n ws y)) (children_of ws x) (λ y there. no_pre n y w (child ws f x y is there).0 h) in
      omega (arith, here, below)

  -- ---- destructions

  -- how often a window is told
  abbrev tells : ℕ → Window → ℕ → ℕ
  tells n x w = count_by (same_step (told w)) (destruction n ws x)

  tells_is : (n : ℕ) (x : Window) (w : ℕ) → tells (suc n) x w ≡ total (λ y. tells n y w) (owned_by ws x) + tally w (preorder (suc n) ws x)
  tells_is n x w =
      let parts = count_more (told w) (flat_map (destruction n ws) (owned_by ws x)) (map told_step (preorder (suc n) ws x) ++ map ended_step (postorder (suc n) ws x)) in
      let more = count_more (told w) (map told_step (preorder (suc n) ws x)) (map ended_step (postorder (suc n) ws x)) in
      let first = count_flat (told w) (destruction n ws) (owned_by ws x) in
      let second = told_told w (preorder (suc n) ws x) in
      let third = told_ended w (postorder (suc n) ws x) in
      omega (arith, parts, more, first, second, third)

  -- as often as it is ended
  ends_too : (n : ℕ) (x : Window) (w : ℕ) → count_by (same_step (ended w)) (destruction n ws x) ≡ tells n x w
  ends_too zero x w = refl
  ends_too (suc n) x w =
      let parts = count_more (ended w) (flat_map (destruction n ws) (owned_by ws x)) (map told_step (preorder (suc n) ws x) ++ map ended_step (postorder (suc n) ws x)) in
      let more = count_more (ended w) (map told_step (preorder (suc n) ws x)) (map ended_step (postorder (suc n) ws x)) in
      let first = count_flat (ended w) (destruction n ws) (owned_by ws x) ∙ total_same (λ y. count_by (same_step (ended w)) (destruction n ws y)) (λ y. tells n y w) (owned_by ws x) (λ y is. ends_too n y w) in
      let second = ended_told w (preorder (suc n) ws x) in
      let third = ended_ended w (postorder (suc n) ws x) ∙ post_pre w (suc n) ws x in
      let all = tells_is n x w in
      omega (arith, parts, more, first, second, third, all)

  -- a number that is no window's is never told
  no_tell : (n : ℕ) (x : Window) (w : ℕ) → IsIn x ws → ((y : Window) → IsIn y ws → eqb w y.number ≡ false) → tells n x w ≡ 0
  no_tell zero x w is h = refl
  no_tell (suc n) x w is h =
      let all = tells_is n x w in
      let first = total_none (λ y. tells n y w) (owned_by ws x) (λ y there. no_tell n y w (owned ws f x y is there).0 h) in
      let second = no_pre (suc n) x w is h in
      omega (arith, all, first, second)

  no_number : (w : ℕ) → find_window ws w ≡ None → (y : Window) → IsIn y ws → eqb w y.number ≡ false
  no_number w none y is = ne_eqb w y.number (λ e. (let clash : Some y ≡ None = sym (found_in ws y f is) ∙ ap (find_window ws) (sym e) ∙ none in absurd cc))

  none_zero : (y : Window) → IsIn y ws → eqb 0 y.number ≡ false
  none_zero y is = ne_eqb 0 y.number (λ e. omega (arith, e, some_number ws y f is))

  -- where a window has a parent, it is told where it is the root, or where its parent is told
  step_child : (n : ℕ) (x z : Window) → IsIn x ws → IsIn z ws → z.owner ≡ 0 → tells (suc n) x z.number ≡ one (eqb z.number x.number) + tells n x z.parent
  step_child zero x z is there none =
      let all = tells_is zero x z.number in
      let first = total_none (λ y. tells zero y z.number) (owned_by ws x) (λ y o. refl) in
      let second = pre_step zero x z there in
      omega (arith, all, first, second)
  step_child (suc n) x z is there none =
      let all = tells_is (suc n) x z.number in
      let first = total_same (λ y. tells (suc n) y z.number) (λ y. one (eqb z.number y.number) + tells n y z.parent) (owned_by ws x) (λ y o. step_child n y z (owned ws f x y is o).0 there none)
      ∙ total_both (λ y. one (eqb z.number y.number)) (λ y. tells n y z.parent) (owned_by ws x) in
      let itself = once 15 f.last ws (λ y. eqb y.owner x.number) z f.rising there in
      let not_owned = ap one (ap (λ k. eqb k x.number) none ∙ none_zero x is) in
      let second = pre_step (suc n) x z there in
      let parent = tells_is n x z.parent in
      omega (arith, all, first, itself, not_owned, second, parent)

  -- the subtree of a window that stands under none
  top_pre : (n : ℕ) (x z : Window) → IsIn x ws → IsIn z ws → z.parent ≡ 0 → tally z.number (preorder (suc n) ws x) ≡ one (eqb z.number x.number)
  top_pre n x z is there top =
      let parts = pre_step n x z there in
      let none = ap (λ p. tally p (preorder n ws x)) top ∙ no_pre n x 0 is none_zero in
      omega (arith, parts, none)

  owner_pre : (n : ℕ) (x z : Window) → IsIn x ws → IsIn z ws → tally z.owner (preorder (suc n) ws x) ≡ one (eqb z.owner x.number)
  owner_pre n x z is there = by (find_window ws z.owner) refl
    where
      by : (o : Option Window) → find_window ws z.owner ≡ o → tally z.owner (preorder (suc n) ws x) ≡ one (eqb z.owner x.number)
      by None e = no_pre (suc n) x z.owner is (no_number z.owner e) ∙ sym (ap one (no_number z.owner e x is))
      by (Some y) e =
          let number : y.number ≡ z.owner = number_found ws z.owner y e in
          let live = in_found ws z.owner y e in
          subst (λ (k : ℕ). tally k (preorder (suc n) ws x) ≡ one (eqb k x.number)) number (top_pre n x y is live (f.top_owner z y there live number))

  -- where it stands under none, it is told where it is the root, or where its owner is told
  step_top : (n : ℕ) (x z : Window) → IsIn x ws → IsIn z ws → z.parent ≡ 0 → tells (suc n) x z.number ≡ one (eqb z.number x.number) + tells n x z.owner
  step_top zero x z is there top =
      let all = tells_is zero x z.number in
      let first = total_none (λ y. tells zero y z.number) (owned_by ws x) (λ y o. refl) in
      let second = top_pre zero x z is there top in
      omega (arith, all, first, second)
  step_top (suc n) x z is there top =
      let all = tells_is (suc n) x z.number in
      let first = total_same (λ y. tells (suc n) y z.number) (λ y. one (eqb z.number y.number) + tells n y z.owner) (owned_by ws x) (λ y o. step_top n y z (owned ws f x y is o).0 there top)
      ∙ total_both (λ y. one (eqb z.number y.number)) (λ y. tells n y z.owner) (owned_by ws x) in
      let itself = once 15 f.last ws (λ y. eqb y.owner x.number) z f.rising there in
      let second = top_pre (suc n) x z is there top in
      let owner = tells_is n x z.owner in
      let of_owner = owner_pre n x z is there in
      omega (arith, all, first, itself, second, owner, of_owner)

  step_up : (n : ℕ) (x z : Window) → IsIn x ws → IsIn z ws → tells (suc n) x z.number ≡ one (eqb z.number x.number) + tells n x (up z)
  step_up n x z is there = by (eqb z.parent 0) refl
    where
      by : (b : Bool) → eqb z.parent 0 ≡ b → tells (suc n) x z.number ≡ one (eqb z.number x.number) + tells n x (cond b z.owner z.parent)
      by true e = step_top n x z is there (eqb-true z.parent 0 e)
      by false e = elim (f.one_up z there) [
        | inl none ↦ absurd (eqb-false z.parent 0 e none)
        | inr none ↦ step_child n x z is there none
      ]

  -- ---- kin

  above_is : (w : ℕ) (z : Window) → find_window ws w ≡ Some z → above ws w ≡ up z
  above_is w z e = ap (λ (o : Option Window). unwrap_or (option_map up o) 0) e

  -- nobody is of the kin of a newer one
  older_no_kin : (n v u : ℕ) → u < v → kin_within n ws v u ≡ false
  older_no_kin zero v u lt = refl
  older_no_kin (suc n) v u lt = by (λ k less. older_no_kin n v k less) (eqb u 0) refl (eqb u v) (ne_eqb u v (λ e. omega (arith, e, lt)))
    where
      by : ((k : ℕ) → k < v → kin_within n ws v k ≡ false) → (b : Bool) → eqb u 0 ≡ b → (c : Bool) → c ≡ false
          → (elim b as (λ d. Bool) [ true ↦ false | false ↦ elim c as (λ d. Bool) [ true ↦ true | false ↦ kin_within n ws v (above ws u) ] ]) ≡ false
      by rest true e c other = refl
      by rest false e true other = other
      by rest false e false other = rest (above ws u) (let less = above_less 15 f.last ws u f.rising (eqb-false u 0 e) in omega (arith, less, lt))

  -- each of the kin is told once, and nobody else
  pub told_once : (n : ℕ) (x : Window) (w : ℕ) → IsIn x ws → tells n x w ≡ one (kin_within n ws x.number w)
  told_once zero x w is = refl
  told_once (suc n) x w is = by (find_window ws w) refl (λ u. told_once n x u is)
    where
      by : (o : Option Window) → find_window ws w ≡ o → ((u : ℕ) → tells n x u ≡ one (kin_within n ws x.number u)) → tells (suc n) x w ≡ one (kin_within (suc n) ws x.number w)
      by None e rest = no_tell (suc n) x w is (no_number w e) ∙ sym (ap one (no_kin (suc n) ws x.number w e (no_number w e x is)))
      by (Some z) e rest =
          let number : z.number ≡ w = number_found ws w z e in
          let live = in_found ws w z e in
          let some : eqb w 0 ≡ false = ne_eqb w 0 (λ q. omega (arith, q, number, some_number ws z f live)) in
          let parts : tells (suc n) x w ≡ one (eqb w x.number) + one (kin_within n ws x.number (up z)) =
          subst (λ (k : ℕ). tells (suc n) x k ≡ one (eqb k x.number) + one (kin_within n ws x.number (up z))) number (step_up n x z is live ∙ ap (λ k. one (eqb z.number x.number) + k) (rest (up z))) in
          parts
          ∙ pick (eqb w x.number) refl z number live
          ∙ sym (ap (λ b. one (elim b as (λ d. Bool) [ true ↦ false | false ↦ elim (eqb w x.number) as (λ d. Bool) [ true ↦ true | false ↦ kin_within n ws x.number (above ws w) ] ])) some
          ∙ ap (λ k. one (elim (eqb w x.number) as (λ d. Bool) [ true ↦ true | false ↦ kin_within n ws x.number k ])) (above_is w z e))
        where
          pick : (b : Bool) → eqb w x.number ≡ b → (z : Window) → z.number ≡ w → IsIn z ws → one b + one (kin_within n ws x.number (up z)) ≡ one (elim b as (λ d. Bool) [ true ↦ true | false ↦ kin_within n ws x.number (up z) ])
          pick true q z number live = let none = ap one (older_no_kin n x.number (up z) (omega (arith, up_less ws z f live, number, eqb-true w x.number q))) in omega (arith, none)
          pick false q z number live = omega arith

  -- a walk as long as there are windows is enough
  none_older : (w : ℕ) → older_than ws w ≤ 0 → find_window ws w ≡ None
  none_older w le = by (find_window ws w) refl
    where
      by : (o : Option Window) → find_window ws w ≡ o → find_window ws w ≡ None
      by None e = e
      by (Some z) e =
          let live = in_found ws w z e in
          let some = some_number ws z f live in
          let more = older_less ws z 0 live (omega (arith, some)) in
          let number : older_than ws z.number ≡ older_than ws w = ap (older_than ws) (number_found ws w z e) in
          absurd (omega (arith, more, number, le))

  not_live : (n m w : ℕ) (x : Window) → IsIn x ws → find_window ws w ≡ None → kin_within n ws x.number w ≡ kin_within m ws x.number w
  not_live n m w x is none = no_kin n ws x.number w none (no_number w none x is) ∙ sym (no_kin m ws x.number w none (no_number w none x is))

  kin_length : (n m w : ℕ) (x : Window) → IsIn x ws → older_than ws w ≤ n → older_than ws w ≤ m → kin_within n ws x.number w ≡ kin_within m ws x.number w
  kin_length zero m w x is le too = not_live zero m w x is (none_older w le)
  kin_length (suc n) zero w x is le too = not_live (suc n) zero w x is (none_older w too)
  kin_length (suc n) (suc m) w x is le too = by (find_window ws w) refl (λ u small also. kin_length n m u x is small also)
    where
      by : (o : Option Window) → find_window ws w ≡ o → ((u : ℕ) → older_than ws u ≤ n → older_than ws u ≤ m → kin_within n ws x.number u ≡ kin_within m ws x.number u) → kin_within (suc n) ws x.number w ≡ kin_within (suc m) ws x.number w
      by None e rest = not_live (suc n) (suc m) w x is e
      by (Some z) e rest =
          let live = in_found ws w z e in
          let fewer = older_less ws z (up z) live (up_less ws z f live) in
          let number : older_than ws z.number ≡ older_than ws w = ap (older_than ws) (number_found ws w z e) in
          let over : older_than ws (above ws w) ≡ older_than ws (up z) = ap (older_than ws) (above_is w z e) in
          ap (λ b. elim (eqb w 0) as (λ d. Bool) [ true ↦ false | false ↦ elim (eqb w x.number) as (λ d. Bool) [ true ↦ true | false ↦ b ] ])
          (rest (above ws w) (omega (arith, fewer, number, over, le)) (omega (arith, fewer, number, over, too)))

  kin_is : (x : Window) (w : ℕ) → IsIn x ws → kin_within (length ws) ws x.number w ≡ is_kin ws x.number w
  kin_is x w is =
      let few = total_length (λ y. leb y.number w) ws in
      kin_length (length ws) (w + length ws) w x is few (omega (arith, few)) ∙ kin_enough 15 f.last ws x.number f.rising (w + length ws) w w (omega arith) (omega arith)

  pub told_exactly : (x : Window) (w : ℕ) → IsIn x ws → count_by (same_step (told w)) (destruction_of ws x) ≡ one (is_kin ws x.number w)
  told_exactly x w is = told_once (length ws) x w is ∙ ap one (kin_is x w is)

  pub ended_exactly : (x : Window) (w : ℕ) → IsIn x ws → count_by (same_step (ended w)) (destruction_of ws x) ≡ one (is_kin ws x.number w)
  ended_exactly x w is = ends_too (length ws) x w ∙ told_exactly x w is
