-- The steps of a destruction once a window that nothing stands under has gone.
use Rattle.std.proofs.Common.{◌≡◌, ◌∙◌, inl, inr, ℕ, ◌+◌, ◌-◌, ◌<◌, ◌≤◌, suc, zero, min, List, [], ◌∷◌, ◌++◌, length, cond, map, filter, find, Bool, true, false, not, eqb, Option, Some, None, refl, sym, ap, arith}
use Rattle.std.specs.List.{flat_map, AllByRecursion}
use Rattle.std.proofs.lemmas.Bool.{cases_Bool, eqb-true, eq-eqb, ne_eqb}
use Rattle.std.proofs.lemmas.List.Elements.{filter-append}
use Rattle.win_num.specs.declared.message.Hwnd.{Hwnd}
use Rattle.win_rows.specs.declared.row.Unmade.{Unmade}
use Rattle.win_rows.specs.declared.row.Unmade.TheVariants.{Tell, Last, Gone, NotDoomed}
use Rattle.win_rows.specs.declared.window.Window.{Window}
use Rattle.win_rows.specs.Windows.{window_of}
use Rattle.win_rows.specs.Destruction.{Step, told, ended, children_of, owned_by, preorder, postorder, destruction, destruction_of, answer_of}
use Rattle.win_rows.proofs.Alls.{all_so, all_both, all_picked, all_of_picked}
use Rattle.win_rows.proofs.Ones.{number_is}

-- how many of these are younger than the number
abbrev pub younger : ℕ → List Window → ℕ
younger n [] = 0
younger n (y ∷ ws) = min 1 (y.number.0 - n) + younger n ws

younger_all : (n : ℕ) (ws : List Window) → younger n ws ≤ length ws
younger_all n [] = omega arith
younger_all n (y ∷ ws) = omega (arith, younger_all n ws)

younger_less : (n m : ℕ) (ws : List Window) → n ≤ m → younger m ws ≤ younger n ws
younger_less n m [] le = omega arith
younger_less n m (y ∷ ws) le = omega (arith, le, younger_less n m ws le)

-- fewer are younger than a younger one
fewer : (n : ℕ) (ws : List Window) → AllByRecursion (λ c. n < c.number.0 → younger c.number.0 ws < younger n ws) ws
fewer n [] = tt
fewer n (z ∷ ws) = (
  λ lt. omega (arith, lt, younger_less n z.number.0 ws (omega (arith, lt))),
  all_so (λ c. n < c.number.0 → younger c.number.0 ws < younger n ws) (λ c. n < c.number.0 → younger c.number.0 (z ∷ ws) < younger n (z ∷ ws)) (λ c h lt. omega (arith, lt, h lt)) ws (fewer n ws),
)

-- fewer are younger than one of them than there are
pub younger_than_one : (ws : List Window) (w : ℕ) (x : Window) → window_of ws w ≡ Some x → younger x.number.0 ws < length ws
younger_than_one [] w x h = absurd (cc h)
younger_than_one (y ∷ ws) w x h = elim (cases_Bool (eqb y.number.0 w)) [
  | inl k ↦ omega (arith, eqb-true y.number.0 w k, number_is (y ∷ ws) w x h, younger_all x.number.0 ws)
  | inr k ↦ omega (arith, younger_than_one ws w x (sym (skip k) ∙ h))
]
  where
    skip : eqb y.number.0 w ≡ false → window_of (y ∷ ws) w ≡ window_of ws w
    skip k = rw (k, window_of, find) refl

-- two filters in either order
filters : {A : Type 0} (p q : A → Bool) (xs : List A) → filter p (filter q xs) ≡ filter q (filter p xs)
filters p q [] = refl
filters p q (x ∷ xs) = pick (filters p q xs) (p x) (q x) refl refl
  where
    pick : filter p (filter q xs) ≡ filter q (filter p xs) → (a b : Bool) → p x ≡ a → q x ≡ b → filter p (cond b (x ∷ filter q xs) (filter q xs)) ≡ filter q (cond a (x ∷ filter p xs) (filter p xs))
    pick rest true true h k = ap (λ c. cond c (x ∷ filter p (filter q xs)) (filter p (filter q xs))) h ∙ ap (λ ys. x ∷ ys) rest ∙ sym (ap (λ c. cond c (x ∷ filter q (filter p xs)) (filter q (filter p xs))) k)
    pick rest true false h k = rest ∙ sym (ap (λ c. cond c (x ∷ filter q (filter p xs)) (filter q (filter p xs))) k)
    pick rest false true h k = ap (λ c. cond c (x ∷ filter p (filter q xs)) (filter p (filter q xs))) h ∙ rest
    pick rest false false h k = rest

-- of each its own, but for those that have gone
flat_left : {A : Type 0} (stays : Window → Bool) (q : A → Bool) (g g' : Window → List A) (us : List Window) → AllByRecursion (λ c. (stays c ≡ false → filter q (g c) ≡ []) × (stays c ≡ true → filter q (g c) ≡ g' c)) us → filter q (flat_map g us) ≡ flat_map g' (filter stays us)
flat_left stays q g g' [] h = refl
flat_left stays q g g' (c ∷ us) h = filter-append q (g c) (flat_map g us) ∙ pick (flat_left stays q g g' us h.1) (stays c) refl
  where
    pick : filter q (flat_map g us) ≡ flat_map g' (filter stays us) → (b : Bool) → stays c ≡ b → filter q (g c) ++ filter q (flat_map g us) ≡ flat_map g' (cond b (c ∷ filter stays us) (filter stays us))
    pick rest true k = ap (λ ys. ys ++ filter q (flat_map g us)) (h.0.1 k) ∙ ap (λ ys. g' c ++ ys) rest
    pick rest false k = ap (λ ys. ys ++ filter q (flat_map g us)) (h.0.0 k) ∙ rest

-- parent and owner are older
abbrev pub IsYoungest : Window → Type 0
IsYoungest y = (y.row.parent.0 < y.number.0) × (y.row.owner.0 < y.number.0)

module _ (w : ℕ) (ws : List Window) (rooted : AllByRecursion IsYoungest ws) (alone : AllByRecursion (λ y. (eqb y.row.parent.0 w ≡ false) × (eqb y.row.owner.0 w ≡ false)) ws) where
  abbrev stays : Window → Bool
  stays x = not (eqb x.number.0 w)

  abbrev rest : List Window
  rest = filter stays ws

  abbrev Fits : Window → Window → Type 0
  Fits x c = (younger c.number.0 ws < younger x.number.0 ws) × (stays c ≡ true → younger c.number.0 rest < younger x.number.0 rest)

  under_fit : (above : Window → Hwnd) → ((y : Window) → IsYoungest y → (above y).0 < y.number.0) → (x : Window) → AllByRecursion (Fits x) (filter (λ y. eqb (above y).0 x.number.0) ws)
  under_fit above older x =
      let n = x.number.0 in
      all_picked (Fits x) (λ y. eqb (above y).0 n) ws
      (all_so (λ c. IsYoungest c × ((n < c.number.0 → younger c.number.0 ws < younger n ws) × (stays c ≡ true → n < c.number.0 → younger c.number.0 rest < younger n rest))) (λ c. eqb (above c).0 n ≡ true → Fits x c)
      (λ c h e.
      let lt : n < c.number.0 = omega (arith, eqb-true (above c).0 n e, older c h.0) in
      (h.1.0 lt, λ k. h.1.1 k lt)) ws
      (all_both IsYoungest (λ c. (n < c.number.0 → younger c.number.0 ws < younger n ws) × (stays c ≡ true → n < c.number.0 → younger c.number.0 rest < younger n rest)) ws rooted
      (all_both (λ c. n < c.number.0 → younger c.number.0 ws < younger n ws) (λ c. stays c ≡ true → n < c.number.0 → younger c.number.0 rest < younger n rest) ws (fewer n ws)
      (all_of_picked (λ c. n < c.number.0 → younger c.number.0 rest < younger n rest) stays ws (fewer n rest)))))

  children_fit : (x : Window) → AllByRecursion (Fits x) (children_of ws x)
  children_fit x = under_fit (λ y. y.row.parent) (λ y h. h.0) x

  owned_fit : (x : Window) → AllByRecursion (Fits x) (owned_by ws x)
  owned_fit x = under_fit (λ y. y.row.owner) (λ y h. h.1) x

  none_of : (test : Window → Bool) (us : List Window) → AllByRecursion (λ y. test y ≡ false) us → filter test us ≡ []
  none_of test [] h = refl
  none_of test (y ∷ us) h = rw (h.0, filter) (none_of test us h.1)

  gone_is : (x : Window) → stays x ≡ false → x.number.0 ≡ w
  gone_is x h = elim (cases_Bool (eqb x.number.0 w)) [ inl k ↦ eqb-true x.number.0 w k | inr k ↦ absurd (cc (sym h ∙ ap not k)) ]

  no_children : (x : Window) → stays x ≡ false → children_of ws x ≡ []
  no_children x h = none_of (λ y. eqb y.row.parent.0 x.number.0) ws (all_so (λ y. (eqb y.row.parent.0 w ≡ false) × (eqb y.row.owner.0 w ≡ false)) (λ y. eqb y.row.parent.0 x.number.0 ≡ false) (λ y k. ap (λ m. eqb y.row.parent.0 m) (gone_is x h) ∙ k.0) ws alone)

  no_owned : (x : Window) → stays x ≡ false → owned_by ws x ≡ []
  no_owned x h = none_of (λ y. eqb y.row.owner.0 x.number.0) ws (all_so (λ y. (eqb y.row.parent.0 w ≡ false) × (eqb y.row.owner.0 w ≡ false)) (λ y. eqb y.row.owner.0 x.number.0 ≡ false) (λ y k. ap (λ m. eqb y.row.owner.0 m) (gone_is x h) ∙ k.1) ws alone)

  pre_gone : (n : ℕ) (x : Window) → stays x ≡ false → filter stays (preorder n ws x) ≡ []
  pre_gone zero x h = refl
  pre_gone (suc n) x h =
      ap (λ b. cond b (x ∷ filter stays (flat_map (preorder n ws) (children_of ws x))) (filter stays (flat_map (preorder n ws) (children_of ws x)))) h
      ∙ ap (λ (us : List Window). filter stays (flat_map (preorder n ws) us)) (no_children x h)

  post_gone : (n : ℕ) (x : Window) → stays x ≡ false → filter stays (postorder n ws x) ≡ []
  post_gone zero x h = refl
  post_gone (suc n) x h =
      ap (λ (us : List Window). filter stays (flat_map (postorder n ws) us ++ x ∷ [])) (no_children x h)
      ∙ ap (λ (b : Bool). let us : List Window = cond b (x ∷ []) [] in us) h

  pre_left : (n m : ℕ) (x : Window) → stays x ≡ true → younger x.number.0 ws < n → younger x.number.0 rest < m → filter stays (preorder n ws x) ≡ preorder m rest x
  pre_left zero m x s a b = absurd (omega (arith, a))
  pre_left (suc n) zero x s a b = absurd (omega (arith, b))
  pre_left (suc n) (suc m) x s a b =
      ap (λ c. cond c (x ∷ filter stays (flat_map (preorder n ws) (children_of ws x))) (filter stays (flat_map (preorder n ws) (children_of ws x)))) s
      ∙ ap (λ (us : List Window). x ∷ us)
      (flat_left stays stays (preorder n ws) (preorder m rest) (children_of ws x)
      (all_so (Fits x) (λ c. (stays c ≡ false → filter stays (preorder n ws c) ≡ []) × (stays c ≡ true → filter stays (preorder n ws c) ≡ preorder m rest c))
      (λ c h. (pre_gone n c, λ k. pre_left n m c k (omega (arith, a, h.0)) (omega (arith, b, h.1 k)))) (children_of ws x) (children_fit x))
      ∙ ap (flat_map (preorder m rest)) (filters stays (λ y. eqb y.row.parent.0 x.number.0) ws))

  post_left : (n m : ℕ) (x : Window) → stays x ≡ true → younger x.number.0 ws < n → younger x.number.0 rest < m → filter stays (postorder n ws x) ≡ postorder m rest x
  post_left zero m x s a b = absurd (omega (arith, a))
  post_left (suc n) zero x s a b = absurd (omega (arith, b))
  post_left (suc n) (suc m) x s a b =
      filter-append stays (flat_map (postorder n ws) (children_of ws x)) (x ∷ [])
      ∙ ap (λ c. filter stays (flat_map (postorder n ws) (children_of ws x)) ++ cond c (x ∷ []) []) s
      ∙ ap (λ (us : List Window). us ++ x ∷ [])
      (flat_left stays stays (postorder n ws) (postorder m rest) (children_of ws x)
      (all_so (Fits x) (λ c. (stays c ≡ false → filter stays (postorder n ws c) ≡ []) × (stays c ≡ true → filter stays (postorder n ws c) ≡ postorder m rest c))
      (λ c h. (post_gone n c, λ k. post_left n m c k (omega (arith, a, h.0)) (omega (arith, b, h.1 k)))) (children_of ws x) (children_fit x))
      ∙ ap (flat_map (postorder m rest)) (filters stays (λ y. eqb y.row.parent.0 x.number.0) ws))

  abbrev step_stays : Step → Bool
  step_stays (told x) = stays x
  step_stays (ended x) = stays x

  told_stay : (xs : List Window) → filter step_stays (map told xs) ≡ map told (filter stays xs)
  told_stay [] = refl
  told_stay (x ∷ xs) = pick (told_stay xs) (stays x)
    where
      pick : filter step_stays (map told xs) ≡ map told (filter stays xs) → (b : Bool) → cond b (told x ∷ filter step_stays (map told xs)) (filter step_stays (map told xs)) ≡ map told (cond b (x ∷ filter stays xs) (filter stays xs))
      pick same true = ap (λ (us : List Step). told x ∷ us) same
      pick same false = same

  ended_stay : (xs : List Window) → filter step_stays (map ended xs) ≡ map ended (filter stays xs)
  ended_stay [] = refl
  ended_stay (x ∷ xs) = pick (ended_stay xs) (stays x)
    where
      pick : filter step_stays (map ended xs) ≡ map ended (filter stays xs) → (b : Bool) → cond b (ended x ∷ filter step_stays (map ended xs)) (filter step_stays (map ended xs)) ≡ map ended (cond b (x ∷ filter stays xs) (filter stays xs))
      pick same true = ap (λ (us : List Step). ended x ∷ us) same
      pick same false = same

  own_stay : (n : ℕ) (x : Window) → filter step_stays (map told (preorder n ws x) ++ map ended (postorder n ws x)) ≡ map told (filter stays (preorder n ws x)) ++ map ended (filter stays (postorder n ws x))
  own_stay n x =
      filter-append step_stays (map told (preorder n ws x)) (map ended (postorder n ws x))
      ∙ ap (λ (us : List Step). us ++ filter step_stays (map ended (postorder n ws x))) (told_stay (preorder n ws x))
      ∙ ap (λ (us : List Step). map told (filter stays (preorder n ws x)) ++ us) (ended_stay (postorder n ws x))

  all_gone : (n : ℕ) (x : Window) → stays x ≡ false → filter step_stays (destruction n ws x) ≡ []
  all_gone zero x h = refl
  all_gone (suc n) x h =
      ap (λ (us : List Window). filter step_stays (flat_map (destruction n ws) us ++ (map told (preorder (suc n) ws x) ++ map ended (postorder (suc n) ws x)))) (no_owned x h)
      ∙ own_stay (suc n) x
      ∙ ap (λ (us : List Window). map told us ++ map ended (filter stays (postorder (suc n) ws x))) (pre_gone (suc n) x h)
      ∙ ap (map ended) (post_gone (suc n) x h)

  steps_left : (n m : ℕ) (x : Window) → stays x ≡ true → younger x.number.0 ws < n → younger x.number.0 rest < m → filter step_stays (destruction n ws x) ≡ destruction m rest x
  steps_left zero m x s a b = absurd (omega (arith, a))
  steps_left (suc n) zero x s a b = absurd (omega (arith, b))
  steps_left (suc n) (suc m) x s a b =
      let own = map told (preorder (suc n) ws x) ++ map ended (postorder (suc n) ws x) in
      filter-append step_stays (flat_map (destruction n ws) (owned_by ws x)) own
      ∙ ap (λ (us : List Step). us ++ filter step_stays own)
      (flat_left stays step_stays (destruction n ws) (destruction m rest) (owned_by ws x)
      (all_so (Fits x) (λ c. (stays c ≡ false → filter step_stays (destruction n ws c) ≡ []) × (stays c ≡ true → filter step_stays (destruction n ws c) ≡ destruction m rest c))
      (λ c h. (all_gone n c, λ k. steps_left n m c k (omega (arith, a, h.0)) (omega (arith, b, h.1 k)))) (owned_by ws x) (owned_fit x))
      ∙ ap (flat_map (destruction m rest)) (filters stays (λ y. eqb y.row.owner.0 x.number.0) ws))
      ∙ ap (λ (us : List Step). flat_map (destruction m rest) (owned_by rest x) ++ us)
      (own_stay (suc n) x
      ∙ ap (λ (us : List Window). map told us ++ map ended (filter stays (postorder (suc n) ws x))) (pre_left (suc n) (suc m) x s a b)
      ∙ ap (λ (us : List Window). map told (preorder (suc m) rest x) ++ map ended us) (post_left (suc n) (suc m) x s a b))

  -- whether it is a step of another window
  abbrev pub is_other : Unmade → Bool
  is_other (Tell v) = not (eqb v.0 w)
  is_other (Last v) = not (eqb v.0 w)
  is_other Gone = true
  is_other NotDoomed = true

  answers_stay : (ss : List Step) → filter is_other (map answer_of ss) ≡ map answer_of (filter step_stays ss)
  answers_stay [] = refl
  answers_stay (told x ∷ ss) = pick (answers_stay ss) (stays x)
    where
      pick : filter is_other (map answer_of ss) ≡ map answer_of (filter step_stays ss) → (b : Bool) → cond b (Tell x.number ∷ filter is_other (map answer_of ss)) (filter is_other (map answer_of ss)) ≡ map answer_of (cond b (told x ∷ filter step_stays ss) (filter step_stays ss))
      pick same true = ap (λ (us : List Unmade). Tell x.number ∷ us) same
      pick same false = same
  answers_stay (ended x ∷ ss) = pick (answers_stay ss) (stays x)
    where
      pick : filter is_other (map answer_of ss) ≡ map answer_of (filter step_stays ss) → (b : Bool) → cond b (Last x.number ∷ filter is_other (map answer_of ss)) (filter is_other (map answer_of ss)) ≡ map answer_of (cond b (ended x ∷ filter step_stays ss) (filter step_stays ss))
      pick same true = ap (λ (us : List Unmade). Last x.number ∷ us) same
      pick same false = same

  still_in : (v : ℕ) → eqb v w ≡ false → (us : List Window) → window_of (filter stays us) v ≡ window_of us v
  still_in v other [] = refl
  still_in v other (x ∷ us) = pick (still_in v other us) (stays x) refl
    where
      apart : stays x ≡ false → eqb x.number.0 v ≡ false
      apart h = ne_eqb x.number.0 v (λ e. absurd (cc (sym other ∙ eq-eqb v w (sym e ∙ gone_is x h))))

      pick : window_of (filter stays us) v ≡ window_of us v → (b : Bool) → stays x ≡ b → window_of (cond b (x ∷ filter stays us) (filter stays us)) v ≡ window_of (x ∷ us) v
      pick same true h = ap (λ (o : Option Window). cond (eqb x.number.0 v) (Some x) o) same
      pick same false h = same ∙ sym (ap (λ b. cond b (Some x) (window_of us v)) (apart h))

  none_in : (v : ℕ) → eqb v w ≡ true → (us : List Window) → window_of (filter stays us) v ≡ None
  none_in v same [] = refl
  none_in v same (x ∷ us) = pick (none_in v same us) (stays x) refl
    where
      apart : stays x ≡ true → eqb x.number.0 v ≡ false
      apart h = ne_eqb x.number.0 v (λ e. absurd (cc (sym h ∙ ap not (eq-eqb x.number.0 w (e ∙ eqb-true v w same)))))

      pick : window_of (filter stays us) v ≡ None → (b : Bool) → stays x ≡ b → window_of (cond b (x ∷ filter stays us) (filter stays us)) v ≡ None
      pick none true h = ap (λ b. cond b (Some x) (window_of (filter stays us) v)) (apart h) ∙ none
      pick none false h = none

  -- the window of another number is the same
  pub found_still : (v : ℕ) → eqb v w ≡ false → window_of rest v ≡ window_of ws v
  found_still v other = still_in v other ws

  pub found_none : (v : ℕ) → eqb v w ≡ true → window_of rest v ≡ None
  found_none v same = none_in v same ws

  -- the steps that are left of a live window's destruction are those of the windows that are left
  pub order_left : (r : ℕ) (x : Window) → window_of rest r ≡ Some x → map answer_of (destruction_of rest x) ≡ filter is_other (map answer_of (destruction_of ws x))
  order_left r x found = elim (cases_Bool (eqb r w)) [
    | inl k ↦ absurd (cc (sym found ∙ found_none r k))
    | inr k ↦
        let was : window_of ws r ≡ Some x = sym (found_still r k) ∙ found in
        let number : eqb x.number.0 w ≡ false = ap (λ n. eqb n w) (number_is ws r x was) ∙ k in
        ap (map answer_of) (sym (steps_left (length ws) (length rest) x (ap not number) (younger_than_one ws r x was) (younger_than_one rest r x found)))
        ∙ sym (answers_stay (destruction_of ws x))
  ]
