-- Windows by rising number, each after what stands above it.
use Rattle.std.proofs.Common.{◌≡◌, ◌≢◌, ℕ, zero, suc, ◌≤◌, ◌<◌, Bool, true, false, cond, eqb, List, [], ◌∷◌, ◌++◌, Option, Some, None, refl, ap, ◌∙◌, sym, inl, inr, arith}
use Rattle.std.specs.Prelude.{◌⊎◌, filter, option_map, unwrap_or}
use Rattle.std.specs.List.{AllByRecursion}
use Rattle.std.proofs.lemmas.Bool.{eqb-true, eq-eqb, ne_eqb, eqb-false, false≢true, true≢false}
use Rattle.user_model.specs.Windows.{Window, find_window, up, above, parent_in, kin_within, is_kin, top_within}
use Rattle.user_model.proofs.ListLaws.{all_weaker, all_found, all_append}

pub all_both : {X : Type 0} (P Q : X → Type 0) (xs : List X) → AllByRecursion P xs → AllByRecursion Q xs → AllByRecursion (λ x. P x × Q x) xs
all_both P Q [] h k = tt
all_both P Q (x ∷ xs) h k = ((h.0, k.0), all_both P Q xs h.1 k.1)

-- what each that passes has, all that are left have
pub all_kept : {X : Type 0} (P : X → Type 0) (p : X → Bool) (xs : List X) → AllByRecursion (λ x. p x ≡ true → P x) xs → AllByRecursion P (filter p xs)
all_kept P p [] h = tt
all_kept P p (x ∷ xs) h = pick (all_kept P p xs h.1) (p x) h.0
  where
    pick : AllByRecursion P (filter p xs) → (b : Bool) → (b ≡ true → P x) → AllByRecursion P (cond b (x ∷ filter p xs) (filter p xs))
    pick rest true k = (k refl, rest)
    pick rest false k = rest

-- numbers rise from above a first one up to the last, and what stands above a window has a lesser number
abbrev pub IsRising : ℕ → ℕ → List Window → Type 0
IsRising from last [] = from ≤ last
IsRising from last (x ∷ ws) = (from < x.number) × (up x < x.number) × IsRising x.number last ws

pub rising_last : (from last : ℕ) (ws : List Window) → IsRising from last ws → from ≤ last
rising_last from last [] h = h
rising_last from last (x ∷ ws) h = omega (arith, h.0, rising_last x.number last ws h.2)

lower : (less from last : ℕ) (ws : List Window) → less ≤ from → IsRising from last ws → IsRising less last ws
lower less from last [] le h = omega (arith, le, h)
lower less from last (x ∷ ws) le h = (omega (arith, le, h.0), h.1, h.2)

pub rising_filter : (p : Window → Bool) (from last : ℕ) (ws : List Window) → IsRising from last ws → IsRising from last (filter p ws)
rising_filter p from last [] h = h
rising_filter p from last (x ∷ ws) h = pick (rising_filter p x.number last ws h.2) (p x)
  where
    pick : IsRising x.number last (filter p ws) → (b : Bool) → IsRising from last (cond b (x ∷ filter p ws) (filter p ws))
    pick rest true = (h.0, h.1, rest)
    pick rest false = lower from x.number last (filter p ws) (omega (arith, h.0)) rest

pub rising_more : (from last : ℕ) (ws : List Window) (x : Window) → IsRising from last ws → last < x.number → up x < x.number → IsRising from x.number (ws ++ x ∷ [])
rising_more from last [] x h lt older = (omega (arith, h, lt), older, omega arith)
rising_more from last (y ∷ ws) x h lt older = (h.0, h.1, rising_more y.number last ws x h.2 lt older)

-- a window's number is between these, and what stands above it is less
pub record IsBetween (from last : ℕ) (x : Window) : Type 0 where
  pub over : from < x.number
  pub within : x.number ≤ last
  pub older : up x < x.number

pub all_between : (from last : ℕ) (ws : List Window) → IsRising from last ws → AllByRecursion (IsBetween from last) ws
all_between from last [] h = tt
all_between from last (x ∷ ws) h = (
  record { over = h.0; within = rising_last x.number last ws h.2; older = h.1 },
  all_weaker (IsBetween x.number last) (IsBetween from last) (λ y b. record { over = omega (arith, h.0, b.over); within = b.within; older = b.older }) ws (all_between x.number last ws h.2),
)

-- the window that is found has the number
pub number_found : (ws : List Window) (w : ℕ) (x : Window) → find_window ws w ≡ Some x → x.number ≡ w
number_found [] w x e = absurd cc
number_found (y ∷ ws) w x e = pick (λ k. number_found ws w x k) (eqb y.number w) refl e
  where
    pick : (find_window ws w ≡ Some x → x.number ≡ w) → (b : Bool) → eqb y.number w ≡ b → cond b (Some y) (find_window ws w) ≡ Some x → x.number ≡ w
    pick rest true k e = let same : y ≡ x = cc in ap (λ (z : Window). z.number) (sym same) ∙ eqb-true y.number w k
    pick rest false k e = rest e

pub between_found : (from last : ℕ) (ws : List Window) (w : ℕ) (x : Window) → IsRising from last ws → find_window ws w ≡ Some x → IsBetween from last x
between_found from last ws w x h e = all_found (IsBetween from last) (λ y. eqb y.number w) ws x (all_between from last ws h) e

-- a number that is no window's
pub none_past : (from last : ℕ) (ws : List Window) (w : ℕ) → IsRising from last ws → last < w → find_window ws w ≡ None
none_past from last ws w h lt = pick (find_window ws w) refl
  where
    pick : (o : Option Window) → find_window ws w ≡ o → find_window ws w ≡ None
    pick None e = e
    pick (Some x) e = let b = between_found from last ws w x h e in let n = number_found ws w x e in absurd (omega (arith, b.within, n, lt))

pub none_before : (from last : ℕ) (ws : List Window) (w : ℕ) → IsRising from last ws → w ≤ from → find_window ws w ≡ None
none_before from last ws w h le = pick (find_window ws w) refl
  where
    pick : (o : Option Window) → find_window ws w ≡ o → find_window ws w ≡ None
    pick None e = e
    pick (Some x) e = let b = between_found from last ws w x h e in let n = number_found ws w x e in absurd (omega (arith, b.over, n, le))

-- each is found by its number
pub all_by_number : (from last : ℕ) (ws : List Window) → IsRising from last ws → AllByRecursion (λ x. find_window ws x.number ≡ Some x) ws
all_by_number from last [] h = tt
all_by_number from last (y ∷ ws) h = (
  ap (λ b. cond b (Some y) (find_window ws y.number)) (eq-eqb y.number y.number refl),
  all_weaker (λ x. IsBetween y.number last x × (find_window ws x.number ≡ Some x)) (λ x. find_window (y ∷ ws) x.number ≡ Some x)
      (λ x b. ap (λ c. cond c (Some y) (find_window ws x.number)) (ne_eqb y.number x.number (λ e. omega (arith, e, b.0.over))) ∙ b.1) ws
      (all_both (IsBetween y.number last) (λ x. find_window ws x.number ≡ Some x) ws (all_between y.number last ws h.2) (all_by_number y.number last ws h.2)),
)

-- a window that passes is found in what is left
pub find_filter : (p : Window → Bool) (ws : List Window) (w : ℕ) (y : Window) → find_window ws w ≡ Some y → p y ≡ true → find_window (filter p ws) w ≡ Some y
find_filter p [] w y e k = absurd cc
find_filter p (x ∷ ws) w y e k = pick (λ e. find_filter p ws w y e k) (eqb x.number w) refl e (p x) refl
  where
    pick : (find_window ws w ≡ Some y → find_window (filter p ws) w ≡ Some y) → (b : Bool) → eqb x.number w ≡ b → cond b (Some x) (find_window ws w) ≡ Some y → (c : Bool) → p x ≡ c → find_window (cond c (x ∷ filter p ws) (filter p ws)) w ≡ Some y
    pick rest true h e true q = ap (λ b. cond b (Some x) (find_window (filter p ws) w)) h ∙ e
    pick rest true h e false q = let same : x ≡ y = cc in absurd (true≢false (sym k ∙ ap p (sym same) ∙ q))
    pick rest false h e true q = ap (λ b. cond b (Some x) (find_window (filter p ws) w)) h ∙ rest e
    pick rest false h e false q = rest e

-- a window that is found is found also among more
pub find_more : (ws us : List Window) (w : ℕ) (y : Window) → find_window ws w ≡ Some y → find_window (ws ++ us) w ≡ Some y
find_more [] us w y e = absurd cc
find_more (x ∷ ws) us w y e = pick (λ e. find_more ws us w y e) (eqb x.number w) e
  where
    pick : (find_window ws w ≡ Some y → find_window (ws ++ us) w ≡ Some y) → (b : Bool) → cond b (Some x) (find_window ws w) ≡ Some y → cond b (Some x) (find_window (ws ++ us) w) ≡ Some y
    pick rest true e = e
    pick rest false e = rest e

-- what stands above has a lesser number
pub above_less : (from last : ℕ) (ws : List Window) (w : ℕ) → IsRising from last ws → w ≢ 0 → above ws w < w
above_less from last ws w h some = pick (find_window ws w) refl
  where
    pick : (o : Option Window) → find_window ws w ≡ o → unwrap_or (option_map up o) 0 < w
    pick None e = omega arith
    pick (Some x) e = let b = between_found from last ws w x h e in let n = number_found ws w x e in omega (arith, b.older, n)

kin_of_none : (n : ℕ) (ws : List Window) (v w : ℕ) → w ≡ 0 → kin_within n ws v w ≡ false
kin_of_none zero ws v w e = refl
kin_of_none (suc n) ws v w e = ap (λ b. elim b as (λ c. Bool) [ true ↦ false | false ↦ elim (eqb w v) as (λ c. Bool) [ true ↦ true | false ↦ kin_within n ws v (above ws w) ] ]) (eq-eqb w 0 e)

-- a bound that is great enough doesn't count
pub kin_enough : (from last : ℕ) (ws : List Window) (v : ℕ) → IsRising from last ws → (n m w : ℕ) → w ≤ n → w ≤ m → kin_within n ws v w ≡ kin_within m ws v w
kin_enough from last ws v h zero m w le le' = sym (kin_of_none m ws v w (omega arith))
kin_enough from last ws v h (suc n) zero w le le' = kin_of_none (suc n) ws v w (omega arith)
kin_enough from last ws v h (suc n) (suc m) w le le' = pick (λ u under under'. kin_enough from last ws v h n m u under under') (eqb w 0) refl
  where
    pick : ((u : ℕ) → u ≤ n → u ≤ m → kin_within n ws v u ≡ kin_within m ws v u) → (b : Bool) → eqb w 0 ≡ b → (elim b as (λ c. Bool) [ true ↦ false | false ↦ elim (eqb w v) as (λ c. Bool) [ true ↦ true | false ↦ kin_within n ws v (above ws w) ] ]) ≡ (elim b as (λ c. Bool) [ true ↦ false | false ↦ elim (eqb w v) as (λ c. Bool) [ true ↦ true | false ↦ kin_within m ws v (above ws w) ] ])
    pick rest true k = refl
    pick rest false k =
        let less : above ws w < w = above_less from last ws w h (eqb-false w 0 k) in
        ap (λ r. elim (eqb w v) as (λ c. Bool) [ true ↦ true | false ↦ r ]) (rest (above ws w) (omega arith) (omega arith))

-- kin of a window is the window, and what stands below its kin
pub is_kin-up : (from last : ℕ) (ws : List Window) (v w : ℕ) → IsRising from last ws → w ≢ 0 → is_kin ws v w ≡ (elim (eqb w v) as (λ c. Bool) [ true ↦ true | false ↦ is_kin ws v (above ws w) ])
is_kin-up from last ws v zero h some = absurd (some refl)
is_kin-up from last ws v (suc k) h some =
    let less : above ws (suc k) < suc k = above_less from last ws (suc k) h some in
    ap (λ b. elim b as (λ c. Bool) [ true ↦ false | false ↦ elim (eqb (suc k) v) as (λ c. Bool) [ true ↦ true | false ↦ kin_within k ws v (above ws (suc k)) ] ]) (ne_eqb (suc k) 0 some)
    ∙ ap (λ r. elim (eqb (suc k) v) as (λ c. Bool) [ true ↦ true | false ↦ r ]) (kin_enough from last ws v h k (above ws (suc k)) (above ws (suc k)) (omega arith) (omega arith))

-- a number that is no window's is nobody's kin but its own
pub no_kin : (n : ℕ) (ws : List Window) (v w : ℕ) → find_window ws w ≡ None → eqb w v ≡ false → kin_within n ws v w ≡ false
no_kin zero ws v w none other = refl
no_kin (suc n) ws v w none other = pick (eqb w 0)
  where
    up_none : above ws w ≡ 0
    up_none = ap (λ (o : Option Window). unwrap_or (option_map up o) 0) none

    pick : (b : Bool) → (elim b as (λ c. Bool) [ true ↦ false | false ↦ elim (eqb w v) as (λ c. Bool) [ true ↦ true | false ↦ kin_within n ws v (above ws w) ] ]) ≡ false
    pick true = refl
    pick false = ap (λ b. elim b as (λ c. Bool) [ true ↦ true | false ↦ kin_within n ws v (above ws w) ]) other ∙ kin_of_none n ws v (above ws w) up_none

-- the thread of the window of a number
abbrev pub thread_in : List Window → ℕ → Option ℕ
thread_in ws w = option_map (λ x. x.thread) (find_window ws w)

-- nothing stands above it, or a window of the same thread
abbrev pub IsUnder : List Window → Window → Type 0
IsUnder ws x = (up x ≡ 0) ⊎ (thread_in ws (up x) ≡ Some x.thread)

pub thread_found : (ws : List Window) (w t : ℕ) → thread_in ws w ≡ Some t → (x : Window) × (find_window ws w ≡ Some x) × (x.thread ≡ t)
thread_found ws w t e = pick (find_window ws w) refl e
  where
    pick : (o : Option Window) → find_window ws w ≡ o → option_map (λ x. x.thread) o ≡ Some t → (x : Window) × (find_window ws w ≡ Some x) × (x.thread ≡ t)
    pick None k e = absurd cc
    pick (Some x) k e = let same : x.thread ≡ t = cc in (x, k, same)

-- windows stay under windows where what stands above one that passes passes
pub under_filter : (p : Window → Bool) (ws : List Window) → AllByRecursion (IsUnder ws) ws → AllByRecursion (λ x. (y : Window) → find_window ws (up x) ≡ Some y → p x ≡ true → p y ≡ true) ws → AllByRecursion (IsUnder (filter p ws)) (filter p ws)
under_filter p ws h k =
    all_kept (IsUnder (filter p ws)) p ws
    (all_weaker (λ x. IsUnder ws x × ((y : Window) → find_window ws (up x) ≡ Some y → p x ≡ true → p y ≡ true)) (λ x. p x ≡ true → IsUnder (filter p ws) x) stays ws
    (all_both (IsUnder ws) (λ x. (y : Window) → find_window ws (up x) ≡ Some y → p x ≡ true → p y ≡ true) ws h k))
  where
    stays : (x : Window) → IsUnder ws x × ((y : Window) → find_window ws (up x) ≡ Some y → p x ≡ true → p y ≡ true) → p x ≡ true → IsUnder (filter p ws) x
    stays x both passes = elim (both.0) [
      | inl none ↦ inl none
      | inr same ↦
          let found = thread_found ws (up x) x.thread same in
          inr (ap (option_map (λ (z : Window). z.thread)) (find_filter p ws (up x) found.0 found.1 (both.1 found.0 found.1 passes)) ∙ ap (λ (t : ℕ). let o : Option ℕ = Some t in o) found.2)
    ]

under_again : (ws us : List Window) (x : Window) → IsUnder ws x → IsUnder (ws ++ us) x
under_again ws us x h = elim h [
  | inl none ↦ inl none
  | inr same ↦
      let found = thread_found ws (up x) x.thread same in
      inr (ap (option_map (λ (z : Window). z.thread)) (find_more ws us (up x) found.0 found.1) ∙ ap (λ (t : ℕ). let o : Option ℕ = Some t in o) found.2)
]

pub under_more : (ws : List Window) (z : Window) → AllByRecursion (IsUnder ws) ws → IsUnder ws z → AllByRecursion (IsUnder (ws ++ z ∷ [])) (ws ++ z ∷ [])
under_more ws z h k = all_append (IsUnder (ws ++ z ∷ [])) ws (z ∷ []) (all_weaker (IsUnder ws) (IsUnder (ws ++ z ∷ [])) (λ x u. under_again ws (z ∷ []) x u) ws h) (under_again ws (z ∷ []) z k, tt)

-- all kin of a window are of its thread
pub kin_thread : (ws : List Window) → AllByRecursion (IsUnder ws) ws → (n v w t : ℕ) → thread_in ws w ≡ Some t → kin_within n ws v w ≡ true → thread_in ws v ≡ Some t
kin_thread ws h zero v w t e k = absurd (false≢true k)
kin_thread ws h (suc n) v w t e k = pick (λ u e k. kin_thread ws h n v u t e k) (eqb w 0) k
  where
    up_is : (x : Window) → find_window ws w ≡ Some x → above ws w ≡ up x
    up_is x f = ap (λ (o : Option Window). unwrap_or (option_map up o) 0) f

    further : ((u : ℕ) → thread_in ws u ≡ Some t → kin_within n ws v u ≡ true → thread_in ws v ≡ Some t) → (x : Window) → find_window ws w ≡ Some x → x.thread ≡ t → kin_within n ws v (above ws w) ≡ true → IsUnder ws x → thread_in ws v ≡ Some t
    further rest x f same k u = elim u [
      | inl none ↦ absurd (false≢true (sym (kin_of_none n ws v (above ws w) (up_is x f ∙ none)) ∙ k))
      | inr under ↦ rest (above ws w) (ap (thread_in ws) (up_is x f) ∙ under ∙ ap (λ (s : ℕ). let o : Option ℕ = Some s in o) same) k
    ]

    here : ((u : ℕ) → thread_in ws u ≡ Some t → kin_within n ws v u ≡ true → thread_in ws v ≡ Some t) → (b : Bool) → eqb w v ≡ b → (elim b as (λ c. Bool) [ true ↦ true | false ↦ kin_within n ws v (above ws w) ]) ≡ true → thread_in ws v ≡ Some t
    here rest true q k = ap (thread_in ws) (sym (eqb-true w v q)) ∙ e
    here rest false q k =
        let found = thread_found ws w t e in
        further rest found.0 found.1 found.2 k (all_found (IsUnder ws) (λ y. eqb y.number w) ws found.0 h found.1)

    pick : ((u : ℕ) → thread_in ws u ≡ Some t → kin_within n ws v u ≡ true → thread_in ws v ≡ Some t) → (b : Bool) → (elim b as (λ c. Bool) [ true ↦ false | false ↦ elim (eqb w v) as (λ c. Bool) [ true ↦ true | false ↦ kin_within n ws v (above ws w) ] ]) ≡ true → thread_in ws v ≡ Some t
    pick rest true k = absurd (false≢true k)
    pick rest false k = here rest (eqb w v) refl k

up_parent : (x : Window) → eqb x.parent 0 ≡ false → up x ≡ x.parent
up_parent x e = ap (λ b. cond b x.owner x.parent) e

-- the top-level ancestor of a window is a window of its thread
pub top_thread : (ws : List Window) → AllByRecursion (IsUnder ws) ws → (n w t : ℕ) → thread_in ws w ≡ Some t → thread_in ws (top_within n ws w) ≡ Some t
top_thread ws h zero w t e = e
top_thread ws h (suc n) w t e = pick (λ u e. top_thread ws h n u t e) (eqb (parent_in ws w) 0) refl
  where
    found : (x : Window) × (find_window ws w ≡ Some x) × (x.thread ≡ t)
    found = thread_found ws w t e

    parent_is : parent_in ws w ≡ (found.0).parent
    parent_is = ap (λ (o : Option Window). unwrap_or (option_map (λ (x : Window). x.parent) o) 0) found.1

    next : IsUnder ws (found.0) → eqb (parent_in ws w) 0 ≡ false → thread_in ws (parent_in ws w) ≡ Some t
    next u q =
        let some : eqb (found.0).parent 0 ≡ false = ap (λ p. eqb p 0) (sym parent_is) ∙ q in
        let over : up (found.0) ≡ parent_in ws w = up_parent (found.0) some ∙ sym parent_is in
        elim u [
          | inl none ↦ absurd (eqb-false (parent_in ws w) 0 q (sym over ∙ none))
          | inr under ↦ ap (thread_in ws) (sym over) ∙ under ∙ ap (λ (s : ℕ). let o : Option ℕ = Some s in o) found.2
        ]

    pick : ((u : ℕ) → thread_in ws u ≡ Some t → thread_in ws (top_within n ws u) ≡ Some t) → (b : Bool) → eqb (parent_in ws w) 0 ≡ b → thread_in ws (elim b as (λ c. ℕ) [ true ↦ w | false ↦ top_within n ws (parent_in ws w) ]) ≡ Some t
    pick rest true q = e
    pick rest false q = rest (parent_in ws w) (next (all_found (IsUnder ws) (λ y. eqb y.number w) ws (found.0) h found.1) q)

-- a parent has a lesser number
parent_less : (from last : ℕ) (ws : List Window) (w : ℕ) → IsRising from last ws → eqb (parent_in ws w) 0 ≡ false → parent_in ws w < w
parent_less from last ws w h some = pick (find_window ws w) refl
  where
    pick : (o : Option Window) → find_window ws w ≡ o → parent_in ws w < w
    pick None e = absurd (true≢false (sym (ap (λ (o : Option Window). eqb (unwrap_or (option_map (λ (x : Window). x.parent) o) 0) 0) e) ∙ some))
    pick (Some x) e =
        let parent : parent_in ws w ≡ x.parent = ap (λ (o : Option Window). unwrap_or (option_map (λ (y : Window). y.parent) o) 0) e in
        let over : up x ≡ x.parent = up_parent x (ap (λ p. eqb p 0) (sym parent) ∙ some) in
        let b = between_found from last ws w x h e in
        let n = number_found ws w x e in
        omega (arith, b.older, n, parent, over)

-- the top-level ancestor has no parent
pub top_has_none : (from last : ℕ) (ws : List Window) → IsRising from last ws → (n w : ℕ) → w ≤ n → parent_in ws (top_within n ws w) ≡ 0
top_has_none from last ws h zero w le = ap (λ (o : Option Window). unwrap_or (option_map (λ (x : Window). x.parent) o) 0) (none_before from last ws w h (omega (arith, le)))
top_has_none from last ws h (suc n) w le = pick (top_has_none from last ws h n) (eqb (parent_in ws w) 0) refl
  where
    pick : ((u : ℕ) → u ≤ n → parent_in ws (top_within n ws u) ≡ 0) → (b : Bool) → eqb (parent_in ws w) 0 ≡ b → parent_in ws (elim b as (λ c. ℕ) [ true ↦ w | false ↦ top_within n ws (parent_in ws w) ]) ≡ 0
    pick rest true k = eqb-true (parent_in ws w) 0 k
    pick rest false k = rest (parent_in ws w) (let l = parent_less from last ws w h k in omega (arith, le, l))
