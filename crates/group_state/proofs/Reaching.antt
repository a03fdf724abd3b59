-- Who reaches whom by the links: as the definitions compute it, and step by step.
use Rattle.std.proofs.Common.{◌≡◌, ◌⊎◌, ◌↔◌, ℕ, ◌<◌, ◌≤◌, Bool, true, false, cond, eqb, List, [], ◌∷◌, refl, ap, ◌∙◌, sym, subst, inl, inr, arith}
use Rattle.std.specs.Prelude.{◌&&◌, ◌||◌, nat_le}
use Rattle.std.specs.List.{AllByRecursion, list_any}
use Rattle.std.specs.Int.{bit_at}
use Rattle.std.proofs.lemmas.Bool.{and_from, and_parts, eq-eqb, eqb-true, false≢true, leb-true, or_cases, or_left, or_right}
use Rattle.input_state.specs.Groups.{Joins, Reaches, here, step, link_at}
use Rattle.input_state.proofs.GroupLemmas.{reaches_map, reaches_trans}
use Rattle.user_model.specs.declared.entry.Setup.{Setup}
use Rattle.user_model.specs.Past.{Past}
use Rattle.user_model.specs.Threads.{is_thread}
use Rattle.user_model.specs.Legal.{IsLawful}
use Rattle.user_model.specs.Groups.{Link, links, reaches, attached, are_attached, is_in_group}
use Rattle.user_model.proofs.GroupThreads.{JoinsThreads, links_join_threads}

-- one of the links joins a and b
abbrev pub IsLinked : List Link → ℕ → ℕ → Type 0
IsLinked xs a b = list_any (λ x. links x a b) xs ≡ true

-- ---- what is reached with one link more

in_old : (x : Link) (xs : List Link) (t u : ℕ) → reaches xs t u ≡ true → reaches (x ∷ xs) t u ≡ true
in_old x xs t u h = or_left (reaches xs t u) _ h

by_one : (x : Link) (xs : List Link) (t u : ℕ) → reaches xs t x.one ≡ true → reaches xs x.other u ≡ true → reaches (x ∷ xs) t u ≡ true
by_one x xs t u h k = or_right (reaches xs t u) _ (or_left (reaches xs t x.one && reaches xs x.other u) _ (and_from (reaches xs t x.one) (reaches xs x.other u) h k))

by_other : (x : Link) (xs : List Link) (t u : ℕ) → reaches xs t x.other ≡ true → reaches xs x.one u ≡ true → reaches (x ∷ xs) t u ≡ true
by_other x xs t u h k = or_right (reaches xs t u) _ (or_right (reaches xs t x.one && reaches xs x.other u) _ (and_from (reaches xs t x.other) (reaches xs x.one u) h k))

-- how t reaches u with the link x: without it, from its one end to the other, or the other way round
data Ways (x : Link) (xs : List Link) (t u : ℕ) : Type 0 where
  without : reaches xs t u ≡ true → Ways x xs t u
  across : reaches xs t x.one ≡ true → reaches xs x.other u ≡ true → Ways x xs t u
  back : reaches xs t x.other ≡ true → reaches xs x.one u ≡ true → Ways x xs t u

ways : (x : Link) (xs : List Link) (t u : ℕ) → reaches (x ∷ xs) t u ≡ true → Ways x xs t u
ways x xs t u h = first (or_cases (reaches xs t u) _ h)
  where
    second : ((reaches xs t x.one && reaches xs x.other u) ≡ true) ⊎ ((reaches xs t x.other && reaches xs x.one u) ≡ true) → Ways x xs t u
    second (inl k) = let both = and_parts (reaches xs t x.one) (reaches xs x.other u) k in across both.0 both.1
    second (inr k) = let both = and_parts (reaches xs t x.other) (reaches xs x.one u) k in back both.0 both.1

    first : (reaches xs t u ≡ true) ⊎ ((reaches xs t x.one && reaches xs x.other u || reaches xs t x.other && reaches xs x.one u) ≡ true) → Ways x xs t u
    first (inl k) = without k
    first (inr k) = second (or_cases (reaches xs t x.one && reaches xs x.other u) _ k)

pub reaches_self : (xs : List Link) (t : ℕ) → reaches xs t t ≡ true
reaches_self [] t = eq-eqb t t refl
reaches_self (x ∷ xs) t = in_old x xs t t (reaches_self xs t)

-- the two ends of a link that joins u and v
ends : (x : Link) (u v : ℕ) → links x u v ≡ true → ((x.one ≡ u) × (x.other ≡ v)) ⊎ ((x.one ≡ v) × (x.other ≡ u))
ends x u v h = by (or_cases (eqb x.one u && eqb x.other v) (eqb x.one v && eqb x.other u) h)
  where
    by : ((eqb x.one u && eqb x.other v) ≡ true) ⊎ ((eqb x.one v && eqb x.other u) ≡ true) → ((x.one ≡ u) × (x.other ≡ v)) ⊎ ((x.one ≡ v) × (x.other ≡ u))
    by (inl k) = let both = and_parts (eqb x.one u) (eqb x.other v) k in inl (eqb-true x.one u both.0, eqb-true x.other v both.1)
    by (inr k) = let both = and_parts (eqb x.one v) (eqb x.other u) k in inr (eqb-true x.one v both.0, eqb-true x.other u both.1)

-- a step along a link
reaches_step : (xs : List Link) (t u v : ℕ) → reaches xs t u ≡ true → IsLinked xs u v → reaches xs t v ≡ true
reaches_step [] t u v h l = absurd (false≢true l)
reaches_step (x ∷ xs) t u v h l = by (or_cases (links x u v) (list_any (λ y. links y u v) xs) l) (ways x xs t u h) (λ a m k. reaches_step xs a u v m k)
  where
    From : ℕ → Type 0
    From a = reaches xs t a ≡ true

    here_at : (a b : ℕ) → a ≡ b → reaches xs a b ≡ true
    here_at a b e = subst (λ k. reaches xs a k ≡ true) e (reaches_self xs a)

    along : ((x.one ≡ u) × (x.other ≡ v)) ⊎ ((x.one ≡ v) × (x.other ≡ u)) → Ways x xs t u → reaches (x ∷ xs) t v ≡ true
    along (inl e) (without k) = by_one x xs t v (subst From (sym e.0) k) (here_at x.other v e.1)
    along (inl e) (across k m) = by_one x xs t v k (here_at x.other v e.1)
    along (inl e) (back k m) = in_old x xs t v (subst From e.1 k)
    along (inr e) (without k) = by_other x xs t v (subst From (sym e.1) k) (here_at x.one v e.0)
    along (inr e) (across k m) = in_old x xs t v (subst From e.0 k)
    along (inr e) (back k m) = by_other x xs t v k (here_at x.one v e.0)

    further : IsLinked xs u v → Ways x xs t u → ((a : ℕ) → reaches xs a u ≡ true → IsLinked xs u v → reaches xs a v ≡ true) → reaches (x ∷ xs) t v ≡ true
    further k (without m) rest = in_old x xs t v (rest t m k)
    further k (across m n) rest = by_one x xs t v m (rest x.other n k)
    further k (back m n) rest = by_other x xs t v m (rest x.one n k)

    by : (links x u v ≡ true) ⊎ IsLinked xs u v → Ways x xs t u → ((a : ℕ) → reaches xs a u ≡ true → IsLinked xs u v → reaches xs a v ≡ true) → reaches (x ∷ xs) t v ≡ true
    by (inl k) w rest = along (ends x u v k) w
    by (inr k) w rest = further k w rest

-- ---- the two agree

pub reaches_by_steps : (xs : List Link) {t u : ℕ} → Reaches (IsLinked xs) t u → reaches xs t u ≡ true
reaches_by_steps xs here = reaches_self xs _
reaches_by_steps xs (step r l) = reaches_step xs _ _ _ (reaches_by_steps xs r) l

linked_first : (x : Link) (xs : List Link) → IsLinked (x ∷ xs) x.one x.other × IsLinked (x ∷ xs) x.other x.one
linked_first x xs = (
  or_left (links x x.one x.other) _ (or_left (eqb x.one x.one && eqb x.other x.other) _ (and_from (eqb x.one x.one) (eqb x.other x.other) (eq-eqb x.one x.one refl) (eq-eqb x.other x.other refl))),
  or_left (links x x.other x.one) _ (or_right (eqb x.one x.other && eqb x.other x.one) _ (and_from (eqb x.one x.one) (eqb x.other x.other) (eq-eqb x.one x.one refl) (eq-eqb x.other x.other refl))),
)

pub steps_of_reaching : (xs : List Link) (t u : ℕ) → reaches xs t u ≡ true → Reaches (IsLinked xs) t u
steps_of_reaching [] t u h = let To : ℕ → Type 0 = λ k. Reaches (IsLinked []) t k in subst To (eqb-true t u h) here
steps_of_reaching (x ∷ xs) t u h = by (ways x xs t u h) (λ a b k. steps_of_reaching xs a b k)
  where
    more : (a b : ℕ) → Reaches (IsLinked xs) a b → Reaches (IsLinked (x ∷ xs)) a b
    more a b r = reaches_map (λ c d l. or_right (links x c d) (list_any (λ y. links y c d) xs) l) r

    by : Ways x xs t u → ((a b : ℕ) → reaches xs a b ≡ true → Reaches (IsLinked xs) a b) → Reaches (IsLinked (x ∷ xs)) t u
    by (without k) rest = more t u (rest t u k)
    by (across k m) rest = reaches_trans (step (more t x.one (rest t x.one k)) (linked_first x xs).0) (more x.other u (rest x.other u m))
    by (back k m) rest = reaches_trans (step (more t x.other (rest t x.other k)) (linked_first x xs).1) (more x.one u (rest x.one u m))

-- ---- as it is kept

-- linked threads are threads
linked_threads : (setup : Setup) (xs : List Link) (a b : ℕ) → AllByRecursion (JoinsThreads setup) xs → IsLinked xs a b → (is_thread setup a ≡ true) × (is_thread setup b ≡ true)
linked_threads setup [] a b all l = absurd (false≢true l)
linked_threads setup (x ∷ xs) a b all l = by (or_cases (links x a b) (list_any (λ y. links y a b) xs) l) (λ k. linked_threads setup xs a b all.1 k)
  where
    IsOne : ℕ → Type 0
    IsOne k = is_thread setup k ≡ true

    at : ((x.one ≡ a) × (x.other ≡ b)) ⊎ ((x.one ≡ b) × (x.other ≡ a)) → (is_thread setup a ≡ true) × (is_thread setup b ≡ true)
    at (inl e) = (subst IsOne e.0 all.0.one, subst IsOne e.1 all.0.other)
    at (inr e) = (subst IsOne e.1 all.0.other, subst IsOne e.0 all.0.one)

    by : (links x a b ≡ true) ⊎ IsLinked xs a b → (IsLinked xs a b → (is_thread setup a ≡ true) × (is_thread setup b ≡ true)) → (is_thread setup a ≡ true) × (is_thread setup b ≡ true)
    by (inl k) rest = at (ends x a b k)
    by (inr k) rest = rest k

pub thread_bounds : (setup : Setup) (t : ℕ) → is_thread setup t ≡ true → (1 ≤ t) × (t ≤ setup.threads)
thread_bounds setup t h = let both = and_parts (nat_le 1 t) (nat_le t setup.threads) h in (leb-true 1 t both.0, leb-true t setup.threads both.1)

-- attached threads have numbers from 1 to that of the threads
pub attached_bounds : (setup : Setup) (past : Past) (a b : ℕ) → IsLawful setup past → are_attached past a b ≡ true → ((1 ≤ a) × (a ≤ setup.threads)) × ((1 ≤ b) × (b ≤ setup.threads))
attached_bounds setup past a b lawful l =
    let both = linked_threads setup (attached past) a b (links_join_threads setup past lawful) l in
    (thread_bounds setup a both.0, thread_bounds setup b both.1)

-- the links that are kept are those of the past
abbrev pub HasLinks : Past → List ℕ → Type 0
HasLinks past kept = (t u : ℕ) → t < 16 → u < 16 → link_at kept t u ≡ cond (are_attached past t u) 1 0

one_linked : (b : Bool) → ◌≡◌ {A = ℕ} (cond b 1 0) 1 → b ≡ true
one_linked true e = refl
one_linked false e = absurd (omega (arith, e))

joins_linked : (past : Past) (kept : List ℕ) (a b : ℕ) → HasLinks past kept → Joins kept a b → IsLinked (attached past) a b
joins_linked past kept a b has j = one_linked (are_attached past a b) (sym (has a b j.from j.to) ∙ j.link)

linked_joins : (setup : Setup) (past : Past) (kept : List ℕ) (a b : ℕ) → IsLawful setup past → setup.threads ≤ 15 → HasLinks past kept → IsLinked (attached past) a b → Joins kept a b
linked_joins setup past kept a b lawful few has l =
    let bounds = attached_bounds setup past a b lawful l in
    let high : a ≤ setup.threads = bounds.0.1 in
    let high2 : b ≤ setup.threads = bounds.1.1 in
    let la : a < 16 = omega arith in
    let lb : b < 16 = omega arith in
    record { from = la; to = lb; link = has a b la lb ∙ ap (λ c. cond c 1 0) l }

-- a group is who is reached by the links that are kept
pub group_is : (setup : Setup) (past : Past) (kept : List ℕ) (t u mask : ℕ) → IsLawful setup past → setup.threads ≤ 15 → HasLinks past kept → (bit_at mask u ≡ 1) ↔ Reaches (Joins kept) t u → eqb (bit_at mask u) 1 ≡ is_in_group past t u
group_is setup past kept t u mask lawful few has both = by (eqb (bit_at mask u) 1) (is_in_group past t u) refl refl
  where
    there : bit_at mask u ≡ 1 → is_in_group past t u ≡ true
    there e = reaches_by_steps (attached past) (reaches_map (λ a b j. joins_linked past kept a b has j) (both.0 e))

    again : is_in_group past t u ≡ true → bit_at mask u ≡ 1
    again e = both.1 (reaches_map (λ a b l. linked_joins setup past kept a b lawful few has l) (steps_of_reaching (attached past) t u e))

    by : (p q : Bool) → eqb (bit_at mask u) 1 ≡ p → is_in_group past t u ≡ q → eqb (bit_at mask u) 1 ≡ is_in_group past t u
    by true q h k = h ∙ sym (there (eqb-true (bit_at mask u) 1 h))
    by false false h k = h ∙ sym k
    by false true h k = absurd (false≢true (sym h ∙ eq-eqb (bit_at mask u) 1 (again k)))
