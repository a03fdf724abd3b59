-- What a holder of counts relies on: the count of a list follows what comes and goes, and tells whether there is one.
use Rattle.std.proofs.Common.{◌≡◌, ◌∙◌, ℕ, zero, suc, ◌+◌, ◌-◌, ◌≤◌, Bool, true, false, cond, List, [], ◌∷◌, ◌++◌, length, length-append, zero-add, refl, sym, ap, arith}
use Rattle.std.specs.Prelude.{◌||◌, nat_lt}
use Rattle.std.specs.List.{AllByRecursion, count_by, list_any}
use Rattle.std.proofs.lemmas.Bool.Decides.{nat_tests}
use Rattle.std.proofs.lemmas.List.Sums.{count_by-le-length, sum_by-append}
use Rattle.queue_status.specs.declared.count.Count.{Count}
use Rattle.queue_status.specs.Counting.{both, counted}
use Rattle.queue_status.specs.Counts.{MayGo, is_fresh, is_there, none_fresh, one_less, one_more}

-- ---- counts of lists

abbrev one : Bool → ℕ
one b = cond b 1 0

count_joined : {A : Type 0} (p : A → Bool) (us vs : List A) → count_by p (us ++ vs) ≡ count_by p us + count_by p vs
count_joined p us vs = sum_by-append (λ x. one (p x)) us vs

count_first : {A : Type 0} (p : A → Bool) (x : A) (xs : List A) → count_by p (x ∷ xs) ≡ one (p x) + count_by p xs
count_first p x xs = count_joined p (x ∷ []) xs ∙ ap (λ n. n + count_by p xs) (zero-add (one (p x)))

same_count : (m m' n n' : ℕ) → m ≡ m' → n ≡ n' → (let c : Count = record { there = m; fresh = n } in c) ≡ record { there = m'; fresh = n' }
same_count m m' n n' e f = ap (λ k. let c : Count = record { there = k; fresh = n } in c) e ∙ ap (λ k. let c : Count = record { there = m'; fresh = k } in c) f

-- ---- whether there is one

above : (n : ℕ) → nat_lt 0 (suc n) ≡ true
above n = grind (arith, nat_tests)

or_above : (m n : ℕ) → nat_lt 0 (m + n) ≡ (nat_lt 0 m || nat_lt 0 n)
or_above zero n = ap (nat_lt 0) (zero-add n)
or_above (suc m) n = let some : nat_lt 0 (suc m + n) ≡ true = grind (arith, nat_tests) in some ∙ sym (ap (λ b. b || nat_lt 0 n) (above m))

one_or : (b : Bool) (n : ℕ) (c : Bool) → nat_lt 0 n ≡ c → nat_lt 0 (one b + n) ≡ (b || c)
one_or true n c e = or_above 1 n
one_or false n c e = or_above 0 n ∙ e

-- one of a list is there exactly where the list has one
pub there_told : {A : Type 0} (is_new : A → Bool) (xs : List A) → is_there (counted is_new xs) ≡ list_any (λ x. true) xs
there_told is_new [] = refl
there_told is_new (x ∷ xs) = above (length xs)

-- one of them is fresh exactly where one came since the look
pub fresh_told : {A : Type 0} (is_new : A → Bool) (xs : List A) → is_fresh (counted is_new xs) ≡ list_any is_new xs
fresh_told is_new [] = refl
fresh_told is_new (x ∷ xs) = ap (nat_lt 0) (count_first is_new x xs) ∙ one_or (is_new x) (count_by is_new xs) (list_any is_new xs) (fresh_told is_new xs)

pub both_there : (a b : Count) → is_there (both a b) ≡ (is_there a || is_there b)
both_there a b = or_above a.there b.there

pub both_fresh : (a b : Count) → is_fresh (both a b) ≡ (is_fresh a || is_fresh b)
both_fresh a b = or_above a.fresh b.fresh

-- ---- what comes and goes

more_by : (b : Bool) (m k n l : ℕ) → k ≡ m + 1 → l ≡ n + one b → (let c : Count = record { there = k; fresh = l } in c) ≡ one_more b (record { there = m; fresh = n })
more_by true m k n l e f = same_count k (m + 1) l (n + 1) e f
more_by false m k n l e f = same_count k (m + 1) l n e (omega (arith, f))

-- one comes last
pub comes : {A : Type 0} (is_new : A → Bool) (xs : List A) (x : A) → counted is_new (xs ++ x ∷ []) ≡ one_more (is_new x) (counted is_new xs)
comes is_new xs x = more_by (is_new x) (length xs) (length (xs ++ x ∷ [])) (count_by is_new xs) (count_by is_new (xs ++ x ∷ [])) (length-append xs (x ∷ [])) (count_joined is_new xs (x ∷ []) ∙ ap (λ n. count_by is_new xs + n) (zero-add (one (is_new x))))

less_by : (b : Bool) (m k n l : ℕ) → m ≡ k + 1 → n ≡ one b + l → one_less b (record { there = m; fresh = n }) ≡ record { there = k; fresh = l }
less_by true m k n l e f = same_count (m - 1) k (n - 1) l (omega (arith, e)) (omega (arith, f))
less_by false m k n l e f = same_count (m - 1) k n l (omega (arith, e)) (f ∙ zero-add l)

may_by : (b : Bool) (m k n l : ℕ) → m ≡ k + 1 → n ≡ one b + l → l ≤ k → MayGo b (record { there = m; fresh = n })
may_by true m k n l e f h = omega (arith, f)
may_by false m k n l e f h = omega (arith, e, f, h)

more_by_one : {A : Type 0} (us vs : List A) (x : A) → length (us ++ x ∷ vs) ≡ length (us ++ vs) + 1
more_by_one us vs x = omega (arith, length-append us (x ∷ vs), length-append us vs)

fresh_by_one : {A : Type 0} (p : A → Bool) (us vs : List A) (x : A) → count_by p (us ++ x ∷ vs) ≡ one (p x) + count_by p (us ++ vs)
fresh_by_one p us vs x = omega (arith, count_joined p us (x ∷ vs), count_first p x vs, count_joined p us vs)

-- one goes from its place
pub goes : {A : Type 0} (is_new : A → Bool) (us vs : List A) (x : A) → one_less (is_new x) (counted is_new (us ++ x ∷ vs)) ≡ counted is_new (us ++ vs)
goes is_new us vs x = less_by (is_new x) (length (us ++ x ∷ vs)) (length (us ++ vs)) (count_by is_new (us ++ x ∷ vs)) (count_by is_new (us ++ vs)) (more_by_one us vs x) (fresh_by_one is_new us vs x)

fewer : {A : Type 0} (p : A → Bool) (xs : List A) → count_by p xs ≤ length xs
fewer p xs = count_by-le-length p xs

-- one that is in the list may go
pub may_go : {A : Type 0} (is_new : A → Bool) (us vs : List A) (x : A) → MayGo (is_new x) (counted is_new (us ++ x ∷ vs))
may_go is_new us vs x = may_by (is_new x) (length (us ++ x ∷ vs)) (length (us ++ vs)) (count_by is_new (us ++ x ∷ vs)) (count_by is_new (us ++ vs)) (more_by_one us vs x) (fresh_by_one is_new us vs x) (fewer is_new (us ++ vs))

none_new : {A : Type 0} (p : A → Bool) (xs : List A) → AllByRecursion (λ x. p x ≡ false) xs → count_by p xs ≡ 0
none_new p [] h = refl
none_new p (x ∷ xs) h = count_first p x xs ∙ ap (λ b. one b + count_by p xs) h.0 ∙ zero-add (count_by p xs) ∙ none_new p xs h.1

-- at a look none of them came since
pub looks : {A : Type 0} (is_new was_new : A → Bool) (xs : List A) → AllByRecursion (λ x. is_new x ≡ false) xs → counted is_new xs ≡ none_fresh (counted was_new xs)
looks is_new was_new xs h = same_count (length xs) (length xs) (count_by is_new xs) 0 refl (none_new is_new xs h)

-- ---- two counts taken as one

pub sound_beside : {A : Type 0} (is_new : A → Bool) (xs : List A) (c : Count) → c.fresh ≤ c.there → (both (counted is_new xs) c).fresh ≤ (both (counted is_new xs) c).there
sound_beside is_new xs c h = omega (arith, h, fewer is_new xs)

pub comes_beside : {A : Type 0} (is_new : A → Bool) (xs : List A) (x : A) (c : Count) → both (counted is_new (xs ++ x ∷ [])) c ≡ one_more (is_new x) (both (counted is_new xs) c)
comes_beside is_new xs x c = more_by (is_new x) (length xs + c.there) (length (xs ++ x ∷ []) + c.there) (count_by is_new xs + c.fresh) (count_by is_new (xs ++ x ∷ []) + c.fresh) (omega (arith, length-append xs (x ∷ []))) (omega (arith, count_joined is_new xs (x ∷ []), zero-add (one (is_new x))))

pub goes_beside : {A : Type 0} (is_new : A → Bool) (us vs : List A) (x : A) (c : Count) → one_less (is_new x) (both (counted is_new (us ++ x ∷ vs)) c) ≡ both (counted is_new (us ++ vs)) c
goes_beside is_new us vs x c = less_by (is_new x) (length (us ++ x ∷ vs) + c.there) (length (us ++ vs) + c.there) (count_by is_new (us ++ x ∷ vs) + c.fresh) (count_by is_new (us ++ vs) + c.fresh) (omega (arith, more_by_one us vs x)) (omega (arith, fresh_by_one is_new us vs x))

pub may_go_beside : {A : Type 0} (is_new : A → Bool) (us vs : List A) (x : A) (c : Count) → c.fresh ≤ c.there → MayGo (is_new x) (both (counted is_new (us ++ x ∷ vs)) c)
may_go_beside is_new us vs x c h = may_by (is_new x) (length (us ++ x ∷ vs) + c.there) (length (us ++ vs) + c.there) (count_by is_new (us ++ x ∷ vs) + c.fresh) (count_by is_new (us ++ vs) + c.fresh) (omega (arith, more_by_one us vs x)) (omega (arith, fresh_by_one is_new us vs x)) (omega (arith, h, fewer is_new (us ++ vs)))
