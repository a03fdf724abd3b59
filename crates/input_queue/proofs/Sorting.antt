-- Parts of a list whose numbers rise.
use Rattle.std.proofs.Common.{◌≡◌, suc, ◌+◌, ◌<◌, Bool, true, false, ◌||◌, cond, ltb, List, [], ◌∷◌, length, find, Option, Some, None, refl, ap, sym, ◌∙◌, arith}
use Rattle.std.specs.Prelude.{filter, slice_get}
use Rattle.std.specs.List.{AllByRecursion}
use Rattle.std.proofs.lemmas.Bool.{cond-true, cond-false, le-ltb, lt-ltb, true≢false}
use Rattle.std.proofs.lemmas.List.Elements.{recursion_from_All}
use Rattle.input_queue.specs.declared.element.Element.{Element}
use Rattle.input_queue.specs.Elements.{AreRising, last_of}
use Rattle.input_queue.specs.Rows.{inserted, joined}

-- the numbers rise, by recursion on the list
abbrev pub Rises : List Element → Type 0
Rises [] = Unit {0}
Rises (x ∷ xs) = AllByRecursion (λ y. x.number < y.number) xs × Rises xs

pub rises_from : (xs : List Element) → AreRising xs → Rises xs
rises_from [] r = tt
rises_from (x ∷ xs) r = (recursion_from_All (λ y. x.number < y.number) xs (λ k d l. r 0 (suc k) d (omega arith) (omega (arith, l))), rises_from xs (λ i j d a b. r (suc i) (suc j) d (omega (arith, a)) (omega (arith, b))))

cond_same : {A : Type 0} (b : Bool) (x : A) → cond b x x ≡ x
cond_same true x = refl
cond_same false x = refl

pub all_filtered : (P : Element → Type 0) (p : Element → Bool) (w : List Element) → AllByRecursion P w → AllByRecursion P (filter p w)
all_filtered P p [] a = tt
all_filtered P p (x ∷ w) a = by (p x) (all_filtered P p w a.1)
  where
    by : (b : Bool) → AllByRecursion P (filter p w) → AllByRecursion P (cond b (x ∷ filter p w) (filter p w))
    by true more = (a.0, more)
    by false more = more

-- ---- the first one of two tests

-- of two that may be there the one of the lesser number
abbrev pub sooner : Option Element → Option Element → Option Element
sooner one None = one
sooner None (Some y) = Some y
sooner (Some x) (Some y) = cond (ltb y.number x.number) (Some y) (Some x)

before : (x : Element) (m : List Element) → AllByRecursion (λ y. x.number < y.number) m → sooner (Some x) (slice_get m 0) ≡ Some x
before x [] a = refl
before x (y ∷ m) a = cond-false (ltb y.number x.number) (Some y) (Some x) (le-ltb y.number x.number (omega (arith, a.0)))

behind : (x : Element) (m : List Element) → AllByRecursion (λ y. x.number < y.number) m → sooner (slice_get m 0) (Some x) ≡ Some x
behind x [] a = refl
behind x (y ∷ m) a = cond-true (ltb x.number y.number) (Some x) (Some y) (lt-ltb x.number y.number a.0)

pub first_or : (p q : Element → Bool) (w : List Element) → Rises w → slice_get (filter (λ x. p x || q x) w) 0 ≡ sooner (slice_get (filter p w) 0) (slice_get (filter q w) 0)
first_or p q [] r = refl
first_or p q (x ∷ w) r = by (p x) (q x) (first_or p q w r.1)
  where
    above : (t : Element → Bool) → AllByRecursion (λ y. x.number < y.number) (filter t w)
    above t = all_filtered (λ y. x.number < y.number) t w r.0

    by : (b c : Bool) → slice_get (filter (λ y. p y || q y) w) 0 ≡ sooner (slice_get (filter p w) 0) (slice_get (filter q w) 0) → slice_get (cond (b || c) (x ∷ filter (λ y. p y || q y) w) (filter (λ y. p y || q y) w)) 0 ≡ sooner (slice_get (cond b (x ∷ filter p w) (filter p w)) 0) (slice_get (cond c (x ∷ filter q w) (filter q w)) 0)
    by true true more = sym (cond_same (ltb x.number x.number) (Some x))
    by true false more = sym (before x (filter q w) (above q))
    by false true more = sym (behind x (filter p w) (above p))
    by false false more = more

-- ---- the last one of two tests

-- of two that may be there the one of the greater number
abbrev pub later : Option Element → Option Element → Option Element
later None other = other
later (Some x) None = Some x
later (Some x) (Some y) = cond (ltb x.number y.number) (Some y) (Some x)

abbrev or_else : Option Element → Element → Option Element
or_else None x = Some x
or_else (Some y) x = Some y

last_is : (y : Element) (w : List Element) → (z : Element) × (last_of (y ∷ w) ≡ Some z)
last_is y [] = (y, refl)
last_is y (z ∷ w) = last_is z w

last_of-cons : (x : Element) (w : List Element) → last_of (x ∷ w) ≡ or_else (last_of w) x
last_of-cons x [] = refl
last_of-cons x (y ∷ w) = let l = last_is y w in l.1 ∙ sym (ap (λ o. or_else o x) l.1)

-- this one may be there, and has a greater number
abbrev Above : Element → Option Element → Type 0
Above x None = Unit {0}
Above x (Some y) = x.number < y.number

last_above : (x : Element) (m : List Element) → AllByRecursion (λ y. x.number < y.number) m → Above x (last_of m)
last_above x [] a = tt
last_above x (y ∷ []) a = a.0
last_above x (y ∷ z ∷ m) a = last_above x (z ∷ m) a.1

-- an element before the later one of two
chosen : (x a b : Element) (c : Bool) → or_else (cond c (Some b) (Some a)) x ≡ cond c (Some b) (Some a)
chosen x a b true = refl
chosen x a b false = refl

first_below : (x b : Element) → x.number < b.number → Some b ≡ later (Some x) (Some b)
first_below x b l = sym (cond-true (ltb x.number b.number) (Some b) (Some x) (lt-ltb x.number b.number l))

second_below : (x a : Element) → x.number < a.number → Some a ≡ later (Some a) (Some x)
second_below x a l = sym (cond-false (ltb a.number x.number) (Some x) (Some a) (le-ltb a.number x.number (omega (arith, l))))

in_both : (x : Element) (a b : Option Element) → Above x a → Above x b → or_else (later a b) x ≡ later (or_else a x) (or_else b x)
in_both x None None k l = sym (cond_same (ltb x.number x.number) (Some x))
in_both x None (Some b) k l = first_below x b l
in_both x (Some a) None k l = second_below x a k
in_both x (Some a) (Some b) k l = chosen x a b (ltb a.number b.number)

in_left : (x : Element) (a b : Option Element) → Above x b → or_else (later a b) x ≡ later (or_else a x) b
in_left x None None l = refl
in_left x None (Some b) l = first_below x b l
in_left x (Some a) None l = refl
in_left x (Some a) (Some b) l = chosen x a b (ltb a.number b.number)

in_right : (x : Element) (a b : Option Element) → Above x a → or_else (later a b) x ≡ later a (or_else b x)
in_right x None None k = refl
in_right x None (Some b) k = refl
in_right x (Some a) None k = second_below x a k
in_right x (Some a) (Some b) k = chosen x a b (ltb a.number b.number)

pub last_or : (p q : Element → Bool) (w : List Element) → Rises w → last_of (filter (λ x. p x || q x) w) ≡ later (last_of (filter p w)) (last_of (filter q w))
last_or p q [] r = refl
last_or p q (x ∷ w) r = by (p x) (q x) (last_or p q w r.1)
  where
    above : (t : Element → Bool) → Above x (last_of (filter t w))
    above t = last_above x (filter t w) (all_filtered (λ y. x.number < y.number) t w r.0)

    here : last_of (filter (λ y. p y || q y) w) ≡ later (last_of (filter p w)) (last_of (filter q w)) → last_of (x ∷ filter (λ y. p y || q y) w) ≡ or_else (later (last_of (filter p w)) (last_of (filter q w))) x
    here more = last_of-cons x (filter (λ y. p y || q y) w) ∙ ap (λ o. or_else o x) more

    by : (b c : Bool) → last_of (filter (λ y. p y || q y) w) ≡ later (last_of (filter p w)) (last_of (filter q w)) → last_of (cond (b || c) (x ∷ filter (λ y. p y || q y) w) (filter (λ y. p y || q y) w)) ≡ later (last_of (cond b (x ∷ filter p w) (filter p w))) (last_of (cond c (x ∷ filter q w) (filter q w)))
    by true true more = here more ∙ in_both x (last_of (filter p w)) (last_of (filter q w)) (above p) (above q) ∙ sym (ap (λ o. later o (or_else (last_of (filter q w)) x)) (last_of-cons x (filter p w))) ∙ sym (ap (later (last_of (x ∷ filter p w))) (last_of-cons x (filter q w)))
    by true false more = here more ∙ in_left x (last_of (filter p w)) (last_of (filter q w)) (above q) ∙ sym (ap (λ o. later o (last_of (filter q w))) (last_of-cons x (filter p w)))
    by false true more = here more ∙ in_right x (last_of (filter p w)) (last_of (filter q w)) (above p) ∙ sym (ap (later (last_of (filter p w))) (last_of-cons x (filter q w)))
    by false false more = more

-- ---- how many pass one of two tests

pub length_or : (p q : Element → Bool) → ((x : Element) → q x ≡ true → p x ≡ false) → (w : List Element) → length (filter (λ x. p x || q x) w) ≡ length (filter p w) + length (filter q w)
length_or p q apart [] = refl
length_or p q apart (x ∷ w) = by (p x) (q x) (apart x) (length_or p q apart w)
  where
    by : (b c : Bool) → (c ≡ true → b ≡ false) → length (filter (λ y. p y || q y) w) ≡ length (filter p w) + length (filter q w) → length (cond (b || c) (x ∷ filter (λ y. p y || q y) w) (filter (λ y. p y || q y) w)) ≡ length (cond b (x ∷ filter p w) (filter p w)) + length (cond c (x ∷ filter q w) (filter q w))
    by true true d more = absurd (true≢false (d refl))
    by true false d more = omega (arith, more)
    by false true d more = omega (arith, more)
    by false false d more = more

-- ---- none found by one of two tests

none_parts : (b : Bool) (x : Element) (o : Option Element) → cond b (Some x) o ≡ None → (b ≡ false) × (o ≡ None)
none_parts true x o h = absurd cc
none_parts false x o h = (refl, h)

none_from : (b : Bool) (x : Element) (o : Option Element) → b ≡ false → o ≡ None → cond b (Some x) o ≡ None
none_from b x o e h = ap (λ c. cond c (Some x) o) e ∙ h

pub find_or : (t p q : Element → Bool) (w : List Element) → find t (filter p w) ≡ None → find t (filter q w) ≡ None → find t (filter (λ x. p x || q x) w) ≡ None
find_or t p q [] h k = refl
find_or t p q (x ∷ w) h k = by (p x) (q x) h k (λ f g. find_or t p q w f g)
  where
    by : (b c : Bool) → find t (cond b (x ∷ filter p w) (filter p w)) ≡ None → find t (cond c (x ∷ filter q w) (filter q w)) ≡ None → (find t (filter p w) ≡ None → find t (filter q w) ≡ None → find t (filter (λ y. p y || q y) w) ≡ None) → find t (cond (b || c) (x ∷ filter (λ y. p y || q y) w) (filter (λ y. p y || q y) w)) ≡ None
    by true true h k more = let u = none_parts (t x) x (find t (filter p w)) h in none_from (t x) x (find t (filter (λ y. p y || q y) w)) u.0 (more u.1 (none_parts (t x) x (find t (filter q w)) k).1)
    by true false h k more = let u = none_parts (t x) x (find t (filter p w)) h in none_from (t x) x (find t (filter (λ y. p y || q y) w)) u.0 (more u.1 k)
    by false true h k more = let u = none_parts (t x) x (find t (filter q w)) k in none_from (t x) x (find t (filter (λ y. p y || q y) w)) u.0 (more h u.1)
    by false false h k more = more h k

-- ---- two parts joined

inserted_first : (x : Element) (m : List Element) → AllByRecursion (λ y. x.number < y.number) m → inserted x m ≡ x ∷ m
inserted_first x [] a = refl
inserted_first x (y ∷ m) a = cond-true (ltb x.number y.number) (x ∷ y ∷ m) (y ∷ inserted x m) (lt-ltb x.number y.number a.0)

inserted_second : (x y : Element) (m : List Element) → x.number < y.number → inserted y (x ∷ m) ≡ x ∷ inserted y m
inserted_second x y m l = cond-false (ltb y.number x.number) (y ∷ x ∷ m) (x ∷ inserted y m) (le-ltb y.number x.number (omega (arith, l)))

joined_first : (x : Element) (m n : List Element) → AllByRecursion (λ y. x.number < y.number) m → joined m (x ∷ n) ≡ x ∷ joined m n
joined_first x [] n a = refl
joined_first x (y ∷ m) n a = ap (inserted y) (joined_first x m n a.1) ∙ inserted_second x y (joined m n) a.0

pub joined_or : (p q : Element → Bool) → ((x : Element) → q x ≡ true → p x ≡ false) → (w : List Element) → Rises w → joined (filter q w) (filter p w) ≡ filter (λ x. p x || q x) w
joined_or p q apart [] r = refl
joined_or p q apart (x ∷ w) r = by (p x) (q x) (apart x) (joined_or p q apart w r.1)
  where
    above : (t : Element → Bool) → AllByRecursion (λ y. x.number < y.number) (filter t w)
    above t = all_filtered (λ y. x.number < y.number) t w r.0

    by : (b c : Bool) → (c ≡ true → b ≡ false) → joined (filter q w) (filter p w) ≡ filter (λ y. p y || q y) w → joined (cond c (x ∷ filter q w) (filter q w)) (cond b (x ∷ filter p w) (filter p w)) ≡ cond (b || c) (x ∷ filter (λ y. p y || q y) w) (filter (λ y. p y || q y) w)
    by true true d more = absurd (true≢false (d refl))
    by true false d more = joined_first x (filter q w) (filter p w) (above q) ∙ ap (λ m. x ∷ m) more
    by false true d more = ap (inserted x) more ∙ inserted_first x (filter (λ y. p y || q y) w) (above (λ y. p y || q y))
    by false false d more = more

-- ---- tests that keep the same

pub filter_same : (p q : Element → Bool) (w : List Element) → AllByRecursion (λ x. p x ≡ q x) w → filter p w ≡ filter q w
filter_same p q [] a = refl
filter_same p q (x ∷ w) a = ap (λ b. cond b (x ∷ filter p w) (filter p w)) a.0 ∙ ap (λ m. cond (q x) (x ∷ m) m) (filter_same p q w a.1)

pub filter_whole : (p : Element → Bool) (w : List Element) → AllByRecursion (λ x. p x ≡ true) w → filter p w ≡ w
filter_whole p [] a = refl
filter_whole p (x ∷ w) a = ap (λ b. cond b (x ∷ filter p w) (filter p w)) a.0 ∙ ap (λ m. x ∷ m) (filter_whole p w a.1)

pub filter_none : (p : Element → Bool) (w : List Element) → AllByRecursion (λ x. p x ≡ false) w → filter p w ≡ []
filter_none p [] a = refl
filter_none p (x ∷ w) a = ap (λ b. cond b (x ∷ filter p w) (filter p w)) a.0 ∙ filter_none p w a.1

pub filter_twice : (p q : Element → Bool) (w : List Element) → filter p (filter q w) ≡ filter q (filter p w)
filter_twice p q [] = refl
filter_twice p q (x ∷ w) = by (p x) refl (q x) refl (filter_twice p q w)
  where
    first : (b : Bool) → p x ≡ b → filter p (x ∷ filter q w) ≡ cond b (x ∷ filter p (filter q w)) (filter p (filter q w))
    first b e = ap (λ d. cond d (x ∷ filter p (filter q w)) (filter p (filter q w))) e

    second : (c : Bool) → q x ≡ c → filter q (x ∷ filter p w) ≡ cond c (x ∷ filter q (filter p w)) (filter q (filter p w))
    second c f = ap (λ d. cond d (x ∷ filter q (filter p w)) (filter q (filter p w))) f

    by : (b : Bool) → p x ≡ b → (c : Bool) → q x ≡ c → filter p (filter q w) ≡ filter q (filter p w) → filter p (cond c (x ∷ filter q w) (filter q w)) ≡ filter q (cond b (x ∷ filter p w) (filter p w))
    by true e true f more = first true e ∙ ap (λ m. x ∷ m) more ∙ sym (second true f)
    by true e false f more = more ∙ sym (second false f)
    by false e true f more = first false e ∙ more
    by false e false f more = more

pub all_of : (P : Element → Type 0) → ((x : Element) → P x) → (w : List Element) → AllByRecursion P w
all_of P f [] = tt
all_of P f (x ∷ w) = (f x, all_of P f w)

pub all_weaker : (P Q : Element → Type 0) → ((x : Element) → P x → Q x) → (w : List Element) → AllByRecursion P w → AllByRecursion Q w
all_weaker P Q f [] a = tt
all_weaker P Q f (x ∷ w) a = (f x a.0, all_weaker P Q f w a.1)
