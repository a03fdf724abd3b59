-- Whether an element has a number above another and passes a test.
use Rattle.std.proofs.Common.{◌≡◌, ℕ, zero, suc, ◌+◌, ◌<◌, ◌≤◌, ◌==◌, Bool, true, false, ◌&&◌, ◌||◌, cond, List, [], ◌∷◌, length, get_or, drop, All, Some, refl, ap, sym, ◌∙◌, arith}
use Rattle.std.specs.Prelude.{filter, nat_lt, slice_get}
use Rattle.std.specs.List.{AllByRecursion, list_any}
use Rattle.std.proofs.lemmas.Bool.{true≢false}
use Rattle.std.proofs.lemmas.Bool.Decides.{nat_tests}
use Rattle.std.proofs.lemmas.List.{drop_all, drop_more}
use Rattle.input_queue.specs.declared.element.Element.{Element}
use Rattle.input_queue.specs.Rows.{IsKept, merged, row, with_home}
use Rattle.input_queue.proofs.Reading.{is_lower, lower, lower_all, lower_more, lower_none}
use Rattle.input_queue.proofs.Sorting.{filter_whole}

-- an element has a number above this and passes the test
abbrev pub is_above : ℕ → (Element → Bool) → Element → Bool
is_above number test x = nat_lt number x.number && test x

-- ---- in one list, from a place on

abbrev pub above_from : ℕ → (Element → Bool) → List Element → ℕ → Bool
above_from number test xs i = list_any (is_above number test) (drop i xs)

above_step : (number : ℕ) (test : Element → Bool) (xs : List Element) (i : ℕ) (d : Element) → i < length xs → above_from number test xs i ≡ (is_above number test (get_or xs i d) || above_from number test xs (i + 1))
above_step number test xs i d l = ap (list_any (is_above number test)) (drop_more xs i d l)

-- the element has no such number
pub above_low : (number : ℕ) (test : Element → Bool) (xs : List Element) (i : ℕ) (d : Element) → i < length xs → (get_or xs i d).number ≤ number → above_from number test xs i ≡ above_from number test xs (i + 1)
above_low number test xs i d l low =
    let none : nat_lt number (get_or xs i d).number ≡ false = grind (arith, nat_tests, low) in
    above_step number test xs i d l ∙ ap (λ b. (b && test (get_or xs i d)) || above_from number test xs (i + 1)) none

-- the element doesn't pass
pub above_fails : (number : ℕ) (test : Element → Bool) (xs : List Element) (i : ℕ) (d : Element) → i < length xs → number < (get_or xs i d).number → test (get_or xs i d) ≡ false → above_from number test xs i ≡ above_from number test xs (i + 1)
above_fails number test xs i d l above fails =
    let high : nat_lt number (get_or xs i d).number ≡ true = grind (arith, nat_tests, above) in
    above_step number test xs i d l ∙ rw (high, fails) refl

-- it has such a number and passes
pub above_passes : (number : ℕ) (test : Element → Bool) (xs : List Element) (i : ℕ) (d : Element) → i < length xs → number < (get_or xs i d).number → test (get_or xs i d) ≡ true → above_from number test xs i ≡ true
above_passes number test xs i d l above passes =
    let high : nat_lt number (get_or xs i d).number ≡ true = grind (arith, nat_tests, above) in
    above_step number test xs i d l ∙ rw (high, passes) refl

-- nothing is left
pub above_none : (number : ℕ) (test : Element → Bool) (xs : List Element) (i : ℕ) → length xs ≤ i → above_from number test xs i ≡ false
above_none number test xs i past = ap (list_any (is_above number test)) (drop_all i xs past)

-- ---- in the lists of the homes

neither : (b c : Bool) → (b || c) ≡ false → (b ≡ false) × (c ≡ false)
neither true c h = absurd (true≢false h)
neither false c h = (refl, h)

none_of : (b c : Bool) → b ≡ false → c ≡ false → (b || c) ≡ false
none_of b c e h = ap (λ d. d || c) e ∙ h

-- none by one of two tests
any_or : (t p q : Element → Bool) (w : List Element) → list_any t (filter p w) ≡ false → list_any t (filter q w) ≡ false → list_any t (filter (λ x. p x || q x) w) ≡ false
any_or t p q [] h k = refl
any_or t p q (x ∷ w) h k = by (p x) (q x) h k (λ f g. any_or t p q w f g)
  where
    by : (b c : Bool) → list_any t (cond b (x ∷ filter p w) (filter p w)) ≡ false → list_any t (cond c (x ∷ filter q w) (filter q w)) ≡ false → (list_any t (filter p w) ≡ false → list_any t (filter q w) ≡ false → list_any t (filter (λ y. p y || q y) w) ≡ false) → list_any t (cond (b || c) (x ∷ filter (λ y. p y || q y) w) (filter (λ y. p y || q y) w)) ≡ false
    by true true h k more = let u = neither (t x) (list_any t (filter p w)) h in none_of (t x) (list_any t (filter (λ y. p y || q y) w)) u.0 (more u.1 (neither (t x) (list_any t (filter q w)) k).1)
    by true false h k more = let u = neither (t x) (list_any t (filter p w)) h in none_of (t x) (list_any t (filter (λ y. p y || q y) w)) u.0 (more u.1 k)
    by false true h k more = let u = neither (t x) (list_any t (filter q w)) k in none_of (t x) (list_any t (filter (λ y. p y || q y) w)) u.0 (more h u.1)
    by false false h k more = more h k

-- with one home more
any_more : (t : Element → Bool) (i : ℕ) (w : List Element) → list_any t (lower (λ _. true) i w) ≡ false → list_any t (with_home i w) ≡ false → list_any t (lower (λ _. true) (i + 1) w) ≡ false
any_more t i w h k = ap (list_any t) (lower_more (λ _. true) i w refl) ∙ any_or t (is_lower (λ _. true) i) (λ x. x.home.0 == i) w h k

-- none yet
pub any_none : (t : Element → Bool) (w : List Element) → list_any t (lower (λ _. true) 0 w) ≡ false
any_none t w = ap (list_any t) (lower_none (λ _. true) w)

-- all homes
pub any_all : (t : Element → Bool) (i : ℕ) (w : List Element) → 16 ≤ i → All (λ x. x.home.0 < 16) w → list_any t (lower (λ _. true) i w) ≡ false → list_any t w ≡ false
any_all t i w past homes h = sym (ap (list_any t) (lower_all (λ _. true) i w past homes ∙ filter_whole (λ _. true) w (all w))) ∙ h
  where
    all : (m : List Element) → AllByRecursion (λ (x : Element). true ≡ true) m
    all [] = tt
    all (x ∷ m) = (refl, all m)

-- one of a part is one of the whole
any_part : (t p : Element → Bool) (w : List Element) → list_any t (filter p w) ≡ true → list_any t w ≡ true
any_part t p [] h = h
any_part t p (x ∷ w) h = by (p x) (t x) (split (p x) h) (λ f. any_part t p w f)
  where
    by : (b c : Bool) → (cond b (c || list_any t (filter p w)) (list_any t (filter p w))) ≡ true → (list_any t (filter p w) ≡ true → list_any t w ≡ true) → (c || list_any t w) ≡ true
    by true true h more = refl
    by true false h more = more h
    by false true h more = refl
    by false false h more = more h

    split : (b : Bool) → list_any t (cond b (x ∷ filter p w) (filter p w)) ≡ true → cond b (t x || list_any t (filter p w)) (list_any t (filter p w)) ≡ true
    split true h = h
    split false h = h

-- what is read at a place stands there
pub stands_at : (xs : List Element) (i : ℕ) (x d : Element) → slice_get xs i ≡ Some x → get_or xs i d ≡ x
stands_at [] i x d h = absurd cc
stands_at (y ∷ xs) zero x d h = cc
stands_at (y ∷ xs) (suc i) x d h = stands_at xs i x d h

-- of a list that is kept none counts
pub row_none : (t : Element → Bool) (rows : List (List Element)) (i : ℕ) (xs : List Element) (b : Bool) → IsKept rows → i < 16 → xs ≡ row rows i → b ≡ list_any t xs → b ≡ false → list_any t (lower (λ _. true) i (merged rows)) ≡ false → list_any t (lower (λ _. true) (i + 1) (merged rows)) ≡ false
row_none t rows i xs b kept l same is none before = any_more t i (merged rows) before (ap (list_any t) (sym (kept.row_is i l)) ∙ ap (list_any t) (sym same) ∙ sym is ∙ none)

-- of a list that is kept one counts
pub row_some : (t : Element → Bool) (rows : List (List Element)) (i : ℕ) (xs : List Element) (b : Bool) → IsKept rows → i < 16 → xs ≡ row rows i → b ≡ list_any t xs → b ≡ true → true ≡ list_any t (merged rows)
row_some t rows i xs b kept l same is some = sym (any_part t (λ x. x.home.0 == i) (merged rows) (ap (list_any t) (sym (kept.row_is i l)) ∙ ap (list_any t) (sym same) ∙ sym is ∙ some))
