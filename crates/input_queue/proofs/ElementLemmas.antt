-- Lists of elements.
use Rattle.std.proofs.Common.{◌≡◌, ℕ, ◌<◌, ◌==◌, Bool, true, false, not, cond, List, [], ◌∷◌, ◌++◌, find, All, Option, Some, None, Result, Ok, Err, OnOk, is_err, refl, ap, sym, subst, ◌∙◌, arith}
use Rattle.std.specs.List.{AllByRecursion, take_while}
use Rattle.std.proofs.lemmas.Bool.{ne_eqb}
use Rattle.std.proofs.lemmas.List.Elements.{All-filter, filter-append, recursion_from_All}
use Rattle.std.proofs.lemmas.List.Sums.{take_while-cons}
use Rattle.win_num.specs.declared.message.Thread.{Thread}
use Rattle.input_queue.specs.declared.element.Element.{Element}
use Rattle.win_num.specs.declared.names.TheConstants.{WM_MOUSEMOVE}
use Rattle.input_queue.specs.Elements.{is_in, is_move, move_number, of_group, without, last_of, without_replaced, with_element, replaced_in, first_takeable}

pub first_takeable-cons : (t : Thread) (target : Element → Thread) (test : Element → Bool) (x : Element) (elements : List Element) → first_takeable t target test (x ∷ elements) ≡ cond ((target x).0 == t.0) (cond (test x) (Some x) (first_takeable t target test elements)) None
first_takeable-cons t target test x elements = ap (find test) (take_while-cons (λ y. (target y).0 == t.0) x elements) ∙ by_case ((target x).0 == t.0)
  where
    by_case : (b : Bool) → find test (cond b (x ∷ take_while (λ y. (target y).0 == t.0) elements) []) ≡ cond b (cond (test x) (Some x) (first_takeable t target test elements)) None
    by_case true = refl
    by_case false = refl

true_from_not : (b : Bool) → not b ≡ false → b ≡ true
true_from_not true e = refl
true_from_not false e = cc

false_from_not : (b : Bool) → not b ≡ true → b ≡ false
false_from_not true e = cc
false_from_not false e = refl

-- a target that was not found to differ from the thread
pub own_target : (answer target t : Thread) (differs : Bool) → answer ≡ target → differs ≡ not (answer.0 == t.0) → differs ≡ false → (target.0 == t.0) ≡ true
own_target answer target t differs same is not_so = let P : Thread → Type 0 = λ u. (u.0 == t.0) ≡ true in subst P same (true_from_not (answer.0 == t.0) (sym is ∙ not_so))

-- a target that was found to differ
pub other_target : (answer target t : Thread) (differs : Bool) → answer ≡ target → differs ≡ not (answer.0 == t.0) → differs ≡ true → (target.0 == t.0) ≡ false
other_target answer target t differs same is so = let P : Thread → Type 0 = λ u. (u.0 == t.0) ≡ false in subst P same (false_from_not (answer.0 == t.0) (sym is ∙ so))

-- the number of the last one, if it is a move, is as low as all numbers
last_all : (m : ℕ) (w : List Element) → AllByRecursion (λ x. x.number < m) w → (n : ℕ) → move_number (last_of w) ≡ Some n → n < m
last_all m [] a n e = absurd cc
last_all m (x ∷ []) a n e = by (is_move x) e
  where
    by : (b : Bool) → cond b (Some x.number) None ≡ Some n → n < m
    by true f = let same : x.number ≡ n = cc in omega (arith, same, a.0)
    by false f = absurd cc
last_all m (x ∷ y ∷ w) a n e = last_all m (y ∷ w) a.1 n e

-- what is replaced has a lower number
replaced_below : (message group m : ℕ) (w : List Element) → All (λ x. x.number < m) w → (n : ℕ) → replaced_in message group w ≡ Some n → n < m
replaced_below message group m w below n e = by (message == WM_MOUSEMOVE) e
  where
    by : (b : Bool) → cond b (move_number (last_of (of_group group w))) None ≡ Some n → n < m
    by true f = last_all m (of_group group w) (recursion_from_All (λ x. x.number < m) (of_group group w) (All-filter (λ x. is_in group x.home) (λ x. x.number < m) w below)) n f
    by false f = absurd cc

-- the replaced one may go before the new one comes, or after
pub replaced_after : (e : Element) (group : ℕ) (w : List Element) (o : Option ℕ) → o ≡ replaced_in e.message group w → All (λ x. x.number < e.number) w → without_replaced o (w ++ e ∷ []) ≡ with_element e group w
replaced_after e group w o is below = by o is ∙ ap (λ p. without_replaced p w ++ e ∷ []) is
  where
    by : (p : Option ℕ) → p ≡ replaced_in e.message group w → without_replaced p (w ++ e ∷ []) ≡ without_replaced p w ++ e ∷ []
    by None h = refl
    by (Some n) h =
        let low : n < e.number = replaced_below e.message group e.number w below n (sym h) in
        filter-append (λ x. not (x.number == n)) w (e ∷ []) ∙ ap (λ b. without n w ++ cond (not b) (e ∷ []) []) (ne_eqb e.number n (λ same. omega (arith, same, low)))

-- what holds where there is no error
pub ok_holds : {A E : Type 0} (r : Result A E) (P : Type 0) → is_err r ≡ false → OnOk r P → P
ok_holds (Ok _) P e h = h
ok_holds (Err _) P e h = absurd cc
