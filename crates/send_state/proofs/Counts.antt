-- Counts over lists of sends.
use Rattle.std.proofs.Common.{◌≡◌, ◌≢◌, ℕ, suc, ◌+◌, ◌<◌, Bool, true, false, not, cond, eqb, List, [], ◌∷◌, ◌++◌, Some, refl, ap, ◌∙◌, sym, inl, inr, arith}
use Rattle.std.specs.Prelude.{◌&&◌, ◌||◌, count_by, find, is_some}
use Rattle.std.specs.List.{AllByRecursion}
use Rattle.std.proofs.lemmas.Bool.{ne_eqb}
use Rattle.std.proofs.lemmas.Bool.Decides.{eqb_tells}
use Rattle.std.proofs.lemmas.List.Sums.{sum_by-append, sum_by-cons}
use Rattle.user_model.specs.Sends.{SentMsg}
use Rattle.user_model.proofs.SendStanding.{CountsFrom}
use Rattle.send_state.proofs.Serving.{eqb_itself}
use Rattle.send_state.proofs.Still.{and-false}

pub count_next : (f : SentMsg → Bool) (x : SentMsg) (xs : List SentMsg) → count_by f (x ∷ xs) ≡ cond (f x) 1 0 + count_by f xs
count_next f x xs = sum_by-cons (λ y. cond (f y) 1 0) x xs

pub count_more : (f : SentMsg → Bool) (xs ys : List SentMsg) → count_by f (xs ++ ys) ≡ count_by f xs + count_by f ys
count_more f xs ys = sum_by-append (λ y. cond (f y) 1 0) xs ys

-- two tests that agree
pub count_same : (f g : SentMsg → Bool) → ((x : SentMsg) → f x ≡ g x) → (xs : List SentMsg) → count_by f xs ≡ count_by g xs
count_same f g same [] = refl
count_same f g same (x ∷ xs) =
    count_next f x xs ∙ ap (λ b. cond b 1 0 + count_by f xs) (same x) ∙ ap (λ n. cond (g x) 1 0 + n) (count_same f g same xs) ∙ sym (count_next g x xs)

-- a test that all fail
pub count_none : (f : SentMsg → Bool) (xs : List SentMsg) → AllByRecursion (λ x. f x ≡ false) xs → count_by f xs ≡ 0
count_none f [] h = refl
count_none f (x ∷ xs) h =
    let here = ap (λ b. cond b 1 0 + count_by f xs) h.0 in
    let rest = count_none f xs h.1 in
    let step = count_next f x xs in
    omega (arith, step, here, rest)

pub count_never : (f : SentMsg → Bool) → ((x : SentMsg) → f x ≡ false) → (xs : List SentMsg) → count_by f xs ≡ 0
count_never f fails xs = count_none f xs (each xs)
  where
    each : (l : List SentMsg) → AllByRecursion (λ x. f x ≡ false) l
    each [] = tt
    each (x ∷ l) = (fails x, each l)

two : (a b : Bool) → cond (a || b) 1 0 ≡ cond a 1 0 + cond (not a && b) 1 0
two true b = refl
two false true = refl
two false false = refl

-- those that pass one test, and those that pass the other alone
pub count_either : (f g : SentMsg → Bool) (xs : List SentMsg) → count_by (λ x. f x || g x) xs ≡ count_by f xs + count_by (λ x. not (f x) && g x) xs
count_either f g [] = refl
count_either f g (x ∷ xs) =
    let both = count_next (λ y. f y || g y) x xs in
    let one = count_next f x xs in
    let other = count_next (λ y. not (f y) && g y) x xs in
    let here = two (f x) (g x) in
    let rest = count_either f g xs in
    omega (arith, both, one, other, here, rest)

above : (n : ℕ) (g : ℕ → Bool) (t : ℕ) (xs : List SentMsg) → CountsFrom n xs → t < suc n → AllByRecursion (λ x. (g x.number && eqb t x.number) ≡ false) xs
above n g t [] c low = tt
above n g t (x ∷ xs) c low =
    let differ : t ≢ x.number = omega (arith, c.0, low) in
    (ap (λ b. g x.number && b) (ne_eqb t x.number differ) ∙ and-false (g x.number), above (suc n) g t xs c.1 (omega (arith, low)))

-- whether it is the send of the number, and that passes
abbrev is_it : (ℕ → Bool) → ℕ → SentMsg → Bool
is_it g t x = g x.number && eqb t x.number

-- sends are numbered one after another, so one has the number at most
pub count_one : (n t : ℕ) (g : ℕ → Bool) (xs : List SentMsg) → CountsFrom n xs → count_by (λ x. g x.number && eqb t x.number) xs ≡ cond (is_some (find (λ x. eqb x.number t) xs) && g t) 1 0
count_one n t g [] c = refl
count_one n t g (x ∷ xs) c = elim (eqb_tells x.number t) [
  | inl same ↦
      let here : (g x.number && eqb t x.number) ≡ g t = ap (λ k. g k && eqb t k) same.1 ∙ ap (λ b. g t && b) (eqb_itself t) ∙ and_last (g t) in
      let head = ap (λ b. cond b 1 0 + count_by (is_it g t) xs) here in
      let tail = count_none (is_it g t) xs (above (suc n) g t xs c.1 (omega (arith, same.1, c.0))) in
      let all = count_next (is_it g t) x xs in
      let count : count_by (is_it g t) (x ∷ xs) ≡ cond (g t) 1 0 = omega (arith, all, head, tail) in
      count ∙ sym (ap (λ b. cond (is_some (cond b (Some x) (find (λ y. eqb y.number t) xs)) && g t) 1 0) same.0)
  | inr differ ↦
      let apart : t ≢ x.number = λ is. differ.1 (sym is) in
      let head = ap (λ b. cond (g x.number && b) 1 0 + count_by (is_it g t) xs) (ne_eqb t x.number apart) ∙ ap (λ b. cond b 1 0 + count_by (is_it g t) xs) (and-false (g x.number)) in
      let tail = count_one (suc n) t g xs c.1 in
      let all = count_next (is_it g t) x xs in
      let count : count_by (is_it g t) (x ∷ xs) ≡ cond (is_some (find (λ y. eqb y.number t) xs) && g t) 1 0 = omega (arith, all, head, tail) in
      count ∙ sym (ap (λ b. cond (is_some (cond b (Some x) (find (λ y. eqb y.number t) xs)) && g t) 1 0) differ.0)
]
  where
    and_last : (b : Bool) → (b && true) ≡ b
    and_last true = refl
    and_last false = refl
