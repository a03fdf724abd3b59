-- What is ready names known sends, each once, so there is room for one send more that is known.
use Rattle.std.proofs.Common.{◌≡◌, ℕ, zero, suc, ◌+◌, ◌-◌, ◌<◌, ◌≤◌, Bool, true, false, cond, eqb, List, [], ◌∷◌, ◌++◌, length, get_or, None, refl, sym, ap, ◌∙◌, arith}
use Rattle.std.specs.Prelude.{is_some}
use Rattle.std.specs.List.{AllByRecursion}
use Rattle.std.specs.Cmp.{nat_cmp_total}
use Rattle.std.specs.Ordering.{nat_cmp, eq_by_cmp}
use Rattle.std.specs.FinMap as map
use Rattle.std.specs.FinMap.{empty_of_len, get-empty, get-remove, len-remove}
use Rattle.std.proofs.lemmas.Bool.{false≢true}
use Rattle.std.proofs.lemmas.Bool.Decides.{nat_tests}
use Rattle.std.proofs.lemmas.Map.Lookups.{exact_unsigned}
use Rattle.std.proofs.lemmas.Map.Views.{tells_apart}
use Rattle.user_model.proofs.ListLaws.{all_append}
use Rattle.send_variants.specs.Lists.{Entry as Item, count_in, count_on, named_by as send_of, names, total}

-- how often a number stands in a list
abbrev pub count : ℕ → List ℕ → ℕ
count s [] = 0
count s (n ∷ ns) = cond (eqb n s) 1 0 + count s ns

-- the sends that entries name
abbrev pub named : List Item → List ℕ
named [] = []
named (e ∷ es) = send_of e.1 ∷ named es

abbrev pub all_named : List (List Item) → List ℕ
all_named [] = []
all_named (es ∷ lists) = named es ++ all_named lists

count-append : (s : ℕ) (xs ys : List ℕ) → count s (xs ++ ys) ≡ count s xs + count s ys
count-append s [] ys = omega arith
count-append s (x ∷ xs) ys = let rest = count-append s xs ys in omega (arith, rest)

length-append : (xs ys : List ℕ) → length (xs ++ ys) ≡ length xs + length ys
length-append [] ys = omega arith
length-append (x ∷ xs) ys = let rest = length-append xs ys in omega (arith, rest)

count-named : (s : ℕ) (es : List Item) → count s (named es) ≡ count_in s es
count-named s [] = refl
count-named s (e ∷ es) = ap (λ n. cond (names s e) 1 0 + n) (count-named s es)

length-named : (es : List Item) → length (named es) ≡ length es
length-named [] = refl
length-named (e ∷ es) = let rest = length-named es in omega (arith, rest)

count-all_named : (s : ℕ) (lists : List (List Item)) → count s (all_named lists) ≡ count_on s lists
count-all_named s [] = refl
count-all_named s (es ∷ lists) = let here = count-named s es in let rest = count-all_named s lists in let both = count-append s (named es) (all_named lists) in omega (arith, here, rest, both)

length-all_named : (lists : List (List Item)) → length (all_named lists) ≡ total lists
length-all_named [] = refl
length-all_named (es ∷ lists) = let here = length-named es in let rest = length-all_named lists in let both = length-append (named es) (all_named lists) in omega (arith, here, rest, both)

all_all_named : (P : ℕ → Type 0) (lists : List (List Item)) → ((i : ℕ) → i < length lists → AllByRecursion P (named (get_or lists i []))) → AllByRecursion P (all_named lists)
all_all_named P [] h = tt
all_all_named P (es ∷ lists) h = all_append P (named es) (all_named lists) (h 0 (omega arith)) (all_all_named P lists (λ i lt. h (suc i) (omega (arith, lt))))

-- ---- as many as there are keys

itself : (n : ℕ) → eqb n n ≡ true
itself n = grind (arith, nat_tests)

head_zero : (b : Bool) (n : ℕ) → cond b 1 0 + n ≡ 0 → (b ≡ false) × (n ≡ 0)
head_zero true n e = absurd (omega arith)
head_zero false n e = (refl, omega (arith, e))

absent : (s : ℕ) (ns : List ℕ) → count s ns ≡ 0 → AllByRecursion (λ n. eqb n s ≡ false) ns
absent s [] h = tt
absent s (n ∷ ns) h = let two = head_zero (eqb n s) (count s ns) h in (two.0, absent s ns two.1)

both_all : (P Q R : ℕ → Type 0) → ((n : ℕ) → P n → Q n → R n) → (ns : List ℕ) → AllByRecursion P ns → AllByRecursion Q ns → AllByRecursion R ns
both_all P Q R f [] p q = tt
both_all P Q R f (n ∷ ns) p q = (f n p.0 q.0, both_all P Q R f ns p.1 q.1)

module _ {X : Type 0} where
  some_key : (m : map.FinMap nat_cmp X) (k : ℕ) → is_some (map.get m k) ≡ true → 1 ≤ map.len m
  some_key m k h = go (map.len m) refl where
    go : (n : ℕ) → map.len m ≡ n → 1 ≤ n
    go zero e = absurd (false≢true (sym (ap is_some (ap (λ c. map.get c k) (empty_of_len m e) ∙ get-empty nat_cmp k)) ∙ h))
    go (suc n) e = omega arith

  kept : (m : map.FinMap nat_cmp X) (k n : ℕ) → is_some (map.get m n) ≡ true → eqb n k ≡ false → is_some (map.get (map.remove m k) n) ≡ true
  kept m k n h differ = ap is_some (get-remove nat_cmp_total m k n) ∙ go (eq_by_cmp nat_cmp n k) refl where
    go : (b : Bool) → eq_by_cmp nat_cmp n k ≡ b → is_some (cond b None (map.get m n)) ≡ true
    go true e = let same : n ≡ k = tells_apart exact_unsigned n k e in absurd (false≢true (sym differ ∙ ap (λ j. eqb j k) same ∙ itself k))
    go false e = h

  pub pigeon : (ns : List ℕ) (m : map.FinMap nat_cmp X) → ((s : ℕ) → count s ns ≤ 1) → AllByRecursion (λ n. is_some (map.get m n) ≡ true) ns → length ns ≤ map.len m
  pigeon [] m once all = omega arith
  pigeon (n ∷ ns) m once all =
      let one : cond (eqb n n) 1 0 + count n ns ≤ 1 = once n in
      let here : cond (eqb n n) 1 0 + count n ns ≡ 1 + count n ns = ap (λ b. cond b 1 0 + count n ns) (itself n) in
      let none : count n ns ≡ 0 = omega (arith, one, here) in
      let less : map.len (map.remove m n) ≡ map.len m - 1 = len-remove nat_cmp_total m n ∙ ap (λ b. cond b (map.len m - 1) (map.len m)) all.0 in
      let some = some_key m n all.0 in
      let rest = pigeon ns (map.remove m n) (λ s. let more : cond (eqb n s) 1 0 + count s ns ≤ 1 = once s in omega (arith, more))
      (both_all (λ k. is_some (map.get m k) ≡ true) (λ k. eqb k n ≡ false) (λ k. is_some (map.get (map.remove m n) k) ≡ true) (λ k. kept m n k) ns all.1 (absent n ns none)) in
      omega (arith, rest, less, some)

  -- lists that name known sends once have no more entries than there are known sends, and fewer where a known one isn't named
  pub total_bound : (lists : List (List Item)) (m : map.FinMap nat_cmp X) → ((s : ℕ) → count_on s lists ≤ 1) → ((i : ℕ) → i < length lists → AllByRecursion (λ n. is_some (map.get m n) ≡ true) (named (get_or lists i []))) → total lists ≤ map.len m
  total_bound lists m once all =
      let bound = pigeon (all_named lists) m (λ s. let same = count-all_named s lists in let low = once s in omega (arith, same, low)) (all_all_named (λ n. is_some (map.get m n) ≡ true) lists all) in
      omega (arith, bound, length-all_named lists)

  pub total_less : (lists : List (List Item)) (m : map.FinMap nat_cmp X) (k : ℕ) → ((s : ℕ) → count_on s lists ≤ 1) → ((i : ℕ) → i < length lists → AllByRecursion (λ n. is_some (map.get m n) ≡ true) (named (get_or lists i [])))
      → is_some (map.get m k) ≡ true → count_on k lists ≡ 0 → total lists < map.len m
  total_less lists m k once all known unnamed =
      let apart = absent k (all_named lists) (count-all_named k lists ∙ unnamed) in
      let less : map.len (map.remove m k) ≡ map.len m - 1 = len-remove nat_cmp_total m k ∙ ap (λ b. cond b (map.len m - 1) (map.len m)) known in
      let some = some_key m k known in
      let bound = pigeon (all_named lists) (map.remove m k) (λ s. let same = count-all_named s lists in let low = once s in omega (arith, same, low))
      (both_all (λ n. is_some (map.get m n) ≡ true) (λ n. eqb n k ≡ false) (λ n. is_some (map.get (map.remove m k) n) ≡ true) (λ n. kept m k n) (all_named lists) (all_all_named (λ n. is_some (map.get m n) ≡ true) lists all) apart) in
      omega (arith, bound, less, some, length-all_named lists)
