-- What is found by its word has the word.
use Rattle.std.proofs.Common.{◌≡◌, ℕ, Bool, List, [], ◌∷◌, ◌++◌, Option, Some, true, inl, inr, ap, sym, ◌∙◌, arith}
use Rattle.std.specs.Prelude.{find, IfSome}
use Rattle.std.specs.List.{list_all}
use Rattle.std.specs.Option.{option_or}
use Rattle.std.specs.Str.{bytes_eq}
use Rattle.std.proofs.lemmas.Bool.{cases_Bool}
use Rattle.std.proofs.lemmas.List.Folds.{find-append}
use Rattle.std.proofs.lemmas.Slice.Eq.{bytes_eq-Decides}

pub found_word : {N : Type 0} (word_of : N → List ℕ) (word : List ℕ) (all : List N) → IfSome (find (λ n. bytes_eq (word_of n) word) all) (λ n. word_of n ≡ word)
found_word word_of word [] = tt
found_word word_of word (n ∷ all) = elim (cases_Bool (bytes_eq (word_of n) word)) [
  | inl hit ↦ rw hit ((bytes_eq-Decides (word_of n) word).0 hit)
  | inr miss ↦ rw miss (found_word word_of word all)
]

-- in two lists one after the other
pub found_further : {N : Type 0} (p : N → Bool) (xs ys : List N) (found all : Option N) → found ≡ find p xs → all ≡ option_or found (find p ys) → all ≡ find p (xs ++ ys)
found_further {N} p xs ys found all first next = next ∙ (ap (λ (o : Option N). option_or o (find p ys)) first ∙ sym (find-append p xs ys))

-- what all of them pass, the one that is found passes
pub found_passes : {N : Type 0} (p test : N → Bool) (all : List N) (n : N) → find p all ≡ Some n → list_all test all ≡ true → test n ≡ true
found_passes p test [] n found passed = absurd (cc found)
found_passes p test (m ∷ all) n found passed = elim (cases_Bool (p m)) [
  | inl hit ↦ grind (arith, found, passed, hit)
  | inr miss ↦ found_passes p test all n (grind (arith, found, miss)) (grind (arith, passed))
]
