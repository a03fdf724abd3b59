-- Marks do not depend on which entry stands first.
use Rattle.std.proofs.Common.{◌≡◌, Bool, List, reverse, Option, Some, None, refl, Bor}
use Rattle.std.specs.Prelude.{option_copied, is_some}
use Rattle.std.specs.List.{list_any}
use Rattle.std.proofs.lemmas.List.Sorted.{list_any-IsPermutation, IsPermutation-reverse}

pub any_reverse : {X : Type 0} (test : X → Bool) (xs : List X) → list_any test xs ≡ list_any test (reverse xs)
any_reverse test xs = list_any-IsPermutation test xs (reverse xs) (IsPermutation-reverse xs)

pub some_copied : {X : Type 0} (o : Option (Bor X)) → is_some (option_copied o) ≡ is_some o
some_copied None = refl
some_copied (Some x) = refl
