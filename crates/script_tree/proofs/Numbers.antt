-- Numbers that are tested for being the same.
use Rattle.std.proofs.Common.{◌≡◌, ◌≢◌, ℕ, true, false, arith}
use Rattle.std.proofs.lemmas.Bool.Decides.{nat_tests}
use Rattle.std.specs.Prelude.{◌==◌}

pub same_number : (x y : ℕ) → x ≡ y → (x == y) ≡ true
same_number x y h = grind (arith, nat_tests)

pub other_number : (x y : ℕ) → x ≢ y → (x == y) ≡ false
other_number x y h = grind (arith, nat_tests)

pub number_is : (x y : ℕ) → (x == y) ≡ true → x ≡ y
number_is x y h = grind (arith, nat_tests)

pub number_isnt : (x y : ℕ) → (x == y) ≡ false → x ≢ y
number_isnt x y h = grind (arith, nat_tests)
