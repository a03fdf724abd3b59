-- A call that isn't among the listed ones.
use Rattle.std.proofs.Common.{◌≡◌, ℕ, ◌≤◌, ◌<◌, List, length, get_or, eqb, false, true, sym, ap, ◌∙◌, subst, arith}
use Rattle.std.specs.Prelude.{Contains}
use Rattle.std.proofs.lemmas.Bool.{false≢true}
use Rattle.std.proofs.lemmas.Bool.Decides.{nat_tests}

same : (n : ℕ) → eqb n n ≡ true
same n = grind (arith, nat_tests)

pub not_listed : (seen listed : List ℕ) (call : ℕ) → seen ≡ listed → ((k d : ℕ) → 0 ≤ k → k < length seen → eqb (get_or seen k d) call ≡ false) → Contains listed call → ⊥
not_listed seen listed call same_list differs found =
    let at : List ℕ → Type 0 = λ (l : List ℕ). (k d : ℕ) → 0 ≤ k → k < length l → eqb (get_or l k d) call ≡ false in
    let miss : eqb (get_or listed found.0 call) call ≡ false = subst at same_list differs found.0 call (omega arith) found.1 in
    false≢true (sym miss ∙ ap (λ (x : ℕ). eqb x call) found.2 ∙ same call)
