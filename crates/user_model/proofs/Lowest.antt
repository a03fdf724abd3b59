-- The least number that passes a test.
use Rattle.std.proofs.Common.{◌≡◌, ℕ, zero, suc, ◌+◌, ◌-◌, ◌≤◌, Bool, true, false, cond, Option, Some, None, refl, ap, ◌∙◌, arith, add-one}
use Rattle.user_model.specs.Past.{or_else}
use Rattle.user_model.specs.Threads.{lowest}

lowest_step : (test : ℕ → Bool) (n : ℕ) (o : Option ℕ) (b : Bool) → lowest test n ≡ o → test (n + 1) ≡ b → lowest test (n + 1) ≡ or_else o (cond b (Some (n + 1)) None)
lowest_step test n o b e f =
    let one : lowest test (n + 1) ≡ or_else (lowest test n) (cond (test (n + 1)) (Some (n + 1)) None) = rw add-one refl in
    one ∙ ap (λ (x : Option ℕ). or_else x (cond (test (n + 1)) (Some (n + 1)) None)) e ∙ ap (λ (x : Bool). or_else o (cond x (Some (n + 1)) None)) f

pub lowest_none : (test : ℕ → Bool) (n : ℕ) → lowest test n ≡ None → test (n + 1) ≡ false → lowest test (n + 1) ≡ None
lowest_none test n e f = lowest_step test n None false e f

pub lowest_here : (test : ℕ → Bool) (n : ℕ) → lowest test n ≡ None → test (n + 1) ≡ true → lowest test (n + 1) ≡ Some (n + 1)
lowest_here test n e f = lowest_step test n None true e f

-- one that is found below is found above
lowest_more : (test : ℕ → Bool) (t d : ℕ) → lowest test t ≡ Some t → lowest test (d + t) ≡ Some t
lowest_more test t zero e = let z : 0 + t ≡ t = omega arith in ap (lowest test) z ∙ e
lowest_more test t (suc d) e =
    let z : suc d + t ≡ (d + t) + 1 = omega arith in
    ap (lowest test) z ∙ lowest_step test (d + t) (Some t) (test ((d + t) + 1)) (lowest_more test t d e) refl

pub lowest_found : (test : ℕ → Bool) (n t : ℕ) → lowest test t ≡ Some t → t ≤ n → lowest test n ≡ Some t
lowest_found test n t e le = let z : n ≡ (n - t) + t = omega arith in ap (lowest test) z ∙ lowest_more test t (n - t) e
