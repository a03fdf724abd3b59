-- The least of some times and one more.
use Rattle.std.proofs.Common.{◌≡◌, ℕ, List, [], ◌∷◌, ◌++◌, Option, Some, None, refl, ap, ◌∙◌, arith}
use Rattle.user_model.specs.Idle.{least_of, least_with}

-- where some are, the lesser of their least and that of the others
abbrev lesser_of : Option ℕ → Option ℕ → Option ℕ
lesser_of None q = q
lesser_of (Some n) q = Some (least_with n q)

passed : (n : ℕ) (p q : Option ℕ) → Some (least_with n (lesser_of p q)) ≡ lesser_of (Some (least_with n p)) q
passed n None q = refl
passed n (Some m) None = refl
passed n (Some m) (Some k) = ap (λ l. Some l) (omega arith)

-- the least of some times and of some more
least_both : (ns ms : List ℕ) → least_of (ns ++ ms) ≡ lesser_of (least_of ns) (least_of ms)
least_both [] ms = refl
least_both (n ∷ ns) ms = ap (λ o. Some (least_with n o)) (least_both ns ms) ∙ passed n (least_of ns) (least_of ms)

pub least_some : (ns ms : List ℕ) (n : ℕ) (q : Option ℕ) → least_of ns ≡ Some n → least_of ms ≡ q → least_of (ns ++ ms) ≡ Some (least_with n q)
least_some ns ms n q e f = least_both ns ms ∙ ap (λ o. lesser_of o (least_of ms)) e ∙ ap (λ o. Some (least_with n o)) f

pub least_none : (ns ms : List ℕ) (q : Option ℕ) → least_of ns ≡ None → least_of ms ≡ q → least_of (ns ++ ms) ≡ q
least_none ns ms q e f = least_both ns ms ∙ ap (λ o. lesser_of o (least_of ms)) e ∙ f
