-- Walks along a list from its front.
use Rattle.std.proofs.Common.{◌≡◌, ◌∙◌, ℕ, ◌+◌, ◌<◌, suc, List, ◌∷◌, length, get_or, drop, true, false, eqb, add-one, sym, ap, refl}
use Rattle.std.proofs.Math.Seq.{drop-cons}
use Rattle.win_order.specs.Families.{windows_of}
use Rattle.win_order.specs.Siblings.{Siblings}

-- the rest of a list begins with the element that stands there
pub cut : {X : Type 0} (xs : List X) (i : ℕ) (x : X) → i < length xs → x ≡ get_or xs i x → drop i xs ≡ x ∷ drop (i + 1) xs
cut xs i x lt is = drop-cons xs i x lt ∙ (ap (λ y. y ∷ drop (suc i) xs) (sym is) ∙ ap (λ n. x ∷ drop n xs) (sym (add-one i)))

pub windows_other : (fs : List Siblings) (i : ℕ) (f : Siblings) (p : ℕ) → i < length fs → f ≡ get_or fs i f → eqb f.parent.0 p ≡ false → windows_of (drop (i + 1) fs) p ≡ windows_of (drop i fs) p
windows_other fs i f p lt is differs = rw (cut fs i f lt is, differs, windows_of) refl

pub windows_found : (fs : List Siblings) (i : ℕ) (f : Siblings) (p : ℕ) → i < length fs → f ≡ get_or fs i f → eqb f.parent.0 p ≡ true → windows_of (drop i fs) p ≡ f.windows
windows_found fs i f p lt is same = rw (cut fs i f lt is, same, windows_of) refl
