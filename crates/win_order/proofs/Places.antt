-- Places in lists of siblings.
use Rattle.std.proofs.Common.{◌≡◌, ◌∙◌, ℕ, ◌+◌, ◌<◌, ◌≤◌, suc, List, [], ◌∷◌, ◌++◌, length, set, Bool, true, false, cond, eqb, ltb, not, Some, None, unwrap_or, ap, refl, arith}
use Rattle.std.specs.List.{position, position_or_len}
use Rattle.std.proofs.lemmas.List.Sums.{prefix_len-le-length}
use borrow.Author.Tests.{ltb-true, ltb-false}
use Rattle.win_num.specs.declared.message.Hwnd.{Hwnd}
use Rattle.win_order.specs.Families.{with_windows}
use Rattle.win_order.specs.Siblings.{Siblings}

some_of : (b : Bool) (n at : ℕ) → cond b (Some n) None ≡ Some at → (b ≡ true) × (at ≡ n)
some_of true n at e = (refl, cc)
some_of false n at e = cc

none_of : (b : Bool) (n : ℕ) → cond b (Some n) None ≡ None → b ≡ false
none_of true n e = cc
none_of false n e = refl

place_by_test : (b : Bool) (n len : ℕ) → ltb n len ≡ b → n ≤ len → unwrap_or (cond b (Some n) None) len ≡ n
place_by_test true n len e le = refl
place_by_test false n len e le = omega (arith, ltb-false n len e)

-- the place that a search finds, or the length
pub place_or_end : {X : Type 0} (t : X → Bool) (xs : List X) → unwrap_or (position t xs) (length xs) ≡ position_or_len t xs
place_or_end t xs = place_by_test (ltb (position_or_len t xs) (length xs)) (position_or_len t xs) (length xs) refl (prefix_len-le-length (λ x. not (t x)) xs)

set_by_test : (f new : Siblings) (fs others : List Siblings) (b : Bool) (n : ℕ) → (n < length fs → set fs n new ≡ others) → cond (not b) (1 + n) 0 < length (f ∷ fs) → set (f ∷ fs) (cond (not b) (1 + n) 0) new ≡ elim b [ true ↦ new ∷ fs | false ↦ f ∷ others ]
set_by_test f new fs others true n ih lt = refl
set_by_test f new fs others false n ih lt = let e : 1 + n ≡ suc n = omega arith in ap (λ k. set (f ∷ fs) k new) e ∙ ap (λ gs. f ∷ gs) (ih (omega arith))

-- the list of one parent is made anew where it stands
pub set_family : (p : Hwnd) (ws : List Hwnd) (fs : List Siblings) → position_or_len (λ f. eqb f.parent.0 p.0) fs < length fs → set fs (position_or_len (λ f. eqb f.parent.0 p.0) fs) (record { parent = p; windows = ws }) ≡ with_windows p ws fs
set_family p ws [] lt = absurd (omega arith)
set_family p ws (f ∷ fs) lt = set_by_test f (record { parent = p; windows = ws }) fs (with_windows p ws fs) (eqb f.parent.0 p.0) (position_or_len (λ g. eqb g.parent.0 p.0) fs) (set_family p ws fs) lt

add_by_test : (f new : Siblings) (fs others : List Siblings) (b : Bool) (n : ℕ) → (length fs ≤ n → fs ++ new ∷ [] ≡ others) → length (f ∷ fs) ≤ cond (not b) (1 + n) 0 → f ∷ (fs ++ new ∷ []) ≡ elim b [ true ↦ new ∷ fs | false ↦ f ∷ others ]
add_by_test f new fs others true n ih le = absurd (omega arith)
add_by_test f new fs others false n ih le = ap (λ gs. f ∷ gs) (ih (omega arith))

-- or comes to the end
pub add_family : (p : Hwnd) (ws : List Hwnd) (fs : List Siblings) → length fs ≤ position_or_len (λ f. eqb f.parent.0 p.0) fs → fs ++ record { parent = p; windows = ws } ∷ [] ≡ with_windows p ws fs
add_family p ws [] le = refl
add_family p ws (f ∷ fs) le = add_by_test f (record { parent = p; windows = ws }) fs (with_windows p ws fs) (eqb f.parent.0 p.0) (position_or_len (λ g. eqb g.parent.0 p.0) fs) (add_family p ws fs) le

-- the same, from what the search answers
pub set_where_found : (p : Hwnd) (ws : List Hwnd) (fs : List Siblings) (at : ℕ) → position (λ f. eqb f.parent.0 p.0) fs ≡ Some at → set fs at (record { parent = p; windows = ws }) ≡ with_windows p ws fs
set_where_found p ws fs at found =
    let n = position_or_len (λ (f : Siblings). eqb f.parent.0 p.0) fs in
    let told = some_of (ltb n (length fs)) n at found in
    ap (λ k. set fs k (record { parent = p; windows = ws })) told.1 ∙ set_family p ws fs (ltb-true n (length fs) told.0)

pub add_where_missing : (p : Hwnd) (ws : List Hwnd) (fs : List Siblings) → position (λ f. eqb f.parent.0 p.0) fs ≡ None → fs ++ record { parent = p; windows = ws } ∷ [] ≡ with_windows p ws fs
add_where_missing p ws fs missing =
    let n = position_or_len (λ (f : Siblings). eqb f.parent.0 p.0) fs in
    add_family p ws fs (ltb-false n (length fs) (none_of (ltb n (length fs)) n missing))
