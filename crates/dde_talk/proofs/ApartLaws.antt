-- Items that are named once each.
use Rattle.std.proofs.Common.{◌≡◌, ℕ, zero, suc, ◌+◌, ◌<◌, List, [], ◌∷◌, ◌++◌, length, get_or, take, drop, Bool, true, false, ◌||◌, refl, sym, ap, ◌∙◌, subst, arith, add-one}
use Rattle.std.specs.Prelude.{nat_eq, IsTrue}
use Rattle.std.specs.List.{list_any, IsDistinct, AllByRecursion}
use Rattle.std.specs.Map.{keys_of}
use Rattle.std.proofs.Math.Seq.{drop-cons}
use Rattle.std.proofs.Math.ListN.{take-append-drop}
use Rattle.std.proofs.lemmas.Bool.{false≢true}
use Rattle.std.proofs.lemmas.Cmp.{nat_eq_equiv}
use Rattle.std.proofs.lemmas.List.{take_more}
use Rattle.std.proofs.lemmas.Map.Keys.{IsDistinct-from_apart, IsDistinct-head, IsDistinct-push, IsDistinct-tail}
use Rattle.dde_talk.specs.Replies.{AreApart, Items}
use Rattle.dde_talk.proofs.ItemLaws.{flips}

-- an item is named among rows as it is among their items
named : (rows : Items) (item : ℕ) → list_any (λ (x : ℕ × ℕ). nat_eq item x.0) rows ≡ list_any (nat_eq item) (keys_of rows)
named [] item = refl
named (x ∷ rows) item = ap (λ b. nat_eq item x.0 || b) (named rows item)

keys_more : (rows : Items) (x : ℕ × ℕ) → keys_of (rows ++ x ∷ []) ≡ keys_of rows ++ x.0 ∷ []
keys_more [] x = refl
keys_more (y ∷ rows) x = ap (λ ks. y.0 ∷ ks) (keys_more rows x)

pub none_apart : AreApart []
none_apart = IsDistinct-from_apart nat_eq [] (λ i j d before l. absurd (omega arith))

-- one row more
pub apart_more : (rows : Items) (n : ℕ) (x : ℕ × ℕ) → n < length rows → x ≡ get_or rows n x → list_any (λ (y : ℕ × ℕ). nat_eq x.0 y.0) (take n rows) ≡ false → AreApart (take n rows) → AreApart (take (n + 1) rows)
apart_more rows n x l here new apart =
    let longer : take (n + 1) rows ≡ take n rows ++ x ∷ [] = take_more rows n x l ∙ ap (λ y. take n rows ++ y ∷ []) (sym here) in
    subst (λ (r : Items). AreApart r) (sym longer) (subst (λ ks. IsDistinct nat_eq ks) (sym (keys_more (take n rows) x)) (IsDistinct-push nat_eq_equiv (keys_of (take n rows)) x.0 apart (sym (named (take n rows) x.0) ∙ new)))

-- a row whose item was named before
among : (xs ys : Items) (x : ℕ × ℕ) (k : ℕ) → AllByRecursion (λ y. nat_eq k y ≡ false) (keys_of (xs ++ x ∷ ys)) → nat_eq k x.0 ≡ false
among [] ys x k all = all.0
among (z ∷ xs) ys x k all = among xs ys x k all.1

clash_head : (xs ys : Items) (z x : ℕ × ℕ) (b : Bool) → nat_eq x.0 z.0 ≡ b → AreApart (z ∷ (xs ++ x ∷ ys)) → (list_any (λ (y : ℕ × ℕ). nat_eq x.0 y.0) xs ≡ true → ⊥) → (b || list_any (λ (y : ℕ × ℕ). nat_eq x.0 y.0) xs) ≡ true → ⊥
clash_head xs ys z x true e apart later h = false≢true (sym (among xs ys x z.0 (IsDistinct-head nat_eq z.0 (keys_of (xs ++ x ∷ ys)) apart)) ∙ (flips z.0 x.0 ∙ e))
clash_head xs ys z x false e apart later h = later h

clash : (xs ys : Items) (x : ℕ × ℕ) → AreApart (xs ++ x ∷ ys) → list_any (λ (y : ℕ × ℕ). nat_eq x.0 y.0) xs ≡ true → ⊥
clash [] ys x apart h = false≢true h
clash (z ∷ xs) ys x apart h = clash_head xs ys z x (nat_eq x.0 z.0) refl apart (clash xs ys x (IsDistinct-tail nat_eq z.0 (keys_of (xs ++ x ∷ ys)) apart)) h

pub not_apart : (rows : Items) (n : ℕ) (x : ℕ × ℕ) → n < length rows → x ≡ get_or rows n x → list_any (λ (y : ℕ × ℕ). nat_eq x.0 y.0) (take n rows) ≡ true → AreApart rows → ⊥
not_apart rows n x l here h apart =
    let whole : rows ≡ take n rows ++ x ∷ drop (n + 1) rows = sym (take-append-drop n rows) ∙ ap (λ r. take n rows ++ r) (split l here) in
    clash (take n rows) (drop (n + 1) rows) x (subst (λ (r : Items). AreApart r) whole apart) h
  where
    split : n < length rows → x ≡ get_or rows n x → drop n rows ≡ x ∷ drop (n + 1) rows
    split l here = drop-cons rows n x l ∙ (ap (λ y. y ∷ drop (suc n) rows) (sym here) ∙ ap (λ k. x ∷ drop k rows) (sym (add-one n)))

-- as a loop reads them
read : {X : Type 0} (xs : List X) (k : ℕ) (d e : X) → k < length xs → get_or xs k d ≡ get_or xs k e
read [] k d e l = absurd (omega arith)
read (x ∷ xs) zero d e l = refl
read (x ∷ xs) (suc k) d e l = read xs k d e (omega arith)

pub next_apart : (rows : Items) (n : ℕ) → n < length rows → false ≡ list_any (λ (y : ℕ × ℕ). nat_eq (get_or rows n (0, 0)).0 y.0) (take n rows) → AreApart (take n rows) → AreApart (take (n + 1) rows)
next_apart rows n l new apart = apart_more rows n (get_or rows n (0, 0)) l (read rows n (0, 0) (get_or rows n (0, 0)) l) (sym new) apart

pub twice_named : (rows : Items) (n : ℕ) → n < length rows → true ≡ list_any (λ (y : ℕ × ℕ). nat_eq (get_or rows n (0, 0)).0 y.0) (take n rows) → AreApart rows → ⊥
twice_named rows n l named apart = not_apart rows n (get_or rows n (0, 0)) l (read rows n (0, 0) (get_or rows n (0, 0)) l) (sym named) apart

pub never_true : IsTrue false → ⊥
never_true h = false≢true h
