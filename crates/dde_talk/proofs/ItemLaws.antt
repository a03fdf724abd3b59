-- Items in order.
use Rattle.std.proofs.Common.{◌≡◌, ℕ, ◌+◌, ◌<◌, ◌≤◌, suc, zero, List, [], ◌∷◌, length, get_or, set, Bool, true, false, cond, eqb, ltb, Option, Some, None, Result, Ok, Err, option_map, refl, sym, ap, ◌∙◌, subst, arith}
use Rattle.std.specs.Prelude.{nat_eq, slice_get}
use Rattle.std.specs.List.{IsDistinct, AllByRecursion}
use Rattle.std.specs.List.Sorted.{IsBinarySearchResult, IsNonDecreasing, IsPartitionPoint, IsSearchInRange, IsPermutation}
use Rattle.std.specs.Map.{keys_of}
use Rattle.std.specs.Ordering.{nat_cmp, is_lt}
use Rattle.std.specs.Result.{result_ok, is_ok}
use Rattle.std.specs.declared.cmp.Ordering.{Ordering}
use Rattle.std.specs.declared.cmp.Ordering.TheVariants.{Less, Equal, Greater}
use Rattle.std.proofs.lemmas.Cmp.{nat_eq_equiv, nat_cmp_total}
use Rattle.std.proofs.lemmas.List.Folds.{list_any_at, list_any_none}
use Rattle.std.proofs.lemmas.List.Sorted.{IsPermutation-map, IsPermutation-sym, Contains-permutation, searchable_from_sorted, searched}
use Rattle.std.proofs.lemmas.Map.Keys.{IsDistinct-IsPermutation, IsDistinct-head, IsDistinct-tail}
use Rattle.std.proofs.lemmas.Map.Entries.{lookup_from_place}
use Rattle.std.proofs.lemmas.Map.Views.{Contains-from_lookup, lookup-from_Contains}
use Rattle.std.proofs.lemmas.Option.{slice_get-get_or, get_or_from_slice_get}
use Rattle.std.proofs.lemmas.Bool.{false≢true, eq-eqb, eqb-true, eqb-false, ltb-true, ltb-false}
use Rattle.dde_talk.specs.Replies.{Items, AreApart, AreRising, IsPlaceOf, is_listed, value_of, with_value}

flips_by : (x y : ℕ) (b c : Bool) → eqb x y ≡ b → eqb y x ≡ c → b ≡ c
flips_by x y true true e f = refl
flips_by x y false false e f = refl
flips_by x y true false e f = let s = eqb-true x y e in let n = eqb-false y x f in absurd (n (sym s))
flips_by x y false true e f = let s = eqb-true y x f in let n = eqb-false x y e in absurd (n (sym s))

pub flips : (x y : ℕ) → nat_eq x y ≡ nat_eq y x
flips x y = flips_by x y (eqb x y) (eqb y x) refl refl

-- items in another order
pub apart_too : (xs ys : Items) → IsPermutation xs ys → AreApart xs → AreApart ys
apart_too xs ys p apart = IsDistinct-IsPermutation nat_eq flips _ _ (IsPermutation-map (λ (e : ℕ × ℕ). e.0) xs ys p) apart

found_there : (xs ys : Items) → IsPermutation xs ys → AreApart ys → (i v : ℕ) → value_of xs i ≡ Some v → value_of ys i ≡ Some v
found_there xs ys p apart i v h = lookup-from_Contains nat_eq_equiv i v ys apart (Contains-permutation xs ys (i, v) p (Contains-from_lookup (λ x y e. eqb-true x y e) i v xs h))

pub same_values : (xs ys : Items) → IsPermutation xs ys → AreApart xs → (i : ℕ) → value_of ys i ≡ value_of xs i
same_values xs ys p apart i = by (value_of xs i) (value_of ys i) refl refl
  where
    by : (o q : Option ℕ) → value_of xs i ≡ o → value_of ys i ≡ q → value_of ys i ≡ value_of xs i
    by (Some v) q e f = found_there xs ys p (apart_too xs ys p apart) i v e ∙ sym e
    by None (Some w) e f = f ∙ sym (found_there ys xs (IsPermutation-sym xs ys p) apart i w f)
    by None None e f = f ∙ sym e

get_or_default : (xs : List ℕ) (k d : ℕ) → k < length xs → get_or xs k d ≡ get_or xs k 0
get_or_default [] k d l = absurd (omega arith)
get_or_default (x ∷ xs) zero d l = refl
get_or_default (x ∷ xs) (suc k) d l = get_or_default xs k d (omega arith)

-- what the search among rising items finds
equal_then : (x y : ℕ) → nat_cmp x y ≡ Equal → x ≡ y
equal_then x y h = by (ltb x y) (eqb x y) refl h
  where
    by : (l e : Bool) → eqb x y ≡ e → cond l Less (cond e Equal Greater) ≡ Equal → x ≡ y
    by true e f h = absurd cc
    by false true f h = eqb-true x y f
    by false false f h = absurd cc

apart_then : (x y : ℕ) (o : Ordering) → nat_cmp x y ≡ o → (o ≡ Equal → ⊥) → nat_eq y x ≡ false
apart_then x y o h never = by (eqb y x) refl
  where
    by : (b : Bool) → eqb y x ≡ b → b ≡ false
    by false e = refl
    by true e = absurd (never (sym h ∙ same (eqb-true y x e)))
      where
        same : y ≡ x → nat_cmp x y ≡ Equal
        same s = subst (λ z. nat_cmp z y ≡ Equal) s (self y)
          where
            self : (n : ℕ) → nat_cmp n n ≡ Equal
            self n = subst (λ b. cond b Less (cond (eqb n n) Equal Greater) ≡ Equal) (sym (not_less (ltb n n) refl)) (ap (λ b. cond b Equal Greater) (eq-eqb n n refl))
              where
                not_less : (b : Bool) → ltb n n ≡ b → b ≡ false
                not_less false e = refl
                not_less true e = let l = ltb-true n n e in absurd (omega (arith, l))

none_passes : (es : Items) (item : ℕ) → ((k : ℕ) → k < length es → (d : ℕ × ℕ) → nat_eq item (get_or es k d).0 ≡ false) → value_of es item ≡ None
none_passes [] item apart = refl
none_passes (e ∷ es) item apart = subst (λ b. cond b (Some e.1) (value_of es item) ≡ None) (sym (apart 0 (omega arith) e)) (none_passes es item (λ k l d. apart (suc k) (omega arith) d))

pub place_found : (es : Items) (item : ℕ) (r : Result ℕ ℕ) → AreRising es → IsSearchInRange r (length es) → IsBinarySearchResult (λ (y : ℕ × ℕ). nat_cmp y.0 item) es r → IsPlaceOf es item (result_ok r)
place_found es item (Ok i) rising within found =
    let e : ℕ × ℕ = get_or es i (0, 0) in
    let same : e.0 ≡ item = equal_then e.0 item (found (0, 0)) in
    (e.1, slice_get-get_or es i (0, 0) within ∙ ap (λ k. Some (k, e.1)) same)
place_found es item (Err i) rising within found =
    let parts = found (searchable_from_sorted nat_cmp_total (λ (y : ℕ × ℕ). y.0) es item rising) in
    none_passes es item (λ k l d. by k l d (ltb k i) refl parts)
  where
    by : (k : ℕ) → k < length es → (d : ℕ × ℕ) → (b : Bool) → ltb k i ≡ b → IsPartitionPoint (λ (y : ℕ × ℕ). nat_cmp y.0 item ≡ Less) (λ y. nat_cmp y.0 item ≡ Greater) es i → nat_eq item (get_or es k d).0 ≡ false
    by k l d true below parts = apart_then (get_or es k d).0 item Less (parts.0 k d (omega arith) (ltb-true k i below)) (λ e. cc)
    by k l d false above parts = apart_then (get_or es k d).0 item Greater (parts.1 k d (ltb-false k i above) l) (λ e. cc)

-- what stands at the place is read there
pub stands : (es rows : Items) (item at : ℕ) (e : ℕ × ℕ) → rows ≡ es → IsPlaceOf rows item (Some at) → e ≡ get_or es at e → slice_get es at ≡ Some e
stands es rows item at e same h here =
    let k : slice_get es at ≡ Some (item, h.0) = subst (λ (l : Items). slice_get l at ≡ Some (item, h.0)) same h.1 in
    k ∙ ap Some (sym (here ∙ get_or_from_slice_get es at (item, h.0) e k))

-- what stands at the place is the item's value
pub value_there : (es : Items) (item at : ℕ) (e : ℕ × ℕ) → AreApart es → IsPlaceOf es item (Some at) → slice_get es at ≡ Some e → value_of es item ≡ Some e.1
value_there es item at e apart h here =
    let same : e ≡ (item, h.0) = cc in
    subst (λ v. value_of es item ≡ Some v) (sym (ap (λ (p : ℕ × ℕ). p.1) same)) (lookup_from_place nat_eq_equiv es at item h.0 apart h.1)

-- one value changed keeps the items
pub same_keys : (es : Items) (at : ℕ) (e : ℕ × ℕ) (w : ℕ) → slice_get es at ≡ Some e → keys_of (set es at (e.0, w)) ≡ keys_of es
same_keys [] at e w h = refl
same_keys (x ∷ es) zero e w h = let same : x ≡ e = cc in ap (λ (y : ℕ × ℕ). y.0 ∷ keys_of es) (sym same)
same_keys (x ∷ es) (suc k) e w h = ap (λ ks. x.0 ∷ ks) (same_keys es k e w h)

same_item : (es : Items) (at : ℕ) (e : ℕ × ℕ) (w : ℕ) → slice_get es at ≡ Some e → (k : ℕ) (d : ℕ × ℕ) → (get_or (set es at (e.0, w)) k d).0 ≡ (get_or es k d).0
same_item [] at e w h k d = refl
same_item (x ∷ es) zero e w h zero d = let same : x ≡ e = cc in ap (λ (y : ℕ × ℕ). y.0) (sym same)
same_item (x ∷ es) zero e w h (suc k) d = refl
same_item (x ∷ es) (suc at) e w h zero d = refl
same_item (x ∷ es) (suc at) e w h (suc k) d = same_item es at e w h k d

same_length : (es : Items) (at : ℕ) (e : ℕ × ℕ) → length (set es at e) ≡ length es
same_length [] at e = refl
same_length (x ∷ es) zero e = refl
same_length (x ∷ es) (suc at) e = ap suc (same_length es at e)

pub still_apart : (es : Items) (at : ℕ) (e : ℕ × ℕ) (w : ℕ) → slice_get es at ≡ Some e → AreApart es → AreApart (set es at (e.0, w))
still_apart es at e w h apart = subst (λ ks. IsDistinct nat_eq ks) (sym (same_keys es at e w h)) apart

pub still_rising : (es : Items) (at : ℕ) (e : ℕ × ℕ) (w : ℕ) → slice_get es at ≡ Some e → AreRising es → AreRising (set es at (e.0, w))
still_rising es at e w h rising = λ k d low high.
    ap (λ i. is_lt (nat_cmp i (get_or (set es at (e.0, w)) k d).0)) (same_item es at e w h (k + 1) d) ∙ (ap (λ i. is_lt (nat_cmp (get_or es (k + 1) d).0 i)) (same_item es at e w h k d) ∙ rising k d low (subst (λ n. k + 1 < n) (same_length es at (e.0, w)) high))

-- and changes that item's value alone
two_tests : (a b : Bool) (x y : Option ℕ) (z : Option ℕ) → (b ≡ true → a ≡ false) → cond b x (cond a y z) ≡ cond a y (cond b x z)
two_tests true true x y z never = absurd (false≢true (sym (never refl)))
two_tests true false x y z never = refl
two_tests false true x y z never = refl
two_tests false false x y z never = refl

none_later : (es : Items) (item at v : ℕ) → AllByRecursion (λ y. nat_eq item y ≡ false) (keys_of es) → slice_get es at ≡ Some (item, v) → ⊥
none_later [] item at v none h = cc
none_later (x ∷ es) item zero v none h =
    let same : x ≡ (item, v) = cc in
    let it : x.0 ≡ item = ap (λ (p : ℕ × ℕ). p.0) same in
    let no = eqb-false item x.0 none.0 in
    no (sym it)
none_later (x ∷ es) item (suc at) v none h = none_later es item at v none.1 h

pub changed : (es : Items) (at item v w i : ℕ) → slice_get es at ≡ Some (item, v) → AreApart es → value_of (set es at (item, w)) i ≡ cond (eqb i item) (Some w) (value_of es i)
changed [] at item v w i h apart = absurd cc
changed (x ∷ es) zero item v w i h apart =
    let same : x ≡ (item, v) = cc in
    subst (λ (p : ℕ × ℕ). cond (eqb i item) (Some w) (value_of es i) ≡ cond (eqb i item) (Some w) (cond (eqb i p.0) (Some p.1) (value_of es i))) (sym same) (twice (eqb i item) (value_of es i))
  where
    twice : (b : Bool) (o : Option ℕ) → cond b (Some w) o ≡ cond b (Some w) (cond b (Some v) o)
    twice true o = refl
    twice false o = refl
changed (x ∷ es) (suc at) item v w i h apart =
    ap (λ o. cond (eqb i x.0) (Some x.1) o) (changed es at item v w i h (IsDistinct-tail nat_eq x.0 (keys_of es) apart)) ∙ two_tests (eqb i item) (eqb i x.0) (Some x.1) (Some w) (value_of es i) not_both
  where
    not_both : eqb i x.0 ≡ true → eqb i item ≡ false
    not_both t = by (eqb i item) refl
      where
        by : (b : Bool) → eqb i item ≡ b → b ≡ false
        by false e = refl
        by true e =
            let first : i ≡ x.0 = eqb-true i x.0 t in
            let second : i ≡ item = eqb-true i item e in
            absurd (none_later es x.0 at v (IsDistinct-head nat_eq x.0 (keys_of es) apart) (h ∙ ap (λ k. Some (k, v)) (sym second ∙ first)))

pub changed_there : (es : Items) (at item w : ℕ) (e : ℕ × ℕ) (i : ℕ) → AreApart es → IsPlaceOf es item (Some at) → slice_get es at ≡ Some e → value_of (set es at (e.0, w)) i ≡ with_value item w i (value_of es i)
changed_there es at item w e i apart h here =
    let same : e ≡ (item, h.0) = cc in
    subst (λ (p : ℕ × ℕ). value_of (set es at (p.0, w)) i ≡ with_value item w i (value_of es i)) (sym same) (changed es at item h.0 w i h.1 apart ∙ by (eqb i item) refl)
  where
    by : (b : Bool) → eqb i item ≡ b → cond b (Some w) (value_of es i) ≡ cond b (option_map (λ _. w) (value_of es i)) (value_of es i)
    by false t = refl
    by true t = ap (option_map (λ _. w)) (sym (subst (λ k. value_of es k ≡ Some h.0) (sym (eqb-true i item t)) (lookup_from_place nat_eq_equiv es at item h.0 apart h.1)))

-- what the search among rising commands finds
pub listed_there : (xs : List ℕ) (c : ℕ) (r : Result ℕ ℕ) → IsNonDecreasing xs → IsBinarySearchResult (λ y. nat_cmp y c) xs r → is_ok r ≡ is_listed xs c
listed_there xs c (Ok i) rising found =
    let at = searched xs c (Ok i) found (λ a b le l. rising a b 0 le l) in
    sym (list_any_at (nat_eq c) xs i 0 at.0 (ap (nat_eq c) at.1 ∙ self c))
  where
    self : (n : ℕ) → nat_eq n n ≡ true
    self n = eq-eqb n n refl
listed_there xs c (Err i) rising found =
    let at = searched xs c (Err i) found (λ a b le l. rising a b 0 le l) in
    sym (list_any_none (nat_eq c) xs (λ k d l. by k d l (ltb k i) refl at))
  where
    unlike : (a b : ℕ) → (a ≡ b → ⊥) → nat_eq a b ≡ false
    unlike a b never = at (eqb a b) refl
      where
        at : (t : Bool) → eqb a b ≡ t → t ≡ false
        at false e = refl
        at true e = absurd (never (eqb-true a b e))

    by : (k d : ℕ) → k < length xs → (b : Bool) → ltb k i ≡ b → (i ≤ length xs) × ((k : ℕ) → k < i → get_or xs k 0 < c) × ((k : ℕ) → i ≤ k → k < length xs → c < get_or xs k 0) → nat_eq c (get_or xs k d) ≡ false
    by k d l true below at = let same = get_or_default xs k d l in let less = at.1 k (ltb-true k i below) in unlike c (get_or xs k d) (λ e. absurd (omega (arith, less, same, e)))
    by k d l false above at = let same = get_or_default xs k d l in let more = at.2 k (ltb-false k i above) l in unlike c (get_or xs k d) (λ e. absurd (omega (arith, more, same, e)))
