-- The search among those that go.
use Rattle.std.proofs.Common.{◌≡◌, ℕ, ◌<◌, ◌≤◌, List, length, get_or, Bool, true, false, cond, eqb, ltb, Result, Ok, Err, is_ok, refl, sym, arith}
use Rattle.std.specs.Prelude.{slice_index_or}
use Rattle.std.specs.List.{All}
use Rattle.std.specs.List.Sorted.{IsBinarySearchResult, IsNonDecreasingBy, IsPartitionPoint, IsSearchInRange}
use Rattle.std.specs.Ordering.{nat_cmp, ordering_index}
use Rattle.std.specs.declared.cmp.Ordering.{Ordering}
use Rattle.std.specs.declared.cmp.Ordering.TheVariants.{Less, Equal, Greater}
use Rattle.std.proofs.lemmas.Bool.{eqb-true, eqb-false, ltb-true, ltb-false}
use Rattle.std.proofs.lemmas.List.Folds.{list_any_at, list_any_none}
use Rattle.win_num.specs.declared.message.Hwnd.{Hwnd}
use Rattle.win_order.specs.Layers.{is_among}

abbrev place : Bool → Bool → ℕ
place less same = ordering_index (cond less Less (cond same Equal Greater))

rises_by : (a b w : ℕ) (la ea lb eb : Bool) → ltb a w ≡ la → eqb a w ≡ ea → ltb b w ≡ lb → eqb b w ≡ eb → a ≤ b → place la ea ≤ place lb eb
rises_by a b w true ea true eb p q r s le = omega arith
rises_by a b w true ea false true p q r s le = omega arith
rises_by a b w true ea false false p q r s le = omega arith
rises_by a b w false true true eb p q r s le = let e = eqb-true a w q in let l = ltb-true b w r in absurd (omega (arith, e, l))
rises_by a b w false true false true p q r s le = omega arith
rises_by a b w false true false false p q r s le = omega arith
rises_by a b w false false true eb p q r s le = let l = ltb-true b w r in let g = ltb-false a w p in absurd (omega (arith, g, l))
rises_by a b w false false false true p q r s le = let e = eqb-true b w s in let g = ltb-false a w p in let n = eqb-false a w q in absurd (omega (arith, e, g, n))
rises_by a b w false false false false p q r s le = omega arith

rises : (a b w : ℕ) → a ≤ b → ordering_index (nat_cmp a w) ≤ ordering_index (nat_cmp b w)
rises a b w le = rises_by a b w (ltb a w) (eqb a w) (ltb b w) (eqb b w) refl refl refl refl le

equal_by : (less same : Bool) → cond less Less (cond same Equal Greater) ≡ Equal → same ≡ true
equal_by true same e = cc
equal_by false true e = refl
equal_by false false e = cc

apart_by : (less same : Bool) (o : Ordering) → cond less Less (cond same Equal Greater) ≡ o → (o ≡ Equal → ⊥) → (less ≡ true → same ≡ false) → same ≡ false
apart_by true same o e never other = other refl
apart_by false true o e never other = absurd (never (sym e))
apart_by false false o e never other = refl

less_apart : (a w : ℕ) (b : Bool) → eqb a w ≡ b → ltb a w ≡ true → b ≡ false
less_apart a w true e l = let s = eqb-true a w e in let t = ltb-true a w l in absurd (omega (arith, s, t))
less_apart a w false e l = refl

differs : (a w : ℕ) (o : Ordering) → nat_cmp a w ≡ o → (o ≡ Equal → ⊥) → eqb a w ≡ false
differs a w o e never = apart_by (ltb a w) (eqb a w) o e never (λ l. less_apart a w (eqb a w) refl l)

none_there : (gone : List Hwnd) (w i : ℕ) → IsPartitionPoint (λ (y : Hwnd). nat_cmp y.0 w ≡ Less) (λ y. nat_cmp y.0 w ≡ Greater) gone i → All (λ (v : Hwnd). eqb v.0 w ≡ false) gone
none_there gone w i parts = λ k d lt. by k d lt (ltb k i) refl
  where
    by : (k : ℕ) (d : Hwnd) → k < length gone → (b : Bool) → ltb k i ≡ b → eqb (get_or gone k d).0 w ≡ false
    by k d lt true below = differs (get_or gone k d).0 w Less (parts.0 k d (omega arith) (ltb-true k i below)) (λ e. cc)
    by k d lt false above = differs (get_or gone k d).0 w Greater (parts.1 k d (ltb-false k i above) lt) (λ e. cc)

-- the search finds exactly those that are among them
pub gone_search : (gone : List Hwnd) (w : ℕ) (r : Result ℕ ℕ) → IsNonDecreasingBy (λ (v : Hwnd). v.0) gone → IsSearchInRange r (length gone) → IsBinarySearchResult (λ (y : Hwnd). nat_cmp y.0 w) gone r → is_ok r ≡ is_among gone w
gone_search gone w (Ok i) rising within found =
    let none : Hwnd = record { 0 = 0 } in
    sym (list_any_at (λ (v : Hwnd). eqb v.0 w) gone i none within (equal_by (ltb (get_or gone i none).0 w) (eqb (get_or gone i none).0 w) (found none)))
gone_search gone w (Err i) rising within found = sym (list_any_none (λ (v : Hwnd). eqb v.0 w) gone (none_there gone w i (found (λ a b d le lt. rises (slice_index_or gone a d).0 (slice_index_or gone b d).0 w (rising a b d le lt)))))
