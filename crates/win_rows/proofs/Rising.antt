-- Lists whose numbers rise.
use Rattle.std.proofs.Common.{◌≡◌, ◌≢◌, inl, inr, ℕ, ◌<◌, ◌≤◌, suc, zero, List, [], ◌∷◌, length, get_or, map, Bool, true, false, ◌||◌, eqb, ltb, refl, sym, subst, arith}
use Rattle.std.specs.List.{list_any}
use Rattle.std.specs.List.Sorted.{IsNonDecreasingBy, IsPartitionPoint}
use Rattle.std.proofs.lemmas.Bool.{cases_lt, eq-eqb, ne_eqb, ltb-true, ltb-false}
use Rattle.win_num.specs.declared.message.Hwnd.{Hwnd}
use Rattle.win_rows.specs.declared.window.Window.{Window}
use Rattle.win_rows.specs.declared.rows.Place.{Place}
use Rattle.win_rows.specs.Windows.{number_of, RisesFrom}
use Rattle.win_rows.specs.Index.{place_number}

-- n rises along the list, from above a first number
abbrev pub RisesBy : {X : Type 0} → (X → ℕ) → ℕ → List X → Type 0
RisesBy n from [] = Unit {0}
RisesBy n from (x ∷ xs) = (from < n x) × RisesBy n (n x) xs

module _ {X : Type 0} (n : X → ℕ) where
  -- each is above the first number
  pub above_first : (from : ℕ) (xs : List X) (j : ℕ) (d : X) → RisesBy n from xs → j < length xs → from < n (get_or xs j d)
  above_first from [] j d h lt = absurd (omega (arith, lt))
  above_first from (x ∷ xs) zero d h lt = h.0
  above_first from (x ∷ xs) (suc j) d h lt = omega (arith, h.0, above_first (n x) xs j d h.1 (omega (arith, lt)))

  pub rises : (from : ℕ) (xs : List X) → RisesBy n from xs → IsNonDecreasingBy n xs
  rises from [] h i j d le lt = absurd (omega (arith, lt))
  rises from (x ∷ xs) h zero zero d le lt = omega arith
  rises from (x ∷ xs) h zero (suc j) d le lt = omega (arith, above_first (n x) xs j d h.1 (omega (arith, lt)))
  rises from (x ∷ xs) h (suc i) zero d le lt = absurd (omega (arith, le))
  rises from (x ∷ xs) h (suc i) (suc j) d le lt = rises (n x) xs h.1 i j d (omega (arith, le)) (omega (arith, lt))

  -- none has the number
  pub any_none : (xs : List X) (w : ℕ) → ((k : ℕ) (d : X) → k < length xs → n (get_or xs k d) ≢ w) → list_any (λ v. eqb (n v) w) xs ≡ false
  any_none [] w h = refl
  any_none (x ∷ xs) w h = rw (ne_eqb (n x) w (h 0 x (omega arith)), list_any) (any_none xs w (λ k d lt. h (suc k) d (omega (arith, lt))))

  -- one has the number
  pub any_some : (xs : List X) (w i : ℕ) (d : X) → i < length xs → n (get_or xs i d) ≡ w → list_any (λ v. eqb (n v) w) xs ≡ true
  any_some [] w i d lt e = absurd (omega (arith, lt))
  any_some (x ∷ xs) w zero d lt e = rw (eq-eqb (n x) w e, list_any) refl
  any_some (x ∷ xs) w (suc i) d lt e = or_right (eqb (n x) w) (any_some xs w i d (omega (arith, lt)) e)
    where
      or_right : (a : Bool) {b : Bool} → b ≡ true → (a || b) ≡ true
      or_right true h = refl
      or_right false h = h

  -- past the point each is greater, if the one there is
  pub none_past : (xs : List X) (w i : ℕ) → IsNonDecreasingBy n xs → IsPartitionPoint (λ y. ltb (n y) w ≡ true) (λ y. ltb (n y) w ≡ false) xs i → ((d : X) → i < length xs → n (get_or xs i d) ≢ w) → (k : ℕ) (d : X) → k < length xs → n (get_or xs k d) ≢ w
  none_past xs w i sorted point other k d lt e = elim (cases_lt k i) [
    | inl below ↦ omega (arith, e, ltb-true _ _ (point.0 k d (omega arith) below))
    | inr past ↦ let here : i < length xs = omega (arith, past, lt) in
        let high : w ≤ n (get_or xs i d) = ltb-false _ _ (point.1 i d (omega arith) here) in
        other d here (omega (arith, e, high, sorted i k d past lt))
  ]

-- the numbers of the places rise as those of the windows
pub places_rise : (from : ℕ) (ps : List Place) (ws : List Window) → map place_number ps ≡ map number_of ws → RisesFrom from ws → RisesBy (λ p. p.number.0) from ps
places_rise from [] ws e h = tt
places_rise from (p ∷ ps) [] e h = absurd (cc e)
places_rise from (p ∷ ps) (x ∷ ws) e h =
    let same : p.number ≡ x.number = cc e in
    (subst (λ (v : Hwnd). from < v.0) (sym same) h.0, subst (λ (v : Hwnd). RisesBy (λ q. q.number.0) v.0 ps) (sym same) (places_rise x.number.0 ps ws (cc e) h.1))
