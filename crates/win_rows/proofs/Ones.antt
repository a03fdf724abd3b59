-- A change of one window.
use Rattle.std.proofs.Common.{◌≡◌, ◌∙◌, inl, inr, ℕ, ◌<◌, ◌≤◌, suc, zero, List, [], ◌∷◌, length, get_or, set, map, filter, find, Bool, true, false, not, ◌||◌, eqb, Some, None, remove, refl, sym, ap, arith}
use Rattle.std.proofs.lemmas.Bool.{cases_Bool, eqb-true, eq-eqb, ne_eqb}
use Rattle.win_num.specs.declared.shapes.Rect.{Rect}
use Rattle.win_rows.specs.declared.window.Window.{Window}
use Rattle.win_rows.specs.Windows.{window_of, told_if, ended_if, marked_if, set_if, IsOrdered, RisesFrom}
use Rattle.win_rows.specs.Index.{IsPlace}
use Rattle.win_rows.proofs.Rising.{above_first}

pub rising : (less from last : ℕ) (ws : List Window) → less ≤ from → IsOrdered from last ws → RisesFrom less ws
rising less from last [] le h = tt
rising less from last (x ∷ ws) le h = (omega (arith, le, h.0), rising x.number.0 x.number.0 last ws (omega arith) h.2)

module _ (f : Window → Window) (w : ℕ) (same : (x : Window) → eqb x.number.0 w ≡ false → f x ≡ x) where
  map_above : (from : ℕ) (ws : List Window) → RisesFrom from ws → w ≤ from → map f ws ≡ ws
  map_above from [] h le = refl
  map_above from (x ∷ ws) h le =
      ap (λ (y : Window). y ∷ map f ws) (same x (ne_eqb x.number.0 w (λ e. omega (arith, e, le, h.0))))
      ∙ ap (λ (us : List Window). x ∷ us) (map_above x.number.0 ws h.1 (omega (arith, le, h.0)))

  map_at : (from : ℕ) (ws : List Window) (i : ℕ) (x : Window) → RisesFrom from ws → i < length ws → x ≡ get_or ws i x → x.number.0 ≡ w → set ws i (f x) ≡ map f ws
  map_at from [] i x h lt is e = absurd (omega (arith, lt))
  map_at from (y ∷ ws) zero x h lt is e =
      ap (λ (z : Window). f z ∷ ws) is
      ∙ ap (λ (us : List Window). f y ∷ us) (sym (map_above y.number.0 ws h.1 (omega (arith, e, ap (λ (z : Window). z.number.0) is))))
  map_at from (y ∷ ws) (suc i) x h lt is e =
      let above : y.number.0 < (get_or ws i x).number.0 = above_first (λ (z : Window). z.number.0) y.number.0 ws i x h.1 (omega (arith, lt)) in
      let number : x.number.0 ≡ (get_or ws i x).number.0 = ap (λ (z : Window). z.number.0) is in
      ap (λ (z : Window). z ∷ set ws i (f x)) (sym (same y (ne_eqb y.number.0 w (λ k. omega (arith, above, number, e, k)))))
      ∙ ap (λ (us : List Window). f y ∷ us) (map_at y.number.0 ws i x h.1 (omega (arith, lt)) is e)

  -- what changes one window alone
  pub map_one : (ws : List Window) (i : ℕ) (x : Window) → RisesFrom 0 ws → IsPlace ws w i → x ≡ get_or ws i x → set ws i (f x) ≡ map f ws
  map_one ws i x h place is = map_at 0 ws i x h place.within is (place.same x is)

  -- where it isn't there nothing changes
  pub map_none : (ws : List Window) → window_of ws w ≡ None → map f ws ≡ ws
  map_none [] h = refl
  map_none (x ∷ ws) h = elim (cases_Bool (eqb x.number.0 w)) [
    | inl k ↦ absurd (cc (h, here k))
    | inr k ↦ ap (λ (y : Window). y ∷ map f ws) (same x k) ∙ ap (λ (us : List Window). x ∷ us) (map_none ws (sym (skip k) ∙ h))
  ]
    where
      here : eqb x.number.0 w ≡ true → window_of (x ∷ ws) w ≡ Some x
      here k = rw (k, window_of, find) refl

      skip : eqb x.number.0 w ≡ false → window_of (x ∷ ws) w ≡ window_of ws w
      skip k = rw (k, window_of, find) refl

-- all but one window
filter_above : (from w : ℕ) (ws : List Window) → RisesFrom from ws → w ≤ from → filter (λ x. not (eqb x.number.0 w)) ws ≡ ws
filter_above from w [] h le = refl
filter_above from w (x ∷ ws) h le =
    rw (ne_eqb x.number.0 w (λ e. omega (arith, e, le, h.0)), filter) (ap (λ (us : List Window). x ∷ us) (filter_above x.number.0 w ws h.1 (omega (arith, le, h.0))))

filter_at : (from w : ℕ) (ws : List Window) (i : ℕ) (x : Window) → RisesFrom from ws → i < length ws → x ≡ get_or ws i x → x.number.0 ≡ w → remove ws i ≡ filter (λ y. not (eqb y.number.0 w)) ws
filter_at from w [] i x h lt is e = absurd (omega (arith, lt))
filter_at from w (y ∷ ws) zero x h lt is e =
    let number : y.number.0 ≡ w = sym (ap (λ (z : Window). z.number.0) is) ∙ e in
    rw (eq-eqb y.number.0 w number, filter) (sym (filter_above y.number.0 w ws h.1 (omega (arith, number))))
filter_at from w (y ∷ ws) (suc i) x h lt is e =
    let above : y.number.0 < (get_or ws i x).number.0 = above_first (λ (z : Window). z.number.0) y.number.0 ws i x h.1 (omega (arith, lt)) in
    let number : x.number.0 ≡ (get_or ws i x).number.0 = ap (λ (z : Window). z.number.0) is in
    rw (ne_eqb y.number.0 w (λ k. omega (arith, above, number, e, k)), filter) (ap (λ (us : List Window). y ∷ us) (filter_at y.number.0 w ws i x h.1 (omega (arith, lt)) is e))

-- what stands at a place
pub element : (ws : List Window) (i : ℕ) → i < length ws → (x : Window) × (x ≡ get_or ws i x)
element [] i lt = absurd (omega (arith, lt))
element (x ∷ ws) zero lt = (x, refl)
element (x ∷ ws) (suc i) lt = element ws i (omega (arith, lt))

pub filter_one : (ws : List Window) (w i : ℕ) → RisesFrom 0 ws → IsPlace ws w i → remove ws i ≡ filter (λ y. not (eqb y.number.0 w)) ws
filter_one ws w i h place = let e = element ws i place.within in filter_at 0 w ws i e.0 h place.within e.1 (place.same e.0 e.1)

pub filter_none : (ws : List Window) (w : ℕ) → window_of ws w ≡ None → filter (λ y. not (eqb y.number.0 w)) ws ≡ ws
filter_none [] w h = refl
filter_none (x ∷ ws) w h = elim (cases_Bool (eqb x.number.0 w)) [
  | inl k ↦ absurd (cc (h, here k))
  | inr k ↦ rw (k, filter) (ap (λ (us : List Window). x ∷ us) (filter_none ws w (sym (skip k) ∙ h)))
]
  where
    here : eqb x.number.0 w ≡ true → window_of (x ∷ ws) w ≡ Some x
    here k = rw (k, window_of, find) refl

    skip : eqb x.number.0 w ≡ false → window_of (x ∷ ws) w ≡ window_of ws w
    skip k = rw (k, window_of, find) refl

or_false : (b : Bool) → (b || false) ≡ b
or_false true = refl
or_false false = refl

-- other windows stay as they are
pub told_other : (w : ℕ) (x : Window) → eqb x.number.0 w ≡ false → told_if w x ≡ x
told_other w x h = ap (λ (b : Bool). let y : Window = record x { told = x.told || b } in y) h ∙ ap (λ (b : Bool). let y : Window = record x { told = b } in y) (or_false x.told)

pub ended_other : (w : ℕ) (x : Window) → eqb x.number.0 w ≡ false → ended_if w x ≡ x
ended_other w x h = ap (λ (b : Bool). let y : Window = record x { ended = x.ended || b } in y) h ∙ ap (λ (b : Bool). let y : Window = record x { ended = b } in y) (or_false x.ended)

pub marked_other : (w : ℕ) (x : Window) → eqb x.number.0 w ≡ false → marked_if w x ≡ x
marked_other w x h = ap (λ (b : Bool). let y : Window = record x { marked = x.marked || b } in y) h ∙ ap (λ (b : Bool). let y : Window = record x { marked = b } in y) (or_false x.marked)

pub set_other : (w style ex : ℕ) (place : Rect) (x : Window) → eqb x.number.0 w ≡ false → set_if w style ex place x ≡ x
set_other w style ex place x h = rw h refl

-- the window that is found has the number
pub number_is : (ws : List Window) (w : ℕ) (x : Window) → window_of ws w ≡ Some x → x.number.0 ≡ w
number_is [] w x h = absurd (cc h)
number_is (y ∷ ws) w x h = elim (cases_Bool (eqb y.number.0 w)) [
  | inl k ↦ let same : y ≡ x = some_same y x (sym (here k) ∙ h) in ap (λ (z : Window). z.number.0) (sym same) ∙ eqb-true y.number.0 w k
  | inr k ↦ number_is ws w x (sym (skip k) ∙ h)
]
  where
    some_same : (a c : Window) → Some a ≡ Some c → a ≡ c
    some_same a c e = cc e

    here : eqb y.number.0 w ≡ true → window_of (y ∷ ws) w ≡ Some y
    here k = rw (k, window_of, find) refl

    skip : eqb y.number.0 w ≡ false → window_of (y ∷ ws) w ≡ window_of ws w
    skip k = rw (k, window_of, find) refl
