-- What stands where the index says.
use Rattle.std.proofs.Common.{◌≡◌, ◌≢◌, ◌∙◌, inl, inr, ℕ, ◌+◌, ◌<◌, ◌≤◌, suc, zero, List, [], ◌∷◌, ◌++◌, length, get_or, set, map, filter, find, Bool, Option, Some, None, is_some, IsSome, remove, refl, sym, ap, subst, arith}
use Rattle.std.proofs.lemmas.Bool.{cases_Bool, cases_eq, eq-eqb, ne_eqb}
use Rattle.std.proofs.lemmas.List.{map-append, get_or_default}
use Rattle.slab.specs.Slab.{Slab, get, Updates}
use Rattle.win_num.specs.declared.message.Hwnd.{Hwnd}
use Rattle.win_rows.specs.declared.window.Window.{Window}
use Rattle.win_rows.specs.declared.rows.Place.{Place}
use Rattle.win_rows.specs.Windows.{number_of, window_of, RisesFrom}
use Rattle.win_rows.specs.Index.{row_at, place_number, rows_at, has, kept_row, IsIndex, IsPlace, IsFreed}
use Rattle.win_rows.proofs.Rising.{above_first}

some_same : {A : Type 0} (a b : A) → Some a ≡ Some b → a ≡ b
some_same a b e = cc e

-- rows that are found at the places are the rows at them
pub rows_of : (s : Slab Window) (ps : List Place) (ws : List Window) → map (row_at s) ps ≡ map Some ws → rows_at s ps ≡ ws
rows_of s [] [] e = refl
rows_of s [] (x ∷ ws) e = absurd (cc e)
rows_of s (p ∷ ps) [] e = absurd (cc e)
rows_of s (p ∷ ps) (x ∷ ws) e =
    let here : row_at s p ≡ Some x = cc e in
    rw (here, rows_at) (ap (λ (us : List Window). x ∷ us) (rows_of s ps ws (cc e)))

pub same_length : (s : Slab Window) (ps : List Place) (ws : List Window) → map (row_at s) ps ≡ map Some ws → length ps ≡ length ws
same_length s [] [] e = refl
same_length s [] (x ∷ ws) e = absurd (cc e)
same_length s (p ∷ ps) [] e = absurd (cc e)
same_length s (p ∷ ps) (x ∷ ws) e = let rest : map (row_at s) ps ≡ map Some ws = cc e in ap suc (same_length s ps ws rest)

-- the row at a place is the window there
pub at_place : (s : Slab Window) (ps : List Place) (ws : List Window) (i : ℕ) (p : Place) (d : Window) → map (row_at s) ps ≡ map Some ws → i < length ps → p ≡ get_or ps i p → row_at s p ≡ Some (get_or ws i d)
at_place s [] ws i p d e lt is = absurd (omega (arith, lt))
at_place s (q ∷ ps) [] i p d e lt is = absurd (cc e)
at_place s (q ∷ ps) (x ∷ ws) zero p d e lt is = let here : row_at s q ≡ Some x = cc e in ap (row_at s) is ∙ here
at_place s (q ∷ ps) (x ∷ ws) (suc i) p d e lt is = let rest : map (row_at s) ps ≡ map Some ws = cc e in at_place s ps ws i p d rest (omega (arith, lt)) is

-- there is a row at each place
some_each : (s : Slab Window) (ps : List Place) (ws : List Window) (i : ℕ) (p : Place) → map (row_at s) ps ≡ map Some ws → i < length ps → p ≡ get_or ps i p → IsSome (row_at s p)
some_each s [] ws i p e lt is = absurd (omega (arith, lt))
some_each s (q ∷ ps) [] i p e lt is = absurd (cc e)
some_each s (q ∷ ps) (x ∷ ws) zero p e lt is = let here : row_at s q ≡ Some x = cc e in ap is_some (ap (row_at s) is ∙ here)
some_each s (q ∷ ps) (x ∷ ws) (suc i) p e lt is = let rest : map (row_at s) ps ≡ map Some ws = cc e in some_each s ps ws i p rest (omega (arith, lt)) is

pub some_at : (s : Slab Window) (ps : List Place) (i : ℕ) (p : Place) → map (row_at s) ps ≡ map Some (rows_at s ps) → i < length (rows_at s ps) → p ≡ get_or ps i p → IsSome (row_at s p)
some_at s ps i p found lt is = some_each s ps (rows_at s ps) i p found (omega (arith, lt, same_length s ps (rows_at s ps) found)) is

pub row_there : (s : Slab Window) (ps : List Place) (i : ℕ) (p : Place) (x : Window) → map (row_at s) ps ≡ map Some (rows_at s ps) → i < length (rows_at s ps) → p ≡ get_or ps i p → row_at s p ≡ Some x → x ≡ get_or (rows_at s ps) i x
row_there s ps i p x found lt is here = some_same x (get_or (rows_at s ps) i x) (sym here ∙ at_place s ps (rows_at s ps) i p x found (omega (arith, lt, same_length s ps (rows_at s ps) found)) is)

-- its number too
pub number_at : (ps : List Place) (ws : List Window) (i : ℕ) (p : Place) (d : Window) → map place_number ps ≡ map number_of ws → i < length ps → p ≡ get_or ps i p → p.number ≡ (get_or ws i d).number
number_at [] ws i p d e lt is = absurd (omega (arith, lt))
number_at (q ∷ ps) [] i p d e lt is = absurd (cc e)
number_at (q ∷ ps) (x ∷ ws) zero p d e lt is = let here : q.number ≡ x.number = cc e in ap place_number is ∙ here
number_at (q ∷ ps) (x ∷ ws) (suc i) p d e lt is = let rest : map place_number ps ≡ map number_of ws = cc e in number_at ps ws i p d rest (omega (arith, lt)) is

number_here : (ps : List Place) (ws : List Window) (i : ℕ) (q : Place) (d : Window) → map place_number ps ≡ map number_of ws → i < length ps → (get_or ps i q).number ≡ (get_or ws i d).number
number_here [] ws i q d e lt = absurd (omega (arith, lt))
number_here (p ∷ ps) [] i q d e lt = absurd (cc e)
number_here (p ∷ ps) (x ∷ ws) zero q d e lt = let here : p.number ≡ x.number = cc e in here
number_here (p ∷ ps) (x ∷ ws) (suc i) q d e lt = let rest : map place_number ps ≡ map number_of ws = cc e in number_here ps ws i q d rest (omega (arith, lt))

-- the first window of a number is the only one
pub found_at : (from : ℕ) (ws : List Window) (i w : ℕ) (x : Window) → RisesFrom from ws → i < length ws → x ≡ get_or ws i x → x.number.0 ≡ w → window_of ws w ≡ Some x
found_at from [] i w x h lt is e = absurd (omega (arith, lt))
found_at from (y ∷ ws) zero w x h lt is e = rw (eq-eqb y.number.0 w (ap (λ (z : Window). z.number.0) (sym is) ∙ e), window_of, find) (ap Some (sym is))
found_at from (y ∷ ws) (suc i) w x h lt is e =
    let above : y.number.0 < (get_or ws i x).number.0 = above_first (λ (z : Window). z.number.0) y.number.0 ws i x h.1 (omega (arith, lt)) in
    let same : x.number.0 ≡ (get_or ws i x).number.0 = ap (λ (z : Window). z.number.0) is in
    rw (ne_eqb y.number.0 w (λ k. omega (arith, above, same, e, k)), window_of, find) (found_at y.number.0 ws i w x h.1 (omega (arith, lt)) is e)

pub none_at : (ws : List Window) (w : ℕ) → ((k : ℕ) (d : Window) → k < length ws → (get_or ws k d).number.0 ≢ w) → window_of ws w ≡ None
none_at [] w h = refl
none_at (x ∷ ws) w h = rw (ne_eqb x.number.0 w (h 0 x (omega arith)), window_of, find) (none_at ws w (λ k d lt. h (suc k) d (omega (arith, lt))))

-- a place before another has another key
apart_keys : (s : Slab Window) (ps : List Place) (ws : List Window) (i : ℕ) (p q : Place) (y : Window) → RisesFrom y.number.0 ws → map (row_at s) ps ≡ map Some ws → i < length ps → p ≡ get_or ps i p → row_at s q ≡ Some y → q.key ≢ p.key
apart_keys s ps ws i p q y h e lt is here same =
    let there : row_at s p ≡ Some (get_or ws i y) = at_place s ps ws i p y e lt is in
    let one : y ≡ get_or ws i y = some_same y (get_or ws i y) (sym here ∙ ap (get s) same ∙ there) in
    let above : y.number.0 < (get_or ws i y).number.0 = above_first (λ (z : Window). z.number.0) y.number.0 ws i y h (omega (arith, lt, same_length s ps ws e)) in
    omega (arith, above, ap (λ (z : Window). z.number.0) one)

module _ (s s' : Slab Window) (key : ℕ) (others : (other : ℕ) → other ≢ key → get s' other ≡ get s other) where
  -- a key that has none of these windows changes none of them
  pub unchanged : (from : ℕ) (ps : List Place) (ws : List Window) → RisesFrom from ws → map (row_at s) ps ≡ map Some ws → ((z : Window) → get s key ≡ Some z → z.number.0 ≤ from) → map (row_at s') ps ≡ map (row_at s) ps
  unchanged from [] ws h e old = refl
  unchanged from (p ∷ ps) [] h e old = absurd (cc e)
  unchanged from (p ∷ ps) (x ∷ ws) h e old =
      let here : row_at s p ≡ Some x = cc e in
      let rest : map (row_at s) ps ≡ map Some ws = cc e in
      let other : p.key ≢ key = λ k. let low = old x (ap (get s) (sym k) ∙ here) in omega (arith, low, h.0) in
      ap (λ (o : Option Window). o ∷ map (row_at s') ps) (others p.key other)
      ∙ ap (λ (os : List (Option Window)). row_at s p ∷ os) (unchanged x.number.0 ps ws h.1 rest (λ z k. omega (arith, old z k, h.0)))

  -- what stands under the key changes at its place alone
  pub changed_one : (from : ℕ) (ps : List Place) (ws : List Window) (i : ℕ) (p : Place) (x : Window) → RisesFrom from ws → map (row_at s) ps ≡ map Some ws → i < length ps → p ≡ get_or ps i p → p.key ≡ key → get s' key ≡ Some x → map (row_at s') ps ≡ map Some (set ws i x)
  changed_one from [] ws i p x h e lt is k new = absurd (omega (arith, lt))
  changed_one from (q ∷ ps) [] i p x h e lt is k new = absurd (cc e)
  changed_one from (q ∷ ps) (y ∷ ws) zero p x h e lt is k new =
      let here : row_at s q ≡ Some y = cc e in
      let rest : map (row_at s) ps ≡ map Some ws = cc e in
      let is_key : q.key ≡ key = ap (λ (r : Place). r.key) (sym is) ∙ k in
      let was : get s key ≡ Some y = ap (get s) (sym is_key) ∙ here in
      let now : row_at s' q ≡ Some x = ap (get s') is_key ∙ new in
      ap (λ (o : Option Window). o ∷ map (row_at s') ps) now
      ∙ ap (λ (os : List (Option Window)). Some x ∷ os) (unchanged y.number.0 ps ws h.1 rest (λ z found. let same : z ≡ y = some_same z y (sym found ∙ was) in omega (arith, ap (λ (u : Window). u.number.0) same)) ∙ rest)
  changed_one from (q ∷ ps) (y ∷ ws) (suc i) p x h e lt is k new =
      let here : row_at s q ≡ Some y = cc e in
      let rest : map (row_at s) ps ≡ map Some ws = cc e in
      let short : i < length ps = omega (arith, lt) in
      let other : q.key ≢ key = λ same. apart_keys s ps ws i p q y h.1 rest short is here (same ∙ sym k) in
      let now : row_at s' q ≡ Some y = others q.key other ∙ here in
      ap (λ (o : Option Window). o ∷ map (row_at s') ps) now
      ∙ ap (λ (os : List (Option Window)). Some y ∷ os) (changed_one y.number.0 ps ws i p x h.1 rest short is k new)

  -- without the place of the key
  pub removed_one : (from : ℕ) (ps : List Place) (ws : List Window) (i : ℕ) (p : Place) → RisesFrom from ws → map (row_at s) ps ≡ map Some ws → i < length ps → p ≡ get_or ps i p → p.key ≡ key → map (row_at s') (remove ps i) ≡ map Some (remove ws i)
  removed_one from [] ws i p h e lt is k = absurd (omega (arith, lt))
  removed_one from (q ∷ ps) [] i p h e lt is k = absurd (cc e)
  removed_one from (q ∷ ps) (y ∷ ws) zero p h e lt is k =
      let here : row_at s q ≡ Some y = cc e in
      let rest : map (row_at s) ps ≡ map Some ws = cc e in
      let was : get s key ≡ Some y = ap (get s) (sym (ap (λ (r : Place). r.key) (sym is) ∙ k)) ∙ here in
      unchanged y.number.0 ps ws h.1 rest (λ z found. let same : z ≡ y = some_same z y (sym found ∙ was) in omega (arith, ap (λ (u : Window). u.number.0) same)) ∙ rest
  removed_one from (q ∷ ps) (y ∷ ws) (suc i) p h e lt is k =
      let here : row_at s q ≡ Some y = cc e in
      let rest : map (row_at s) ps ≡ map Some ws = cc e in
      let short : i < length ps = omega (arith, lt) in
      let other : q.key ≢ key = λ same. apart_keys s ps ws i p q y h.1 rest short is here (same ∙ sym k) in
      let now : row_at s' q ≡ Some y = others q.key other ∙ here in
      ap (λ (o : Option Window). o ∷ map (row_at s') (remove ps i)) now
      ∙ ap (λ (os : List (Option Window)). Some y ∷ os) (removed_one y.number.0 ps ws i p h.1 rest short is k)

-- a number that stays, in place of one
pub rises_set : (from : ℕ) (ws : List Window) (i : ℕ) (x : Window) → RisesFrom from ws → i < length ws → x.number ≡ (get_or ws i x).number → RisesFrom from (set ws i x)
rises_set from [] i x h lt e = absurd (omega (arith, lt))
rises_set from (y ∷ ws) zero x h lt e = (subst (λ (v : Hwnd). from < v.0) (sym e) h.0, subst (λ (v : Hwnd). RisesFrom v.0 ws) (sym e) h.1)
rises_set from (y ∷ ws) (suc i) x h lt e = (h.0, rises_set y.number.0 ws i x h.1 (omega (arith, lt)) e)

numbers_set : (ws : List Window) (i : ℕ) (x : Window) → i < length ws → x.number ≡ (get_or ws i x).number → map number_of (set ws i x) ≡ map number_of ws
numbers_set [] i x lt e = absurd (omega (arith, lt))
numbers_set (y ∷ ws) zero x lt e = ap (λ (v : Hwnd). v ∷ map number_of ws) e
numbers_set (y ∷ ws) (suc i) x lt e = ap (λ (vs : List Hwnd). y.number ∷ vs) (numbers_set ws i x (omega (arith, lt)) e)

-- a lesser bound serves too
rises_lower : (less from : ℕ) (ws : List Window) → less ≤ from → RisesFrom from ws → RisesFrom less ws
rises_lower less from [] le h = tt
rises_lower less from (x ∷ ws) le h = (omega (arith, le, h.0), h.1)

rises_remove : (from : ℕ) (ws : List Window) (i : ℕ) → RisesFrom from ws → RisesFrom from (remove ws i)
rises_remove from [] zero h = tt
rises_remove from [] (suc i) h = tt
rises_remove from (x ∷ ws) zero h = rises_lower from x.number.0 ws (omega (arith, h.0)) h.1
rises_remove from (x ∷ ws) (suc i) h = (h.0, rises_remove x.number.0 ws i h.1)

pub map-remove : {A B : Type 0} (f : A → B) (xs : List A) (i : ℕ) → map f (remove xs i) ≡ remove (map f xs) i
map-remove f [] zero = refl
map-remove f [] (suc i) = refl
map-remove f (x ∷ xs) zero = refl
map-remove f (x ∷ xs) (suc i) = ap (λ ys. f x ∷ ys) (map-remove f xs i)

pub rises_filter : (p : Window → Bool) (from : ℕ) (ws : List Window) → RisesFrom from ws → RisesFrom from (filter p ws)
rises_filter p from [] h = tt
rises_filter p from (x ∷ ws) h =
    let rest = rises_filter p x.number.0 ws h.1 in
    elim (cases_Bool (p x)) [
      | inl k ↦ rw (k, filter) (h.0, rest)
      | inr k ↦ rw (k, filter) (rises_lower from x.number.0 (filter p ws) (omega (arith, h.0)) rest)
    ]

-- an index of the windows that are found at the places
made_index : (s : Slab Window) (ps : List Place) (ws : List Window) → map (row_at s) ps ≡ map Some ws → map place_number ps ≡ map number_of ws → RisesFrom 0 ws → IsIndex s ps
made_index s ps ws found numbers rising =
    let same = rows_of s ps ws found in
    record {
      found = found ∙ ap (map Some) (sym same);
      numbers = numbers ∙ ap (map number_of) (sym same);
      rising = subst (λ (us : List Window). RisesFrom 0 us) (sym same) rising;
    }

module _ (s s' : Slab Window) (ps ps' : List Place) (index : IsIndex s ps) where
  -- with one window more
  module _ (x : Window) (key : ℕ) (vacant : get s key ≡ None) (updates : Updates s s' key (Some x)) (place : Place) (is_key : place.key ≡ key) (is_number : place.number ≡ x.number) (put : ps' ≡ ps ++ place ∷ []) where
    pushed : map (row_at s') (ps ++ place ∷ []) ≡ map Some (rows_at s ps ++ x ∷ [])
    pushed =
        let old = unchanged s s' key updates.others 0 ps (rows_at s ps) index.rising index.found (λ z k. absurd (cc (vacant, k))) in
        let now : row_at s' place ≡ Some x = ap (get s') is_key ∙ updates.changed in
        map-append (row_at s') ps (place ∷ [])
        ∙ ap (λ (os : List (Option Window)). os ++ row_at s' place ∷ []) (old ∙ index.found)
        ∙ ap (λ (o : Option Window). map Some (rows_at s ps) ++ o ∷ []) now
        ∙ sym (map-append Some (rows_at s ps) (x ∷ []))

    pub pushed_rows : rows_at s' ps' ≡ rows_at s ps ++ x ∷ []
    pushed_rows = ap (rows_at s') put ∙ rows_of s' (ps ++ place ∷ []) (rows_at s ps ++ x ∷ []) pushed

    pub pushed_index : RisesFrom 0 (rows_at s ps ++ x ∷ []) → IsIndex s' ps'
    pushed_index rising = made_index s' ps' (rows_at s ps ++ x ∷ []) (ap (map (row_at s')) put ∙ pushed)
        (ap (map place_number) put ∙ map-append place_number ps (place ∷ [])
        ∙ ap (λ (vs : List Hwnd). vs ++ place.number ∷ []) index.numbers
        ∙ ap (λ (v : Hwnd). map number_of (rows_at s ps) ++ v ∷ []) is_number
        ∙ sym (map-append number_of (rows_at s ps) (x ∷ [])))
        rising

  -- with another window in the place of one with the same number
  module _ (i : ℕ) (p : Place) (x : Window) (lt : i < length (rows_at s ps)) (is : p ≡ get_or ps i p) (updates : Updates s s' p.key (Some x)) (number : x.number ≡ (get_or (rows_at s ps) i x).number) where
    put_found : map (row_at s') ps ≡ map Some (set (rows_at s ps) i x)
    put_found = changed_one s s' p.key updates.others 0 ps (rows_at s ps) i p x index.rising index.found (omega (arith, lt, same_length s ps (rows_at s ps) index.found)) is refl updates.changed

    pub put_rows : rows_at s' ps ≡ set (rows_at s ps) i x
    put_rows = rows_of s' ps (set (rows_at s ps) i x) put_found

    pub put_index : IsIndex s' ps
    put_index = made_index s' ps (set (rows_at s ps) i x) put_found (index.numbers ∙ sym (numbers_set (rows_at s ps) i x lt number)) (rises_set 0 (rows_at s ps) i x index.rising lt number)

  -- without one
  module _ (i : ℕ) (p : Place) (lt : i < length (rows_at s ps)) (is : p ≡ get_or ps i p) (others : (other : ℕ) → other ≢ p.key → get s' other ≡ get s other) (put : ps' ≡ remove ps i) where
    taken : map (row_at s') (remove ps i) ≡ map Some (remove (rows_at s ps) i)
    taken = removed_one s s' p.key others 0 ps (rows_at s ps) i p index.rising index.found (omega (arith, lt, same_length s ps (rows_at s ps) index.found)) is refl

    pub taken_rows : rows_at s' ps' ≡ remove (rows_at s ps) i
    taken_rows = ap (rows_at s') put ∙ rows_of s' (remove ps i) (remove (rows_at s ps) i) taken

    pub taken_index : IsIndex s' ps'
    taken_index = made_index s' ps' (remove (rows_at s ps) i) (ap (map (row_at s')) put ∙ taken)
        (ap (map place_number) put ∙ map-remove place_number ps i ∙ ap (λ (vs : List Hwnd). remove vs i) index.numbers ∙ sym (map-remove number_of (rows_at s ps) i))
        (rises_remove 0 (rows_at s ps) i index.rising)

module _ (s : Slab Window) (ps : List Place) (index : IsIndex s ps) (w i : ℕ) where
  pub place_found : (q : Place) → i < length ps → q ≡ get_or ps i q → q.number.0 ≡ w → IsPlace (rows_at s ps) w i
  place_found q lt is e = record {
    within = omega (arith, lt, same_length s ps (rows_at s ps) index.found);
    same = λ x there. sym (ap (λ (v : Hwnd). v.0) (number_at ps (rows_at s ps) i q x index.numbers lt is ∙ ap number_of (sym there))) ∙ e;
    found = λ x there. found_at 0 (rows_at s ps) i w x index.rising (omega (arith, lt, same_length s ps (rows_at s ps) index.found)) there
        (sym (ap (λ (v : Hwnd). v.0) (number_at ps (rows_at s ps) i q x index.numbers lt is ∙ ap number_of (sym there))) ∙ e);
  }

  pub place_missed : ((k : ℕ) (q : Place) → k < length ps → (get_or ps k q).number.0 ≢ w) → window_of (rows_at s ps) w ≡ None
  place_missed none = none_at (rows_at s ps) w (λ k d lt e.
      let long : k < length ps = omega (arith, lt, same_length s ps (rows_at s ps) index.found) in
      let q : Place = record { number = d.number; key = 0 } in
      none k q long (ap (λ (v : Hwnd). v.0) (number_here ps (rows_at s ps) k q d index.numbers long) ∙ e))

-- a row that was kept is kept
kept_again : (ks : List Hwnd) (o : Option Window) → kept_row ks (kept_row ks o) ≡ kept_row ks o
kept_again ks None = refl
kept_again ks (Some x) = elim (cases_Bool (has ks x)) [ inl h ↦ rw (h, kept_row) (rw (h, kept_row) refl) | inr h ↦ rw (h, kept_row) refl ]

-- before the first place
pub freed_none : (ks : List Hwnd) (ps : List Place) (s : Slab Window) → IsFreed ks ps 0 s s
freed_none ks ps s = record { done = λ j p lt is. absurd (omega (arith, lt)); each = λ key. inl refl }

module _ (ks : List Hwnd) (ps : List Place) (i : ℕ) (old s s' : Slab Window) (p : Place) (freed : IsFreed ks ps i old s) (updates : Updates s s' p.key (kept_row ks (get s p.key))) (lt : i < length ps) (is : p ≡ get_or ps i p) where
  here_kept : get s' p.key ≡ kept_row ks (get old p.key)
  here_kept = updates.changed ∙ elim (freed.each p.key) [
    | inl same ↦ ap (kept_row ks) same
    | inr kept ↦ ap (kept_row ks) kept ∙ kept_again ks (get old p.key)
  ]

  -- one place more
  pub freed_more : IsFreed ks ps (i + 1) old s'
  freed_more = record {
    done = λ j q below there. elim (cases_eq q.key p.key) [
      | inl same ↦ ap (get s') same ∙ here_kept ∙ ap (λ k. kept_row ks (get old k)) (sym same)
      | inr other ↦ updates.others q.key other ∙ elim (cases_eq j i) [
        | inl at ↦ absurd (other (ap (λ (r : Place). r.key) (there ∙ ap (λ k. get_or ps k q) at ∙ get_or_default ps i q p lt ∙ sym is)))
        | inr before ↦ freed.done j q (omega (arith, below, before)) there
      ]
    ];
    each = λ key. elim (cases_eq key p.key) [
      | inl same ↦ inr (ap (get s') same ∙ here_kept ∙ ap (λ k. kept_row ks (get old k)) (sym same))
      | inr other ↦ elim (freed.each key) [ inl e ↦ inl (updates.others key other ∙ e) | inr e ↦ inr (updates.others key other ∙ e) ]
    ];
  }

-- the places whose rows are left
kept_found : (ks : List Hwnd) (s s' : Slab Window) (ps : List Place) (ws : List Window) → map (row_at s) ps ≡ map Some ws → ((j : ℕ) (p : Place) → j < length ps → p ≡ get_or ps j p → row_at s' p ≡ kept_row ks (row_at s p)) → map (row_at s') (filter (λ p. is_some (row_at s' p)) ps) ≡ map Some (filter (has ks) ws)
kept_found ks s s' [] [] e each = refl
kept_found ks s s' [] (x ∷ ws) e each = absurd (cc e)
kept_found ks s s' (p ∷ ps) [] e each = absurd (cc e)
kept_found ks s s' (p ∷ ps) (x ∷ ws) e each =
    let here : row_at s p ≡ Some x = cc e in
    let rest : map (row_at s) ps ≡ map Some ws = cc e in
    let later = kept_found ks s s' ps ws rest (λ j q lt is. each (suc j) q (omega (arith, lt)) is) in
    let now : row_at s' p ≡ kept_row ks (Some x) = each 0 p (omega arith) refl ∙ ap (kept_row ks) here in
    elim (cases_Bool (has ks x)) [
      | inl h ↦
          let row : row_at s' p ≡ Some x = now ∙ rw (h, kept_row) refl in
          rw (ap is_some row, h, filter) (ap (λ (o : Option Window). o ∷ map (row_at s') (filter (λ q. is_some (row_at s' q)) ps)) row ∙ ap (λ (os : List (Option Window)). Some x ∷ os) later)
      | inr h ↦
          let row : row_at s' p ≡ None = now ∙ rw (h, kept_row) refl in
          rw (ap is_some row, h, filter) later
    ]

kept_numbers : (ks : List Hwnd) (s s' : Slab Window) (ps : List Place) (ws : List Window) → map (row_at s) ps ≡ map Some ws → map place_number ps ≡ map number_of ws → ((j : ℕ) (p : Place) → j < length ps → p ≡ get_or ps j p → row_at s' p ≡ kept_row ks (row_at s p)) → map place_number (filter (λ p. is_some (row_at s' p)) ps) ≡ map number_of (filter (has ks) ws)
kept_numbers ks s s' [] [] e n each = refl
kept_numbers ks s s' [] (x ∷ ws) e n each = absurd (cc e)
kept_numbers ks s s' (p ∷ ps) [] e n each = absurd (cc e)
kept_numbers ks s s' (p ∷ ps) (x ∷ ws) e n each =
    let here : row_at s p ≡ Some x = cc e in
    let rest : map (row_at s) ps ≡ map Some ws = cc e in
    let number : p.number ≡ x.number = cc n in
    let numbers : map place_number ps ≡ map number_of ws = cc n in
    let later = kept_numbers ks s s' ps ws rest numbers (λ j q lt is. each (suc j) q (omega (arith, lt)) is) in
    let now : row_at s' p ≡ kept_row ks (Some x) = each 0 p (omega arith) refl ∙ ap (kept_row ks) here in
    elim (cases_Bool (has ks x)) [
      | inl h ↦
          let row : row_at s' p ≡ Some x = now ∙ rw (h, kept_row) refl in
          rw (ap is_some row, h, filter) (ap (λ (v : Hwnd). v ∷ map place_number (filter (λ q. is_some (row_at s' q)) ps)) number ∙ ap (λ (vs : List Hwnd). x.number ∷ vs) later)
      | inr h ↦
          let row : row_at s' p ≡ None = now ∙ rw (h, kept_row) refl in
          rw (ap is_some row, h, filter) later
    ]

module _ (ks : List Hwnd) (s s' : Slab Window) (ps ps' : List Place) (index : IsIndex s ps) (freed : IsFreed ks ps (length ps) s s') (put : ps' ≡ filter (λ p. is_some (row_at s' p)) ps) where
  kept_each : map (row_at s') ps' ≡ map Some (filter (has ks) (rows_at s ps))
  kept_each = ap (map (row_at s')) put ∙ kept_found ks s s' ps (rows_at s ps) index.found freed.done

  pub kept_rows : rows_at s' ps' ≡ filter (has ks) (rows_at s ps)
  kept_rows = rows_of s' ps' (filter (has ks) (rows_at s ps)) kept_each

  pub kept_index : IsIndex s' ps'
  kept_index = made_index s' ps' (filter (has ks) (rows_at s ps)) kept_each
      (ap (map place_number) put ∙ kept_numbers ks s s' ps (rows_at s ps) index.found index.numbers freed.done)
      (rises_filter (has ks) 0 (rows_at s ps) index.rising)
