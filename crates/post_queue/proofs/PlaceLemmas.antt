-- Places with rising numbers: one put last, some swept out, one taken.
use Rattle.std.proofs.Common.{◌≡◌, ◌∙◌, ◌⊎◌, inl, inr, ℕ, ◌<◌, ◌≤◌, ◌-◌, suc, zero, Bool, true, false, List, [], ◌∷◌, ◌++◌, length, cond, eqb, filter, drop, get_or, set, is_some, Option, Some, None, refl, sym, ap, subst, arith}
use Rattle.std.specs.Prelude.{All}
use Rattle.std.specs.List.{AllByRecursion}
use Rattle.std.specs.List.Sorted.{IsNonDecreasingBy}
use Rattle.std.proofs.lemmas.Bool.{cases_Bool, eqb-true, eq-eqb, ne_eqb}
use Rattle.std.proofs.lemmas.List.Elements.{recursion_from_All}
use Rattle.post_queue.specs.declared.index.Place.{Place}
use Rattle.post_queue.specs.Places.{kept_in, key_of, without_key, Rises, end_of, is_first, is_left}

-- a lesser bound serves too
pub lower : (less from : ℕ) (ps : List Place) → less ≤ from → Rises from ps → Rises less ps
lower less from [] le h = tt
lower less from (p ∷ ps) le h = (omega (arith, le, h.0), h.1)

kept_some : (p : Place) (ps : List Place) (k : ℕ) → p.key ≡ Some k → kept_in (p ∷ ps) ≡ (p.number, k) ∷ kept_in ps
kept_some p ps k is = ap (λ (o : Option ℕ). let es : List (ℕ × ℕ) = elim o [ Some key ↦ (p.number, key) ∷ kept_in ps | None ↦ kept_in ps ] in es) is

pub kept_none : (p : Place) (ps : List Place) → p.key ≡ None → kept_in (p ∷ ps) ≡ kept_in ps
kept_none p ps is = ap (λ (o : Option ℕ). let es : List (ℕ × ℕ) = elim o [ Some key ↦ (p.number, key) ∷ kept_in ps | None ↦ kept_in ps ] in es) is

option_cases : (o : Option ℕ) → ((k : ℕ) × (o ≡ Some k)) ⊎ (o ≡ None)
option_cases None = inr refl
option_cases (Some k) = inl (k, refl)

-- one put last
pub rises_more : (from : ℕ) (ps : List Place) (q : Place) → Rises from ps → end_of from ps ≤ q.number → Rises from (ps ++ q ∷ [])
rises_more from [] q h le = (le, tt)
rises_more from (p ∷ ps) q h le = (h.0, rises_more (suc p.number) ps q h.1 le)

pub kept_more : (ps : List Place) (q : Place) (k : ℕ) → q.key ≡ Some k → kept_in (ps ++ q ∷ []) ≡ kept_in ps ++ (q.number, k) ∷ []
kept_more [] q k is = kept_some q [] k is
kept_more (p ∷ ps) q k is = elim (option_cases p.key) [
  | inl s ↦ kept_some p (ps ++ q ∷ []) s.0 s.1 ∙ ap (λ (es : List (ℕ × ℕ)). (p.number, s.0) ∷ es) (kept_more ps q k is) ∙ ap (λ (es : List (ℕ × ℕ)). es ++ (q.number, k) ∷ []) (sym (kept_some p ps s.0 s.1))
  | inr n ↦ kept_none p (ps ++ q ∷ []) n ∙ kept_more ps q k is ∙ ap (λ (es : List (ℕ × ℕ)). es ++ (q.number, k) ∷ []) (sym (kept_none p ps n))
]

-- the end by the last place
end_at : (from : ℕ) (p : Place) (ps : List Place) (d : Place) → end_of from (p ∷ ps) ≡ suc (get_or (p ∷ ps) (length ps) d).number
end_at from p [] d = refl
end_at from p (q ∷ ps) d = end_at (suc p.number) q ps d

pub end_last : (n : ℕ) (ps : List Place) (d : Place) → (get_or ps (length ps - 1) d).number < n → end_of 0 ps ≤ n
end_last n [] d lt = omega arith
end_last n (p ∷ ps) d lt =
    let at : length (p ∷ ps) - 1 ≡ length ps = omega arith in
    omega (arith, end_at 0 p ps d, ap (λ k. (get_or (p ∷ ps) k d).number) at, lt)

-- the places with a key
pub rises_kept : (from : ℕ) (ps : List Place) → Rises from ps → Rises from (filter (λ p. is_some p.key) ps)
rises_kept from [] h = tt
rises_kept from (p ∷ ps) h = elim (cases_Bool (is_some p.key)) [
  | inl t ↦ rw t (h.0, rises_kept (suc p.number) ps h.1)
  | inr f ↦ rw f (lower from (suc p.number) (filter (λ p. is_some p.key) ps) (omega (arith, h.0)) (rises_kept (suc p.number) ps h.1))
]

pub kept_kept : (ps : List Place) → kept_in (filter (λ p. is_some p.key) ps) ≡ kept_in ps
kept_kept [] = refl
kept_kept (p ∷ ps) = elim (option_cases p.key) [
  | inl s ↦
      ap (λ (b : Bool). kept_in (cond b (p ∷ filter (λ p. is_some p.key) ps) (filter (λ p. is_some p.key) ps))) (ap is_some s.1)
      ∙ kept_some p (filter (λ p. is_some p.key) ps) s.0 s.1 ∙ ap (λ (es : List (ℕ × ℕ)). (p.number, s.0) ∷ es) (kept_kept ps) ∙ sym (kept_some p ps s.0 s.1)
  | inr n ↦
      ap (λ (b : Bool). kept_in (cond b (p ∷ filter (λ p. is_some p.key) ps) (filter (λ p. is_some p.key) ps))) (ap is_some n)
      ∙ kept_kept ps ∙ sym (kept_none p ps n)
]

end_below : (n from : ℕ) (ps : List Place) → from ≤ n → AllByRecursion (λ e. e.0 < n) (kept_in ps) → end_of from (filter (λ p. is_some p.key) ps) ≤ n
end_below n from [] le all = le
end_below n from (p ∷ ps) le all = elim (option_cases p.key) [
  | inl s ↦
      let both = subst (AllByRecursion (λ (e : ℕ × ℕ). e.0 < n)) (kept_some p ps s.0 s.1) all in
      subst (λ (b : Bool). end_of from (cond b (p ∷ filter (λ p. is_some p.key) ps) (filter (λ p. is_some p.key) ps)) ≤ n) (sym (ap is_some s.1)) (end_below n (suc p.number) ps (omega (arith, both.0)) both.1)
  | inr none ↦
      let rest = subst (AllByRecursion (λ (e : ℕ × ℕ). e.0 < n)) (kept_none p ps none) all in
      subst (λ (b : Bool). end_of from (cond b (p ∷ filter (λ p. is_some p.key) ps) (filter (λ p. is_some p.key) ps)) ≤ n) (sym (ap is_some none)) (end_below n from ps le rest)
]

pub swept_below : (n : ℕ) (ps : List Place) → All (λ e. e.0 < n) (kept_in ps) → end_of 0 (filter (λ p. is_some p.key) ps) ≤ n
swept_below n ps all = end_below n 0 ps (omega arith) (recursion_from_All (λ (e : ℕ × ℕ). e.0 < n) (kept_in ps) all)

pub kept_length : (ps : List Place) → length (kept_in ps) ≤ length ps
kept_length [] = omega arith
kept_length (p ∷ ps) = elim (option_cases p.key) [
  | inl s ↦ omega (arith, ap length (kept_some p ps s.0 s.1), kept_length ps)
  | inr n ↦ omega (arith, ap length (kept_none p ps n), kept_length ps)
]

-- where each place has a key
full_end : (n from : ℕ) (ps : List Place) → length (kept_in ps) ≡ length ps → from ≤ n → AllByRecursion (λ e. e.0 < n) (kept_in ps) → end_of from ps ≤ n
full_end n from [] full le all = le
full_end n from (p ∷ ps) full le all = elim (option_cases p.key) [
  | inl s ↦
      let both = subst (AllByRecursion (λ (e : ℕ × ℕ). e.0 < n)) (kept_some p ps s.0 s.1) all in
      full_end n (suc p.number) ps (omega (arith, full, ap length (kept_some p ps s.0 s.1))) (omega (arith, both.0)) both.1
  | inr none ↦ absurd (omega (arith, full, ap length (kept_none p ps none), kept_length ps))
]

pub full_below : (n : ℕ) (ps : List Place) → length (kept_in ps) ≡ length ps → All (λ e. e.0 < n) (kept_in ps) → end_of 0 ps ≤ n
full_below n ps full all = full_end n 0 ps full (omega arith) (recursion_from_All (λ (e : ℕ × ℕ). e.0 < n) (kept_in ps) all)

-- a number that no place has
pub none_above : (n from : ℕ) (ps : List Place) → n < from → Rises from ps → (key_of n (kept_in ps) ≡ None) × (without_key n (kept_in ps) ≡ kept_in ps)
none_above n from [] lt h = (refl, refl)
none_above n from (p ∷ ps) lt h = elim (option_cases p.key) [
  | inl s ↦
      let rest = none_above n (suc p.number) ps (omega (arith, lt, h.0)) h.1 in
      let here = kept_some p ps s.0 s.1 in
      let other : eqb n p.number ≡ false = ne_eqb n p.number (λ same. omega (arith, same, lt, h.0)) in (
        ap (key_of n) here ∙ ap (λ b. cond b (Some s.0) (key_of n (kept_in ps))) other ∙ rest.0,
        ap (without_key n) here ∙ ap (λ b. cond b (kept_in ps) ((p.number, s.0) ∷ without_key n (kept_in ps))) other ∙ ap (λ (es : List (ℕ × ℕ)). (p.number, s.0) ∷ es) rest.1 ∙ sym here,
      )
  | inr none ↦
      let rest = none_above n (suc p.number) ps (omega (arith, lt, h.0)) h.1 in
      let here = kept_none p ps none in
      (ap (key_of n) here ∙ rest.0, ap (without_key n) here ∙ rest.1 ∙ sym here)
]

-- the first place has the number
pub first_taken : (n from : ℕ) (p : Place) (ps : List Place) → p.number ≡ n → Rises from (p ∷ ps) → (key_of n (kept_in (p ∷ ps)) ≡ p.key) × (without_key n (kept_in (p ∷ ps)) ≡ kept_in ps)
first_taken n from p ps is h = elim (option_cases p.key) [
  | inl s ↦
      let here = kept_some p ps s.0 s.1 in
      let same : eqb n p.number ≡ true = eq-eqb n p.number (sym is) in (
        ap (key_of n) here ∙ ap (λ b. cond b (Some s.0) (key_of n (kept_in ps))) same ∙ sym s.1,
        ap (without_key n) here ∙ ap (λ b. cond b (kept_in ps) ((p.number, s.0) ∷ without_key n (kept_in ps))) same,
      )
  | inr none ↦
      let rest = none_above n (suc p.number) ps (omega (arith, is)) h.1 in
      let here = kept_none p ps none in
      (ap (key_of n) here ∙ rest.0 ∙ sym none, ap (without_key n) here ∙ rest.1)
]

-- the first place is taken out, which has the number or no key
pub first_gone : (n : ℕ) (ps qs : List Place) (p : Place) → is_first n ps ≡ true → ps ≡ p ∷ qs → Rises 0 ps → (key_of n (kept_in ps) ≡ p.key) × (without_key n (kept_in ps) ≡ kept_in qs) × Rises 0 qs
first_gone n ps qs p first is h =
    let has : is_first n (p ∷ qs) ≡ true = subst (λ (rs : List Place). is_first n rs ≡ true) is first in
    let rising : Rises 0 (p ∷ qs) = subst (λ (rs : List Place). Rises 0 rs) is h in
    let both = first_taken n 0 p qs (eqb-true p.number n has) rising in
    (ap (λ (rs : List Place). key_of n (kept_in rs)) is ∙ both.0, ap (λ (rs : List Place). without_key n (kept_in rs)) is ∙ both.1, lower 0 (suc p.number) qs (omega arith) rising.1)

pub left_gone : (ps qs : List Place) → is_left ps ≡ true → qs ≡ drop 1 ps → Rises 0 ps → (kept_in qs ≡ kept_in ps) × Rises 0 qs
left_gone [] qs left is h = absurd (cc left)
left_gone (p ∷ ps) qs left is h = elim (option_cases p.key) [
  | inl s ↦ absurd (cc (sym left ∙ ap (λ (o : Option ℕ). let b : Bool = elim o [ Some key ↦ false | None ↦ true ] in b) s.1))
  | inr n ↦ (ap kept_in is ∙ sym (kept_none p ps n), subst (λ (rs : List Place). Rises 0 rs) (sym is) (lower 0 (suc p.number) ps (omega arith) h.1))
]

-- the place at i has the number, and loses its key
pub within_taken : (n from : ℕ) (ps : List Place) (i : ℕ) (d q : Place) → Rises from ps → i < length ps → (get_or ps i d).number ≡ n → q.number ≡ n → q.key ≡ None → (key_of n (kept_in ps) ≡ (get_or ps i d).key) × (without_key n (kept_in ps) ≡ kept_in (set ps i q)) × Rises from (set ps i q)
within_taken n from [] i d q h lt at number none = absurd (omega (arith, lt))
within_taken n from (p ∷ ps) zero d q h lt at number none =
    let first = first_taken n from p ps at h in
    (first.0, first.1 ∙ sym (kept_none q ps none), (omega (arith, h.0, at, number), lower (suc q.number) (suc p.number) ps (omega (arith, at, number)) h.1))
within_taken n from (p ∷ ps) (suc i) d q h lt at number none =
    let rest = within_taken n (suc p.number) ps i d q h.1 (omega (arith, lt)) at number none in
    let above = at_above (suc p.number) ps i d h.1 (omega (arith, lt)) in
    let other : eqb n p.number ≡ false = ne_eqb n p.number (λ same. omega (arith, same, above, at)) in
    elim (option_cases p.key) [
      | inl s ↦
          let here = kept_some p ps s.0 s.1 in (
            ap (key_of n) here ∙ ap (λ b. cond b (Some s.0) (key_of n (kept_in ps))) other ∙ rest.0,
            ap (without_key n) here ∙ ap (λ b. cond b (kept_in ps) ((p.number, s.0) ∷ without_key n (kept_in ps))) other ∙ ap (λ (es : List (ℕ × ℕ)). (p.number, s.0) ∷ es) rest.1 ∙ sym (kept_some p (set ps i q) s.0 s.1),
            (h.0, rest.2),
          )
      | inr left ↦
          let here = kept_none p ps left in
          (ap (key_of n) here ∙ rest.0, ap (without_key n) here ∙ rest.1 ∙ sym (kept_none p (set ps i q) left), (h.0, rest.2))
    ]
  where
    at_above : (from : ℕ) (ps : List Place) (i : ℕ) (d : Place) → Rises from ps → i < length ps → from ≤ (get_or ps i d).number
    at_above from [] i d h lt = absurd (omega (arith, lt))
    at_above from (p ∷ ps) zero d h lt = h.0
    at_above from (p ∷ ps) (suc i) d h lt = omega (arith, h.0, at_above (suc p.number) ps i d h.1 (omega (arith, lt)))

-- no place from i on has the number, and those before have lesser ones
pub missed : (n from : ℕ) (ps : List Place) (i : ℕ) → Rises from ps → ((k : ℕ) (d : Place) → k < i → k < length ps → (get_or ps k d).number < n) → ((d : Place) → i < length ps → n < (get_or ps i d).number) → (key_of n (kept_in ps) ≡ None) × (without_key n (kept_in ps) ≡ kept_in ps)
missed n from [] i h low high = (refl, refl)
missed n from (p ∷ ps) zero h low high = none_above n p.number (p ∷ ps) (high p (omega arith)) (omega arith, h.1)
missed n from (p ∷ ps) (suc i) h low high =
    let rest = missed n (suc p.number) ps i h.1 (λ k d lt there. low (suc k) d (omega (arith, lt)) (omega (arith, there))) (λ d lt. high d (omega (arith, lt))) in
    let less : p.number < n = low zero p (omega arith) (omega arith) in
    let other : eqb n p.number ≡ false = ne_eqb n p.number (λ same. omega (arith, same, less)) in
    elim (option_cases p.key) [
      | inl s ↦
          let here = kept_some p ps s.0 s.1 in (
            ap (key_of n) here ∙ ap (λ b. cond b (Some s.0) (key_of n (kept_in ps))) other ∙ rest.0,
            ap (without_key n) here ∙ ap (λ b. cond b (kept_in ps) ((p.number, s.0) ∷ without_key n (kept_in ps))) other ∙ ap (λ (es : List (ℕ × ℕ)). (p.number, s.0) ∷ es) rest.1 ∙ sym here,
          )
      | inr left ↦
          let here = kept_none p ps left in
          (ap (key_of n) here ∙ rest.0, ap (without_key n) here ∙ rest.1 ∙ sym here)
    ]

-- the numbers don't fall
pub numbers_rise : (from : ℕ) (ps : List Place) → Rises from ps → IsNonDecreasingBy (λ p. p.number) ps
numbers_rise from ps h = λ i j d le lt. walk from ps h i j d le lt
  where
    low : (from : ℕ) (ps : List Place) (i : ℕ) (d : Place) → Rises from ps → i < length ps → from ≤ (get_or ps i d).number
    low from [] i d h lt = absurd (omega (arith, lt))
    low from (p ∷ ps) zero d h lt = h.0
    low from (p ∷ ps) (suc i) d h lt = omega (arith, h.0, low (suc p.number) ps i d h.1 (omega (arith, lt)))

    walk : (from : ℕ) (ps : List Place) → Rises from ps → (i j : ℕ) (d : Place) → i ≤ j → j < length ps → (get_or ps i d).number ≤ (get_or ps j d).number
    walk from [] h i j d le lt = absurd (omega (arith, lt))
    walk from (p ∷ ps) h zero zero d le lt = omega arith
    walk from (p ∷ ps) h zero (suc j) d le lt = omega (arith, low (suc p.number) ps j d h.1 (omega (arith, lt)))
    walk from (p ∷ ps) h (suc i) zero d le lt = absurd (omega (arith, le))
    walk from (p ∷ ps) h (suc i) (suc j) d le lt = walk (suc p.number) ps h.1 i j d (omega (arith, le)) (omega (arith, lt))

-- one number less
pub one_less : (n k : ℕ) (es : List (ℕ × ℕ)) → key_of n es ≡ Some k → length es ≡ suc (length (without_key n es))
one_less n k [] is = absurd (cc is)
one_less n k (e ∷ es) is = elim (cases_Bool (eqb n e.0)) [
  | inl t ↦ ap (λ b. suc (length (cond b es (e ∷ without_key n es)))) (sym t)
  | inr f ↦ ap suc (one_less n k es (sym (ap (λ b. cond b (Some e.1) (key_of n es)) f) ∙ is)) ∙ ap (λ b. suc (length (cond b es (e ∷ without_key n es)))) (sym f)
]

pub none_less : (n : ℕ) (es : List (ℕ × ℕ)) → key_of n es ≡ None → without_key n es ≡ es
none_less n [] is = refl
none_less n (e ∷ es) is = elim (cases_Bool (eqb n e.0)) [
  | inl t ↦ absurd (cc (is, ap (λ b. cond b (Some e.1) (key_of n es)) t))
  | inr f ↦ ap (λ b. cond b es (e ∷ without_key n es)) f ∙ ap (λ (ds : List (ℕ × ℕ)). e ∷ ds) (none_less n es (sym (ap (λ b. cond b (Some e.1) (key_of n es)) f) ∙ is))
]
