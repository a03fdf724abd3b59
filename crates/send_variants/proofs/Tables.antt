-- Slots of one table by their threads, and the lists of entries that they hold.
use Rattle.std.proofs.Common.{◌≡◌, ◌≢◌, ◌∙◌, ◌⊎◌, inl, inr, ℕ, zero, suc, ◌<◌, ◌≤◌, List, [], ◌∷◌, ◌++◌, length, map, cond, eqb, get_or, set, replicate, Option, Some, None, refl, sym, ap, subst, arith}
use Rattle.std.specs.Prelude.{slice_get, option_map, IfSome, IfNone}
use Rattle.std.specs.List.{AllByRecursion}
use Rattle.std.proofs.lemmas.Bool.{cases_Bool, eqb-true, eq-eqb, ne_eqb}
use Rattle.std.proofs.lemmas.List.{get_or_default}
use Rattle.send_variants.specs.declared.slot.Slot.{Slot}
use Rattle.send_variants.specs.declared.slot.Ends.{Ends}
use Rattle.send_variants.specs.Lists.{Entry, count_in, count_on, named_by}
use Rattle.send_variants.specs.Tables.{entry_of, seen, entries_at, first_key, Linked, walk, listed, lists_in, Freed, no_ends, IsRow, IsAfterChanged, IsBeforeChanged, IsChangedAt, IsReached, jump, slot_under}
use Rattle.send_variants.proofs.Chains.{some_same, one_slot, entries_here, keep, unchanged_at}

pub option_cases : {A : Type 0} (o : Option A) → ((k : A) × (o ≡ Some k)) ⊎ (o ≡ None)
option_cases None = inr refl
option_cases (Some k) = inl (k, refl)

-- what one thread sees
pub seen_some : (s : List Slot) (t k : ℕ) (x : Slot) → slice_get s k ≡ Some x → x.thread ≡ t → seen s t k ≡ Some x
seen_some s t k x here is =
    ap (λ (o : Option Slot). let r : Option Slot = elim o [ Some y ↦ cond (eqb y.thread t) (Some y) None | None ↦ None ] in r) here
    ∙ ap (λ b. let r : Option Slot = cond b (Some x) None in r) (eq-eqb x.thread t is)

pub seen_other : (s : List Slot) (t k : ℕ) (x : Slot) → slice_get s k ≡ Some x → (x.thread ≡ t → ⊥) → seen s t k ≡ None
seen_other s t k x here isnt =
    ap (λ (o : Option Slot). let r : Option Slot = elim o [ Some y ↦ cond (eqb y.thread t) (Some y) None | None ↦ None ] in r) here
    ∙ ap (λ b. let r : Option Slot = cond b (Some x) None in r) (ne_eqb x.thread t isnt)

pub seen_is : (s : List Slot) (t k : ℕ) (x : Slot) → seen s t k ≡ Some x → (slice_get s k ≡ Some x) × (x.thread ≡ t)
seen_is s t k x is = elim (option_cases (slice_get s k)) [
  | inr n ↦ absurd (cc (is, ap (λ (o : Option Slot). let r : Option Slot = elim o [ Some y ↦ cond (eqb y.thread t) (Some y) None | None ↦ None ] in r) n))
  | inl y ↦
      let shown : cond (eqb y.0.thread t) (Some y.0) None ≡ Some x = sym (ap (λ (o : Option Slot). let r : Option Slot = elim o [ Some y ↦ cond (eqb y.thread t) (Some y) None | None ↦ None ] in r) y.1) ∙ is in
      elim (cases_Bool (eqb y.0.thread t)) [
        | inl same ↦
            let here : y.0 ≡ x = some_same y.0 x (sym (ap (λ b. let r : Option Slot = cond b (Some y.0) None in r) same) ∙ shown) in
            (y.1 ∙ ap (λ (z : Slot). let o : Option Slot = Some z in o) here, ap (λ (z : Slot). z.thread) (sym here) ∙ eqb-true y.0.thread t same)
        | inr differs ↦ absurd (cc (shown, ap (λ b. let r : Option Slot = cond b (Some y.0) None in r) differs))
      ]
]

pub get_set_same : (s : List Slot) (k : ℕ) (x y : Slot) → slice_get s k ≡ Some x → slice_get (set s k y) k ≡ Some y
get_set_same [] k x y here = absurd (cc here)
get_set_same (z ∷ s) zero x y here = refl
get_set_same (z ∷ s) (suc k) x y here = get_set_same s k x y here

pub get_set_other : (s : List Slot) (k c : ℕ) (y : Slot) → c ≢ k → slice_get (set s k y) c ≡ slice_get s c
get_set_other [] k c y differs = refl
get_set_other (z ∷ s) zero zero y differs = absurd (differs refl)
get_set_other (z ∷ s) zero (suc c) y differs = refl
get_set_other (z ∷ s) (suc k) zero y differs = refl
get_set_other (z ∷ s) (suc k) (suc c) y differs = get_set_other s k c y (λ same. differs (ap suc same))

pub seen_by_get : (s s' : List Slot) (t c : ℕ) → slice_get s' c ≡ slice_get s c → seen s' t c ≡ seen s t c
seen_by_get s s' t c same = ap (λ (o : Option Slot). let r : Option Slot = elim o [ Some y ↦ cond (eqb y.thread t) (Some y) None | None ↦ None ] in r) same

-- a change of a slot of a thread, as the thread sees it
pub after_seen : (s s' : List Slot) (t : ℕ) (at a : Option ℕ) → IsChangedAt at (IsAfterChanged a) (slice_get s) (slice_get s') → IsChangedAt at (IsAfterChanged a) (seen s t) (seen s' t)
after_seen s s' t at a h = record {
  here = λ k x at_k shown.
      let is = seen_is s t k x shown in
      let new = h.here k x at_k is.0 in
      (new.0, seen_some s' t k new.0 new.1 (new.2.thread ∙ is.1), new.2);
  others = λ k differs. seen_by_get s s' t k (h.others k differs);
}

pub before_seen : (s s' : List Slot) (t : ℕ) (at a : Option ℕ) → IsChangedAt at (IsBeforeChanged a) (slice_get s) (slice_get s') → IsChangedAt at (IsBeforeChanged a) (seen s t) (seen s' t)
before_seen s s' t at a h = record {
  here = λ k x at_k shown.
      let is = seen_is s t k x shown in
      let new = h.here k x at_k is.0 in
      (new.0, seen_some s' t k new.0 new.1 (new.2.thread ∙ is.1), new.2);
  others = λ k differs. seen_by_get s s' t k (h.others k differs);
}

-- another thread sees no change
module _ (s s' : List Slot) (t u : ℕ) (apart : t ≢ u) (at : Option ℕ) (Change : Slot → Slot → Type 0) (kept : (x y : Slot) → Change x y → y.thread ≡ x.thread) (h : IsChangedAt at Change (slice_get s) (slice_get s')) (there : (k : ℕ) → at ≡ Some k → (x : Slot) × (slice_get s k ≡ Some x) × (x.thread ≡ t)) where
  pub seen_apart : (c : ℕ) → seen s' u c ≡ seen s u c
  seen_apart c = elim (option_cases at) [
    | inr n ↦ seen_by_get s s' u c (h.others c (λ is. absurd (cc (n, is))))
    | inl k ↦ elim (cases_Bool (eqb k.0 c)) [
      | inr differs ↦ seen_by_get s s' u c (h.others c (λ is. absurd (cc (differs, eq-eqb k.0 c (some_same k.0 c (sym k.1 ∙ is))))))
      | inl same ↦
          let here : at ≡ Some c = k.1 ∙ ap (λ n. let o : Option ℕ = Some n in o) (eqb-true k.0 c same) in
          let x = there c here in
          let y = h.here c x.0 here x.1 in
          seen_other s' u c y.0 y.1 (λ is. apart (sym x.2 ∙ sym (kept x.0 y.0 y.2) ∙ is)) ∙ sym (seen_other s u c x.0 x.1 (λ is. apart (sym x.2 ∙ is)))
    ]
  ]

-- a slot of other threads before and after
pub seen_set_apart : (s : List Slot) (u k : ℕ) (x y : Slot) → slice_get s k ≡ Some x → x.thread ≢ u → y.thread ≢ u → (c : ℕ) → seen (set s k y) u c ≡ seen s u c
seen_set_apart s u k x y here was is c = elim (cases_Bool (eqb c k)) [
  | inr differs ↦ seen_by_get s (set s k y) u c (get_set_other s k c y (λ same. absurd (cc (differs, eq-eqb c k same))))
  | inl same ↦
      let at : c ≡ k = eqb-true c k same in
      seen_other (set s k y) u c y (ap (slice_get (set s k y)) at ∙ get_set_same s k x y here) is ∙ sym (seen_other s u c x (ap (slice_get s) at ∙ here) was)
]

-- the walk along a list
pub walk_is : (s : List Slot) (t n : ℕ) (prev : Option ℕ) (from : ℕ) (es : List (ℕ × ℕ)) → Linked (seen s t) prev from es None → length es ≤ n → walk (slice_get s) n (first_key es None) ≡ entries_at (seen s t) es
walk_is s t zero prev from [] h le = refl
walk_is s t zero prev from (e ∷ es) h le = absurd (omega (arith, le))
walk_is s t (suc n) prev from [] h le = refl
walk_is s t (suc n) prev from (e ∷ es) h le =
    let x = h.0.held in
    let is = seen_is s t e.1 x h.0.here in
    ap (λ (o : Option Slot). let r : List Entry = elim o [ Some y ↦ entry_of y ∷ walk (slice_get s) n y.after | None ↦ [] ] in r) is.0
    ∙ ap (λ (o : Option ℕ). entry_of x ∷ walk (slice_get s) n o) h.0.after
    ∙ ap (λ (es : List Entry). entry_of x ∷ es) (walk_is s t n (Some e.1) (suc e.0) es h.1 (omega (arith, le)))
    ∙ sym (entries_here (seen s t) e es x h.0.here)

pub listed_is : (s : List Slot) (t : ℕ) (e : Ends) (es : List (ℕ × ℕ)) → IsRow s t e es → listed s e ≡ entries_at (seen s t) es
listed_is s t e es row = ap (walk (slice_get s) 1024) row.first ∙ walk_is s t 1024 None 0 es row.linked row.short

-- a list whose slots are as before
pub row_kept : (s s' : List Slot) (t : ℕ) (e : Ends) (es : List (ℕ × ℕ)) → ((c : ℕ) → seen s' t c ≡ seen s t c) → IsRow s t e es → IsRow s' t e es × (listed s' e ≡ listed s e)
row_kept s s' t e es same row =
    let kept = keep (seen s t) (seen s' t) None 0 es None row.linked (λ c z here le. same c) in
    let new : IsRow s' t e es = record { linked = kept.0; first = row.first; last = row.last; short = row.short } in
    (new, listed_is s' t e es new ∙ kept.1 ∙ sym (listed_is s t e es row))

-- all lists, where one is another
pub lists_set : (s s' : List Slot) (ends : List Ends) (i : ℕ) (e : Ends) (es : List Entry) → ((j : ℕ) → j < length ends → j ≢ i → listed s' (get_or ends j no_ends) ≡ listed s (get_or ends j no_ends)) → listed s' e ≡ es → map (listed s') (set ends i e) ≡ set (map (listed s) ends) i es
lists_set s s' [] i e es same is = refl
lists_set s s' (d ∷ ends) zero e es same is =
    ap (λ (x : List Entry). x ∷ map (listed s') ends) is ∙ ap (λ (xs : List (List Entry)). es ∷ xs) (all ends (λ j lt. same (suc j) (omega (arith, lt)) (λ h. omega (arith, h))))
  where
    all : (ends : List Ends) → ((j : ℕ) → j < length ends → listed s' (get_or ends j no_ends) ≡ listed s (get_or ends j no_ends)) → map (listed s') ends ≡ map (listed s) ends
    all [] same = refl
    all (d ∷ ends) same = ap (λ (x : List Entry). x ∷ map (listed s') ends) (same zero (omega arith)) ∙ ap (λ (xs : List (List Entry)). listed s d ∷ xs) (all ends (λ j lt. same (suc j) (omega (arith, lt))))
lists_set s s' (d ∷ ends) (suc i) e es same is =
    ap (λ (x : List Entry). x ∷ map (listed s') (set ends i e)) (same zero (omega arith) (λ h. omega (arith, h)))
    ∙ ap (λ (xs : List (List Entry)). listed s d ∷ xs) (lists_set s s' ends i e es (λ j lt differs. same (suc j) (omega (arith, lt)) (λ h. differs (omega (arith, h)))) is)

-- one list of all
pub list_at : (s : List Slot) (ends : List Ends) (i : ℕ) → i < length ends → get_or (lists_in s ends) i [] ≡ listed s (get_or ends i no_ends)
list_at s [] i lt = absurd (omega (arith, lt))
list_at s (d ∷ ends) zero lt = refl
list_at s (d ∷ ends) (suc i) lt = list_at s ends i (omega (arith, lt))

pub list_within : (s : List Slot) (ends : List Ends) (i : ℕ) → i < length ends → i < length (lists_in s ends)
list_within s [] i lt = absurd (omega (arith, lt))
list_within s (d ∷ ends) zero lt = omega arith
list_within s (d ∷ ends) (suc i) lt = omega (arith, list_within s ends i (omega (arith, lt)))

-- free slots that are as before
pub freed_kept : (g g' : ℕ → Option Slot) (at : Option ℕ) (k : ℕ) (ks : List ℕ) → AllByRecursion (λ c. c ≡ k → ⊥) ks → ((c : ℕ) → c ≢ k → g' c ≡ g c) → Freed g at ks → Freed g' at ks
freed_kept g g' at k [] apart same h = h
freed_kept g g' at k (c ∷ ks) apart same h = (h.0, (h.1.0, same c apart.0 ∙ h.1.1, h.1.2, freed_kept g g' h.1.0.after k ks apart.1 same h.1.3))

-- the keys of free slots are none that isn't free
pub freed_apart : (g : ℕ → Option Slot) (at : Option ℕ) (k : ℕ) (ks : List ℕ) → g k ≡ None → Freed g at ks → AllByRecursion (λ c. c ≡ k → ⊥) ks
freed_apart g at k [] none h = tt
freed_apart g at k (c ∷ ks) none h = (λ same. absurd (cc (none, ap g (sym same) ∙ h.1.1)), freed_apart g h.1.0.after k ks none h.1.3)

-- one more is free
pub freed_more : (g g' : ℕ → Option Slot) (at : Option ℕ) (k : ℕ) (ks : List ℕ) (x : Slot) → g k ≡ None → g' k ≡ Some x → x.after ≡ at → ((c : ℕ) → c ≢ k → g' c ≡ g c) → Freed g at ks → Freed g' (Some k) (k ∷ ks)
freed_more g g' at k ks x none here after same h =
    let apart = freed_apart g at k ks none h in
    (refl, (x, here, apart, subst (λ (o : Option ℕ). Freed g' o ks) (sym after) (freed_kept g g' at k ks apart same h)))

-- the key that the links lead to is one of the list
pub jumped : (s : List Slot) (t n k : ℕ) (prev : Option ℕ) (from : ℕ) (es : List (ℕ × ℕ)) → Linked (seen s t) prev from es None → jump (slice_get s) n (first_key es None) ≡ Some k → (us : List (ℕ × ℕ)) × (vs : List (ℕ × ℕ)) × (p : ℕ) × (es ≡ us ++ (p, k) ∷ vs)
jumped s t zero k prev from [] h way = absurd (cc way)
jumped s t zero k prev from (e ∷ es) h way = ([], es, e.0, ap (λ c. let ds : List (ℕ × ℕ) = (e.0, c) ∷ es in ds) (some_same e.1 k way))
jumped s t (suc n) k prev from [] h way = absurd (cc way)
jumped s t (suc n) k prev from (e ∷ es) h way =
    let x = h.0.held in
    let is = seen_is s t e.1 x h.0.here in
    let next : jump (slice_get s) n (first_key es None) ≡ Some k =
    sym (ap (λ (o : Option Slot). let r : Option ℕ = elim o [ Some y ↦ jump (slice_get s) n y.after | None ↦ None ] in r) is.0 ∙ ap (jump (slice_get s) n) h.0.after) ∙ way in
    let rest = jumped s t n k (Some e.1) (suc e.0) es h.1 next in
    (e ∷ rest.0, rest.1, rest.2, ap (λ (ds : List (ℕ × ℕ)). e ∷ ds) rest.3)

-- one link more
pub jump_more : (g : ℕ → Option Slot) (n k : ℕ) (at : Option ℕ) (x : Slot) → jump g n at ≡ Some k → g k ≡ Some x → jump g (suc n) at ≡ x.after
jump_more g zero k at x way here = ap (jump g 1) way ∙ ap (λ (o : Option Slot). let r : Option ℕ = elim o [ Some y ↦ y.after | None ↦ None ] in r) here
jump_more g (suc n) k None x way here = absurd (cc way)
jump_more g (suc n) k (Some c) x way here = elim (option_cases (g c)) [
  | inr none ↦ absurd (cc (way, ap (λ (o : Option Slot). let r : Option ℕ = elim o [ Some y ↦ jump g n y.after | None ↦ None ] in r) none))
  | inl y ↦
      ap (λ (o : Option Slot). let r : Option ℕ = elim o [ Some y ↦ jump g (suc n) y.after | None ↦ None ] in r) y.1
      ∙ jump_more g n k y.0.after x (sym (ap (λ (o : Option Slot). let r : Option ℕ = elim o [ Some y ↦ jump g n y.after | None ↦ None ] in r) y.1) ∙ way) here
]

-- empty lists
pub lists_empty : (s : List Slot) (n : ℕ) → lists_in s (replicate n no_ends) ≡ replicate n []
lists_empty s zero = refl
lists_empty s (suc n) = ap (λ (xs : List (List Entry)). let es : List Entry = [] in es ∷ xs) (lists_empty s n)

-- one slot is written
pub changed_at : (Change : Slot → Slot → Type 0) (s : List Slot) (k : ℕ) (z t : Slot) → slice_get s k ≡ Some z → Change z t → IsChangedAt (Some k) Change (slice_get s) (slice_get (set s k t))
changed_at Change s k z t found change = record {
  here = λ c y at_c here_y.
      let same : k ≡ c = some_same k c at_c in
      (t, ap (slice_get (set s k t)) (sym same) ∙ get_set_same s k z t found, subst (λ (x : Slot). Change x t) (one_slot (slice_get s) k c z y found here_y same) change);
  others = λ c differs. get_set_other s k c t (λ same. differs (ap (λ n. let o : Option ℕ = Some n in o) (sym same)));
}

-- no slot is written
pub absent_at : (Change : Slot → Slot → Type 0) (s : List Slot) (k : ℕ) → slice_get s k ≡ None → IsChangedAt (Some k) Change (slice_get s) (slice_get s)
absent_at Change s k none = unchanged_at Change (slice_get s) (Some k) (λ c at_c. ap (slice_get s) (sym (some_same k c at_c)) ∙ none)

-- one more free slot at the end of the table
get_last : (s : List Slot) (y : Slot) → slice_get (s ++ y ∷ []) (length s) ≡ Some y
get_last [] y = refl
get_last (x ∷ s) y = get_last s y

get_none : (s : List Slot) → slice_get s (length s) ≡ None
get_none [] = refl
get_none (x ∷ s) = get_none s

get_before : (s : List Slot) (y : Slot) (c : ℕ) → c ≢ length s → slice_get (s ++ y ∷ []) c ≡ slice_get s c
get_before [] y zero differs = absurd (differs refl)
get_before [] y (suc c) differs = refl
get_before (x ∷ s) y zero differs = refl
get_before (x ∷ s) y (suc c) differs = get_before s y c (λ same. differs (ap suc same))

pub pushed_free : (s : List Slot) (y : Slot) (at : Option ℕ) (ks : List ℕ) → y.thread ≡ 0 → y.after ≡ at → Freed (seen s 0) at ks → Freed (seen (s ++ y ∷ []) 0) (Some (length s)) (length s ∷ ks)
pushed_free s y at ks thread after h =
    freed_more (seen s 0) (seen (s ++ y ∷ []) 0) at (length s) ks y
    (ap (λ (o : Option Slot). let r : Option Slot = elim o [ Some y ↦ cond (eqb y.thread 0) (Some y) None | None ↦ None ] in r) (get_none s))
    (seen_some (s ++ y ∷ []) 0 (length s) y (get_last s y) thread)
    after
    (λ c differs. seen_by_get s (s ++ y ∷ []) 0 c (get_before s y c differs))
    h

-- a walk that comes to an end
pub walk_end : (s : List Slot) (n : ℕ) (at : Option ℕ) → slot_under s at ≡ None → walk (slice_get s) n at ≡ []
walk_end s zero at none = refl
walk_end s (suc n) None none = refl
walk_end s (suc n) (Some k) none = ap (λ (o : Option Slot). let r : List Entry = elim o [ Some y ↦ entry_of y ∷ walk (slice_get s) n y.after | None ↦ [] ] in r) none

-- a walk that goes on
pub walk_on : (s : List Slot) (n : ℕ) (at : Option ℕ) (x : Slot) → slot_under s at ≡ Some x → walk (slice_get s) (suc n) at ≡ entry_of x ∷ walk (slice_get s) n x.after
walk_on s n None x here = absurd (cc here)
walk_on s n (Some k) x here = ap (λ (o : Option Slot). let r : List Entry = elim o [ Some y ↦ entry_of y ∷ walk (slice_get s) n y.after | None ↦ [] ] in r) here

pub jump_on : (s : List Slot) (n : ℕ) (first at : Option ℕ) (x : Slot) → jump (slice_get s) n first ≡ at → slot_under s at ≡ Some x → jump (slice_get s) (suc n) first ≡ x.after
jump_on s n first None x way here = absurd (cc here)
jump_on s n first (Some k) x way here = jump_more (slice_get s) n k first x way here

pub reached : (s : List Slot) (n send : ℕ) (first at : Option ℕ) (x : Slot) → n ≤ 1024 → jump (slice_get s) n first ≡ at → slot_under s at ≡ Some x → named_by x.ready ≡ send → IfSome at (λ k. IsReached s first send k)
reached s n send first None x few way here named = absurd (cc here)
reached s n send first (Some k) x few way here named = record { steps = n; few = few; way = way; found = x; here = here; named = named }

-- where no list names the send
pub none_named : (s : List Slot) (send : ℕ) (ends : List Ends) → ((k : ℕ) → k < length ends → count_in send (listed s (get_or ends k no_ends)) ≡ 0) → count_on send (lists_in s ends) ≡ 0
none_named s send [] h = refl
none_named s send (e ∷ ends) h = omega (arith, h zero (omega arith), none_named s send ends (λ k lt. h (suc k) (omega (arith, lt))))

pub if_none : {A : Type 0} (o : Option A) (P : Type 0) → P → IfNone o P
if_none None P p = p
if_none (Some x) P p = tt

-- the first entry of a list
pub head_walk : (s : List Slot) (n : ℕ) (at : Option ℕ) → 1 ≤ n → slice_get (walk (slice_get s) n at) 0 ≡ option_map entry_of (slot_under s at)
head_walk s zero at some = absurd (omega (arith, some))
head_walk s (suc n) None some = refl
head_walk s (suc n) (Some k) some = elim (option_cases (slice_get s k)) [
  | inl x ↦
      ap (λ (es : List Entry). slice_get es 0) (walk_on s n (Some k) x.0 x.1)
      ∙ sym (ap (option_map entry_of) x.1)
  | inr none ↦
      ap (λ (es : List Entry). slice_get es 0) (walk_end s (suc n) (Some k) none)
      ∙ sym (ap (option_map entry_of) none)
]

pub lists_length : (s : List Slot) (ends : List Ends) → length (lists_in s ends) ≡ length ends
lists_length s [] = refl
lists_length s (e ∷ ends) = ap suc (lists_length s ends)

pub ends_at : (ends : List Ends) (i : ℕ) (e : Ends) → i < length ends → e ≡ get_or ends i e → e ≡ get_or ends i no_ends
ends_at ends i e lt is = is ∙ get_or_default ends i e no_ends lt

no_end_at : (n i : ℕ) → get_or (replicate n no_ends) i no_ends ≡ no_ends
no_end_at zero i = refl
no_end_at (suc n) zero = refl
no_end_at (suc n) (suc i) = no_end_at n i

pub empty_row : (s : List Slot) (ends : List Ends) (n i : ℕ) → ends ≡ replicate n no_ends → IsRow s (suc i) (get_or ends i no_ends) []
empty_row s ends n i is = subst (λ (e : Ends). IsRow s (suc i) e []) (sym (ap (λ (es : List Ends). get_or es i no_ends) is ∙ no_end_at n i)) (record { linked = tt; first = refl; last = refl; short = omega arith })
