-- The index of linked slots: one number more, and one less.
use Rattle.std.proofs.Common.{◌≡◌, ◌∙◌, inl, inr, ℕ, ◌<◌, ◌≤◌, suc, List, [], ◌∷◌, ◌++◌, cond, filter, find, true, false, not, eqb, Option, Some, None, append-nil, refl, sym, ap, subst, arith}
use Rattle.std.specs.Prelude.{All}
use Rattle.std.specs.List.{AllByRecursion}
use Rattle.std.proofs.lemmas.Bool.{cases_Bool, eqb-true, eq-eqb, ne_eqb}
use Rattle.std.proofs.lemmas.List.Elements.{recursion_from_All, All-from_recursion}
use Rattle.slab.specs.Slab.{Slab, get}
use Rattle.post_queue.specs.declared.slot.Slot.{Slot}
use Rattle.post_queue.specs.Queue.{Posted}
use Rattle.post_queue.specs.Places.{key_of, without_key}
use Rattle.post_queue.specs.Chains.{posted_of, posted_at, first_key, last_key, above_all, end_left, Linked}
use Rattle.post_queue.proofs.Chains.{posted_here, above_from, split_linked}

some_same : {A : Type 0} (a c : A) → Some a ≡ Some c → a ≡ c
some_same a c e = cc e

-- the index in the parts before and after a number
pub parted : (n : ℕ) (es : List (ℕ × ℕ)) (k : ℕ) → key_of n es ≡ Some k → (us : List (ℕ × ℕ)) × (vs : List (ℕ × ℕ)) × (es ≡ us ++ (n, k) ∷ vs) × (without_key n es ≡ us ++ vs)
parted n [] k h = absurd (cc h)
parted n (e ∷ es) k h = elim (cases_Bool (eqb n e.0)) [
  | inl t ↦
      let number : e.0 ≡ n = sym (eqb-true n e.0 t) in
      let key : e.1 ≡ k = some_same e.1 k (sym (ap (λ b. cond b (Some e.1) (key_of n es)) t) ∙ h) in
      ([], es, ap (λ m. let ds : List (ℕ × ℕ) = (m, e.1) ∷ es in ds) number ∙ ap (λ j. let ds : List (ℕ × ℕ) = (n, j) ∷ es in ds) key, ap (λ b. cond b es (e ∷ without_key n es)) t)
  | inr f ↦
      let rest = parted n es k (sym (ap (λ b. cond b (Some e.1) (key_of n es)) f) ∙ h) in
      (e ∷ rest.0, rest.1, ap (λ (ds : List (ℕ × ℕ)). e ∷ ds) rest.2, ap (λ b. cond b es (e ∷ without_key n es)) f ∙ ap (λ (ds : List (ℕ × ℕ)). e ∷ ds) rest.3)
]

-- a number that the index doesn't have
pub absent : (g : ℕ → Option Slot) (n : ℕ) (prev : Option ℕ) (from : ℕ) (es : List (ℕ × ℕ)) (next : Option ℕ) → Linked g prev from es next → key_of n es ≡ None → (find (λ p. eqb p.number n) (posted_at g es) ≡ None) × (filter (λ p. not (eqb p.number n)) (posted_at g es) ≡ posted_at g es) × (without_key n es ≡ es)
absent g n prev from [] next h none = (refl, refl, refl)
absent g n prev from (e ∷ es) next h none = elim (cases_Bool (eqb n e.0)) [
  | inl t ↦ absurd (cc (none, ap (λ b. cond b (Some e.1) (key_of n es)) t))
  | inr f ↦
      let rest = absent g n (Some e.1) (suc e.0) es next h.1 (sym (ap (λ b. cond b (Some e.1) (key_of n es)) f) ∙ none) in
      let here = posted_here g e es h.0.held h.0.here in
      let differs : eqb n e.0 ≡ false = f in
      let other : eqb h.0.held.number n ≡ false = ne_eqb h.0.held.number n (λ same. absurd (cc (differs, ap (eqb n) (sym h.0.number ∙ same), eq-eqb n n refl))) in (
        ap (find (λ p. eqb p.number n)) here ∙ ap (λ b. cond b (Some (posted_of h.0.held)) (find (λ p. eqb p.number n) (posted_at g es))) other ∙ rest.0,
        ap (filter (λ p. not (eqb p.number n))) here
            ∙ ap (λ b. cond (not b) (posted_of h.0.held ∷ filter (λ p. not (eqb p.number n)) (posted_at g es)) (filter (λ p. not (eqb p.number n)) (posted_at g es))) other
            ∙ ap (λ (ps : List Posted). posted_of h.0.held ∷ ps) rest.1
            ∙ sym here,
        ap (λ b. cond b es (e ∷ without_key n es)) f ∙ ap (λ (ds : List (ℕ × ℕ)). e ∷ ds) rest.2,
      )
]

all_below : (g : ℕ → Option Slot) (n : ℕ) (prev : Option ℕ) (from : ℕ) (es : List (ℕ × ℕ)) (next : Option ℕ) → Linked g prev from es next → from ≤ n → AllByRecursion (λ p. p.number < n) (posted_at g es) → above_all from es ≤ n
all_below g n prev from [] next h le all = le
all_below g n prev from (e ∷ es) next h le all =
    let both = subst (AllByRecursion (λ p. p.number < n)) (posted_here g e es h.0.held h.0.here) all in
    all_below g n (Some e.1) (suc e.0) es next h.1 (omega (arith, both.0, h.0.number)) both.1

pub below_all : (g : ℕ → Option Slot) (n : ℕ) (es : List (ℕ × ℕ)) → Linked g None 0 es None → All (λ p. p.number < n) (posted_at g es) → above_all 0 es ≤ n
below_all g n es h all = all_below g n None 0 es None h (omega arith) (recursion_from_All (λ p. p.number < n) (posted_at g es) all)

entries_all : (g : ℕ → Option Slot) (n : ℕ) (prev : Option ℕ) (from : ℕ) (es : List (ℕ × ℕ)) (next : Option ℕ) → Linked g prev from es next → AllByRecursion (λ p. p.number < n) (posted_at g es) → AllByRecursion (λ e. e.0 < n) es
entries_all g n prev from [] next h all = tt
entries_all g n prev from (e ∷ es) next h all =
    let both = subst (AllByRecursion (λ p. p.number < n)) (posted_here g e es h.0.held h.0.here) all in
    (omega (arith, both.0, h.0.number), entries_all g n (Some e.1) (suc e.0) es next h.1 both.1)

pub entries_below : (g : ℕ → Option Slot) (n : ℕ) (es : List (ℕ × ℕ)) → Linked g None 0 es None → All (λ p. p.number < n) (posted_at g es) → All (λ e. e.0 < n) es
entries_below g n es h all = All-from_recursion (λ (e : ℕ × ℕ). e.0 < n) es (entries_all g n None 0 es None h (recursion_from_All (λ p. p.number < n) (posted_at g es) all))

-- the last of two parts
pub last_append : (prev : Option ℕ) (us vs : List (ℕ × ℕ)) → last_key prev (us ++ vs) ≡ last_key (last_key prev us) vs
last_append prev [] vs = refl
last_append prev (e ∷ us) vs = last_append (Some e.1) us vs

pub last_some : (c : ℕ) (us : List (ℕ × ℕ)) → last_key (Some c) us ≡ None → ⊥
last_some c [] h = cc h
last_some c (e ∷ us) h = last_some e.1 us h

end_some : (beside end other : Option ℕ) → (beside ≡ None → ⊥) → end_left beside end other ≡ end
end_some None end other h = absurd (h refl)
end_some (Some c) end other h = refl

-- the ends once one in the middle has gone
module _ (us vs : List (ℕ × ℕ)) (e : ℕ × ℕ) (before after : Option ℕ) (is_before : before ≡ last_key None us) (is_after : after ≡ first_key vs None) where
  pub first_left : (first : Option ℕ) → first ≡ first_key (us ++ e ∷ vs) None → end_left before first after ≡ first_key (us ++ vs) None
  first_left first is = pick us is_before is
    where
      pick : (ds : List (ℕ × ℕ)) → before ≡ last_key None ds → first ≡ first_key (ds ++ e ∷ vs) None → end_left before first after ≡ first_key (ds ++ vs) None
      pick [] b f = ap (λ (o : Option ℕ). end_left o first after) b ∙ is_after
      pick (d ∷ ds) b f = end_some before first after (λ none. last_some d.1 ds (sym b ∙ none)) ∙ f

  pub last_left : (last : Option ℕ) → last ≡ last_key None (us ++ e ∷ vs) → end_left after last before ≡ last_key None (us ++ vs)
  last_left last is = pick vs is_after is
    where
      pick : (ds : List (ℕ × ℕ)) → after ≡ first_key ds None → last ≡ last_key None (us ++ e ∷ ds) → end_left after last before ≡ last_key None (us ++ ds)
      pick [] a l = ap (λ (o : Option ℕ). end_left o last before) a ∙ is_before ∙ ap (last_key None) (sym (append-nil us))
      pick (d ∷ ds) a l = end_some after last before (λ none. absurd (cc (sym a ∙ none))) ∙ l ∙ last_append None us (e ∷ d ∷ ds) ∙ sym (last_append None us (d ∷ ds))

-- the ends once one was put last
pub first_more : (es : List (ℕ × ℕ)) (n k : ℕ) (first last : Option ℕ) → first ≡ first_key es None → last ≡ last_key None es → end_left last first (Some k) ≡ first_key (es ++ (n, k) ∷ []) None
first_more [] n k first last is end = ap (λ (o : Option ℕ). end_left o first (Some k)) end
first_more (e ∷ es) n k first last is end = end_some last first (Some k) (λ none. last_some e.1 es (sym end ∙ none)) ∙ is

pub last_more : (es : List (ℕ × ℕ)) (n k : ℕ) → Some k ≡ last_key None (es ++ (n, k) ∷ [])
last_more es n k = sym (last_append None es ((n, k) ∷ []))

-- the same slots and the same index
module _ (s s' : Slab Slot) (es es' : List (ℕ × ℕ)) (kept : s' ≡ record s { capacity = s'.capacity }) (same : es' ≡ es) where
  slots_same : get s' ≡ get s
  slots_same = ap (λ (t : Slab Slot). get t) kept

  pub linked_same : Linked (get s) None 0 es None → Linked (get s') None 0 es' None
  linked_same h = subst (λ (ds : List (ℕ × ℕ)). Linked (get s') None 0 ds None) (sym same) (subst (λ (g : ℕ → Option Slot). Linked g None 0 es None) (sym slots_same) h)

  pub posted_same : posted_at (get s') es' ≡ posted_at (get s) es
  posted_same = ap (λ (g : ℕ → Option Slot). posted_at g es') slots_same ∙ ap (posted_at (get s)) same

-- a number that stands between these
pub between : (g : ℕ → Option Slot) (n k : ℕ) (prev : Option ℕ) (from : ℕ) (us vs : List (ℕ × ℕ)) (next : Option ℕ) → Linked g prev from (us ++ (n, k) ∷ vs) next → (key_of n (us ++ (n, k) ∷ vs) ≡ Some k) × (without_key n (us ++ (n, k) ∷ vs) ≡ us ++ vs)
between g n k prev from [] vs next h =
    let same : eqb n n ≡ true = eq-eqb n n refl in
    (ap (λ b. cond b (Some k) (key_of n vs)) same, ap (λ b. cond b vs ((n, k) ∷ without_key n vs)) same)
between g n k prev from (f ∷ us) vs next h =
    let rest = between g n k (Some f.1) (suc f.0) us vs next h.1 in
    let two = split_linked g (Some f.1) (suc f.0) us ((n, k) ∷ vs) next h.1 in
    let low = above_from g (Some f.1) (suc f.0) us (Some k) two.0 in
    let other : eqb n f.0 ≡ false = ne_eqb n f.0 (λ same. omega (arith, same, low, two.1.0.rises)) in
    (ap (λ b. cond b (Some f.1) (key_of n (us ++ (n, k) ∷ vs))) other ∙ rest.0, ap (λ b. cond b (us ++ (n, k) ∷ vs) (f ∷ without_key n (us ++ (n, k) ∷ vs))) other ∙ ap (λ (ds : List (ℕ × ℕ)). f ∷ ds) rest.1)
