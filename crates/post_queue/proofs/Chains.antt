-- Slots that are linked, in two parts, and with a link changed.
use Rattle.std.proofs.Common.{◌≡◌, ◌≢◌, ◌∙◌, ℕ, ◌<◌, ◌≤◌, suc, List, [], ◌∷◌, ◌++◌, length, cond, filter, find, false, not, eqb, Option, Some, None, is_some, refl, sym, ap, subst, arith}
use Rattle.std.proofs.lemmas.Bool.{eq-eqb, ne_eqb}
use Rattle.slab.specs.Slab.{Slab, get, with_value}
use Rattle.slab.proofs.SlabLemmas.{Updates-with_value}
use Rattle.post_queue.specs.declared.slot.Slot.{Slot}
use Rattle.post_queue.specs.Queue.{Posted, Rises, post_of}
use Rattle.post_queue.specs.Chains.{posted_of, posted_at, first_key, last_key, above_all, IsHeld, Linked, IsAfterChanged, IsBeforeChanged, IsChangedAt}

pub some_same : {A : Type 0} (a c : A) → Some a ≡ Some c → a ≡ c
some_same a c e = cc e

pub one_slot : (g : ℕ → Option Slot) (c d : ℕ) (y z : Slot) → g c ≡ Some y → g d ≡ Some z → c ≡ d → y ≡ z
one_slot g c d y z here there same = some_same y z (sym here ∙ ap g same ∙ there)

first_append : (us vs : List (ℕ × ℕ)) (next : Option ℕ) → first_key (us ++ vs) next ≡ first_key us (first_key vs next)
first_append [] vs next = refl
first_append (e ∷ us) vs next = refl

-- an index in two parts
pub split_linked : (g : ℕ → Option Slot) (prev : Option ℕ) (from : ℕ) (us vs : List (ℕ × ℕ)) (next : Option ℕ) → Linked g prev from (us ++ vs) next → Linked g prev from us (first_key vs next) × Linked g (last_key prev us) (above_all from us) vs next
split_linked g prev from [] vs next h = (tt, h)
split_linked g prev from (e ∷ us) vs next h =
    let rest = split_linked g (Some e.1) (suc e.0) us vs next h.1 in
    ((subst (λ (o : Option ℕ). IsHeld g prev from e o) (first_append us vs next) h.0, rest.0), rest.1)

pub join_linked : (g : ℕ → Option Slot) (prev : Option ℕ) (from : ℕ) (us vs : List (ℕ × ℕ)) (next : Option ℕ) → Linked g prev from us (first_key vs next) → Linked g (last_key prev us) (above_all from us) vs next → Linked g prev from (us ++ vs) next
join_linked g prev from [] vs next h k = k
join_linked g prev from (e ∷ us) vs next h k = (subst (λ (o : Option ℕ). IsHeld g prev from e o) (sym (first_append us vs next)) h.0, join_linked g (Some e.1) (suc e.0) us vs next h.1 k)

pub above_from : (g : ℕ → Option Slot) (prev : Option ℕ) (from : ℕ) (es : List (ℕ × ℕ)) (next : Option ℕ) → Linked g prev from es next → from ≤ above_all from es
above_from g prev from [] next h = omega arith
above_from g prev from (e ∷ es) next h = omega (arith, h.0.rises, above_from g (Some e.1) (suc e.0) es next h.1)

-- a lesser bound serves too
pub lower : (g : ℕ → Option Slot) (prev : Option ℕ) (less from : ℕ) (es : List (ℕ × ℕ)) (next : Option ℕ) → less ≤ from → Linked g prev from es next → Linked g prev less es next
lower g prev less from [] next le h = tt
lower g prev less from (e ∷ es) next le h = (record { held = h.0.held; here = h.0.here; number = h.0.number; rises = omega (arith, le, h.0.rises); before = h.0.before; after = h.0.after }, h.1)

pub posted_here : (g : ℕ → Option Slot) (e : ℕ × ℕ) (es : List (ℕ × ℕ)) (z : Slot) → g e.1 ≡ Some z → posted_at g (e ∷ es) ≡ posted_of z ∷ posted_at g es
posted_here g e es z here = ap (λ (o : Option Slot). let ps : List Posted = elim o [ Some x ↦ posted_of x ∷ posted_at g es | None ↦ posted_at g es ] in ps) here

pub posted_append : (g : ℕ → Option Slot) (us vs : List (ℕ × ℕ)) → posted_at g (us ++ vs) ≡ posted_at g us ++ posted_at g vs
posted_append g [] vs = refl
posted_append g (e ∷ us) vs = pick (posted_append g us vs) (g e.1) refl
  where
    pick : posted_at g (us ++ vs) ≡ posted_at g us ++ posted_at g vs → (o : Option Slot) → g e.1 ≡ o → posted_at g (e ∷ us ++ vs) ≡ posted_at g (e ∷ us) ++ posted_at g vs
    pick same None h = rw (h, posted_at) same
    pick same (Some x) h = rw (h, posted_at) (ap (λ (ps : List Posted). posted_of x ∷ ps) same)

pub posted_length : (g : ℕ → Option Slot) (prev : Option ℕ) (from : ℕ) (es : List (ℕ × ℕ)) (next : Option ℕ) → Linked g prev from es next → length (posted_at g es) ≡ length es
posted_length g prev from [] next h = refl
posted_length g prev from (e ∷ es) next h = ap length (posted_here g e es h.0.held h.0.here) ∙ ap suc (posted_length g (Some e.1) (suc e.0) es next h.1)

-- the numbers of the messages rise
pub posted_rises : (g : ℕ → Option Slot) (prev : Option ℕ) (from : ℕ) (es : List (ℕ × ℕ)) (next : Option ℕ) → Linked g prev from es next → Rises from (posted_at g es)
posted_rises g prev from [] next h = tt
posted_rises g prev from (e ∷ es) next h =
    subst (Rises from) (sym (posted_here g e es h.0.held h.0.here))
    (omega (arith, h.0.rises, h.0.number), subst (λ n. Rises (suc n) (posted_at g es)) (sym h.0.number) (posted_rises g (Some e.1) (suc e.0) es next h.1))

-- slots that didn't change
keep : (g g' : ℕ → Option Slot) (prev : Option ℕ) (from : ℕ) (es : List (ℕ × ℕ)) (next : Option ℕ) → Linked g prev from es next → ((c : ℕ) (z : Slot) → g c ≡ Some z → from ≤ z.number → g' c ≡ g c) → Linked g' prev from es next × (posted_at g' es ≡ posted_at g es)
keep g g' prev from [] next h same = (tt, refl)
keep g g' prev from (e ∷ es) next h same =
    let rest = keep g g' (Some e.1) (suc e.0) es next h.1 (λ c z here le. same c z here (omega (arith, le, h.0.rises))) in
    let now : g' e.1 ≡ Some h.0.held = same e.1 h.0.held h.0.here (omega (arith, h.0.rises, h.0.number)) ∙ h.0.here in (
      (record { held = h.0.held; here = now; number = h.0.number; rises = h.0.rises; before = h.0.before; after = h.0.after }, rest.0),
      posted_here g' e es h.0.held now ∙ ap (λ (ps : List Posted). posted_of h.0.held ∷ ps) rest.1 ∙ sym (posted_here g e es h.0.held h.0.here),
    )

-- the last slot
pub last_number : (g : ℕ → Option Slot) (prev : Option ℕ) (from : ℕ) (es : List (ℕ × ℕ)) (next : Option ℕ) → Linked g prev from es next → (c : ℕ) → last_key None es ≡ Some c → (z : Slot) × (g c ≡ Some z) × (from ≤ z.number) × (z.number < above_all from es)
last_number g prev from [] next h c last = absurd (cc last)
last_number g prev from (e ∷ []) next h c last = (h.0.held, ap g (sym (some_same e.1 c last)) ∙ h.0.here, omega (arith, h.0.rises, h.0.number), omega (arith, h.0.number))
last_number g prev from (e ∷ f ∷ es) next h c last =
    let found = last_number g (Some e.1) (suc e.0) (f ∷ es) next h.1 c last in
    (found.0, found.1, omega (arith, found.2, h.0.rises), found.3)

same_posted : (t z : Slot) → t.number ≡ z.number → t.sealed ≡ z.sealed → posted_of t ≡ posted_of z
same_posted t z number sealed = ap (λ n. post_of n t.sealed) number ∙ ap (post_of z.number) sealed

-- another slot comes after the last
set_last : (g g' : ℕ → Option Slot) (prev : Option ℕ) (from : ℕ) (es : List (ℕ × ℕ)) (next next' : Option ℕ) → Linked g prev from es next → ((c : ℕ) (z : Slot) → g c ≡ Some z → z.number < above_all from es → (last_key None es ≡ Some c → (t : Slot) × (g' c ≡ Some t) × IsAfterChanged next' z t) × ((last_key None es ≡ Some c → ⊥) → g' c ≡ g c)) → Linked g' prev from es next' × (posted_at g' es ≡ posted_at g es)
set_last g g' prev from [] next next' h change = (tt, refl)
set_last g g' prev from (e ∷ []) next next' h change =
    let new = (change e.1 h.0.held h.0.here (omega (arith, h.0.number))).0 refl in
    let t = new.0 in
    let now = new.1 in
    let changed = new.2 in (
      (record { held = t; here = now; number = changed.number ∙ h.0.number; rises = h.0.rises; before = changed.left ∙ h.0.before; after = changed.right }, tt),
      posted_here g' e [] t now ∙ ap (λ (p : Posted). let ps : List Posted = p ∷ [] in ps) (same_posted t h.0.held changed.number changed.sealed) ∙ sym (posted_here g e [] h.0.held h.0.here),
    )
set_last g g' prev from (e ∷ f ∷ es) next next' h change =
    let rest = set_last g g' (Some e.1) (suc e.0) (f ∷ es) next next' h.1 change in
    let above = above_from g (Some e.1) (suc e.0) (f ∷ es) next h.1 in
    let other : last_key None (f ∷ es) ≡ Some e.1 → ⊥ = λ last.
    let found = last_number g (Some e.1) (suc e.0) (f ∷ es) next h.1 e.1 last in
    omega (arith, found.2, h.0.number, ap (λ (z : Slot). z.number) (one_slot g e.1 e.1 found.0 h.0.held found.1 h.0.here refl)) in
    let now : g' e.1 ≡ Some h.0.held = (change e.1 h.0.held h.0.here (omega (arith, h.0.number, above))).1 other ∙ h.0.here in (
      (record { held = h.0.held; here = now; number = h.0.number; rises = h.0.rises; before = h.0.before; after = h.0.after }, rest.0),
      posted_here g' e (f ∷ es) h.0.held now ∙ ap (λ (ps : List Posted). posted_of h.0.held ∷ ps) rest.1 ∙ sym (posted_here g e (f ∷ es) h.0.held h.0.here),
    )

-- another slot comes before the first
set_first : (g g' : ℕ → Option Slot) (prev prev' : Option ℕ) (from : ℕ) (es : List (ℕ × ℕ)) (next : Option ℕ) → Linked g prev from es next → ((c : ℕ) (z : Slot) → g c ≡ Some z → from ≤ z.number → (first_key es None ≡ Some c → (t : Slot) × (g' c ≡ Some t) × IsBeforeChanged prev' z t) × ((first_key es None ≡ Some c → ⊥) → g' c ≡ g c)) → Linked g' prev' from es next × (posted_at g' es ≡ posted_at g es)
set_first g g' prev prev' from [] next h change = (tt, refl)
set_first g g' prev prev' from (e ∷ es) next h change =
    let new = (change e.1 h.0.held h.0.here (omega (arith, h.0.rises, h.0.number))).0 refl in
    let t = new.0 in
    let now = new.1 in
    let changed = new.2 in
    let rest = keep g g' (Some e.1) (suc e.0) es next h.1 (λ c z here le.
    (change c z here (omega (arith, le, h.0.rises))).1
    (λ same. omega (arith, le, h.0.number, ap (λ (y : Slot). y.number) (one_slot g e.1 c h.0.held z h.0.here here (some_same e.1 c same))))) in (
      (record { held = t; here = now; number = changed.number ∙ h.0.number; rises = h.0.rises; before = changed.left; after = changed.right ∙ h.0.after }, rest.0),
      posted_here g' e es t now
          ∙ ap (λ (p : Posted). p ∷ posted_at g' es) (same_posted t h.0.held changed.number changed.sealed)
          ∙ ap (λ (ps : List Posted). posted_of h.0.held ∷ ps) rest.1
          ∙ sym (posted_here g e es h.0.held h.0.here),
    )

first_number : (g : ℕ → Option Slot) (prev : Option ℕ) (from : ℕ) (es : List (ℕ × ℕ)) (next : Option ℕ) → Linked g prev from es next → (c : ℕ) (z : Slot) → first_key es None ≡ Some c → g c ≡ Some z → from ≤ z.number
first_number g prev from [] next h c z first here = absurd (cc first)
first_number g prev from (e ∷ es) next h c z first here = omega (arith, h.0.rises, h.0.number, ap (λ (y : Slot). y.number) (one_slot g e.1 c h.0.held z h.0.here here (some_same e.1 c first)))

-- a slot in the middle goes
module _ (g g1 g2 g3 : ℕ → Option Slot) (us vs : List (ℕ × ℕ)) (e : ℕ × ℕ) (linked : Linked g None 0 (us ++ e ∷ vs) None) (x : Slot) (there : g e.1 ≡ Some x) (gone : (c : ℕ) → c ≢ e.1 → g1 c ≡ g c) (after : IsChangedAt x.before (IsAfterChanged x.after) g1 g2) (before : IsChangedAt x.after (IsBeforeChanged x.before) g2 g3) where
  parts : Linked g None 0 us (Some e.1) × Linked g (last_key None us) (above_all 0 us) (e ∷ vs) None
  parts = split_linked g None 0 us (e ∷ vs) None linked

  its : IsHeld g (last_key None us) (above_all 0 us) e (first_key vs None)
  its = parts.1.0

  same_x : its.held ≡ x
  same_x = one_slot g e.1 e.1 its.held x its.here there refl

  pub number_x : x.number ≡ e.0
  number_x = ap (λ (y : Slot). y.number) (sym same_x) ∙ its.number

  pub before_x : x.before ≡ last_key None us
  before_x = ap (λ (y : Slot). y.before) (sym same_x) ∙ its.before

  pub after_x : x.after ≡ first_key vs None
  after_x = ap (λ (y : Slot). y.after) (sym same_x) ∙ its.after

  apart : (c : ℕ) (z : Slot) → g c ≡ Some z → z.number ≢ e.0 → c ≢ e.1
  apart c z here other same = other (ap (λ (y : Slot). y.number) (one_slot g c e.1 z x here there same) ∙ number_x)

  left : Linked g3 None 0 us (first_key vs None) × (posted_at g3 us ≡ posted_at g us)
  left = set_last g g3 None 0 us (Some e.1) (first_key vs None) parts.0
      (λ c z here lt.
      let low : z.number < e.0 = omega (arith, lt, its.rises) in
      let kept : g1 c ≡ g c = gone c (apart c z here (λ same. omega (arith, same, low))) in
      let last : g3 c ≡ g2 c = before.others c (λ first. omega (arith, low, first_number g (Some e.1) (suc e.0) vs None parts.1.1 c z (sym after_x ∙ first) here)) in (
        λ is.
            let new = after.here c z (before_x ∙ is) (kept ∙ here) in
            (new.0, last ∙ new.1, subst (λ (o : Option ℕ). IsAfterChanged o z new.0) after_x new.2),
        λ isnt. last ∙ after.others c (λ is. isnt (sym before_x ∙ is)) ∙ kept,
      ))

  right : Linked g3 (last_key None us) (suc e.0) vs None × (posted_at g3 vs ≡ posted_at g vs)
  right = set_first g g3 (Some e.1) (last_key None us) (suc e.0) vs None parts.1.1
      (λ c z here le.
      let kept : g1 c ≡ g c = gone c (apart c z here (λ same. omega (arith, same, le))) in
      let middle : g2 c ≡ g c = after.others c (λ is.
      let found = last_number g None 0 us (Some e.1) parts.0 c (sym before_x ∙ is) in
      omega (arith, le, found.3, its.rises, ap (λ (y : Slot). y.number) (one_slot g c c z found.0 here found.1 refl))) ∙ kept in (
        λ is.
            let new = before.here c z (after_x ∙ is) (middle ∙ here) in
            (new.0, new.1, subst (λ (o : Option ℕ). IsBeforeChanged o z new.0) before_x new.2),
        λ isnt. before.others c (λ is. isnt (sym after_x ∙ is)) ∙ middle,
      ))

  pub left_posted : posted_at g3 us ≡ posted_at g us
  left_posted = left.1

  pub right_posted : posted_at g3 vs ≡ posted_at g vs
  right_posted = right.1

  -- the others are linked
  pub unlinked : Linked g3 None 0 (us ++ vs) None
  unlinked = join_linked g3 None 0 us vs None left.0 (lower g3 (last_key None us) (above_all 0 us) (suc e.0) vs None (omega (arith, its.rises)) right.0)

  pub unlinked_posted : posted_at g3 (us ++ vs) ≡ posted_at g us ++ posted_at g vs
  unlinked_posted = posted_append g3 us vs ∙ ap (λ (ps : List Posted). ps ++ posted_at g3 vs) left.1 ∙ ap (λ (ps : List Posted). posted_at g us ++ ps) right.1

  pub was_posted : posted_at g (us ++ e ∷ vs) ≡ posted_at g us ++ posted_of x ∷ posted_at g vs
  was_posted = posted_append g us (e ∷ vs) ∙ ap (λ (ps : List Posted). posted_at g us ++ ps) (posted_here g e vs x there)

  below : (n : ℕ) → n ≡ e.0 → (prev : Option ℕ) (from : ℕ) (es : List (ℕ × ℕ)) (next : Option ℕ) → Linked g prev from es next → above_all from es ≤ n → (ps : List Posted) → (filter (λ p. not (eqb p.number n)) (posted_at g es ++ ps) ≡ posted_at g es ++ filter (λ p. not (eqb p.number n)) ps) × (find (λ p. eqb p.number n) (posted_at g es ++ ps) ≡ find (λ p. eqb p.number n) ps)
  below n is prev from [] next h le ps = (refl, refl)
  below n is prev from (f ∷ es) next h le ps =
      let rest = below n is (Some f.1) (suc f.0) es next h.1 le ps in
      let here = posted_here g f es h.0.held h.0.here in
      let other : eqb h.0.held.number n ≡ false = ne_eqb h.0.held.number n (λ same. omega (arith, same, h.0.number, le, above_from g (Some f.1) (suc f.0) es next h.1)) in (
        ap (λ (qs : List Posted). filter (λ p. not (eqb p.number n)) (qs ++ ps)) here
            ∙ ap (λ b. cond (not b) (posted_of h.0.held ∷ filter (λ p. not (eqb p.number n)) (posted_at g es ++ ps)) (filter (λ p. not (eqb p.number n)) (posted_at g es ++ ps))) other
            ∙ ap (λ (qs : List Posted). posted_of h.0.held ∷ qs) rest.0
            ∙ ap (λ (qs : List Posted). qs ++ filter (λ p. not (eqb p.number n)) ps) (sym here),
        ap (λ (qs : List Posted). find (λ p. eqb p.number n) (qs ++ ps)) here
            ∙ ap (λ b. cond b (Some (posted_of h.0.held)) (find (λ p. eqb p.number n) (posted_at g es ++ ps))) other
            ∙ rest.1,
      )

  above : (n : ℕ) (prev : Option ℕ) (from : ℕ) (es : List (ℕ × ℕ)) (next : Option ℕ) → Linked g prev from es next → n < from → filter (λ p. not (eqb p.number n)) (posted_at g es) ≡ posted_at g es
  above n prev from [] next h lt = refl
  above n prev from (f ∷ es) next h lt =
      let here = posted_here g f es h.0.held h.0.here in
      let other : eqb h.0.held.number n ≡ false = ne_eqb h.0.held.number n (λ same. omega (arith, same, h.0.number, h.0.rises, lt)) in
      ap (filter (λ p. not (eqb p.number n))) here
      ∙ ap (λ b. cond (not b) (posted_of h.0.held ∷ filter (λ p. not (eqb p.number n)) (posted_at g es)) (filter (λ p. not (eqb p.number n)) (posted_at g es))) other
      ∙ ap (λ (qs : List Posted). posted_of h.0.held ∷ qs) (above n (Some f.1) (suc f.0) es next h.1 (omega (arith, lt, h.0.rises)))
      ∙ sym here

  -- its message is the one of its number
  pub message_there : find (λ p. eqb p.number e.0) (posted_at g (us ++ e ∷ vs)) ≡ Some (posted_of x)
  message_there =
      ap (find (λ p. eqb p.number e.0)) was_posted
      ∙ (below e.0 refl None 0 us (Some e.1) parts.0 its.rises (posted_of x ∷ posted_at g vs)).1
      ∙ ap (λ b. cond b (Some (posted_of x)) (find (λ p. eqb p.number e.0) (posted_at g vs))) (eq-eqb x.number e.0 number_x)

  -- the others are those of other numbers
  pub others_there : posted_at g3 (us ++ vs) ≡ filter (λ p. not (eqb p.number e.0)) (posted_at g (us ++ e ∷ vs))
  others_there =
      unlinked_posted
      ∙ sym (ap (filter (λ p. not (eqb p.number e.0))) was_posted
      ∙ (below e.0 refl None 0 us (Some e.1) parts.0 its.rises (posted_of x ∷ posted_at g vs)).0
      ∙ ap (λ b. posted_at g us ++ cond (not b) (posted_of x ∷ filter (λ p. not (eqb p.number e.0)) (posted_at g vs)) (filter (λ p. not (eqb p.number e.0)) (posted_at g vs))) (eq-eqb x.number e.0 number_x)
      ∙ ap (λ (ps : List Posted). posted_at g us ++ ps) (above e.0 (Some e.1) (suc e.0) vs None parts.1.1 (omega arith)))

-- one slot is written
pub changed_at : (Change : Slot → Slot → Type 0) (s : Slab Slot) (at : Option ℕ) (key : ℕ) (z t : Slot) → at ≡ Some key → get s key ≡ Some z → Change z t → IsChangedAt at Change (get s) (get (with_value s key t))
changed_at Change s at key z t is found change =
    let updates = Updates-with_value s key t (ap is_some found) in
    record {
      here = λ c y at_c here_y.
          let same : c ≡ key = some_same c key (sym at_c ∙ is) in
          (t, ap (get (with_value s key t)) same ∙ updates.changed, subst (λ (x : Slot). Change x t) (one_slot (get s) key c z y found here_y (sym same)) change);
      others = λ c differs. updates.others c (λ same. differs (is ∙ ap Some (sym same)));
    }

-- nothing is written
pub unchanged_at : (Change : Slot → Slot → Type 0) (g : ℕ → Option Slot) (at : Option ℕ) → ((c : ℕ) → at ≡ Some c → g c ≡ None) → IsChangedAt at Change g g
unchanged_at Change g at none = record {
  here = λ c y at_c here_y. absurd (cc (none c at_c, here_y));
  others = λ c differs. refl;
}

-- one more is put last
module _ (g g1 g2 : ℕ → Option Slot) (es : List (ℕ × ℕ)) (n k : ℕ) (y : Slot) (linked : Linked g None 0 es None) (above_it : above_all 0 es ≤ n) (vacant : g k ≡ None) (put : g1 k ≡ Some y) (same : (c : ℕ) → c ≢ k → g1 c ≡ g c) (number : y.number ≡ n) (is_before : y.before ≡ last_key None es) (is_after : y.after ≡ None) (after : IsChangedAt (last_key None es) (IsAfterChanged (Some k)) g1 g2) where
  vacant_apart : (c : ℕ) (z : Slot) → g c ≡ Some z → c ≢ k
  vacant_apart c z here is = absurd (cc (vacant, ap g (sym is) ∙ here))

  front : Linked g2 None 0 es (Some k) × (posted_at g2 es ≡ posted_at g es)
  front = set_last g g2 None 0 es None (Some k) linked
      (λ c z here lt.
      let kept : g1 c ≡ g c = same c (vacant_apart c z here) in (
        λ is. after.here c z is (kept ∙ here),
        λ isnt. after.others c isnt ∙ kept,
      ))

  now : g2 k ≡ Some y
  now = after.others k (λ is. let found = last_number g None 0 es None linked k is in absurd (cc (vacant, found.1))) ∙ put

  pub pushed : Linked g2 None 0 (es ++ (n, k) ∷ []) None
  pushed = join_linked g2 None 0 es ((n, k) ∷ []) None front.0 (record { held = y; here = now; number = number; rises = above_it; before = is_before; after = is_after }, tt)

  pub pushed_posted : posted_at g2 (es ++ (n, k) ∷ []) ≡ posted_at g es ++ posted_of y ∷ []
  pushed_posted =
      posted_append g2 es ((n, k) ∷ [])
      ∙ ap (λ (ps : List Posted). ps ++ posted_at g2 ((n, k) ∷ [])) front.1
      ∙ ap (λ (ps : List Posted). posted_at g es ++ ps) (posted_here g2 (n, k) [] y now)
