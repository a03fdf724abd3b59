-- Slots that are linked, in two parts, and with a link changed.
use Rattle.std.proofs.Common.{◌≡◌, ◌≢◌, ◌∙◌, ℕ, ◌<◌, ◌≤◌, suc, List, [], ◌∷◌, ◌++◌, length, Option, Some, None, refl, sym, ap, subst, arith}
use Rattle.send_variants.specs.declared.slot.Slot.{Slot}
use Rattle.send_variants.specs.Lists.{Entry}
use Rattle.send_variants.specs.Tables.{entry_of, entries_at, first_key, last_key, above_all, IsHeld, Linked, IsAfterChanged, IsBeforeChanged, IsChangedAt}

pub some_same : {A : Type 0} (a c : A) → Some a ≡ Some c → a ≡ c
some_same a c e = cc e

pub one_slot : (g : ℕ → Option Slot) (c d : ℕ) (y z : Slot) → g c ≡ Some y → g d ≡ Some z → c ≡ d → y ≡ z
one_slot g c d y z here there same = some_same y z (sym here ∙ ap g same ∙ there)

first_append : (us vs : List (ℕ × ℕ)) (next : Option ℕ) → first_key (us ++ vs) next ≡ first_key us (first_key vs next)
first_append [] vs next = refl
first_append (e ∷ us) vs next = refl

-- an index in two parts
pub split_linked : (g : ℕ → Option Slot) (prev : Option ℕ) (from : ℕ) (us vs : List (ℕ × ℕ)) (next : Option ℕ) → Linked g prev from (us ++ vs) next → Linked g prev from us (first_key vs next) × Linked g (last_key prev us) (above_all from us) vs next
split_linked g prev from [] vs next h = (tt, h)
split_linked g prev from (e ∷ us) vs next h =
    let rest = split_linked g (Some e.1) (suc e.0) us vs next h.1 in
    ((subst (λ (o : Option ℕ). IsHeld g prev from e o) (first_append us vs next) h.0, rest.0), rest.1)

pub join_linked : (g : ℕ → Option Slot) (prev : Option ℕ) (from : ℕ) (us vs : List (ℕ × ℕ)) (next : Option ℕ) → Linked g prev from us (first_key vs next) → Linked g (last_key prev us) (above_all from us) vs next → Linked g prev from (us ++ vs) next
join_linked g prev from [] vs next h k = k
join_linked g prev from (e ∷ us) vs next h k = (subst (λ (o : Option ℕ). IsHeld g prev from e o) (sym (first_append us vs next)) h.0, join_linked g (Some e.1) (suc e.0) us vs next h.1 k)

pub above_from : (g : ℕ → Option Slot) (prev : Option ℕ) (from : ℕ) (es : List (ℕ × ℕ)) (next : Option ℕ) → Linked g prev from es next → from ≤ above_all from es
above_from g prev from [] next h = omega arith
above_from g prev from (e ∷ es) next h = omega (arith, h.0.rises, above_from g (Some e.1) (suc e.0) es next h.1)

-- a lesser bound serves too
pub lower : (g : ℕ → Option Slot) (prev : Option ℕ) (less from : ℕ) (es : List (ℕ × ℕ)) (next : Option ℕ) → less ≤ from → Linked g prev from es next → Linked g prev less es next
lower g prev less from [] next le h = tt
lower g prev less from (e ∷ es) next le h = (record { held = h.0.held; here = h.0.here; place = h.0.place; rises = omega (arith, le, h.0.rises); before = h.0.before; after = h.0.after }, h.1)

pub entries_here : (g : ℕ → Option Slot) (e : ℕ × ℕ) (es : List (ℕ × ℕ)) (z : Slot) → g e.1 ≡ Some z → entries_at g (e ∷ es) ≡ entry_of z ∷ entries_at g es
entries_here g e es z here = ap (λ (o : Option Slot). let ps : List Entry = elim o [ Some x ↦ entry_of x ∷ entries_at g es | None ↦ entries_at g es ] in ps) here

pub entries_append : (g : ℕ → Option Slot) (us vs : List (ℕ × ℕ)) → entries_at g (us ++ vs) ≡ entries_at g us ++ entries_at g vs
entries_append g [] vs = refl
entries_append g (e ∷ us) vs = pick (entries_append g us vs) (g e.1) refl
  where
    pick : entries_at g (us ++ vs) ≡ entries_at g us ++ entries_at g vs → (o : Option Slot) → g e.1 ≡ o → entries_at g (e ∷ us ++ vs) ≡ entries_at g (e ∷ us) ++ entries_at g vs
    pick same None h = rw (h, entries_at) same
    pick same (Some x) h = rw (h, entries_at) (ap (λ (ps : List Entry). entry_of x ∷ ps) same)

pub entries_length : (g : ℕ → Option Slot) (prev : Option ℕ) (from : ℕ) (es : List (ℕ × ℕ)) (next : Option ℕ) → Linked g prev from es next → length (entries_at g es) ≡ length es
entries_length g prev from [] next h = refl
entries_length g prev from (e ∷ es) next h = ap length (entries_here g e es h.0.held h.0.here) ∙ ap suc (entries_length g (Some e.1) (suc e.0) es next h.1)

-- slots that didn't change
pub keep : (g g' : ℕ → Option Slot) (prev : Option ℕ) (from : ℕ) (es : List (ℕ × ℕ)) (next : Option ℕ) → Linked g prev from es next → ((c : ℕ) (z : Slot) → g c ≡ Some z → from ≤ z.place → g' c ≡ g c) → Linked g' prev from es next × (entries_at g' es ≡ entries_at g es)
keep g g' prev from [] next h same = (tt, refl)
keep g g' prev from (e ∷ es) next h same =
    let rest = keep g g' (Some e.1) (suc e.0) es next h.1 (λ c z here le. same c z here (omega (arith, le, h.0.rises))) in
    let now : g' e.1 ≡ Some h.0.held = same e.1 h.0.held h.0.here (omega (arith, h.0.rises, h.0.place)) ∙ h.0.here in (
      (record { held = h.0.held; here = now; place = h.0.place; rises = h.0.rises; before = h.0.before; after = h.0.after }, rest.0),
      entries_here g' e es h.0.held now ∙ ap (λ (ps : List Entry). entry_of h.0.held ∷ ps) rest.1 ∙ sym (entries_here g e es h.0.held h.0.here),
    )

-- the last slot
pub last_place : (g : ℕ → Option Slot) (prev : Option ℕ) (from : ℕ) (es : List (ℕ × ℕ)) (next : Option ℕ) → Linked g prev from es next → (c : ℕ) → last_key None es ≡ Some c → (z : Slot) × (g c ≡ Some z) × (from ≤ z.place) × (z.place < above_all from es)
last_place g prev from [] next h c last = absurd (cc last)
last_place g prev from (e ∷ []) next h c last = (h.0.held, ap g (sym (some_same e.1 c last)) ∙ h.0.here, omega (arith, h.0.rises, h.0.place), omega (arith, h.0.place))
last_place g prev from (e ∷ f ∷ es) next h c last =
    let found = last_place g (Some e.1) (suc e.0) (f ∷ es) next h.1 c last in
    (found.0, found.1, omega (arith, found.2, h.0.rises), found.3)

same_entries : (t z : Slot) → t.place ≡ z.place → t.ready ≡ z.ready → entry_of t ≡ entry_of z
same_entries t z place ready = ap (λ n. let p : Entry = (n, t.ready) in p) place ∙ ap (λ r. let p : Entry = (z.place, r) in p) ready

-- another slot comes after the last
pub set_last : (g g' : ℕ → Option Slot) (prev : Option ℕ) (from : ℕ) (es : List (ℕ × ℕ)) (next next' : Option ℕ) → Linked g prev from es next → ((c : ℕ) (z : Slot) → g c ≡ Some z → z.place < above_all from es → (last_key None es ≡ Some c → (t : Slot) × (g' c ≡ Some t) × IsAfterChanged next' z t) × ((last_key None es ≡ Some c → ⊥) → g' c ≡ g c)) → Linked g' prev from es next' × (entries_at g' es ≡ entries_at g es)
set_last g g' prev from [] next next' h change = (tt, refl)
set_last g g' prev from (e ∷ []) next next' h change =
    let new = (change e.1 h.0.held h.0.here (omega (arith, h.0.place))).0 refl in
    let t = new.0 in
    let now = new.1 in
    let changed = new.2 in (
      (record { held = t; here = now; place = changed.place ∙ h.0.place; rises = h.0.rises; before = changed.left ∙ h.0.before; after = changed.right }, tt),
      entries_here g' e [] t now ∙ ap (λ (p : Entry). let ps : List Entry = p ∷ [] in ps) (same_entries t h.0.held changed.place changed.ready) ∙ sym (entries_here g e [] h.0.held h.0.here),
    )
set_last g g' prev from (e ∷ f ∷ es) next next' h change =
    let rest = set_last g g' (Some e.1) (suc e.0) (f ∷ es) next next' h.1 change in
    let above = above_from g (Some e.1) (suc e.0) (f ∷ es) next h.1 in
    let other : last_key None (f ∷ es) ≡ Some e.1 → ⊥ = λ last.
    let found = last_place g (Some e.1) (suc e.0) (f ∷ es) next h.1 e.1 last in
    omega (arith, found.2, h.0.place, ap (λ (z : Slot). z.place) (one_slot g e.1 e.1 found.0 h.0.held found.1 h.0.here refl)) in
    let now : g' e.1 ≡ Some h.0.held = (change e.1 h.0.held h.0.here (omega (arith, h.0.place, above))).1 other ∙ h.0.here in (
      (record { held = h.0.held; here = now; place = h.0.place; rises = h.0.rises; before = h.0.before; after = h.0.after }, rest.0),
      entries_here g' e (f ∷ es) h.0.held now ∙ ap (λ (ps : List Entry). entry_of h.0.held ∷ ps) rest.1 ∙ sym (entries_here g e (f ∷ es) h.0.held h.0.here),
    )

-- another slot comes before the first
set_first : (g g' : ℕ → Option Slot) (prev prev' : Option ℕ) (from : ℕ) (es : List (ℕ × ℕ)) (next : Option ℕ) → Linked g prev from es next → ((c : ℕ) (z : Slot) → g c ≡ Some z → from ≤ z.place → (first_key es None ≡ Some c → (t : Slot) × (g' c ≡ Some t) × IsBeforeChanged prev' z t) × ((first_key es None ≡ Some c → ⊥) → g' c ≡ g c)) → Linked g' prev' from es next × (entries_at g' es ≡ entries_at g es)
set_first g g' prev prev' from [] next h change = (tt, refl)
set_first g g' prev prev' from (e ∷ es) next h change =
    let new = (change e.1 h.0.held h.0.here (omega (arith, h.0.rises, h.0.place))).0 refl in
    let t = new.0 in
    let now = new.1 in
    let changed = new.2 in
    let rest = keep g g' (Some e.1) (suc e.0) es next h.1 (λ c z here le.
    (change c z here (omega (arith, le, h.0.rises))).1
    (λ same. omega (arith, le, h.0.place, ap (λ (y : Slot). y.place) (one_slot g e.1 c h.0.held z h.0.here here (some_same e.1 c same))))) in (
      (record { held = t; here = now; place = changed.place ∙ h.0.place; rises = h.0.rises; before = changed.left; after = changed.right ∙ h.0.after }, rest.0),
      entries_here g' e es t now
          ∙ ap (λ (p : Entry). p ∷ entries_at g' es) (same_entries t h.0.held changed.place changed.ready)
          ∙ ap (λ (ps : List Entry). entry_of h.0.held ∷ ps) rest.1
          ∙ sym (entries_here g e es h.0.held h.0.here),
    )

first_place : (g : ℕ → Option Slot) (prev : Option ℕ) (from : ℕ) (es : List (ℕ × ℕ)) (next : Option ℕ) → Linked g prev from es next → (c : ℕ) (z : Slot) → first_key es None ≡ Some c → g c ≡ Some z → from ≤ z.place
first_place g prev from [] next h c z first here = absurd (cc first)
first_place g prev from (e ∷ es) next h c z first here = omega (arith, h.0.rises, h.0.place, ap (λ (y : Slot). y.place) (one_slot g e.1 c h.0.held z h.0.here here (some_same e.1 c first)))

-- a slot in the middle goes
module _ (g g1 g2 g3 : ℕ → Option Slot) (us vs : List (ℕ × ℕ)) (e : ℕ × ℕ) (linked : Linked g None 0 (us ++ e ∷ vs) None) (x : Slot) (there : g e.1 ≡ Some x) (gone : (c : ℕ) → c ≢ e.1 → g1 c ≡ g c) (after : IsChangedAt x.before (IsAfterChanged x.after) g1 g2) (before : IsChangedAt x.after (IsBeforeChanged x.before) g2 g3) where
  parts : Linked g None 0 us (Some e.1) × Linked g (last_key None us) (above_all 0 us) (e ∷ vs) None
  parts = split_linked g None 0 us (e ∷ vs) None linked

  its : IsHeld g (last_key None us) (above_all 0 us) e (first_key vs None)
  its = parts.1.0

  same_x : its.held ≡ x
  same_x = one_slot g e.1 e.1 its.held x its.here there refl

  pub place_x : x.place ≡ e.0
  place_x = ap (λ (y : Slot). y.place) (sym same_x) ∙ its.place

  pub before_x : x.before ≡ last_key None us
  before_x = ap (λ (y : Slot). y.before) (sym same_x) ∙ its.before

  pub after_x : x.after ≡ first_key vs None
  after_x = ap (λ (y : Slot). y.after) (sym same_x) ∙ its.after

  apart : (c : ℕ) (z : Slot) → g c ≡ Some z → z.place ≢ e.0 → c ≢ e.1
  apart c z here other same = other (ap (λ (y : Slot). y.place) (one_slot g c e.1 z x here there same) ∙ place_x)

  left : Linked g3 None 0 us (first_key vs None) × (entries_at g3 us ≡ entries_at g us)
  left = set_last g g3 None 0 us (Some e.1) (first_key vs None) parts.0
      (λ c z here lt.
      let low : z.place < e.0 = omega (arith, lt, its.rises) in
      let kept : g1 c ≡ g c = gone c (apart c z here (λ same. omega (arith, same, low))) in
      let last : g3 c ≡ g2 c = before.others c (λ first. omega (arith, low, first_place g (Some e.1) (suc e.0) vs None parts.1.1 c z (sym after_x ∙ first) here)) in (
        λ is.
            let new = after.here c z (before_x ∙ is) (kept ∙ here) in
            (new.0, last ∙ new.1, subst (λ (o : Option ℕ). IsAfterChanged o z new.0) after_x new.2),
        λ isnt. last ∙ after.others c (λ is. isnt (sym before_x ∙ is)) ∙ kept,
      ))

  right : Linked g3 (last_key None us) (suc e.0) vs None × (entries_at g3 vs ≡ entries_at g vs)
  right = set_first g g3 (Some e.1) (last_key None us) (suc e.0) vs None parts.1.1
      (λ c z here le.
      let kept : g1 c ≡ g c = gone c (apart c z here (λ same. omega (arith, same, le))) in
      let middle : g2 c ≡ g c = after.others c (λ is.
      let found = last_place g None 0 us (Some e.1) parts.0 c (sym before_x ∙ is) in
      omega (arith, le, found.3, its.rises, ap (λ (y : Slot). y.place) (one_slot g c c z found.0 here found.1 refl))) ∙ kept in (
        λ is.
            let new = before.here c z (after_x ∙ is) (middle ∙ here) in
            (new.0, new.1, subst (λ (o : Option ℕ). IsBeforeChanged o z new.0) before_x new.2),
        λ isnt. before.others c (λ is. isnt (sym after_x ∙ is)) ∙ middle,
      ))

  pub left_entries : entries_at g3 us ≡ entries_at g us
  left_entries = left.1

  pub right_entries : entries_at g3 vs ≡ entries_at g vs
  right_entries = right.1

  -- the others are linked
  pub unlinked : Linked g3 None 0 (us ++ vs) None
  unlinked = join_linked g3 None 0 us vs None left.0 (lower g3 (last_key None us) (above_all 0 us) (suc e.0) vs None (omega (arith, its.rises)) right.0)

  pub unlinked_entries : entries_at g3 (us ++ vs) ≡ entries_at g us ++ entries_at g vs
  unlinked_entries = entries_append g3 us vs ∙ ap (λ (ps : List Entry). ps ++ entries_at g3 vs) left.1 ∙ ap (λ (ps : List Entry). entries_at g us ++ ps) right.1

  pub was_entries : entries_at g (us ++ e ∷ vs) ≡ entries_at g us ++ entry_of x ∷ entries_at g vs
  was_entries = entries_append g us (e ∷ vs) ∙ ap (λ (ps : List Entry). entries_at g us ++ ps) (entries_here g e vs x there)

-- nothing is written
pub unchanged_at : (Change : Slot → Slot → Type 0) (g : ℕ → Option Slot) (at : Option ℕ) → ((c : ℕ) → at ≡ Some c → g c ≡ None) → IsChangedAt at Change g g
unchanged_at Change g at none = record {
  here = λ c y at_c here_y. absurd (cc (none c at_c, here_y));
  others = λ c differs. refl;
}

-- one more is put last
module _ (g g1 g2 : ℕ → Option Slot) (es : List (ℕ × ℕ)) (n k : ℕ) (y : Slot) (linked : Linked g None 0 es None) (above_it : above_all 0 es ≤ n) (vacant : g k ≡ None) (put : g1 k ≡ Some y) (same : (c : ℕ) → c ≢ k → g1 c ≡ g c) (place : y.place ≡ n) (is_before : y.before ≡ last_key None es) (is_after : y.after ≡ None) (after : IsChangedAt (last_key None es) (IsAfterChanged (Some k)) g1 g2) where
  vacant_apart : (c : ℕ) (z : Slot) → g c ≡ Some z → c ≢ k
  vacant_apart c z here is = absurd (cc (vacant, ap g (sym is) ∙ here))

  front : Linked g2 None 0 es (Some k) × (entries_at g2 es ≡ entries_at g es)
  front = set_last g g2 None 0 es None (Some k) linked
      (λ c z here lt.
      let kept : g1 c ≡ g c = same c (vacant_apart c z here) in (
        λ is. after.here c z is (kept ∙ here),
        λ isnt. after.others c isnt ∙ kept,
      ))

  now : g2 k ≡ Some y
  now = after.others k (λ is. let found = last_place g None 0 es None linked k is in absurd (cc (vacant, found.1))) ∙ put

  pub pushed : Linked g2 None 0 (es ++ (n, k) ∷ []) None
  pushed = join_linked g2 None 0 es ((n, k) ∷ []) None front.0 (record { held = y; here = now; place = place; rises = above_it; before = is_before; after = is_after }, tt)

  pub pushed_entries : entries_at g2 (es ++ (n, k) ∷ []) ≡ entries_at g es ++ entry_of y ∷ []
  pushed_entries =
      entries_append g2 es ((n, k) ∷ [])
      ∙ ap (λ (ps : List Entry). ps ++ entries_at g2 ((n, k) ∷ [])) front.1
      ∙ ap (λ (ps : List Entry). entries_at g es ++ ps) (entries_here g2 (n, k) [] y now)
