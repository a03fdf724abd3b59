-- A table after an entry was put or taken.
use Rattle.std.proofs.Common.{◌≡◌, ◌≢◌, ◌∙◌, inl, inr, ℕ, suc, ◌+◌, ◌<◌, ◌≤◌, List, [], ◌∷◌, ◌++◌, length, length-append, cond, eqb, get_or, set, Option, Some, None, refl, sym, ap, subst, arith}
use Rattle.std.specs.Prelude.{slice_get}
use Rattle.std.specs.List.{AllByRecursion}
use Rattle.std.proofs.lemmas.Bool.{cases_Bool, eqb-true, eq-eqb}
use Rattle.std.proofs.lemmas.List.{length-set, get_or-set_same, get_or-set_other}
use Rattle.send_variants.specs.declared.ready.Ready.{Ready}
use Rattle.send_variants.specs.declared.slot.Slot.{Slot}
use Rattle.send_variants.specs.declared.slot.Ends.{Ends}
use Rattle.send_variants.specs.Lists.{AreBelow, Entry, total}
use Rattle.send_variants.specs.Tables.{entry_of, seen, entries_at, first_key, last_key, above_all, Linked, lists_in, Freed, no_ends, IsRow, IsTable, IsAfterChanged, IsBeforeChanged, IsChangedAt, IsPut, IsTaken, slot_of, freed}
use Rattle.send_variants.proofs.Chains.{some_same, one_slot, split_linked, entries_length, last_place, pushed, pushed_entries, unlinked, unlinked_entries, was_entries, before_x, after_x}
use Rattle.send_variants.proofs.Joins.{first_left, last_left, first_more, last_more, below_all}
use Rattle.send_variants.proofs.Tables.{option_cases, seen_some, seen_other, seen_is, get_set_same, get_set_other, seen_by_get, after_seen, before_seen, seen_apart, seen_set_apart, listed_is, row_kept, lists_set, list_at, list_within, freed_kept, freed_more}
use Rattle.send_variants.proofs.Entries.{total-set, length-total}

-- the first free slot
pub record IsFirstFree (s : List Slot) (free : Option ℕ) (unused : List ℕ) : Type 0 where
  pub key : ℕ
  pub later : List ℕ
  pub is : unused ≡ key ∷ later
  pub at : free ≡ Some key
  pub was : Slot
  pub here : slice_get s key ≡ Some was
  pub thread : was.thread ≡ 0
  pub apart : AllByRecursion (λ c. c ≡ key → ⊥) later
  pub rest : Freed (seen s 0) was.after later

pub first_free : (s : List Slot) (free : Option ℕ) (unused : List ℕ) → Freed (seen s 0) free unused → 1 ≤ length unused → IsFirstFree s free unused
first_free s free [] h some = absurd (omega (arith, some))
first_free s free (k ∷ ks) h some =
    let shown = seen_is s 0 k h.1.0 h.1.1 in
    record { key = k; later = ks; is = refl; at = h.0; was = h.1.0; here = shown.0; thread = shown.1; apart = h.1.2; rest = h.1.3 }

-- one list of a table is another
module _ (s s' : List Slot) (ends : List Ends) (free free' : Option ℕ) (i : ℕ) (pair : Ends) (table : IsTable s ends free) (lt : i < length ends) (es' : List (ℕ × ℕ)) (unused' : List ℕ) (new : IsRow s' (suc i) pair es') (same : (j : ℕ) → j ≢ i → (c : ℕ) → seen s' (suc j) c ≡ seen s (suc j) c) (free_is : Freed (seen s' 0) free' unused') where
  pub view : (es : List Entry) → entries_at (seen s' (suc i)) es' ≡ es → lists_in s' (set ends i pair) ≡ set (lists_in s ends) i es
  view es is =
      lists_set s s' ends i pair es (λ j at differs. (row_kept s s' (suc j) (get_or ends j no_ends) (table.rows j) (same j differs) (table.row j at)).1)
      (listed_is s' (suc i) pair es' new ∙ is)

  abbrev rows' : ℕ → List (ℕ × ℕ)
  rows' j = cond (eqb j i) es' (table.rows j)

  row' : (j : ℕ) → j < length (set ends i pair) → IsRow s' (suc j) (get_or (set ends i pair) j no_ends) (rows' j)
  row' j at = elim (cases_Bool (eqb j i)) [
    | inl hit ↦
        let is : j ≡ i = eqb-true j i hit in
        let here : get_or (set ends i pair) j no_ends ≡ pair = ap (λ n. get_or (set ends i pair) n no_ends) is ∙ get_or-set_same ends i pair no_ends lt in
        subst (λ (es : List (ℕ × ℕ)). IsRow s' (suc j) (get_or (set ends i pair) j no_ends) es) (sym (ap (λ b. cond b es' (table.rows j)) hit))
        (subst (λ (e : Ends). IsRow s' (suc j) e es') (sym here) (subst (λ n. IsRow s' (suc n) pair es') (sym is) new))
    | inr miss ↦
        let differs : j ≢ i = λ is. absurd (cc (miss, eq-eqb j i is)) in
        let here : get_or (set ends i pair) j no_ends ≡ get_or ends j no_ends = get_or-set_other ends i j pair no_ends differs in
        subst (λ (es : List (ℕ × ℕ)). IsRow s' (suc j) (get_or (set ends i pair) j no_ends) es) (sym (ap (λ b. cond b es' (table.rows j)) miss))
        (subst (λ (e : Ends). IsRow s' (suc j) e (table.rows j)) (sym here) (row_kept s s' (suc j) (get_or ends j no_ends) (table.rows j) (same j differs) (table.row j (subst (λ n. j < n) (length-set ends i pair) at))).0)
  ]

  pub table_is : total (lists_in s' (set ends i pair)) + length unused' ≡ 1024 → IsTable s' (set ends i pair) free'
  table_is full = record { rows = rows'; unused = unused'; row = row'; freed = free_is; full = full }

-- an entry was put
module _ (s s' : List Slot) (ends : List Ends) (i place : ℕ) (ready : Ready) (free free' : Option ℕ) (pair : Ends) (table : IsTable s ends free) (lt : i < length ends) (below : AreBelow place (get_or (lists_in s ends) i [])) (room : total (lists_in s ends) < 1024) (f : IsFirstFree s free table.unused) (put : IsPut s s' free' (get_or ends i no_ends) pair f.key f.was (slot_of i place ready (get_or ends i no_ends))) where
  abbrev e : Ends
  e = get_or ends i no_ends

  abbrev es : List (ℕ × ℕ)
  es = table.rows i

  row : IsRow s (suc i) e es
  row = table.row i lt

  abbrev y : Slot
  y = slot_of i place ready e

  abbrev mid : List Slot
  mid = set s f.key y

  old_list : get_or (lists_in s ends) i [] ≡ entries_at (seen s (suc i)) es
  old_list = list_at s ends i lt ∙ listed_is s (suc i) e es row

  vacant : seen s (suc i) f.key ≡ None
  vacant = seen_other s (suc i) f.key f.was f.here (λ is. omega (arith, is, f.thread))

  low : above_all 0 es ≤ place
  low = below_all (seen s (suc i)) place es row.linked (subst (AreBelow place) old_list below)

  filled : seen mid (suc i) f.key ≡ Some y
  filled = seen_some mid (suc i) f.key y (get_set_same s f.key f.was y f.here) refl

  others : (c : ℕ) → c ≢ f.key → seen mid (suc i) c ≡ seen s (suc i) c
  others c differs = seen_by_get s mid (suc i) c (get_set_other s f.key c y differs)

  after : IsChangedAt (last_key None es) (IsAfterChanged (Some f.key)) (seen mid (suc i)) (seen s' (suc i))
  after = subst (λ (o : Option ℕ). IsChangedAt o (IsAfterChanged (Some f.key)) (seen mid (suc i)) (seen s' (suc i))) row.last (after_seen mid s' (suc i) e.last (Some f.key) put.after)

  new_row : IsRow s' (suc i) pair (es ++ (place, f.key) ∷ [])
  new_row = record {
    linked = pushed (seen s (suc i)) (seen mid (suc i)) (seen s' (suc i)) es place f.key y row.linked low vacant filled others refl row.last refl after;
    first = put.first ∙ first_more es place f.key e.first e.last row.first row.last;
    last = put.last ∙ last_more es place f.key;
    short = omega (arith, length-append es ((place, f.key) ∷ []), entries_length (seen s (suc i)) None 0 es None row.linked, ap length old_list, length-total (lists_in s ends) i, room);
  }

  there : (c : ℕ) → e.last ≡ Some c → (x : Slot) × (slice_get mid c ≡ Some x) × (x.thread ≡ suc i)
  there c is =
      let found = last_place (seen s (suc i)) None 0 es None row.linked c (sym row.last ∙ is) in
      let shown = seen_is s (suc i) c found.0 found.1 in
      let differs : c ≢ f.key = λ same. absurd (cc (vacant, ap (seen s (suc i)) (sym same) ∙ found.1)) in
      (found.0, get_set_other s f.key c y differs ∙ shown.0, shown.1)

  apart : (u : ℕ) → suc i ≢ u → (c : ℕ) → seen s' u c ≡ seen mid u c
  apart u differs = seen_apart mid s' (suc i) u differs e.last (IsAfterChanged (Some f.key)) (λ x z h. h.thread) put.after there

  rows_same : (j : ℕ) → j ≢ i → (c : ℕ) → seen s' (suc j) c ≡ seen s (suc j) c
  rows_same j differs c = apart (suc j) (λ is. differs (omega (arith, is))) c ∙ seen_set_apart s (suc j) f.key f.was y f.here (λ is. omega (arith, is, f.thread)) (λ is. differs (omega (arith, is))) c

  free_is : Freed (seen s' 0) free' f.later
  free_is = subst (λ (o : Option ℕ). Freed (seen s' 0) o f.later) (sym put.free_is)
      (freed_kept (seen s 0) (seen s' 0) f.was.after f.key f.later f.apart (λ c differs. apart 0 (λ is. omega (arith, is)) c ∙ seen_by_get s mid 0 c (get_set_other s f.key c y differs)) f.rest)

  new_list : entries_at (seen s' (suc i)) (es ++ (place, f.key) ∷ []) ≡ get_or (lists_in s ends) i [] ++ (place, ready) ∷ []
  new_list =
      pushed_entries (seen s (suc i)) (seen mid (suc i)) (seen s' (suc i)) es place f.key y row.linked low vacant filled others refl row.last refl after
      ∙ ap (λ (ds : List Entry). ds ++ (place, ready) ∷ []) (sym old_list)

  pub put_view : lists_in s' (set ends i pair) ≡ set (lists_in s ends) i (get_or (lists_in s ends) i [] ++ (place, ready) ∷ [])
  put_view = view s s' ends free free' i pair table lt (es ++ (place, f.key) ∷ []) f.later new_row rows_same free_is _ new_list

  pub put_table : IsTable s' (set ends i pair) free'
  put_table = table_is s s' ends free free' i pair table lt (es ++ (place, f.key) ∷ []) f.later new_row rows_same free_is
      (omega (arith, ap total put_view, total-set (lists_in s ends) i (get_or (lists_in s ends) i [] ++ (place, ready) ∷ []) (list_within s ends i lt), length-append (get_or (lists_in s ends) i []) ((place, ready) ∷ []), table.full, ap length f.is))

-- a slot after a change of links has its thread
carried : (s s' : List Slot) (at : Option ℕ) (Change : Slot → Slot → Type 0) (kept : (x y : Slot) → Change x y → y.thread ≡ x.thread) → IsChangedAt at Change (slice_get s) (slice_get s') → (c : ℕ) (z : Slot) → slice_get s c ≡ Some z → (y : Slot) × (slice_get s' c ≡ Some y) × (y.thread ≡ z.thread)
carried s s' at Change kept h c z here = elim (option_cases at) [
  | inr n ↦ (z, h.others c (λ is. absurd (cc (n, is))) ∙ here, refl)
  | inl k ↦ elim (cases_Bool (eqb k.0 c)) [
    | inl same ↦
        let new = h.here c z (k.1 ∙ ap (λ n. let o : Option ℕ = Some n in o) (eqb-true k.0 c same)) here in
        (new.0, new.1, kept z new.0 new.2)
    | inr differs ↦ (z, h.others c (λ is. absurd (cc (differs, eq-eqb k.0 c (some_same k.0 c (sym k.1 ∙ is))))) ∙ here, refl)
  ]
]

-- the first slot of a list
first_slot : (g : ℕ → Option Slot) (prev : Option ℕ) (from : ℕ) (es : List (ℕ × ℕ)) (next : Option ℕ) → Linked g prev from es next → (c : ℕ) → first_key es None ≡ Some c → (z : Slot) × (g c ≡ Some z) × (from ≤ z.place)
first_slot g prev from [] next h c is = absurd (cc is)
first_slot g prev from (e ∷ es) next h c is = (h.0.held, ap g (sym (some_same e.1 c is)) ∙ h.0.here, omega (arith, h.0.place, h.0.rises))

-- an entry was taken
module _ (s s' : List Slot) (ends : List Ends) (i key : ℕ) (free free' : Option ℕ) (pair : Ends) (table : IsTable s ends free) (lt : i < length ends) (us vs : List (ℕ × ℕ)) (p : ℕ) (parts : table.rows i ≡ us ++ (p, key) ∷ vs) (was : Slot) (entry : Option Entry) (here : slice_get s key ≡ Some was) (taken : IsTaken s s' free free' (get_or ends i no_ends) pair key was entry) where
  abbrev t_e : Ends
  t_e = get_or ends i no_ends

  t_row : IsRow s (suc i) t_e (table.rows i)
  t_row = table.row i lt

  t_linked : Linked (seen s (suc i)) None 0 (us ++ (p, key) ∷ vs) None
  t_linked = subst (λ (es : List (ℕ × ℕ)). Linked (seen s (suc i)) None 0 es None) parts t_row.linked

  abbrev halves : Linked (seen s (suc i)) None 0 us (Some key) × Linked (seen s (suc i)) (last_key None us) (above_all 0 us) ((p, key) ∷ vs) None
  halves = split_linked (seen s (suc i)) None 0 us ((p, key) ∷ vs) None t_linked

  abbrev held : Slot
  held = halves.1.0.held

  held_is : held ≡ was
  held_is = some_same held was (sym (seen_is s (suc i) key held halves.1.0.here).0 ∙ here)

  pub its_thread : was.thread ≡ suc i
  its_thread = ap (λ (z : Slot). z.thread) (sym held_is) ∙ (seen_is s (suc i) key held halves.1.0.here).1

  its_place : was.place ≡ p
  its_place = ap (λ (z : Slot). z.place) (sym held_is) ∙ halves.1.0.place

  seen_it : seen s (suc i) key ≡ Some was
  seen_it = seen_some s (suc i) key was here its_thread

  abbrev t_mid : List Slot
  t_mid = set s key (freed was free)

  gone : (c : ℕ) → c ≢ key → seen t_mid (suc i) c ≡ seen s (suc i) c
  gone c differs = seen_by_get s t_mid (suc i) c (get_set_other s key c (freed was free) differs)

  t_after : IsChangedAt was.before (IsAfterChanged was.after) (seen t_mid (suc i)) (seen taken.middle (suc i))
  t_after = after_seen t_mid taken.middle (suc i) was.before was.after taken.after

  t_before : IsChangedAt was.after (IsBeforeChanged was.before) (seen taken.middle (suc i)) (seen s' (suc i))
  t_before = before_seen taken.middle s' (suc i) was.after was.before taken.before

  before_is : was.before ≡ last_key None us
  before_is = before_x (seen s (suc i)) (seen t_mid (suc i)) (seen taken.middle (suc i)) (seen s' (suc i)) us vs (p, key) t_linked was seen_it gone t_after t_before

  after_is : was.after ≡ first_key vs None
  after_is = after_x (seen s (suc i)) (seen t_mid (suc i)) (seen taken.middle (suc i)) (seen s' (suc i)) us vs (p, key) t_linked was seen_it gone t_after t_before

  left_row : IsRow s' (suc i) pair (us ++ vs)
  left_row = record {
    linked = unlinked (seen s (suc i)) (seen t_mid (suc i)) (seen taken.middle (suc i)) (seen s' (suc i)) us vs (p, key) t_linked was seen_it gone t_after t_before;
    first = taken.first ∙ first_left us vs (p, key) was.before was.after before_is after_is t_e.first (t_row.first ∙ ap (λ (es : List (ℕ × ℕ)). first_key es None) parts);
    last = taken.last ∙ last_left us vs (p, key) was.before was.after before_is after_is t_e.last (t_row.last ∙ ap (last_key None) parts);
    short = omega (arith, length-append us vs, length-append us ((p, key) ∷ vs), ap length parts, t_row.short);
  }

  there_before : (c : ℕ) → was.before ≡ Some c → (x : Slot) × (slice_get t_mid c ≡ Some x) × (x.thread ≡ suc i)
  there_before c is =
      let found = last_place (seen s (suc i)) None 0 us (Some key) halves.0 c (sym before_is ∙ is) in
      let shown = seen_is s (suc i) c found.0 found.1 in
      let differs : c ≢ key = λ same. omega (arith, found.3, halves.1.0.rises, its_place, ap (λ (z : Slot). z.place) (one_slot (seen s (suc i)) c key found.0 was found.1 seen_it same)) in
      (found.0, get_set_other s key c (freed was free) differs ∙ shown.0, shown.1)

  there_after : (c : ℕ) → was.after ≡ Some c → (x : Slot) × (slice_get taken.middle c ≡ Some x) × (x.thread ≡ suc i)
  there_after c is =
      let found = first_slot (seen s (suc i)) (Some key) (suc p) vs None halves.1.1 c (sym after_is ∙ is) in
      let shown = seen_is s (suc i) c found.0 found.1 in
      let differs : c ≢ key = λ same. omega (arith, found.2, its_place, ap (λ (z : Slot). z.place) (one_slot (seen s (suc i)) c key found.0 was found.1 seen_it same)) in
      let new = carried t_mid taken.middle was.before (IsAfterChanged was.after) (λ x z h. h.thread) taken.after c found.0 (get_set_other s key c (freed was free) differs ∙ shown.0) in
      (new.0, new.1, new.2 ∙ shown.1)

  t_apart : (u : ℕ) → suc i ≢ u → (c : ℕ) → seen s' u c ≡ seen t_mid u c
  t_apart u differs c =
      seen_apart taken.middle s' (suc i) u differs was.after (IsBeforeChanged was.before) (λ x z h. h.thread) taken.before there_after c
      ∙ seen_apart t_mid taken.middle (suc i) u differs was.before (IsAfterChanged was.after) (λ x z h. h.thread) taken.after there_before c

  t_rows_same : (j : ℕ) → j ≢ i → (c : ℕ) → seen s' (suc j) c ≡ seen s (suc j) c
  t_rows_same j differs c = t_apart (suc j) (λ is. differs (omega (arith, is))) c ∙ seen_set_apart s (suc j) key was (freed was free) here (λ is. differs (omega (arith, is, its_thread))) (λ is. omega (arith, is)) c

  t_free : Freed (seen s' 0) free' (key ∷ table.unused)
  t_free = subst (λ (o : Option ℕ). Freed (seen s' 0) o (key ∷ table.unused)) (sym taken.free_is)
      (freed_more (seen s 0) (seen s' 0) free key table.unused (freed was free)
      (seen_other s 0 key was here (λ is. omega (arith, is, its_thread)))
      (t_apart 0 (λ is. omega (arith, is)) key ∙ seen_some t_mid 0 key (freed was free) (get_set_same s key was (freed was free) here) refl)
      refl
      (λ c differs. t_apart 0 (λ is. omega (arith, is)) c ∙ seen_by_get s t_mid 0 c (get_set_other s key c (freed was free) differs))
      table.freed)

  pub old_parts : get_or (lists_in s ends) i [] ≡ entries_at (seen s (suc i)) us ++ entry_of was ∷ entries_at (seen s (suc i)) vs
  old_parts =
      list_at s ends i lt
      ∙ listed_is s (suc i) t_e (table.rows i) t_row
      ∙ ap (entries_at (seen s (suc i))) parts
      ∙ was_entries (seen s (suc i)) (seen t_mid (suc i)) (seen taken.middle (suc i)) (seen s' (suc i)) us vs (p, key) t_linked was seen_it gone t_after t_before

  pub take_view : lists_in s' (set ends i pair) ≡ set (lists_in s ends) i (entries_at (seen s (suc i)) us ++ entries_at (seen s (suc i)) vs)
  take_view = view s s' ends free free' i pair table lt (us ++ vs) (key ∷ table.unused) left_row t_rows_same t_free _
      (unlinked_entries (seen s (suc i)) (seen t_mid (suc i)) (seen taken.middle (suc i)) (seen s' (suc i)) us vs (p, key) t_linked was seen_it gone t_after t_before)

  pub take_table : IsTable s' (set ends i pair) free'
  take_table =
      let xs = entries_at (seen s (suc i)) us in
      let ys = entries_at (seen s (suc i)) vs in
      table_is s s' ends free free' i pair table lt (us ++ vs) (key ∷ table.unused) left_row t_rows_same t_free
      (omega (arith, ap total take_view, total-set (lists_in s ends) i (xs ++ ys) (list_within s ends i lt), ap length old_parts, length-append xs (entry_of was ∷ ys), length-append xs ys, table.full))
