-- Slots of one table that are linked, those of each thread in the order of their places, and the free ones.
use Rattle.std.specs.Prelude.{◌≡◌, ◌≤◌, ◌<◌, ◌+◌, ◌==◌, if◌then◌else◌, ℕ, zero, suc, List, [], ◌∷◌, length, map, slice_get, slice_set, slice_index_or, Option, Some, None}
use Rattle.std.specs.List.{AllByRecursion}
use Rattle.send_variants.specs.declared.ready.Ready.{Ready}
use Rattle.send_variants.specs.declared.slot.Slot.{Slot}
use Rattle.send_variants.specs.declared.slot.Ends.{Ends}
use Rattle.send_variants.specs.Lists.{Entry, named_by, total}

-- what a slot holds
abbrev pub entry_of : Slot → Entry
entry_of s = (s.place, s.ready)

-- the slots of a thread by their keys; those of thread 0 are free
abbrev pub seen : List Slot → ℕ → ℕ → Option Slot
seen slots t k = elim (slice_get slots k) [ Some x ↦ if x.thread == t then Some x else None | None ↦ None ]

-- what the slots hold that have these keys, in this order. Each key stands beside a place
abbrev pub entries_at : (ℕ → Option Slot) → List (ℕ × ℕ) → List Entry
entries_at slot [] = []
entries_at slot (e ∷ es) = elim (slot e.1) [ Some x ↦ entry_of x ∷ entries_at slot es | None ↦ entries_at slot es ]

-- the first key, or this where there is none
abbrev pub first_key : List (ℕ × ℕ) → Option ℕ → Option ℕ
first_key [] next = next
first_key (e ∷ es) next = Some e.1

-- the last key, or this where there is none
abbrev pub last_key : Option ℕ → List (ℕ × ℕ) → Option ℕ
last_key before [] = before
last_key before (e ∷ es) = last_key (Some e.1) es

-- a place above all of these, and no less than this
abbrev pub above_all : ℕ → List (ℕ × ℕ) → ℕ
above_all from [] = from
above_all from (e ∷ es) = above_all (suc e.0) es

-- the slot under the key has the place, which is no less than this, and stands between these
pub record IsHeld (slot : ℕ → Option Slot) (prev : Option ℕ) (from : ℕ) (e : ℕ × ℕ) (next : Option ℕ) : Type 0 where
  pub held : Slot
  pub here : slot e.1 ≡ Some held
  pub place : held.place ≡ e.0
  pub rises : from ≤ e.0
  pub before : held.before ≡ prev
  pub after : held.after ≡ next

-- the slots of these keys are linked in this order, from one after this key to one before that, and their
-- places rise
abbrev pub Linked : (ℕ → Option Slot) → Option ℕ → ℕ → List (ℕ × ℕ) → Option ℕ → Type 0
Linked slot prev from [] next = Unit {0}
Linked slot prev from (e ∷ es) next = IsHeld slot prev from e (first_key es next) × Linked slot (Some e.1) (suc e.0) es next

-- an end of a list once a slot has come or gone: what stands beside the slot on the other side, where nothing
-- stands beside it on this one
abbrev pub end_left : Option ℕ → Option ℕ → Option ℕ → Option ℕ
end_left (Some key) end other = end
end_left None end other = other

-- what so many slots hold at most, from this key on by their links
abbrev pub walk : (ℕ → Option Slot) → ℕ → Option ℕ → List Entry
walk slot zero at = []
walk slot (suc n) None = []
walk slot (suc n) (Some key) = elim (slot key) [ Some x ↦ entry_of x ∷ walk slot n x.after | None ↦ [] ]

-- the entries of one list
abbrev pub listed : List Slot → Ends → List Entry
listed slots e = walk (slice_get slots) 1024 e.first

-- the entries of all lists
abbrev pub lists_in : List Slot → List Ends → List (List Entry)
lists_in slots ends = map (listed slots) ends

-- the free slots are linked in this order, from this key on
abbrev pub Freed : (ℕ → Option Slot) → Option ℕ → List ℕ → Type 0
Freed slot at [] = at ≡ None
Freed slot at (k ∷ ks) = (at ≡ Some k) × ((x : Slot) × (slot k ≡ Some x) × AllByRecursion (λ c. c ≡ k → ⊥) ks × Freed slot x.after ks)

-- no end
abbrev pub no_ends : Ends
no_ends = record { first = None; last = None }

-- the slots of one list
pub record IsRow (slots : List Slot) (t : ℕ) (e : Ends) (es : List (ℕ × ℕ)) : Type 0 where
  pub linked : Linked (seen slots t) None 0 es None
  pub first : e.first ≡ first_key es None
  pub last : e.last ≡ last_key None es
  pub short : length es ≤ 1024

-- what is true of every table
pub record IsTable (slots : List Slot) (ends : List Ends) (free : Option ℕ) : Type 0 where
  pub rows : ℕ → List (ℕ × ℕ)
  pub unused : List ℕ
  pub row : (i : ℕ) → i < length ends → IsRow slots (suc i) (slice_index_or ends i no_ends) (rows i)
  pub freed : Freed (seen slots 0) free unused
  pub full : total (lists_in slots ends) + length unused ≡ 1024

-- the same entry, with another slot after it
pub record IsAfterChanged (after : Option ℕ) (old new : Slot) : Type 0 where
  pub thread : new.thread ≡ old.thread
  pub place : new.place ≡ old.place
  pub ready : new.ready ≡ old.ready
  pub left : new.before ≡ old.before
  pub right : new.after ≡ after

-- the same entry, with another slot before it
pub record IsBeforeChanged (before : Option ℕ) (old new : Slot) : Type 0 where
  pub thread : new.thread ≡ old.thread
  pub place : new.place ≡ old.place
  pub ready : new.ready ≡ old.ready
  pub left : new.before ≡ before
  pub right : new.after ≡ old.after

-- the slot under the key, if there is one, is changed so, and nothing else
pub record IsChangedAt (at : Option ℕ) (Change : Slot → Slot → Type 0) (old new : ℕ → Option Slot) : Type 0 where
  pub here : (key : ℕ) (s : Slot) → at ≡ Some key → old key ≡ Some s → (t : Slot) × (new key ≡ Some t) × Change s t
  pub others : (key : ℕ) → (at ≡ Some key → ⊥) → new key ≡ old key

-- a new slot that stands last in a list
abbrev pub slot_of : ℕ → ℕ → Ready → Ends → Slot
slot_of at place ready e = record { thread = suc at; place = place; ready = ready; before = e.last; after = None }

-- the slot, free, before this one
abbrev pub freed : Slot → Option ℕ → Slot
freed x free = record x { thread = 0; after = free }

-- the key after so many links
abbrev pub jump : (ℕ → Option Slot) → ℕ → Option ℕ → Option ℕ
jump slot zero at = at
jump slot (suc n) None = None
jump slot (suc n) (Some key) = elim (slot key) [ Some x ↦ jump slot n x.after | None ↦ None ]

-- the slot under a key, if there is one
abbrev pub slot_under : List Slot → Option ℕ → Option Slot
slot_under slots None = None
slot_under slots (Some key) = slice_get slots key

-- the slot under the key names the send, and the links lead there from this key
pub record IsReached (slots : List Slot) (first : Option ℕ) (send key : ℕ) : Type 0 where
  pub steps : ℕ
  pub few : steps ≤ 1024
  pub way : jump (slice_get slots) steps first ≡ Some key
  pub found : Slot
  pub here : slice_get slots key ≡ Some found
  pub named : named_by found.ready ≡ send

-- a slot was put last in a list, under the first free key
pub record IsPut (old new : List Slot) (free : Option ℕ) (e e' : Ends) (key : ℕ) (was is : Slot) : Type 0 where
  pub free_is : free ≡ was.after
  pub after : IsChangedAt e.last (IsAfterChanged (Some key)) (slice_get (slice_set old key is)) (slice_get new)
  pub first : e'.first ≡ end_left e.last e.first (Some key)
  pub last : e'.last ≡ Some key

-- the slot under a key was taken out of its list
pub record IsTaken (old new : List Slot) (free free' : Option ℕ) (e e' : Ends) (key : ℕ) (was : Slot) (entry : Option Entry) : Type 0 where
  pub entry_is : entry ≡ Some (entry_of was)
  pub free_is : free' ≡ Some key
  pub middle : List Slot
  pub after : IsChangedAt was.before (IsAfterChanged was.after) (slice_get (slice_set old key (freed was free))) (slice_get middle)
  pub before : IsChangedAt was.after (IsBeforeChanged was.before) (slice_get middle) (slice_get new)
  pub first : e'.first ≡ end_left was.before e.first was.after
  pub last : e'.last ≡ end_left was.after e.last was.before
