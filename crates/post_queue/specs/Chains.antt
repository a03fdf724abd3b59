-- Slots that are linked in posted order. The index is a list of numbers, each with the key of its slot.
use Rattle.std.specs.Prelude.{◌≡◌, ◌≤◌, ◌<◌, ◌==◌, if◌then◌else◌, ℕ, suc, List, [], ◌∷◌, length, Option, Some, None}
use Rattle.slab.specs.Slab.{get}
use Rattle.post_queue.specs.declared.slot.Slot.{Slot}
use Rattle.post_queue.specs.declared.chain.Chain.{Chain}
use Rattle.post_queue.specs.Queue.{Posted, post_of}

-- the message of a slot, with its number
abbrev pub posted_of : Slot → Posted
posted_of s = post_of s.number s.sealed

-- the messages in the slots of the index, in its order
abbrev pub posted_at : (ℕ → Option Slot) → List (ℕ × ℕ) → List Posted
posted_at slot [] = []
posted_at slot (e ∷ es) = elim (slot e.1) [ Some x ↦ posted_of x ∷ posted_at slot es | None ↦ posted_at slot es ]

-- the first key, or this where there is none
abbrev pub first_key : List (ℕ × ℕ) → Option ℕ → Option ℕ
first_key [] next = next
first_key (e ∷ es) next = Some e.1

-- the last key, or this where there is none
abbrev pub last_key : Option ℕ → List (ℕ × ℕ) → Option ℕ
last_key before [] = before
last_key before (e ∷ es) = last_key (Some e.1) es

-- a number above all of these, and no less than this
abbrev pub above_all : ℕ → List (ℕ × ℕ) → ℕ
above_all from [] = from
above_all from (e ∷ es) = above_all (suc e.0) es

-- the slot under the key has the number, which is no less than this, and stands between these
pub record IsHeld (slot : ℕ → Option Slot) (prev : Option ℕ) (from : ℕ) (e : ℕ × ℕ) (next : Option ℕ) : Type 0 where
  pub held : Slot
  pub here : slot e.1 ≡ Some held
  pub number : held.number ≡ e.0
  pub rises : from ≤ e.0
  pub before : held.before ≡ prev
  pub after : held.after ≡ next

-- the slots of the index are linked in its order, from one after this key to one before that, and their
-- numbers rise
abbrev pub Linked : (ℕ → Option Slot) → Option ℕ → ℕ → List (ℕ × ℕ) → Option ℕ → Type 0
Linked slot prev from [] next = Unit {0}
Linked slot prev from (e ∷ es) next = IsHeld slot prev from e (first_key es next) × Linked slot (Some e.1) (suc e.0) es next

-- what is true of every chain
pub record IsChain (c : Chain) : Type 0 where
  pub linked : Linked (get c.slots) None 0 c.index.entries None
  pub first : c.first ≡ first_key c.index.entries None
  pub last : c.last ≡ last_key None c.index.entries

-- the messages of a chain, in posted order
abbrev pub posted_in : Chain → List Posted
posted_in c = posted_at (get c.slots) c.index.entries

-- an end of the chain once a slot has gone: what stands beside the slot on the other side, where nothing
-- stands beside it on this one
abbrev pub end_left : Option ℕ → Option ℕ → Option ℕ → Option ℕ
end_left (Some key) end other = end
end_left None end other = other

-- how many numbers of the index are left from that of the key on
abbrev pub left_from : Option ℕ → List (ℕ × ℕ) → ℕ
left_from at [] = 0
left_from at (e ∷ es) = elim at [ None ↦ 0 | Some key ↦ if e.1 == key then suc (length es) else left_from at es ]

-- the same message, with another slot after it
pub record IsAfterChanged (after : Option ℕ) (old new : Slot) : Type 0 where
  pub number : new.number ≡ old.number
  pub sealed : new.sealed ≡ old.sealed
  pub left : new.before ≡ old.before
  pub right : new.after ≡ after

-- the same message, with another slot before it
pub record IsBeforeChanged (before : Option ℕ) (old new : Slot) : Type 0 where
  pub number : new.number ≡ old.number
  pub sealed : new.sealed ≡ old.sealed
  pub left : new.before ≡ before
  pub right : new.after ≡ old.after

-- the slot under the key, if there is one, is changed so, and nothing else
pub record IsChangedAt (at : Option ℕ) (Change : Slot → Slot → Type 0) (old new : ℕ → Option Slot) : Type 0 where
  pub here : (key : ℕ) (s : Slot) → at ≡ Some key → old key ≡ Some s → (t : Slot) × (new key ≡ Some t) × Change s t
  pub others : (key : ℕ) → (at ≡ Some key → ⊥) → new key ≡ old key

-- what is true of every queue
pub record IsSound (c : Chain) (limit : ℕ) : Type 0 where
  pub chain : IsChain c
  pub within : length (posted_in c) ≤ limit
  pub fits : limit < 4294967296
