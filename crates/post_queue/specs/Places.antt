-- Where the slots of numbers are. A place keeps the key of its slot until its message leaves.
use Rattle.std.specs.Prelude.{◌≡◌, ◌≤◌, ◌==◌, if◌then◌else◌, ℕ, suc, Bool, true, false, List, [], ◌∷◌, length, Option, Some, None}
use Rattle.post_queue.specs.declared.index.Place.{Place}

-- numbers, each with the key of its slot
pub record Keys : Type 0 where
  pub entries : List (ℕ × ℕ)

-- the numbers from their list
abbrev pub keys : List (ℕ × ℕ) → Keys
keys es = record { entries = es }

-- the key of a number
abbrev pub key_of : ℕ → List (ℕ × ℕ) → Option ℕ
key_of n [] = None
key_of n (e ∷ es) = if n == e.0 then Some e.1 else key_of n es

-- without a number
abbrev pub without_key : ℕ → List (ℕ × ℕ) → List (ℕ × ℕ)
without_key n [] = []
without_key n (e ∷ es) = if n == e.0 then es else e ∷ without_key n es

-- the numbers whose message hasn't left
abbrev pub kept_in : List Place → List (ℕ × ℕ)
kept_in [] = []
kept_in (p ∷ ps) = elim p.key [ Some key ↦ (p.number, key) ∷ kept_in ps | None ↦ kept_in ps ]

-- the numbers of the places rise, and none is less than this
abbrev pub Rises : ℕ → List Place → Type 0
Rises from [] = Unit {0}
Rises from (p ∷ ps) = (from ≤ p.number) × Rises (suc p.number) ps

-- a number above all of these, and no less than this
abbrev pub end_of : ℕ → List Place → ℕ
end_of from [] = from
end_of from (p ∷ ps) = end_of (suc p.number) ps

-- whether the first place has the number
abbrev pub is_first : ℕ → List Place → Bool
is_first n [] = false
is_first n (p ∷ ps) = p.number == n

-- whether the message of the first place has left
abbrev pub is_left : List Place → Bool
is_left [] = false
is_left (p ∷ ps) = elim p.key [ Some key ↦ false | None ↦ true ]

-- what is true of every index
pub record IsIndex (places : List Place) (len : ℕ) : Type 0 where
  pub rises : Rises 0 places
  pub counted : len ≡ length (kept_in places)
