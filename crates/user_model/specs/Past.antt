-- A past is a history with the newest entry first. All that is said of it is said by these few words.
use Rattle.std.specs.Prelude.{ℕ, Bool, true, false, not, List, [], ◌∷◌, ◌++◌, length, nat_le, filter, Option, Some, None}
use Rattle.user_model.specs.declared.entry.Entry.{Entry}
use Rattle.user_model.specs.declared.entry.Answer.{Answer}
use Rattle.user_model.specs.declared.entry.Answer.TheVariants.{Refused}

-- entries, the newest first
abbrev pub Past : Type 0
Past = List Entry

-- whether the answer is a refusal
abbrev pub is_refusal : Answer → Bool
is_refusal (Refused code) = true
is_refusal _ = false

-- whether the entry was refused: then it does nothing, and says nothing
abbrev pub is_refused : Entry → Bool
is_refused e = is_refusal e.answer

-- what the entry says, unless it was refused
abbrev pub unless_refused : {A : Type 0} → Entry → Option A → Option A
unless_refused e o = elim (is_refused e) [ true ↦ None | false ↦ o ]

-- the place of the entry that comes after this past
abbrev pub place_after : Past → ℕ
place_after past = length past

-- the first, or where there is none the second
abbrev pub or_else : {A : Type 0} → Option A → Option A → Option A
or_else (Some a) second = Some a
or_else None second = second

-- the first of a list, if it has one
abbrev pub first : {A : Type 0} → List A → Option A
first [] = None
first (x ∷ xs) = Some x

-- a history has at most 2,097,152 entries
abbrev pub is_full : Past → Bool
is_full past = nat_le 2097152 (length past)

-- what the last entry says that says something; each is read with the past before it
abbrev pub last_of : {A : Type 0} → (Entry → Past → Option A) → Past → Option A
last_of says [] = None
last_of says (e ∷ past) = elim (is_refused e) [ true ↦ last_of says past | false ↦ elim (says e past) [ Some a ↦ Some a | None ↦ last_of says past ] ]

-- what the first entry says that says something; each is read with the past before it
abbrev pub first_of : {A : Type 0} → (Entry → Past → Option A) → Past → Option A
first_of says [] = None
first_of says (e ∷ past) = elim (is_refused e) [ true ↦ first_of says past | false ↦ elim (first_of says past) [ Some a ↦ Some a | None ↦ says e past ] ]

-- what the entries add, in order, without what a later entry ends
abbrev pub standing : {A : Type 0} → (Entry → Past → List A) → (Entry → Past → A → Bool) → Past → List A
standing adds ends [] = []
standing adds ends (e ∷ past) = elim (is_refused e) [ true ↦ standing adds ends past | false ↦ filter (λ a. not (ends e past a)) (standing adds ends past) ++ adds e past ]

-- what the entries add, in order
abbrev pub each_of : {A : Type 0} → (Entry → Past → List A) → Past → List A
each_of adds [] = []
each_of adds (e ∷ past) = elim (is_refused e) [ true ↦ each_of adds past | false ↦ each_of adds past ++ adds e past ]

-- whether some entry does it
abbrev pub ever : (Entry → Past → Bool) → Past → Bool
ever does [] = false
ever does (e ∷ past) = elim (is_refused e) [ true ↦ ever does past | false ↦ elim (ever does past) [ true ↦ true | false ↦ does e past ] ]
