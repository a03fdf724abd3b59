-- What the few words over pasts say, told by single entries: a moment of a past is an entry of it that wasn't refused.
use Rattle.std.specs.Prelude.{◌≡◌, ◌⊎◌, true, false, Bool, List, [], ◌∷◌, ◌++◌, Option, Some, None}
use Rattle.user_model.specs.declared.entry.Entry.{Entry}
use Rattle.user_model.specs.Past.{Past, is_refused}

-- an entry that wasn't refused, with the past before it and what came after it
pub record Moment (past : Past) : Type 0 where
  pub later : Past
  pub entry : Entry
  pub before : Past
  pub splits : past ≡ later ++ entry ∷ before
  pub unrefused : is_refused entry ≡ false

-- the value is one of the list
abbrev pub IsIn : {A : Type 0} → A → List A → Type 0
IsIn a [] = ⊥
IsIn a (x ∷ xs) = (a ≡ x) ⊎ IsIn a xs

-- the first list is what is left of the second where some of its values go
pub data IsPartOf {A : Type 0} : List A → List A → Type 0 where
  nothing : IsPartOf [] []
  stays : {x : A} {xs ys : List A} → IsPartOf xs ys → IsPartOf (x ∷ xs) (x ∷ ys)
  goes : {y : A} {xs ys : List A} → IsPartOf xs ys → IsPartOf xs (y ∷ ys)

-- no unrefused entry of a past says something
abbrev pub SaysNothing : {A : Type 0} → (Entry → Past → Option A) → Past → Type 0
SaysNothing says [] = Unit {0}
SaysNothing says (e ∷ past) = (is_refused e ≡ false → says e past ≡ None) × SaysNothing says past

-- no unrefused entry of those that came after a past says something
abbrev pub SaysNothingAfter : {A : Type 0} → (Entry → Past → Option A) → Past → Past → Type 0
SaysNothingAfter says [] past = Unit {0}
SaysNothingAfter says (e ∷ later) past = (is_refused e ≡ false → says e (later ++ past) ≡ None) × SaysNothingAfter says later past

-- no unrefused entry of those that came after a past ends the value
abbrev pub EndsNothingAfter : {A : Type 0} → (Entry → Past → A → Bool) → A → Past → Past → Type 0
EndsNothingAfter ends a [] past = Unit {0}
EndsNothingAfter ends a (e ∷ later) past = (is_refused e ≡ false → ends e (later ++ past) a ≡ false) × EndsNothingAfter ends a later past

-- the last entry that says something says this
pub record IsLastSaid {A : Type 0} (says : Entry → Past → Option A) (past : Past) (a : A) : Type 0 where
  pub at : Moment past
  pub said : says at.entry at.before ≡ Some a
  pub none_later : SaysNothingAfter says at.later (at.entry ∷ at.before)

-- the first entry that says something says this
pub record IsFirstSaid {A : Type 0} (says : Entry → Past → Option A) (past : Past) (a : A) : Type 0 where
  pub at : Moment past
  pub said : says at.entry at.before ≡ Some a
  pub none_earlier : SaysNothing says at.before

-- some entry added the value
pub record IsAdded {A : Type 0} (adds : Entry → Past → List A) (past : Past) (a : A) : Type 0 where
  pub at : Moment past
  pub added : IsIn a (adds at.entry at.before)

-- some entry added the value, and no later one ended it
pub record IsAddedForGood {A : Type 0} (adds : Entry → Past → List A) (ends : Entry → Past → A → Bool) (past : Past) (a : A) : Type 0 where
  pub at : Moment past
  pub added : IsIn a (adds at.entry at.before)
  pub not_ended : EndsNothingAfter ends a at.later (at.entry ∷ at.before)

-- some entry did it
pub record IsDone (does : Entry → Past → Bool) (past : Past) : Type 0 where
  pub at : Moment past
  pub did : does at.entry at.before ≡ true
