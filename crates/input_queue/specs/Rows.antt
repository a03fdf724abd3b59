-- The elements of each home in a list of its own.
use Rattle.std.specs.Prelude.{if◌then◌else◌, ◌≡◌, ℕ, ◌<◌, ◌==◌, nat_lt, Bool, true, List, [], ◌∷◌, filter, drop, length, All, Option, Some, None, option_map, slice_get, slice_index_or}
use Rattle.std.specs.Int.{bit_at}
use Rattle.input_queue.specs.declared.element.Element.{Element}
use Rattle.input_queue.specs.declared.glance.Glance.{Glance}
use Rattle.input_queue.specs.declared.glance.Spot.{Spot}
use Rattle.input_queue.specs.Elements.{AreRising}

-- the elements with this home
abbrev pub with_home : ℕ → List Element → List Element
with_home h elements = filter (λ x. x.home.0 == h) elements

-- an element before the first one of a greater number
abbrev pub inserted : Element → List Element → List Element
inserted x [] = x ∷ []
inserted x (y ∷ ys) = if nat_lt x.number y.number then x ∷ y ∷ ys else y ∷ inserted x ys

-- the elements of one list, each put in its place in another
abbrev pub joined : List Element → List Element → List Element
joined [] ys = ys
joined (x ∷ xs) ys = inserted x (joined xs ys)

-- the elements of all lists, by rising number
abbrev pub merged : List (List Element) → List Element
merged [] = []
merged (xs ∷ rows) = joined xs (merged rows)

-- the list of a home
abbrev pub row : List (List Element) → ℕ → List Element
row rows h = slice_index_or rows h []

-- whether the group has the thread of this number
abbrev pub has_home : ℕ → ℕ → Bool
has_home group h = bit_at group h == 1

-- each home's list has its elements among all of them, by rising number
pub record IsKept (rows : List (List Element)) : Type 0 where
  pub sixteen : length rows ≡ 16
  pub rising : AreRising (merged rows)
  pub homes : All (λ x. x.home.0 < 16) (merged rows)
  pub row_is : (h : ℕ) → h < 16 → row rows h ≡ with_home h (merged rows)

-- what a glance at an element tells
abbrev pub glance_of : Element → Glance
glance_of x = record { number = x.number; message = x.message }

-- the one of the greater number
abbrev pub later_of : Option Glance → Option Glance → Option Glance
later_of None other = other
later_of (Some x) None = Some x
later_of (Some x) (Some y) = if nat_lt x.number y.number then Some y else Some x

-- where an element is
abbrev pub spot_of : Element → Spot
spot_of x = record { home = x.home.0; number = x.number }

-- in the list of a home the element of a number
abbrev pub spot_in : ℕ → ℕ → Spot
spot_in h number = record { home = h; number = number }

-- the one of the lesser number
abbrev pub earlier_of : Option Spot → Option Spot → Option Spot
earlier_of one None = one
earlier_of None (Some y) = Some y
earlier_of (Some x) (Some y) = if nat_lt y.number x.number then Some y else Some x

-- the number of the next element of a member, of whose elements so many were read
abbrev pub head_of : ℕ → List (List Element) → List ℕ → ℕ → Option ℕ
head_of group rows seen h = if has_home group h then option_map (λ x. x.number) (slice_get (row rows h) (slice_index_or seen h 0)) else None

-- these elements of the group are left, once so many of each home were read
pub record IsLeft (group : ℕ) (rows : List (List Element)) (seen : List ℕ) (left : List Element) : Type 0 where
  pub rising : AreRising left
  pub homes : All (λ x. x.home.0 < 16) left
  pub members : All (λ x. has_home group x.home.0 ≡ true) left
  pub rest : (h : ℕ) → h < 16 → has_home group h ≡ true → drop (slice_index_or seen h 0) (row rows h) ≡ with_home h left
