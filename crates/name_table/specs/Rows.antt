-- Rows of a name and a number, and what it is for them to be one to one.
use Rattle.std.specs.Prelude.{◌≡◌, ℕ, ◌<◌, ◌==◌, Bool, true, false, not, ◌&&◌, ◌||◌, IsTrue, List, [], ◌∷◌, take, find, Contains, Option, Some, option_map, slice_get}
use Rattle.std.specs.List.{list_any}
use Rattle.std.specs.Str.{bytes_eq}

-- a name, byte by byte, with its number
pub record Named : Type 0 where
  pub name : List ℕ
  pub number : ℕ

-- a row from its parts
abbrev pub row : List ℕ → ℕ → Named
row name number = record { name = name; number = number }

-- whether two rows share their name or their number
abbrev pub shares : Named → Named → Bool
shares a b = bytes_eq a.name b.name || (a.number == b.number)

-- whether no two rows share their name or their number
abbrev pub is_one_to_one : List Named → Bool
is_one_to_one [] = true
is_one_to_one (a ∷ rows) = not (list_any (shares a) rows) && is_one_to_one rows

-- the rows at these places share their name or number; the rows before the second place are one to
-- one, and no row before the first place shares with the one at the second place
pub record IsFirstRepeat (rows : List Named) (first second : ℕ) : Type 0 where
  pub earlier : Named
  pub later : Named
  pub earlier_at : slice_get rows first ≡ Some earlier
  pub later_at : slice_get rows second ≡ Some later
  pub order : first < second
  pub same : IsTrue (shares earlier later)
  pub least_second : IsTrue (is_one_to_one (take second rows))
  pub least_first : list_any (λ a. shares a later) (take first rows) ≡ false

-- the number in the first row of this name
abbrev pub number_in : List Named → List ℕ → Option ℕ
number_in rows name = option_map (λ r. r.number) (find (λ r. bytes_eq r.name name) rows)

-- the name in the first row of this number
abbrev pub name_in : List Named → ℕ → Option (List ℕ)
name_in rows number = option_map (λ r. r.name) (find (λ r. r.number == number) rows)

-- some row has this name and this number
abbrev pub HasRow : List Named → List ℕ → ℕ → Type 0
HasRow rows name number = Contains rows (row name number)
