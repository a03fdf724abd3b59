-- Which names a script may have, and their order.
use Rattle.std.specs.Prelude.{◌≡◌, ℕ, ◌+◌, ◌≤◌, Bool, true, false, not, ◌&&◌, ◌||◌, ◌==◌, nat_le, nat_lt, List, [], ◌∷◌, length, Option, Some, None, if◌then◌else◌}
use Rattle.std.specs.List.{list_all, list_any}
use Rattle.std.specs.Str.{bytes_eq}
use Rattle.script_lines.specs.declared.line.Line.{Line}
use Rattle.statement_table.specs.declared.part.Part.{Part}
use Rattle.statement_table.specs.declared.part.Part.TheVariants as parts
use Rattle.script_lines.specs.Known.{Known}
use Rattle.script_lines.specs.LineParts.{line_parts}

-- a letter of a name
abbrev pub is_small_letter : ℕ → Bool
is_small_letter c = nat_le 97 c && nat_le c 122

abbrev pub is_name_byte : ℕ → Bool
is_name_byte c = is_small_letter c || ((nat_le 48 c && nat_le c 57) || (c == 95))

-- a lower-case letter, and at most 31 letters, digits and `_`
abbrev pub is_name : List ℕ → Bool
is_name [] = false
is_name (c ∷ cs) = is_small_letter c && (list_all is_name_byte cs && nat_le (length cs) 31)

-- no two are the same
abbrev pub is_distinct : List (List ℕ) → Bool
is_distinct [] = true
is_distinct (x ∷ xs) = not (list_any (bytes_eq x) xs) && is_distinct xs

-- ---- names of classes, titles and messages

-- how many names have been seen after one more, where there are so many in all: it is one of those seen, or the next
abbrev pub seen_with : ℕ → Option ℕ → ℕ → Option ℕ
seen_with count (Some seen) n = if nat_lt n seen then Some seen else (if (n == seen) && nat_lt seen count then Some (seen + 1) else None)
seen_with count None n = None

-- after one more part of a line
abbrev pub seen_with_part : ℕ → Option ℕ → Part → Option ℕ
seen_with_part count o (parts.Letter v) = o
seen_with_part count o (parts.Operand a) = o
seen_with_part count o (parts.Operator op) = o
seen_with_part count o (parts.Comparison c) = o
seen_with_part count o (parts.Name n) = seen_with count o n
seen_with_part count o (parts.Beginning k) = o
seen_with_part count o (parts.Procedure k) = o

-- after several parts
abbrev pub seen_after : ℕ → Option ℕ → List Part → Option ℕ
seen_after count o [] = o
seen_after count o (p ∷ ps) = seen_after count (seen_with_part count o p) ps

-- after lines
abbrev pub seen_all : ℕ → Option ℕ → List Line → Option ℕ
seen_all count o [] = o
seen_all count o (l ∷ ls) = seen_all count (seen_after count o (line_parts l)) ls

abbrev pub all_seen : ℕ → Option ℕ → Bool
all_seen count (Some n) = n == count
all_seen count None = false

-- the names are numbered in the order in which they first appear, and there are so many
abbrev pub are_in_order : ℕ → List Line → Bool
are_in_order count lines = all_seen count (seen_all count (Some 0) lines)

-- ---- procedures

-- how many procedures have begun after one more begins, where there are so many in all: it is the next
abbrev pub begun_with : ℕ → Option ℕ → ℕ → Option ℕ
begun_with count (Some begun) k = if (k == begun) && nat_lt begun count then Some (begun + 1) else None
begun_with count None k = None

-- after one is named: it has begun
abbrev pub named_with : Option ℕ → ℕ → Option ℕ
named_with (Some begun) k = if nat_lt k begun then Some begun else None
named_with None k = None

-- after one more part of a line
abbrev pub begun_with_part : ℕ → Option ℕ → Part → Option ℕ
begun_with_part count o (parts.Letter v) = o
begun_with_part count o (parts.Operand a) = o
begun_with_part count o (parts.Operator op) = o
begun_with_part count o (parts.Comparison c) = o
begun_with_part count o (parts.Name n) = o
begun_with_part count o (parts.Beginning k) = begun_with count o k
begun_with_part count o (parts.Procedure k) = named_with o k

-- after several parts
abbrev pub begun_after : ℕ → Option ℕ → List Part → Option ℕ
begun_after count o [] = o
begun_after count o (p ∷ ps) = begun_after count (begun_with_part count o p) ps

-- after lines
abbrev pub begun_all : ℕ → Option ℕ → List Line → Option ℕ
begun_all count o [] = o
begun_all count o (l ∷ ls) = begun_all count (begun_after count o (line_parts l)) ls

-- the procedures are numbered in the order of their lines, each is named below its line only, and there are so many
abbrev pub are_procedures_in_order : ℕ → List Line → Bool
are_procedures_in_order count lines = all_seen count (begun_all count (Some 0) lines)

-- ---- lists of names

-- the names are names, all different, and at most so many
pub record AreNames (limit : ℕ) (names : List (List ℕ)) : Type 0 where
  pub spelled : list_all is_name names ≡ true
  pub distinct : is_distinct names ≡ true
  pub few : length names ≤ limit

-- at most 1,024 names, and at most 64 procedures
pub record AreKnown (known : Known) : Type 0 where
  pub names : AreNames 1024 known.names
  pub procedures : AreNames 64 known.procedures
