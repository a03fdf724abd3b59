-- What the limits of a script say of its tree.
use Rattle.std.specs.Prelude.{◌≡◌, ◌≤◌, ◌<◌, ◌+◌, ◌==◌, ℕ, suc, max, Bool, true, false, ◌||◌, List, [], ◌∷◌, ◌++◌, length}
use Rattle.std.specs.List.{AllByRecursion, list_any, flat_map}
use Rattle.script_tree.specs.declared.statement.Statement.{Statement, Row_of-Statement, end_of-Statement, more_of-Statement}
use Rattle.script_tree.specs.declared.statement.Statement.TheVariants.{Let, Compute, If', IfElse', While', Return, Call, Sleep, Create, Destroy, Compound, Default}
use Rattle.script_tree.specs.Tree.{Tree}
use Rattle.script_lines.specs.declared.line.Line.{Line}
use Rattle.statement_table.specs.declared.part.Part.{Part}
use Rattle.statement_table.specs.declared.part.Part.TheVariants as parts
use Rattle.script_lines.specs.LineParts.{line_parts}
use Rattle.script_text.specs.Lines.{body_lines, bodies_of, script_lines}

abbrev mutual
  -- how many blocks stand in one another in a statement, at most
  pub depth : Statement → ℕ
  depth (Let v a) = 0
  depth (Compute v a op b) = 0
  depth (If' t k a) = suc (row_depth a)
  depth (IfElse' t k a j b) = suc (max (row_depth a) (row_depth b))
  depth (While' t k a) = suc (row_depth a)
  depth (Return a) = 0
  depth (Call c) = 0
  depth (Sleep a) = 0
  depth (Create c) = 0
  depth (Destroy a) = 0
  depth (Compound c) = 0
  depth Default = 0

  -- in the statements inside of one
  pub row_depth : {m : _} → Row_of-Statement m → ℕ
  row_depth end_of-Statement = 0
  row_depth (more_of-Statement s rest) = max (depth s) (row_depth rest)

abbrev mutual
  -- whether a `return` or a `default` stands in a statement
  pub is_of_procedure : Statement → Bool
  is_of_procedure (Let v a) = false
  is_of_procedure (Compute v a op b) = false
  is_of_procedure (If' t k a) = is_row_of_procedure a
  is_of_procedure (IfElse' t k a j b) = is_row_of_procedure a || is_row_of_procedure b
  is_of_procedure (While' t k a) = is_row_of_procedure a
  is_of_procedure (Return a) = true
  is_of_procedure (Call c) = false
  is_of_procedure (Sleep a) = false
  is_of_procedure (Create c) = false
  is_of_procedure (Destroy a) = false
  is_of_procedure (Compound c) = false
  is_of_procedure Default = true

  -- in the statements inside of one
  pub is_row_of_procedure : {m : _} → Row_of-Statement m → Bool
  is_row_of_procedure end_of-Statement = false
  is_row_of_procedure (more_of-Statement s rest) = is_of_procedure s || is_row_of_procedure rest

-- no statement of a body has more than 32 blocks in one another
abbrev pub IsFlat : List Statement → Type 0
IsFlat body = AllByRecursion (λ s. depth s ≤ 32) body

-- blocks are at most 32 deep, and `return` and `default` stand in procedures alone
pub record IsNested (s : Tree) : Type 0 where
  pub procedures : AllByRecursion (λ p. IsFlat p.body) s.procedures
  pub threads : AllByRecursion IsFlat s.threads
  pub no_return : AllByRecursion (λ body. list_any is_of_procedure body ≡ false) s.threads

-- ---- names of classes, titles and messages

-- the number of the name that a part is
abbrev pub name_in : Part → List ℕ
name_in (parts.Name n) = n ∷ []
name_in _ = []

-- the numbers of the names in lines, in order
abbrev pub names_in : List Line → List ℕ
names_in ls = flat_map (λ l. flat_map name_in (line_parts l)) ls

-- whether a number is among these
abbrev pub has_number : ℕ → List ℕ → Bool
has_number m ns = list_any (λ n. n == m) ns

-- numbers below a count, of which each is there, and before each of them are all that are less: so they are numbered as they first appear
pub record AreNumbered (count : ℕ) (ns : List ℕ) : Type 0 where
  pub within : AllByRecursion (λ n. n < count) ns
  pub each : (n : ℕ) → n < count → has_number n ns ≡ true
  pub in_order : (front : List ℕ) (n : ℕ) (back : List ℕ) → ns ≡ front ++ n ∷ back → (m : ℕ) → m < n → has_number m front ≡ true

-- ---- procedures

-- the number of the procedure that a part names
abbrev pub procedure_in : Part → List ℕ
procedure_in (parts.Procedure k) = k ∷ []
procedure_in _ = []

-- the numbers of the procedures that lines name
abbrev pub procedures_in : List Line → List ℕ
procedures_in ls = flat_map (λ l. flat_map procedure_in (line_parts l)) ls

-- each body, numbered from k on, names procedures up to its own number alone
abbrev pub NameUpToThemselves : ℕ → List (List Statement) → Type 0
NameUpToThemselves k [] = Unit {0}
NameUpToThemselves k (body ∷ bodies) = AllByRecursion (λ p. p ≤ k) (procedures_in (body_lines body)) × NameUpToThemselves (k + 1) bodies

-- the names are numbered as they first appear in the lines; a procedure names those up to itself, and a thread those that there are
pub record IsNamedInOrder (s : Tree) : Type 0 where
  pub names : AreNumbered (length s.names) (names_in (script_lines s))
  pub procedures : NameUpToThemselves 0 (bodies_of s.procedures)
  pub threads : AllByRecursion (λ body. AllByRecursion (λ p. p < length s.procedures) (procedures_in (body_lines body))) s.threads
