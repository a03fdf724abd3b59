-- How procedures, threads and blocks nest, line by line.
use Rattle.std.specs.Prelude.{◌≡◌, ℕ, ◌+◌, Bool, true, false, ◌&&◌, ◌==◌, nat_lt, if◌then◌else◌, List, [], ◌∷◌, length, Option, Some, None, ⊤}
use Rattle.std.specs.List.{list_any}
use Rattle.script_lines.specs.declared.line.Line.{Line}
use Rattle.script_lines.specs.declared.line.Line.TheVariants as lines

-- what stands open; a procedure with its number
pub data Kind : Type 0 where
  InProcedure : ℕ → Kind
  InThread : Kind
  InIf : Kind
  InElse : Kind
  InWhile : Kind

-- what stands open, the innermost first, and how many procedures and threads have ended
pub record Nest : Type 0 where
  pub kinds : List Kind
  pub procedures : ℕ
  pub threads : ℕ

-- before the first line
abbrev pub start : Nest
start = record { kinds = []; procedures = 0; threads = 0 }

abbrev pub is_procedure : Kind → Bool
is_procedure (InProcedure k) = true
is_procedure InThread = false
is_procedure InIf = false
is_procedure InElse = false
is_procedure InWhile = false

-- a line inside of what stands open, the innermost first
abbrev pub block_entered : List Kind → Option (List Kind)
block_entered [] = None
block_entered (k ∷ ks) = Some (k ∷ ks)

-- a line that stands in procedures only
abbrev pub procedure_entered : List Kind → Option (List Kind)
procedure_entered ks = if list_any is_procedure ks then block_entered ks else None

-- a block that opens inside of what stands open: at most 33 lines stand open, that of the thread or procedure and 32 blocks
abbrev pub block_opened : Kind → List Kind → Option (List Kind)
block_opened kind [] = None
block_opened kind (k ∷ ks) = if nat_lt (length (k ∷ ks)) 33 then Some (kind ∷ k ∷ ks) else None

-- what opens at the top
abbrev pub top_opened : Kind → List Kind → Option (List Kind)
top_opened kind [] = Some (kind ∷ [])
top_opened kind (k ∷ ks) = None

abbrev pub else_opened : List Kind → Option (List Kind)
else_opened (InIf ∷ ks) = Some (InElse ∷ ks)
else_opened ks = None

-- a procedure opens before all threads, and has the next number
abbrev pub procedure_opened : ℕ → Nest → Option (List Kind)
procedure_opened k n = if (n.threads == 0) && (k == n.procedures) then top_opened (InProcedure k) n.kinds else None

abbrev pub with_kinds : Nest → Option (List Kind) → Option Nest
with_kinds n (Some ks) = Some (record n { kinds = ks })
with_kinds n None = None

abbrev pub procedure_closed : Nest → List Kind → Option Nest
procedure_closed n [] = Some (record { kinds = []; procedures = n.procedures + 1; threads = n.threads })
procedure_closed n (k ∷ ks) = None

abbrev pub thread_closed : Nest → List Kind → Option Nest
thread_closed n [] = Some (record { kinds = []; procedures = n.procedures; threads = n.threads + 1 })
thread_closed n (k ∷ ks) = None

-- the innermost ends
abbrev pub closed : Nest → List Kind → Option Nest
closed n [] = None
closed n (InProcedure k ∷ ks) = procedure_closed n ks
closed n (InThread ∷ ks) = thread_closed n ks
closed n (InIf ∷ ks) = with_kinds n (block_entered ks)
closed n (InElse ∷ ks) = with_kinds n (block_entered ks)
closed n (InWhile ∷ ks) = with_kinds n (block_entered ks)

-- what stands open after a line, where the line may stand there
abbrev pub nested : Nest → Line → Option Nest
nested n (lines.Procedure k) = with_kinds n (procedure_opened k n)
nested n lines.Thread = with_kinds n (top_opened InThread n.kinds)
nested n (lines.Let v a) = with_kinds n (block_entered n.kinds)
nested n (lines.Compute v a op b) = with_kinds n (block_entered n.kinds)
nested n (lines.If t) = with_kinds n (block_opened InIf n.kinds)
nested n lines.Else = with_kinds n (else_opened n.kinds)
nested n (lines.While t) = with_kinds n (block_opened InWhile n.kinds)
nested n lines.End = closed n n.kinds
nested n (lines.Return a) = with_kinds n (procedure_entered n.kinds)
nested n (lines.Call c) = with_kinds n (block_entered n.kinds)
nested n (lines.Sleep a) = with_kinds n (block_entered n.kinds)
nested n (lines.Create c) = with_kinds n (block_entered n.kinds)
nested n (lines.Destroy a) = with_kinds n (block_entered n.kinds)
nested n (lines.Compound c) = with_kinds n (block_entered n.kinds)
nested n lines.Default = with_kinds n (procedure_entered n.kinds)

abbrev pub nested_on : Option Nest → Line → Option Nest
nested_on (Some n) l = nested n l
nested_on None l = None

-- what stands open after lines
abbrev pub nested_all : Option Nest → List Line → Option Nest
nested_all o [] = o
nested_all o (l ∷ ls) = nested_all (nested_on o l) ls

abbrev pub none_open : List Kind → Bool
none_open [] = true
none_open (k ∷ ks) = false

abbrev pub all_closed : Option Nest → Bool
all_closed (Some n) = none_open n.kinds
all_closed None = false

-- whether the lines are procedures and then threads, and close all that they open
abbrev pub nests : List Line → Bool
nests ls = all_closed (nested_all (Some start) ls)

-- an open procedure has the next number, and no thread stands before it
abbrev pub IsNext : ℕ → ℕ → Kind → Type 0
IsNext procedures threads (InProcedure k) = (k ≡ procedures) × (threads ≡ 0)
IsNext procedures threads InThread = ⊤
IsNext procedures threads InIf = ⊤
IsNext procedures threads InElse = ⊤
IsNext procedures threads InWhile = ⊤
