-- What a builder has taken.
use Rattle.std.specs.Prelude.{List, [], ◌∷◌, ◌++◌, length}
use Rattle.std.specs.List.{AllByRecursion}
use Rattle.script_tree.specs.declared.statement.Statement.{Statement}
use Rattle.script_lines.specs.declared.line.Line.{Line}
use Rattle.script_lines.specs.declared.line.Line.TheVariants as lines
use Rattle.script_text.specs.declared.builder.Opening.{Opening}
use Rattle.script_text.specs.declared.builder.Opening.TheVariants.{Procedure, Thread, If, Else, While}
use Rattle.script_text.specs.declared.builder.Block.{Block}
use Rattle.script_text.specs.Lines.{body_lines, code_lines}
use Rattle.script_text.specs.Nesting.{Kind, InProcedure, InThread, InIf, InElse, InWhile, IsNext, Nest}

-- the lines with which a block began
abbrev pub opening_lines : Opening → List Line
opening_lines (Procedure k) = lines.Procedure k ∷ []
opening_lines Thread = lines.Thread ∷ []
opening_lines (If t) = lines.If t ∷ []
opening_lines (Else t first) = lines.If t ∷ (body_lines first.items ++ lines.Else ∷ [])
opening_lines (While t) = lines.While t ∷ []

abbrev pub kind_of : Opening → Kind
kind_of (Procedure k) = InProcedure k
kind_of Thread = InThread
kind_of (If t) = InIf
kind_of (Else t first) = InElse
kind_of (While t) = InWhile

-- the lines of open blocks, the innermost last
abbrev pub open_lines : List Block → List Line
open_lines [] = []
open_lines (b ∷ bs) = open_lines bs ++ (opening_lines b.opening ++ body_lines b.statements.items)

abbrev pub kinds : List Block → List Kind
kinds [] = []
kinds (b ∷ bs) = kind_of b.opening ∷ kinds bs

-- the lines of procedures, of threads and of open blocks
abbrev pub built_lines : List (List Statement) → List (List Statement) → List Block → List Line
built_lines procedures threads blocks = code_lines procedures threads ++ open_lines blocks

-- what stands open, and how many procedures and threads have ended
abbrev pub nest_of : List (List Statement) → List (List Statement) → List Block → Nest
nest_of procedures threads blocks = record { kinds = kinds blocks; procedures = length procedures; threads = length threads }

-- an open procedure has the next number, and no thread stands before it
abbrev pub IsSound : List (List Statement) → List (List Statement) → List Block → Type 0
IsSound procedures threads blocks = AllByRecursion (IsNext (length procedures) (length threads)) (kinds blocks)
