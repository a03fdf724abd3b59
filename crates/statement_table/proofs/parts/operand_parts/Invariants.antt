use Rattle.std.proofs.Common.{◌≡◌, take}
use Rattle.std.specs.Prelude.{map}
use Rattle.statement_table.specs.declared.part.Part.TheVariants as parts
use Rattle.statement_table.proofs.parts.operand_parts.Given as goal

abbrev pub invariant-loop-operand : goal.invariant-loop-operand
invariant-loop-operand l = l.parts.items ≡ map (λ a. parts.Operand a) (take l.operand-index l.operands)
