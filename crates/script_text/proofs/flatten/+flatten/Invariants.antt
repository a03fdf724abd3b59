use Rattle.std.proofs.Common.{◌≡◌, ◌++◌, take}
use Rattle.script_text.specs.Lines.{body_lines}
use Rattle.script_text.proofs.flatten.+flatten.Given as goal

abbrev pub invariant-put_body-loop-statement : goal.invariant-put_body-loop-statement
invariant-put_body-loop-statement l = l.lines.items ≡ l.initial.lines.items ++ body_lines (take l.statement-index l.statements)
