use Rattle.std.proofs.Common.{Option, ◌∙◌, sym, subst}
use Rattle.std.specs.Prelude.{IfSome}
use Rattle.script_lines.specs.declared.line.Line.{Line}
use Rattle.script_lines.specs.LineLimits.{IsLine}
use Rattle.script_lines.proofs.RowsAgain.{line_made_fits, made_of}
use Rattle.script_lines.proofs.line_form.line_of_parts.Goals as goal

pub returns-clause-back : goal.returns-clause-back
returns-clause-back c l named same = c.made_line.ensures ∙ made_of c.args.command c.args.parts.now l named same

pub returns-clause-fits : goal.returns-clause-fits
returns-clause-fits c h = subst (λ (o : Option Line). IfSome o IsLine) (sym c.made_line.ensures) (line_made_fits c.args.parts.now h c.args.command)
