use Rattle.std.proofs.Common.{◌≡◌, [], ◌∷◌, sym, subst}
use Rattle.std.specs.Prelude.{IfNone}
use Rattle.script_lines.specs.LineReading.{split_at}
use Rattle.script_text.proofs.FirstLines.{line_cut, none_cut}
use Rattle.script_text.proofs.first_line.first_line.Goals as goal

pub returns-clause-line : goal.returns-clause-line
returns-clause-line c = line_cut c.args.text.now c.in_ok-end.end c.in_ok-end.ensures

pub returns-in_err-end-clause-none : goal.returns-in_err-end-clause-none
returns-in_err-end-clause-none c = subst (λ r. IfNone r (split_at 10 c.args.text.now ≡ c.args.text.now ∷ [])) (sym c.from_residual.ensures) (none_cut c.args.text.now c.in_err-end.ensures)
