use Rattle.std.proofs.Common.{ℕ, List, subst}
use Rattle.log_read.specs.Refusals.{IsLineOf}
use Rattle.log_read.proofs.FirstBad.{line_told}
use Rattle.user_app.specs.Parts.{script_part, log_part}
use Rattle.user_app.proofs.InputRefusals.{early_line}
use Rattle.user_app.proofs.input.read_pair.Goals as goal

pub behind-requires-clause-few : goal.behind-requires-clause-few
behind-requires-clause-few c =
    let cause = rw c.in-Err-Refused-read_log.field-0-is at c.in-Err-Refused-read_log.ensures.cause in
    early_line c.args.text.now (script_part c.args.text.now) (log_part c.args.text.now) c.in-Err-Refused-read_log.refusal.line c.split_input.ensures.whole c.requires.short (subst (λ (l : List ℕ). IsLineOf l c.in-Err-Refused-read_log.refusal.line) c.split_input.ensures.back (line_told _ _ _ cause.1))
