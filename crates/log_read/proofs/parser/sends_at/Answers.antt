use Rattle.std.proofs.Common.{ap, ◌∙◌}
use Rattle.std.specs.Prelude.{map}
use Rattle.script_lines.specs.LineReading.{split_at}
use Rattle.script_lines.proofs.TextsAgain.{line_split}
use Rattle.log_read.specs.Words.{counts_words}
use Rattle.log_read.proofs.LineWords.{counts_are_words}
use Rattle.log_read.proofs.parser.sends_at.Goals as goal

pub returns-clause-again : goal.returns-clause-again
returns-clause-again c sends fits text =
    c.counts_at.ensures.again sends fits (ap (map (λ w. w.now)) c.deref.ensures.value ∙ c.in_ok-line.ensures ∙ ap (split_at 32) text ∙ line_split (counts_words sends) (counts_are_words sends fits))
