use Rattle.std.proofs.Common.{◌≡◌, Option, Some, ap, sym, ◌∙◌}
use Rattle.std.specs.Prelude.{map}
use Rattle.std.proofs.lemmas.Bool.{false≢true}
use Rattle.user_model.specs.declared.entry.SendCount.{SendCount}
use Rattle.script_lines.specs.LineReading.{split_at}
use Rattle.script_lines.specs.LineTexts.{joined, line_text}
use Rattle.script_lines.proofs.TextsAgain.{line_split}
use Rattle.log_read.specs.Words.{counts_words}
use Rattle.log_read.proofs.LineWords.{counts_written, counts_are_words, from_nothing}
use Rattle.log_read.proofs.lines.counts_of.Goals as goal

pub returns-then-not-is_line-clause-again : goal.returns-then-not-is_line-clause-again
returns-then-not-is_line-clause-again c e fits text =
    let x = c.counts_at-sends.result in
    let words = ap (map (λ w. w.now)) c.deref.ensures.value ∙ c.in_ok-line.ensures ∙ ap (split_at 32) text ∙ line_split (counts_words e) (counts_are_words e fits) in
    let same : x ≡ e = c.counts_at-sends.ensures.again e fits words in
    let written = c.deref-2.ensures.value ∙ from_nothing _ _ _ (line_text (counts_words x)) c.in_ok-put_sends_line.ensures c.new-out.ensures.items (counts_written x) in
    absurd (false≢true (sym c.if-not-is_line.true ∙ (c.is_line.ensures (joined (counts_words x)) written).1 (ap (λ (y : SendCount). joined (counts_words y)) same ∙ sym text)))

pub returns-clause-fits : goal.returns-clause-fits
returns-clause-fits c =
    let x = c.counts_at-sends.result in
    let written = c.deref-2.ensures.value ∙ from_nothing _ _ _ (line_text (counts_words x)) c.in_ok-put_sends_line.ensures c.new-out.ensures.items (counts_written x) in
    (c.counts_at-sends.ensures.fits, sym ((c.is_line.ensures (joined (counts_words x)) written).0 c.if-not-is_line.false))

pub returns-clause-again : goal.returns-clause-again
returns-clause-again c e fits text =
    let words = ap (map (λ w. w.now)) c.deref.ensures.value ∙ c.in_ok-line.ensures ∙ ap (split_at 32) text ∙ line_split (counts_words e) (counts_are_words e fits) in
    ap (λ (y : SendCount). let o : Option SendCount = Some y in o) (c.counts_at-sends.ensures.again e fits words)
