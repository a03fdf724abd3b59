use Rattle.std.proofs.Common.{◌≡◌, List, ℕ, ap, sym, ◌∙◌}
use Rattle.std.specs.Prelude.{map}
use Rattle.std.proofs.lemmas.Bool.{false≢true}
use Rattle.script_lines.specs.LineReading.{split_at, word_at}
use Rattle.script_lines.specs.LineTexts.{joined, line_text}
use Rattle.script_lines.proofs.TextsAgain.{line_split}
use Rattle.log_text.specs.declared.end.End.{End}
use Rattle.log_read.specs.Reading.{end_at}
use Rattle.log_read.specs.Words.{end_words}
use Rattle.log_read.proofs.LineWords.{end_written, end_is_words, from_nothing}
use Rattle.log_read.proofs.OneLog.{some_same}
use Rattle.log_read.proofs.ValuesAgain.{end_again}
use Rattle.log_read.proofs.lines.end_of.Goals as goal

pub returns-in_default-clause-again : goal.returns-in_default-clause-again
returns-in_default-clause-again c e text =
    let line = ap (map (λ w. w.now)) c.deref.ensures.value ∙ c.in_ok-line.ensures ∙ ap (split_at 32) text ∙ line_split (end_words e) (end_is_words e) in
    let word = c.word_at.ensures ∙ ap (λ (ws : List (List ℕ)). word_at ws 1) line in
    absurd (c.in_default.not-Some e (c.end_at.ensures ∙ ap end_at word ∙ end_again e))

pub returns-then-not-is_line-clause-again : goal.returns-then-not-is_line-clause-again
returns-then-not-is_line-clause-again c e text =
    let x = c.in-Some.end in
    let line = ap (map (λ w. w.now)) c.deref.ensures.value ∙ c.in_ok-line.ensures ∙ ap (split_at 32) text ∙ line_split (end_words e) (end_is_words e) in
    let word = c.word_at.ensures ∙ ap (λ (ws : List (List ℕ)). word_at ws 1) line in
    let same : x ≡ e = some_same x e (sym c.in-Some.is ∙ c.end_at.ensures ∙ ap end_at word ∙ end_again e) in
    let written = c.deref-2.ensures.value ∙ from_nothing _ _ _ (line_text (end_words x)) c.in_ok-put_end_line.ensures c.new-out.ensures.items (end_written x) in
    absurd (false≢true (sym c.if-not-is_line.true ∙ (c.is_line.ensures (joined (end_words x)) written).1 (ap (λ (y : End). joined (end_words y)) same ∙ sym text)))

pub returns-clause-fits : goal.returns-clause-fits
returns-clause-fits c =
    let x = c.in-Some.end in
    let written = c.deref-2.ensures.value ∙ from_nothing _ _ _ (line_text (end_words x)) c.in_ok-put_end_line.ensures c.new-out.ensures.items (end_written x) in
    sym ((c.is_line.ensures (joined (end_words x)) written).0 c.if-not-is_line.false)

pub returns-clause-again : goal.returns-clause-again
returns-clause-again c e text =
    let line = ap (map (λ w. w.now)) c.deref.ensures.value ∙ c.in_ok-line.ensures ∙ ap (split_at 32) text ∙ line_split (end_words e) (end_is_words e) in
    let word = c.word_at.ensures ∙ ap (λ (ws : List (List ℕ)). word_at ws 1) line in
    sym c.in-Some.is ∙ c.end_at.ensures ∙ ap end_at word ∙ end_again e
