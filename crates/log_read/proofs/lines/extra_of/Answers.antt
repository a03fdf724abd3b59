use Rattle.std.proofs.Common.{◌≡◌, ap, sym, ◌∙◌}
use Rattle.std.specs.Prelude.{map}
use Rattle.std.proofs.lemmas.Bool.{false≢true}
use Rattle.script_lines.specs.LineReading.{split_at}
use Rattle.script_lines.specs.LineTexts.{joined, line_text}
use Rattle.script_lines.proofs.TextsAgain.{line_split}
use Rattle.log_read.specs.declared.log.Extra.{Extra}
use Rattle.log_read.specs.Words.{extra_words}
use Rattle.log_read.proofs.LineWords.{extra_written, extra_is_words, from_nothing}
use Rattle.log_read.proofs.OneLog.{some_same}
use Rattle.log_read.proofs.lines.extra_of.Goals as goal

pub returns-in_default-clause-again : goal.returns-in_default-clause-again
returns-in_default-clause-again c e fits text =
    let s = c.args.words.now.script.now in
    let words = ap (map (λ w. w.now)) c.deref.ensures.value ∙ c.in_ok-line.ensures ∙ ap (split_at 32) text ∙ line_split (extra_words s e) (extra_is_words s c.args.end e c.requires.named fits) in
    absurd (c.in_default.not-Some e (c.extra_at.ensures.again e fits words))

pub returns-then-not-is_line-clause-again : goal.returns-then-not-is_line-clause-again
returns-then-not-is_line-clause-again c e fits text =
    let s = c.args.words.now.script.now in
    let x = c.in-Some.extra in
    let words = ap (map (λ w. w.now)) c.deref.ensures.value ∙ c.in_ok-line.ensures ∙ ap (split_at 32) text ∙ line_split (extra_words s e) (extra_is_words s c.args.end e c.requires.named fits) in
    let same : x ≡ e = some_same x e (sym c.in-Some.is ∙ c.extra_at.ensures.again e fits words) in
    let written = c.deref-2.ensures.value ∙ from_nothing _ _ _ (line_text (extra_words s x)) c.in_ok-put_extra.ensures c.new-out.ensures.items (extra_written s x) in
    absurd (false≢true (sym c.if-not-is_line.true ∙ (c.is_line.ensures (joined (extra_words s x)) written).1 (ap (λ (y : Extra). joined (extra_words s y)) same ∙ sym text)))

pub returns-clause-fits : goal.returns-clause-fits
returns-clause-fits c =
    let s = c.args.words.now.script.now in
    let x = c.in-Some.extra in
    let written = c.deref-2.ensures.value ∙ from_nothing _ _ _ (line_text (extra_words s x)) c.in_ok-put_extra.ensures c.new-out.ensures.items (extra_written s x) in
    (c.in-Some.ensures.fits, sym ((c.is_line.ensures (joined (extra_words s x)) written).0 c.if-not-is_line.false))

pub returns-clause-again : goal.returns-clause-again
returns-clause-again c e fits text =
    let s = c.args.words.now.script.now in
    let words = ap (map (λ w. w.now)) c.deref.ensures.value ∙ c.in_ok-line.ensures ∙ ap (split_at 32) text ∙ line_split (extra_words s e) (extra_is_words s c.args.end e c.requires.named fits) in
    sym c.in-Some.is ∙ c.extra_at.ensures.again e fits words
