use Rattle.std.proofs.Common.{◌≡◌, List, ℕ, Option, Some, ap, sym, ◌∙◌, arith, subst}
use Rattle.std.specs.Prelude.{map}
use Rattle.std.specs.List.{AllByRecursion}
use Rattle.script_lines.specs.LineReading.{split_at, word_at}
use Rattle.script_lines.specs.LineTexts.{joined}
use Rattle.script_lines.proofs.TextsAgain.{line_split}
use Rattle.log_text.specs.declared.end.End.{End}
use Rattle.log_read.specs.Limits.{IsExtra}
use Rattle.log_read.specs.Reading.{end_at}
use Rattle.log_read.specs.Words.{end_words, extra_words}
use Rattle.log_read.proofs.LineWords.{end_is_words}
use Rattle.log_read.proofs.LogParts.{some_line, first_line, other_lines}
use Rattle.log_read.proofs.OneLog.{some_same}
use Rattle.log_read.proofs.ValuesAgain.{end_again}
use Rattle.log_read.proofs.parser.ending_at.Goals as goal

-- the end that the words of its line tell
end_told : (end : End) (text word : List ℕ) (line : List (List ℕ)) → line ≡ split_at 32 text → word ≡ word_at line 1 → text ≡ joined (end_words end) → end_at word ≡ Some end
end_told end text word line split at e =
    let words : line ≡ end_words end = split ∙ ap (split_at 32) e ∙ line_split (end_words end) (end_is_words end) in
    ap end_at (at ∙ ap (λ (ws : List (List ℕ)). word_at ws 1) words) ∙ end_again end

pub returns-in_default-clause-again : goal.returns-in_default-clause-again
returns-in_default-clause-again c end xs fits e =
    absurd (omega (arith, some_line (λ w. w.now) c.args.lines.now (joined (end_words end)) (map joined (map (extra_words c.args.words.now.script.now) xs)) e, c.in_default.len_below))

pub returns-in_default-end_at-clause-again : goal.returns-in_default-end_at-clause-again
returns-in_default-end_at-clause-again c end xs fits e =
    let text = first_line (λ w. w.now) c.args.lines.now (joined (end_words end)) (map joined (map (extra_words c.args.words.now.script.now) xs)) e _ in
    let told = end_told end _ _ _ (ap (map (λ w. w.now)) c.deref.ensures.value ∙ c.in_ok-line.ensures) c.word_at.ensures text in
    absurd (c.in_default-end_at.not-Some _ (c.end_at.ensures ∙ told))

pub returns-in-Some-2-clause-again : goal.returns-in-Some-2-clause-again
returns-in-Some-2-clause-again c end xs fits e =
    let s = c.args.words.now.script.now in
    let text = first_line (λ w. w.now) c.args.lines.now (joined (end_words end)) (map joined (map (extra_words s) xs)) e _ in
    let told = end_told end _ _ _ (ap (map (λ w. w.now)) c.deref.ensures.value ∙ c.in_ok-line.ensures) c.word_at.ensures text in
    let same = some_same _ _ (c.in-Some.ensures ∙ told) in
    let also = subst (λ (x : End). AllByRecursion (IsExtra s x) xs) (sym same) fits in
    let extras = c.in_ok-extras.ensures.again xs also (other_lines (λ w. w.now) c.args.lines.now (joined (end_words end)) (map joined (map (extra_words s) xs)) e) in
    (ap (λ (x : End). let o : Option End = Some x in o) same, rw c.in-Some-2.is at extras)

pub returns-clause-again : goal.returns-clause-again
returns-clause-again c end xs fits e =
    let s = c.args.words.now.script.now in
    let text = first_line (λ w. w.now) c.args.lines.now (joined (end_words end)) (map joined (map (extra_words s) xs)) e _ in
    let told = end_told end _ _ _ (ap (map (λ w. w.now)) c.deref.ensures.value ∙ c.in_ok-line.ensures) c.word_at.ensures text in
    let same = some_same _ _ (c.in-Some.ensures ∙ told) in
    let also = subst (λ (x : End). AllByRecursion (IsExtra s x) xs) (sym same) fits in
    let extras = c.in_ok-extras.ensures.again xs also (other_lines (λ w. w.now) c.args.lines.now (joined (end_words end)) (map joined (map (extra_words s) xs)) e) in
    absurd (cc (rw c.in-None.is at extras))
