use Rattle.std.proofs.Common.{List, [], ◌∷◌, ◌++◌, Option, Some, ap, sym, ◌∙◌, subst, drop, ◌+◌}
use Rattle.std.specs.Prelude.{map}
use Rattle.log_read.specs.declared.log.Extra.{Extra}
use Rattle.script_lines.specs.LineReading.{split_at}
use Rattle.script_lines.proofs.TextsAgain.{line_split}
use Rattle.log_read.specs.Limits.{IsExtra}
use Rattle.log_read.specs.Words.{extra_words}
use Rattle.log_read.proofs.LineLoops.{Rest, next_line, at_end}
use Rattle.log_read.proofs.LineWords.{extra_is_words}
use Rattle.log_read.proofs.ListLaws.{all_push}
use Rattle.log_read.proofs.OneLog.{some_same}
use Rattle.log_read.proofs.ending.extras_at.Goals as goal

pub returns-in_default-clause-again : goal.returns-in_default-clause-again
returns-in_default-clause-again c xs all lines =
    let s = c.args.words.now.script.now in
    let next = next_line (λ w. w.now) (extra_words s) (IsExtra s c.args.end) c.args.lines.now c.loop-text.text-index _ c.loop-text.extras.items xs c.loop-text-test.true (c.loop-text.invariant.again xs all lines) in
    let words = line_split (extra_words s next.next) (extra_is_words s c.args.end next.next c.requires.named next.next_fits) in
    let read = c.extra_at.ensures.again next.next next.next_fits (ap (map (λ w. w.now)) c.deref.ensures.value ∙ c.in_ok-line.ensures ∙ ap (split_at 32) next.line ∙ words) in
    absurd (c.in_default.not-Some next.next read)

pub loop-text-preserved : goal.loop-text-preserved
loop-text-preserved c =
    let s = c.args.words.now.script.now in
    record {
      fits = rw c.in_ok-push.ensures.items (all_push (IsExtra s c.args.end) _ _ c.loop-text.invariant.fits c.in-Some.ensures.fits);
      again = λ xs all lines.
          let next = next_line (λ w. w.now) (extra_words s) (IsExtra s c.args.end) c.args.lines.now c.loop-text.text-index _ c.loop-text.extras.items xs c.loop-text-test.true (c.loop-text.invariant.again xs all lines) in
          let words = line_split (extra_words s next.next) (extra_is_words s c.args.end next.next c.requires.named next.next_fits) in
          let read = c.extra_at.ensures.again next.next next.next_fits (ap (map (λ w. w.now)) c.deref.ensures.value ∙ c.in_ok-line.ensures ∙ ap (split_at 32) next.line ∙ words) in
          let same = some_same next.next c.in-Some.extra (sym read ∙ c.in-Some.is) in
          subst (λ (l : List Extra). Rest (λ w. w.now) (extra_words s) (IsExtra s c.args.end) (drop (c.loop-text.text-index + 1) c.args.lines.now) l xs)
          (ap (λ (e : Extra). c.loop-text.extras.items ++ e ∷ []) same ∙ sym c.in_ok-push.ensures.items) next.after;
    }

pub returns-clause-again : goal.returns-clause-again
returns-clause-again c xs all lines =
    let s = c.args.words.now.script.now in
    ap (λ (l : List Extra). let o : Option (List Extra) = Some l in o)
    (at_end (λ w. w.now) (extra_words s) (IsExtra s c.args.end) c.args.lines.now c.loop-text.text-index c.loop-text.extras.items xs c.loop-text-test.false (c.loop-text.invariant.again xs all lines))
