use Rattle.std.proofs.Common.{ℕ, ◌+◌, List, [], ◌∷◌, ◌++◌, Option, Some, ap, sym, ◌∙◌, subst}
use Rattle.std.specs.List.{AllByRecursion}
use Rattle.log_read.specs.Limits.{IsLogEntry}
use Rattle.log_read.specs.Logs.{LogEntryTree}
use Rattle.log_read.specs.Reading.{line_count}
use Rattle.log_read.proofs.EntryLoops.{Left, all_left, at_end_line, not_over, next_entry}
use Rattle.log_read.proofs.ListLaws.{all_push}
use Rattle.log_read.proofs.OneLog.{some_same}
use Rattle.log_read.proofs.entries.entries_at.Goals as goal

pub loop-place-init : goal.loop-place-init
loop-place-init c =
    let s = c.args.words.now.script.now in
    record {
      fits = subst (λ (l : List LogEntryTree). AllByRecursion (IsLogEntry s) l) (sym c.new-entries.ensures.items) tt;
      again = λ es end rest all ends lines.
          subst (λ (l : List LogEntryTree). Left (λ w. w.now) s c.args.lines.now 0 l es end rest) (sym c.new-entries.ensures.items) (all_left (λ w. w.now) s c.args.lines.now end rest es all lines);
    }

pub returns-then-is_end_line-clause-again : goal.returns-then-is_end_line-clause-again
returns-then-is_end_line-clause-again c es end rest all ends lines =
    let s = c.args.words.now.script.now in
    let left = c.loop-place.invariant.again es end rest all ends lines in
    let both = at_end_line (λ w. w.now) s c.args.lines.now end rest c.loop-place.place _ c.loop-place.entries.items es c.loop-place-test.true left (sym c.is_end_line.ensures ∙ c.if-is_end_line.true) in
    (ap (λ (l : List LogEntryTree). let o : Option (List LogEntryTree) = Some l in o) both.0, ap (λ (k : ℕ). let o : Option ℕ = Some k in o) both.1)

pub returns-in_default-clause-again : goal.returns-in_default-clause-again
returns-in_default-clause-again c es end rest all ends lines =
    let s = c.args.words.now.script.now in
    let left = c.loop-place.invariant.again es end rest all ends lines in
    let next = next_entry (λ w. w.now) s c.args.lines.now end rest c.loop-place.place _ c.loop-place.entries.items es c.loop-place-test.true left ends (sym c.is_end_line.ensures ∙ c.if-is_end_line.false) in
    absurd (cc (rw c.in_default.is at (c.in_ok-entry.ensures.again next.next next.texts next.fits next.line next.below)))

pub loop-place-preserved : goal.loop-place-preserved
loop-place-preserved c =
    let s = c.args.words.now.script.now in
    record {
      fits = rw c.in_ok-push.ensures.items (all_push (IsLogEntry s) _ _ c.loop-place.invariant.fits (rw c.in-Some.is at c.in_ok-entry.ensures.fits));
      again = λ es end rest all ends lines.
          let left = c.loop-place.invariant.again es end rest all ends lines in
          let next = next_entry (λ w. w.now) s c.args.lines.now end rest c.loop-place.place _ c.loop-place.entries.items es c.loop-place-test.true left ends (sym c.is_end_line.ensures ∙ c.if-is_end_line.false) in
          let same = some_same next.next c.in-Some.entry (sym (rw c.in-Some.is at (c.in_ok-entry.ensures.again next.next next.texts next.fits next.line next.below))) in
          let step = c.line_count-place.ensures.count ∙ ap (λ e. line_count s e.answer) (c.entry.ensures ∙ ap (λ (x : LogEntryTree). x.entry) (sym same)) in
          let moved = subst (λ (k : ℕ). Left (λ w. w.now) s c.args.lines.now (c.loop-place.place + k) (c.loop-place.entries.items ++ next.next ∷ []) es end rest) (sym step) next.after in
          subst (λ (l : List LogEntryTree). Left (λ w. w.now) s c.args.lines.now (c.loop-place.place + c.line_count-place.result) l es end rest)
          (ap (λ (e : LogEntryTree). c.loop-place.entries.items ++ e ∷ []) same ∙ sym c.in_ok-push.ensures.items) moved;
    }

pub returns-clause-again : goal.returns-clause-again
returns-clause-again c es end rest all ends lines =
    absurd (not_over (λ w. w.now) c.args.words.now.script.now c.args.lines.now end rest c.loop-place.place c.loop-place.entries.items es c.loop-place-test.false (c.loop-place.invariant.again es end rest all ends lines))
