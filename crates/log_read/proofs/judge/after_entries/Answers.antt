use Rattle.std.proofs.Common.{◌≡◌, Option, Some, ap, sym, ◌∙◌, inl, inr}
use Rattle.std.proofs.lemmas.Bool.{false≢true}
use Rattle.script_lines.specs.LineTexts.{joined}
use Rattle.log_text.specs.declared.end.End.{End}
use Rattle.log_read.specs.declared.phase.Phase.{Phase}
use Rattle.log_read.specs.declared.phase.Phase.TheVariants as phases
use Rattle.log_read.specs.Reading.{is_end_line}
use Rattle.log_read.specs.Words.{end_words}
use Rattle.log_read.proofs.LogParts.{entry_no_end, end_is_end}
use Rattle.log_read.proofs.OneLog.{some_same}
use Rattle.log_read.proofs.judge.after_entries.Goals as goal

pub returns-in-Some-clause-again : goal.returns-in-Some-clause-again
returns-in-Some-clause-again c next step =
    let s = c.args.words.now.script.now in
    let end = c.in-Some.end in
    let line : c.args.text.now ≡ joined (end_words end) = rw c.in-Some.is at c.in_ok-end.ensures.fits in
    elim step [
      | inl x ↦ absurd (false≢true (sym (entry_no_end s x.entry x.fits) ∙ ap is_end_line (sym x.line ∙ line) ∙ end_is_end end))
      | inr x ↦
          let same : end ≡ x.end = some_same end x.end (sym c.in-Some.is ∙ c.in_ok-end.ensures.again x.end x.line) in
          ap (λ (e : End). let o : Option Phase = Some (phases.Extras e) in o) same ∙ ap (λ (p : Phase). let o : Option Phase = Some p in o) (sym x.opens)
    ]
