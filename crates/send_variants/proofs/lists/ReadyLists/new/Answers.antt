use Rattle.std.proofs.Common.{◌∙◌, ℕ, List, [], replicate, sym, ap, subst}
use Rattle.send_variants.specs.Lists.{Entry, IsSound, ReadyView}
use Rattle.send_variants.specs.Counts.{AreCounted, marks_in}
use Rattle.send_variants.specs.declared.mark.Mark.{Mark}
use Rattle.send_variants.proofs.Counts.{count_none, marks_none}
use Rattle.send_variants.proofs.Entries.{sound-new}
use Rattle.send_variants.proofs.lists.ReadyLists.new.Goals as goal

pub invariant_of-result : goal.invariant_of-result
invariant_of-result c = (
  subst (AreCounted c.in_ok-marks.marks.items) (sym c.in_ok-lists.ensures) (subst (λ (ms : List Mark). AreCounted ms (replicate c.args.threads [])) (sym c.in_ok-marks.ensures) (count_none c.args.threads)),
  subst IsSound (sym c.in_ok-lists.ensures) (sound-new c.args.threads c.requires.0 c.requires.1),
)

pub returns : goal.returns
returns c =
    ap (λ (l : List (List Entry)). let v : ReadyView = record { lists = l; marks = marks_in c.in_ok-marks.marks.items } in v) c.in_ok-lists.ensures
    ∙ ap (λ (l : List ℕ). let v : ReadyView = record { lists = replicate c.args.threads []; marks = l } in v) (ap marks_in c.in_ok-marks.ensures ∙ marks_none c.args.threads)
