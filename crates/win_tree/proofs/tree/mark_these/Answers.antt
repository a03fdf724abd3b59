use Rattle.std.proofs.lemmas.Grind.{elements}
use Rattle.std.proofs.Common.{◌∙◌, set, eqb, ap, arith}
use Rattle.std.specs.List.{list_any}
use Rattle.std.proofs.lemmas.List.Edits.{map_over_more}
use Rattle.win_rows.specs.declared.window.Window.{Window}
use Rattle.win_rows.specs.Windows.{marked_also}
use Rattle.win_tree.proofs.tree.mark_these.Goals as goal

pub loop-i-preserved : goal.loop-i-preserved
loop-i-preserved c =
    let x = c.at.result.now in
    let us = c.loop-i.windows in
    c.put.ensures ∙ ap (λ (z : Window). set us c.loop-i.i z) (c.marked_also.ensures ∙ ap (λ b. marked_also b x) c.has_number-also.ensures)
    ∙ map_over_more (λ y. marked_also (list_any (λ v. eqb v.0 y.number.0) c.args.kin.now) y) c.args.windows.now us c.loop-i.i x (omega arith) c.loop-i.invariant c.at.ensures

pub at-requires : goal.at-requires
at-requires c = grind (arith, elements)

pub put-requires-clause-number : goal.put-requires-clause-number
put-requires-clause-number c = grind (arith, elements)

pub put-requires-clause-within : goal.put-requires-clause-within
put-requires-clause-within c = grind (arith, elements)
