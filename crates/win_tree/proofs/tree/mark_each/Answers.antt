use Rattle.std.proofs.lemmas.Grind.{elements}
use Rattle.std.proofs.Common.{◌∙◌, Bool, ap, arith}
use Rattle.win_rows.specs.Windows.{marked_also}
use Rattle.win_tree.proofs.Marking.{one_more}
use Rattle.win_tree.proofs.tree.mark_each.Goals as goal

pub loop-i-preserved : goal.loop-i-preserved
loop-i-preserved c =
    let x = c.at.result.now in
    let us = c.loop-i.windows in
    c.put.ensures ∙ one_more c.args.windows.now us c.args.w.0 c.loop-i.i x c.marked_also.result (omega arith) c.loop-i.invariant c.at.ensures
    (c.marked_also.ensures ∙ ap (λ (b : Bool). marked_also b x) c.is_kin-also.ensures)

pub at-requires : goal.at-requires
at-requires c = grind (arith, elements)

pub put-requires-clause-number : goal.put-requires-clause-number
put-requires-clause-number c = grind (arith, elements)

pub put-requires-clause-within : goal.put-requires-clause-within
put-requires-clause-within c = grind (arith, elements)
