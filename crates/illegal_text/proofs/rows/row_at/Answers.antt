use Rattle.std.proofs.Common.{sym, ◌∙◌}
use Rattle.illegal_text.specs.Texts.{row_at}
use Rattle.illegal_text.proofs.Endings.{row_below, row_here}
use Rattle.illegal_text.proofs.rows.row_at.Goals as goal

pub loop-preserved : goal.loop-preserved
loop-preserved c = row_below c.args.width c.args.row c.loop.counter c.loop.rest.now c.split_row.result.1.now (row_at c.args.width c.args.row c.args.colours.now) c.loop-test.true c.loop.invariant c.split_row.ensures.below

pub returns : goal.returns
returns c = c.split_row-2.ensures.row ∙ row_here c.args.width c.args.row c.loop.counter c.loop.rest.now (row_at c.args.width c.args.row c.args.colours.now) c.loop-test.false c.loop.invariant
