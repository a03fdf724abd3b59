use Rattle.std.proofs.Common.{ap, ◌∙◌}
use Rattle.win_num.specs.Rects.{box_in}
use Rattle.window_state.proofs.Outcomes.{made, same_box}
use Rattle.window_state.proofs.Newest.{entered_by}
use Rattle.window_state.proofs.tables.make.Goals as goal

pub enter-requires-clause-table : goal.enter-requires-clause-table
enter-requires-clause-table c =
    let fits = rw c.in-NewWindow.is at c.requires.table in
    fits.4 c.row_from-row.result (rw c.window_or_none-above.ensures at c.row_from-row.ensures.row)

pub enter-requires-clause-order : goal.enter-requires-clause-order
enter-requires-clause-order c =
    let fits = rw c.in-NewWindow.is at c.requires.order in
    fits c.row_from-row.result (rw c.window_or_none-above.ensures at c.row_from-row.ensures.row)

pub returns-in-NewWindow-clause-table : goal.returns-in-NewWindow-clause-table
returns-in-NewWindow-clause-table c =
    let fits = rw c.in-NewWindow.is at c.requires.table in
    let call = c.in-NewWindow in
    let place = ap box_in c.row_from-row.ensures.place ∙ c.place_of-place.ensures ∙ same_box call.l call.t call.r call.b fits.0 in
    rw c.in-NewWindow.is (made c.enter.result _ _ _ _ _ _ _ _ _ _ c.args.tree.now c.enter.new.tree c.row_from-row.result (rw c.window_or_none-above.ensures at c.row_from-row.ensures.row) place c.enter.ensures.table)

pub returns-in-NewWindow-clause-order : goal.returns-in-NewWindow-clause-order
returns-in-NewWindow-clause-order c = rw c.in-NewWindow.is (entered_by c.enter.result c.args.tree.now c.enter.new.tree c.row_from-row.result c.args.order.now c.enter.new.order c.enter.ensures.table c.enter.ensures.order)
