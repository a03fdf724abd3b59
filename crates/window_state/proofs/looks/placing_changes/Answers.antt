use Rattle.std.proofs.Common.{ap, ◌∙◌}
use Rattle.user_model.specs.ReplyWindows.{changes_told}
use Rattle.window_state.specs.Trees.{look_in}
use Rattle.window_state.specs.Placings.{box_of}
use Rattle.window_state.proofs.LookSteps.{changes_found, row_fits}
use Rattle.window_state.proofs.looks.placing_changes.Goals as goal

pub placed-requires-clause-old : goal.placed-requires-clause-old
placed-requires-clause-old c = row_fits c.args.tree.now.live c.args.w c.row_of-row.result (rw c.window_or_none.ensures at c.row_of-row.ensures) c.requires.old

pub returns : goal.returns
returns c =
    c.changes_told.ensures
    ∙ (ap (changes_told (look_in c.row_of-row.result)) c.placed.ensures
    ∙ changes_found c.args.tree.now.live c.args.w c.args.placing.flags c.args.placing.after (box_of c.args.placing.edges) c.row_of-row.result (rw c.window_or_none.ensures at c.row_of-row.ensures))
