use Rattle.user_model.specs.Looks.{placed}
use Rattle.window_state.specs.Placings.{box_of}
use Rattle.window_state.proofs.LookSteps.{relooked_by, row_fits}
use Rattle.window_state.proofs.looks.place.Goals as goal

pub placed-look-requires-clause-old : goal.placed-look-requires-clause-old
placed-look-requires-clause-old c = row_fits c.args.tree.now.live c.args.w c.row_of.result (rw c.window_or_none-window.ensures at c.row_of.ensures) c.requires.old

pub returns : goal.returns
returns c =
    relooked_by c.args.tree.now c.set_row.new.self c.args.w (placed c.args.placing.flags c.args.placing.after (box_of c.args.placing.edges)) c.row_of.result c.placed-look.result.style c.placed-look.result.ex c.placed-look.result.place
    (rw c.window_or_none-window.ensures at c.row_of.ensures) c.placed-look.ensures (rw c.window_or_none-window.ensures at c.set_row.ensures)
