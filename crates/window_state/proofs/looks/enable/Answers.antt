use Rattle.std.proofs.Common.{refl}
use Rattle.user_model.specs.Looks.{enabled_look}
use Rattle.window_state.proofs.LookSteps.{relooked_by, same_look}
use Rattle.window_state.proofs.looks.enable.Goals as goal

pub returns : goal.returns
returns c =
    relooked_by c.args.tree.now c.set_row.new.self c.args.w (enabled_look c.args.on) c.row_of-row.result c.enabled.result c.row_of-row.result.ex c.row_of-row.result.place
    (rw c.window_or_none-window.ensures at c.row_of-row.ensures) (same_look _ _ _ _ _ _ c.enabled.ensures refl refl) (rw c.window_or_none-window.ensures at c.set_row.ensures)
