use Rattle.window_state.proofs.EnabledLaws.{is_enabled}
use Rattle.window_state.proofs.looks.enabled_at.Goals as goal

pub returns : goal.returns
returns c = is_enabled c.args.tree.now c.args.w.0 c.enabled_within.result.0 c.enabled_within.ensures
