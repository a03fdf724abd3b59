use Rattle.screen_state.proofs.Drawing.{above_zero}
use Rattle.screen_state.proofs.screen.ScreenState.validate.Goals as goal

pub validate-requires : goal.validate-requires
validate-requires c = above_zero c.args.tree.now c.args.w.0 c.requires.live
