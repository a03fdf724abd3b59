use Rattle.screen_state.proofs.Drawing.{above_zero}
use Rattle.screen_state.proofs.screen.ScreenState.invalidate.Goals as goal

pub invalidate-requires : goal.invalidate-requires
invalidate-requires c = above_zero c.args.tree.now c.args.w.0 c.requires.live
