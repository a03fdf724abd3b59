use Rattle.screen_state.proofs.Drawing.{seen_at}
use Rattle.screen_state.proofs.screen.ScreenState.to_paint.Goals as goal

pub returns : goal.returns
returns c setup past lawful tree order at = c.first_to_paint.ensures setup past (seen_at setup past c.args.tree.now _ _ _ c.args.self.now c.self.view_is tree at) order
