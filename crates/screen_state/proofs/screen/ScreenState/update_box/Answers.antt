use Rattle.screen_state.proofs.Drawing.{seen_at}
use Rattle.screen_state.proofs.screen.ScreenState.update_box.Goals as goal

pub returns-clause-kind : goal.returns-clause-kind
returns-clause-kind c setup past lawful tree at lives = c.update_box.ensures.kind setup past lawful (seen_at setup past c.args.tree.now _ _ _ c.args.self.now c.self.view_is tree at) lives

pub returns-clause-edges : goal.returns-clause-edges
returns-clause-edges c setup past lawful tree at lives = c.update_box.ensures.edges setup past lawful (seen_at setup past c.args.tree.now _ _ _ c.args.self.now c.self.view_is tree at) lives
