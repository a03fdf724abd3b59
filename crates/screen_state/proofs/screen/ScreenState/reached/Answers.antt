use Rattle.screen_state.proofs.Reaching.{reached_at}
use Rattle.screen_state.proofs.screen.ScreenState.reached.Goals as goal

pub returns : goal.returns
returns c = reached_at c.let_through.result _ _ _ c.args.self.now c.args.w.0 _ _ c.self.view_is c.region_of-owned.ensures c.clip_of-clip.ensures c.let_through.ensures
