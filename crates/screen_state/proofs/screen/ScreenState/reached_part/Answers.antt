use Rattle.screen_state.proofs.Reaching.{reached_in}
use Rattle.screen_state.proofs.screen.ScreenState.reached_part.Goals as goal

pub returns : goal.returns
returns c =
    let place = c.args.place in
    reached_in c.and.result c.args.tree.now c.args.self.now c.args.w.0 place.l place.t place.r place.b c.in_ok-part.part c.in_ok-reached.reached c.in_ok-part.ensures c.in_ok-reached.ensures c.and.ensures
