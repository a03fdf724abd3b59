use Rattle.screen_state.proofs.Screens.{none_yet}
use Rattle.screen_state.proofs.screen.ScreenState.new.Goals as goal

pub returns : goal.returns
returns c = none_yet c.args.setup c.in_ok-owners.owners c.new.result c.new-2.result c.in_ok-owners.ensures c.new.ensures c.new-2.ensures
