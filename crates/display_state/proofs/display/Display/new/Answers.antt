use Rattle.display_state.proofs.Followed.{none_listed, none_shown}
use Rattle.display_state.proofs.display.Display.new.Goals as goal

pub returns : goal.returns
returns c = none_shown c.args.setup c.in_ok-screen.screen c.in_ok-colours.colours _ c.in_ok-screen.ensures c.in_ok-colours.ensures (none_listed _ c.new-3.result.items c.new-3.ensures.items)
