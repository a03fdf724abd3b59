use Rattle.display_state.proofs.Drawn.{others_told}
use Rattle.display_state.proofs.display.Display.draw_other.Goals as goal

pub returns-clause-drawn : goal.returns-clause-drawn
returns-clause-drawn c k = others_told c.draw.result c.args.tree.now k c.args.entry c.self.inside.screen c.draw.new.self c.self.inside.colours _ c.args.self.now c.requires.quiet c.self.view_is c.draw.ensures.drawn
