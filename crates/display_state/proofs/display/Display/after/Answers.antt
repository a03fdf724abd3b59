use Rattle.std.proofs.Common.{ap}
use Rattle.display_state.specs.Displays.{Shown}
use Rattle.display_state.proofs.Followed.{told_after, told_near}
use Rattle.display_state.proofs.display.Display.after.Goals as goal

pub returns-clause-windows : goal.returns-clause-windows
returns-clause-windows c = told_after c.after.result c.args.setup c.args.tree.now c.args.order.now c.args.entry c.self.inside.screen c.args.self.now (ap (λ (v : Shown). v.screen) c.self.view_is) c.after.ensures.windows c.after.ensures.carried c.after.ensures.near

pub returns-clause-near : goal.returns-clause-near
returns-clause-near c = λ past was. told_near c.after.result c.args.setup past c.args.self.now was c.after.ensures.near
