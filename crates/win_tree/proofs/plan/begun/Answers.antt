use Rattle.std.proofs.Common.{refl, sym}
use Rattle.win_tree.proofs.Planned.{plan_begun}
use Rattle.win_tree.proofs.plan.begun.Goals as goal

pub returns : goal.returns
returns c = plan_begun c.requires.0 c.args.rows.now c.args.w c.in_ok-x.x.now _ c.requires.1 refl refl (sym c.in_ok-x.ensures) c.in_ok-steps.ensures
