use Rattle.std.proofs.Common.{is_ok}
use Rattle.win_tree.proofs.Planned.{plans_pushed}
use Rattle.win_tree.proofs.tree.Tree.plan.Goals as goal

pub begun-requires : goal.begun-requires
begun-requires c = (c.self.inside.last, c.self.invariant.1)

pub invariant_of-self : goal.invariant_of-self
invariant_of-self c = (
  c.self.invariant.0,
  c.self.invariant.1,
  plans_pushed c.self.inside.rows (is_ok c.push-kept.result) c.self.inside.plans.items c.push-kept.new.self.items c.in-Some.plan c.self.invariant.2 c.in-Some.ensures c.push-kept.ensures.items,
)
