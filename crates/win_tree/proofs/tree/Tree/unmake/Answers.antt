use Rattle.std.proofs.Common.{List, subst, ◌∙◌, map, sym, ap}
use Rattle.win_rows.specs.declared.window.Window.{Window}
use Rattle.win_rows.specs.Windows.{IsOrdered, number_of}
use Rattle.win_tree.proofs.Ordered.{ordered_given}
use Rattle.win_tree.proofs.Numbers.{given_numbers}
use Rattle.win_tree.specs.Plans.{EachPlan}
use Rattle.win_tree.proofs.Planned.{plans_given}
use Rattle.win_tree.proofs.tree.Tree.unmake.Goals as goal

pub invariant_of-self : goal.invariant_of-self
invariant_of-self c =
    let old = c.self.inside.rows in
    let step = c.next_step-step.result in (
      c.self.invariant.0 ∙ sym (ap (map number_of) c.give.ensures ∙ given_numbers step old),
      subst (λ (ws : List Window). IsOrdered 15 c.self.inside.last ws) (sym c.give.ensures) (ordered_given step 15 c.self.inside.last old c.self.invariant.1),
      subst (λ (ws : List Window). EachPlan ws c.self.inside.plans.items) (sym c.give.ensures) (plans_given step old c.self.inside.plans.items c.self.invariant.2),
    )
