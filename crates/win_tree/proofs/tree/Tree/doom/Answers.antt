use Rattle.std.proofs.Common.{List, subst, ◌∙◌, map, refl, sym, ap}
use Rattle.win_rows.specs.declared.window.Window.{Window}
use Rattle.win_rows.specs.Windows.{IsOrdered, number_of}
use Rattle.win_tree.specs.Kin.{doomed_if}
use Rattle.win_tree.proofs.Ordered.{ordered_map}
use Rattle.win_tree.proofs.Numbers.{same_numbers}
use Rattle.win_tree.specs.Plans.{EachPlan}
use Rattle.win_tree.proofs.Planned.{plans_doomed}
use Rattle.win_tree.proofs.tree.Tree.doom.Goals as goal

pub mark_kin-requires : goal.mark_kin-requires
mark_kin-requires c = (c.self.inside.last, c.self.invariant.1)

pub invariant_of-self : goal.invariant_of-self
invariant_of-self c =
    let old = c.self.inside.rows in (
      c.self.invariant.0 ∙ sym (ap (map number_of) c.mark_kin.ensures ∙ same_numbers (doomed_if old c.args.w.0) (λ x. refl) old),
      subst (λ (ws : List Window). IsOrdered 15 c.self.inside.last ws) (sym c.mark_kin.ensures) (ordered_map (doomed_if old c.args.w.0) (λ x. refl) (λ x. refl) 15 c.self.inside.last old c.self.invariant.1),
      subst (λ (ws : List Window). EachPlan ws c.self.inside.plans.items) (sym c.mark_kin.ensures) (plans_doomed old c.args.w.0 c.self.inside.plans.items c.self.invariant.2),
    )
