use Rattle.std.proofs.Common.{List, subst, ◌∙◌, map, sym, ap}
use Rattle.win_rows.specs.declared.window.Window.{Window}
use Rattle.win_rows.specs.Windows.{IsOrdered, number_of, set_if}
use Rattle.win_tree.proofs.Ordered.{ordered_map, set_up}
use Rattle.win_tree.proofs.Numbers.{same_numbers, set_number}
use Rattle.win_tree.specs.Plans.{EachPlan}
use Rattle.win_tree.proofs.Planned.{plans_set}
use Rattle.win_tree.proofs.tree.Tree.set_row.Goals as goal

pub invariant_of-self : goal.invariant_of-self
invariant_of-self c =
    let old = c.self.inside.rows in
    let w = c.args.w.0 in
    let number = set_number w c.args.style c.args.ex c.args.place in (
      c.self.invariant.0 ∙ sym (ap (map number_of) c.set_row.ensures ∙ same_numbers (set_if w c.args.style c.args.ex c.args.place) number old),
      subst (λ (ws : List Window). IsOrdered 15 c.self.inside.last ws) (sym c.set_row.ensures) (ordered_map (set_if w c.args.style c.args.ex c.args.place) number (set_up w c.args.style c.args.ex c.args.place) 15 c.self.inside.last old c.self.invariant.1),
      subst (λ (ws : List Window). EachPlan ws c.self.inside.plans.items) (sym c.set_row.ensures) (plans_set w c.args.style c.args.ex c.args.place old c.self.inside.plans.items c.self.invariant.2),
    )
