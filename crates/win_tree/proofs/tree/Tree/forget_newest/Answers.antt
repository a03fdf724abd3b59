use Rattle.std.proofs.Common.{◌∙◌, ◌-◌, List, sym, ap, map, remove, subst, rules, arith}
use Rattle.win_num.specs.declared.message.Hwnd.{Hwnd}
use Rattle.std.specs.List.{AllByRecursion}
use Rattle.win_rows.specs.declared.window.Window.{Window}
use Rattle.win_rows.specs.Windows.{IsOrdered, number_of}
use Rattle.win_rows.proofs.Indexed.{map-remove}
use Rattle.win_tree.specs.Plans.{EachPlan, HasOlderOwner}
use Rattle.win_tree.proofs.Ordered.{all_out, newest_out}
use Rattle.win_tree.proofs.Planned.{no_plans}
use Rattle.win_tree.proofs.tree.Tree.forget_newest.Goals as goal

pub invariant_of-self : goal.invariant_of-self
invariant_of-self c =
    let ws = c.self.inside.rows in
    let i = c.len-count.result - 1 in (
      c.remove.ensures.items ∙ (ap (λ (vs : List Hwnd). remove vs i) c.self.invariant.0 ∙ (sym (map-remove number_of ws i) ∙ ap (map number_of) (sym c.take_out.ensures))),
      subst (λ (us : List Window). IsOrdered 15 (c.self.inside.last - 1) us) (sym c.take_out.ensures) (newest_out 15 c.self.inside.last i ws c.at.result.now c.self.invariant.1 (search (rules, arith)) c.at.ensures c.if-at-self.false),
      subst (λ ps. EachPlan c.take_out.new.self ps) (sym c.clear.ensures.items) (no_plans c.take_out.new.self (subst (AllByRecursion HasOlderOwner) (sym c.take_out.ensures) (all_out HasOlderOwner i ws c.self.invariant.2.owners))),
    )
