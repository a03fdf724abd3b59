use Rattle.std.proofs.Common.{◌≡◌, ◌∙◌, List, sym, subst}
use Rattle.std.proofs.lemmas.List.{get_or_default}
use Rattle.win_tree.specs.declared.plan.Plan.{Plan}
use Rattle.win_tree.specs.Plans.{HasPlan, IsPlan, IsReached}
use Rattle.win_rows.proofs.Alls.{all_at}
use Rattle.win_tree.proofs.Planned.{plans_changed, plan_further}
use Rattle.win_tree.proofs.tree.Tree.advance.Goals as goal

pub invariant_of-self : goal.invariant_of-self
invariant_of-self c =
    let ws = c.self.inside.rows in
    let plans = c.self.inside.plans.items in
    let i = c.in-Some.i in
    let p = c.index_mut.result.now in
    let q = c.index.result.now in
    let has : HasPlan plans c.args.w i = subst (λ (ps : List Plan). HasPlan ps c.args.w i) c.deref.ensures.value c.in-Some.ensures in
    let same : q ≡ p = c.index.ensures ∙ get_or_default plans i q p has.within ∙ sym c.index_mut.ensures.value in
    let reached : IsReached ws p.steps.items c.reached-next.result = subst (λ (r : Plan). IsReached ws r.steps.items c.reached-next.result) same c.reached-next.ensures in
    let plan : IsPlan ws p = all_at (IsPlan ws) plans i p c.self.invariant.2.each has.within c.index_mut.ensures.value in (
      c.self.invariant.0,
      c.self.invariant.1,
      plans_changed ws plans i _ c.self.invariant.2 (plan_further ws p c.reached-next.result plan reached),
    )
