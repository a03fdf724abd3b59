use Rattle.std.proofs.Common.{◌≡◌, ◌∙◌, List, Some, true, sym, ap, subst, rules, tests, arith}
use Rattle.win_num.specs.declared.message.Hwnd.{Hwnd}
use Rattle.win_tree.specs.declared.plan.Plan.{Plan}
use Rattle.win_rows.specs.Windows.{Windows, window_of}
use Rattle.win_rows.specs.Destruction.{unmade}
use Rattle.win_tree.specs.Plans.{HasPlan, IsPlan}
use Rattle.win_rows.proofs.Alls.{all_at}
use Rattle.win_rows.proofs.Ones.{number_is, rising}
use Rattle.win_tree.proofs.Planned.{planned_step, unmade_marked, same_hwnd}
use Rattle.win_tree.proofs.tree.Tree.next_step.Goals as goal

pub returns-in-Some-plan_of : goal.returns-in-Some-plan_of
returns-in-Some-plan_of c =
    let ws = c.self.inside.rows in
    let w = c.args.w in
    let i = c.in-Some-plan_of.i in
    let p = c.index.result.now in
    let x = c.in-Some.x.now in
    let has : HasPlan c.self.inside.plans.items w i = subst (λ (ps : List Plan). HasPlan ps w i) c.deref.ensures.value c.in-Some-plan_of.ensures in
    let plan : IsPlan ws p = all_at (IsPlan ws) c.self.inside.plans.items i p c.self.invariant.2.each has.within c.index.ensures in
    let root : p.root ≡ w = has.same p c.index.ensures in
    let found : window_of ws w.0 ≡ Some x = sym c.in-Some.ensures in
    let marked : x.marked ≡ true = search (rules, tests) in
    let number : x.number ≡ p.root = same_hwnd x.number w (number_is ws w.0 x found) ∙ sym root in
    let there : window_of ws p.root.0 ≡ Some x = ap (λ (v : Hwnd). window_of ws v.0) root ∙ found in
    c.planned.ensures.2
    ∙ sym (planned_step c.self.inside.last ws p x c.planned.ensures.0 c.self.invariant.1 plan there number c.planned.ensures.1)
    ∙ sym (unmade_marked ws w.0 x found marked)
    ∙ ap (λ (t : Windows). unmade t.live w.0) c.self.view_is

pub searched-requires : goal.searched-requires
searched-requires c =
    let ws = c.self.inside.rows in
    let x = c.in-Some.x.now in
    let found : window_of ws c.args.w.0 ≡ Some x = sym c.in-Some.ensures in
    record {
      live = ap (window_of ws) (number_is ws c.args.w.0 x found) ∙ found;
      rising = rising 0 15 c.self.inside.last ws (omega arith) c.self.invariant.1;
    }
