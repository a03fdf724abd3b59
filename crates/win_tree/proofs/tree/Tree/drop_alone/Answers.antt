use Rattle.std.proofs.Common.{◌≡◌, subst, ◌∙◌, true, not, eqb, refl, ap, sym, map, filter, List, remove, rules, tests}
use Rattle.win_num.specs.declared.message.Hwnd.{Hwnd}
use Rattle.win_rows.specs.declared.window.Window.{Window}
use Rattle.win_rows.specs.Windows.{Windows, IsOrdered, number_of}
use Rattle.win_tree.specs.Kin.{is_alone}
use Rattle.win_tree.proofs.Ordered.{ordered_filter}
use Rattle.win_rows.proofs.Indexed.{map-remove}
use Rattle.win_tree.proofs.Alone.{alone_dropped}
use Rattle.win_rows.proofs.Ones.{filter_one, filter_none}
use Rattle.win_tree.specs.Plans.{EachPlan}
use Rattle.win_tree.specs.declared.plan.Plan.{Plan}
use Rattle.win_tree.proofs.Planned.{plans_left}
use Rattle.win_tree.proofs.tree.Tree.drop_alone.Goals as goal

pub invariant_of-self : goal.invariant_of-self
invariant_of-self c =
    let ws = c.self.inside.rows in
    let i = c.in-Some.i in
    let w = c.args.w.0 in
    let test = λ (p : Plan). not (eqb p.root.0 w) in
    let alone : is_alone ws w ≡ true = search (rules, tests) in
    let windows = c.take_out.ensures ∙ filter_one ws w i c.in-Some.ensures.rising c.in-Some.ensures.place in (
      c.remove.ensures.items ∙ (ap (λ (vs : List Hwnd). remove vs i) c.self.invariant.0 ∙ (sym (map-remove number_of ws i) ∙ ap (map number_of) (sym c.take_out.ensures))),
      subst (λ (us : List Window). IsOrdered 15 c.self.inside.last us) (sym windows) (ordered_filter (λ x. not (eqb x.number.0 w)) 15 c.self.inside.last ws c.self.invariant.1),
      subst (λ (ps : List Plan). EachPlan c.take_out.new.self ps) (sym c.forget.ensures) (subst (λ (us : List Window). EachPlan us (filter test c.self.inside.plans.items)) (sym windows) (plans_left w ws c.self.inside.last c.self.invariant.1 c.self.invariant.2.owners alone test c.self.inside.plans.items c.self.invariant.2.each)),
    )

pub returns-in-Some : goal.returns-in-Some
returns-in-Some c =
    let ws = c.self.inside.rows in
    let w = c.args.w.0 in
    let windows = c.take_out.ensures ∙ filter_one ws w c.in-Some.i c.in-Some.ensures.rising c.in-Some.ensures.place in
    let alone : is_alone ws w ≡ true = search (rules, tests) in
    rw (windows ∙ alone_dropped ws w alone, ← c.self.view_is) refl

pub returns-in_default : goal.returns-in_default
returns-in_default c =
    let ws = c.self.inside.rows in
    let w = c.args.w.0 in
    let alone : is_alone ws w ≡ true = search (rules, tests) in
    let same = sym (filter_none ws w c.in_default.ensures.place) ∙ alone_dropped ws w alone in
    sym c.self.view_is ∙ (ap (λ (us : List Window). let t : Windows = record { last = c.self.inside.last; live = us } in t) same ∙ rw (← c.self.view_is) refl)
