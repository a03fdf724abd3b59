use Rattle.std.proofs.Common.{◌≡◌, ◌<◌, ◌∷◌, ◌++◌, [], subst, sym, arith, rules, tests}
use Rattle.win_rows.specs.Windows.{Windows}
use Rattle.win_tree.proofs.Ordered.{ordered_more, put_last}
use Rattle.win_rows.proofs.Ones.{rising}
use Rattle.std.specs.List.{AllByRecursion}
use Rattle.win_tree.specs.Plans.{EachPlan, HasOlderOwner}
use Rattle.win_rows.proofs.Alls.{all_append}
use Rattle.win_tree.proofs.Planned.{no_plans}
use Rattle.win_tree.proofs.tree.Tree.push.Goals as goal

pub push-requires : goal.push-requires
push-requires c =
    let x = c.args.window in
    let rises : c.self.inside.last < x.number.0 = subst (λ (t : Windows). t.last < x.number.0) (sym c.self.view_is) c.requires.rises in
    rising 0 15 x.number.0 (c.self.inside.rows ++ x ∷ []) (omega arith) (ordered_more 15 c.self.inside.last c.self.inside.rows x c.self.invariant.1 rises c.requires.older)

pub invariant_of-self-2 : goal.invariant_of-self-2
invariant_of-self-2 c =
    let x = c.args.window in
    let rises : c.self.inside.last < x.number.0 = subst (λ (t : Windows). t.last < x.number.0) (sym c.self.view_is) c.requires.rises in
    let numbers : c.push-2.new.self.items ≡ c.self.inside.numbers.items ++ x.number ∷ [] = search (rules, tests) in
    let windows : c.push.new.self ≡ c.self.inside.rows ++ x ∷ [] = search (rules, tests) in
    let kept = put_last c.self.inside.numbers.items c.push-2.new.self.items c.self.inside.rows c.push.new.self x c.self.inside.last (c.self.invariant.0, c.self.invariant.1) numbers windows rises c.requires.older in (
      kept.0,
      kept.1,
      subst (λ ps. EachPlan c.push.new.self ps) (sym c.clear.ensures.items) (no_plans c.push.new.self (subst (AllByRecursion HasOlderOwner) (sym windows) (all_append HasOlderOwner c.self.inside.rows (x ∷ []) c.self.invariant.2.owners (c.requires.owner, tt)))),
    )
