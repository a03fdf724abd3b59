use Rattle.std.proofs.Common.{◌≡◌, ◌+◌, ◌≤◌, None, subst, sym, arith, rules, tests}
use Rattle.win_rows.specs.declared.window.Window.{Window}
use Rattle.win_rows.specs.Windows.{Windows, up, made}
use Rattle.win_tree.specs.Kin.{refusal, settled}
use Rattle.win_tree.proofs.Ordered.{new_older, owner_older}
use Rattle.win_tree.proofs.tree.Tree.add.Goals as goal

pub push-requires-clause-older : goal.push-requires-clause-older
push-requires-clause-older c =
    let ws = c.self.inside.rows in
    let t : Windows = record { last = c.self.inside.last; live = ws } in
    let none : refusal t c.args.row ≡ None = search (rules, tests) in
    let kept : c.settled-kept.result ≡ settled ws c.args.row = search (rules, tests) in
    let x : c.new.result ≡ made c.new.result.number (settled ws c.args.row) = search (rules, tests) in
    let number : c.new.result.number.0 ≡ c.self.inside.last + 1 = search (rules, tests) in
    let small : (up c.new.result).0 ≤ c.self.inside.last = subst (λ (y : Window). (up y).0 ≤ c.self.inside.last) (sym x) (new_older t c.args.row c.new.result.number c.self.invariant.1 none) in
    omega (arith, small, number)

pub push-requires-clause-owner : goal.push-requires-clause-owner
push-requires-clause-owner c =
    let ws = c.self.inside.rows in
    let t : Windows = record { last = c.self.inside.last; live = ws } in
    let none : refusal t c.args.row ≡ None = search (rules, tests) in
    let kept : c.settled-kept.result ≡ settled ws c.args.row = search (rules, tests) in
    let x : c.new.result ≡ made c.new.result.number (settled ws c.args.row) = search (rules, tests) in
    let number : c.new.result.number.0 ≡ c.self.inside.last + 1 = search (rules, tests) in
    let small : c.new.result.row.owner.0 ≤ c.self.inside.last = subst (λ (y : Window). y.row.owner.0 ≤ c.self.inside.last) (sym x) (owner_older t c.args.row c.self.invariant.1 none) in
    omega (arith, small, number)
