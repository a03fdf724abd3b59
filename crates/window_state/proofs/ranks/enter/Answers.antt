use Rattle.std.proofs.Common.{◌≡◌, Some, sym, subst}
use Rattle.win_rows.specs.declared.window.Window.{Window}
use Rattle.win_rows.specs.Windows.{Windows, window_of}
use Rattle.window_state.specs.Orders.{added_as, with_row}
use Rattle.window_state.proofs.Newest.{newest_found, ok_then, rankable}
use Rattle.window_state.proofs.ranks.enter.Goals as goal

pub rank_newest-ranked-requires : goal.rank_newest-ranked-requires
rank_newest-ranked-requires c = rankable c.args.tree.now c.add.new.tree c.args.order.now c.args.row c.requires.order c.in_ok-add.ensures.ok

pub returns-else-is_err-clause-order : goal.returns-else-is_err-clause-order
returns-else-is_err-clause-order c =
    let found : window_of c.add.new.tree.live c.add.new.tree.last ≡ Some (added_as c.args.tree.now c.args.row) =
    subst (λ (m : Windows). window_of m.live m.last ≡ Some (added_as c.args.tree.now c.args.row)) (sym c.in_ok-add.ensures.ok) (newest_found c.args.tree.now c.args.row c.requires.order.ordered) in
    ok_then c.rank_newest-ranked.result ((x : Window) → window_of c.add.new.tree.live c.add.new.tree.last ≡ Some x → c.rank_newest-ranked.new.order ≡ with_row x c.args.order.now) (c.rank_newest-ranked.new.order ≡ with_row (added_as c.args.tree.now c.args.row) c.args.order.now)
    (λ all. all (added_as c.args.tree.now c.args.row) found) c.rank_newest-ranked.ensures.ok
