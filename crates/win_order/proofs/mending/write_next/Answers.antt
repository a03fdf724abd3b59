use Rattle.win_order.proofs.MarkLaws.{marked_released}
use Rattle.win_order.proofs.mending.write_next.Goals as goal

pub returns-clause-marked : goal.returns-clause-marked
returns-clause-marked c =
    let list = c.args.list.now in
    rw (c.in_ok-push-2.ensures.items, c.in_ok-insert-2.ensures.keys) (marked_released c.release.result list.written.items list.held.items c.release.new.held.items list.marked.keys list.awaited.keys c.in-Some.top c.requires c.release.ensures.held)
