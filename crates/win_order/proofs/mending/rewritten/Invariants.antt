use Rattle.std.proofs.Common.{◌≡◌, ◌-◌, [], reverse}
use Rattle.win_order.specs.Marks.{IsMarked}
use Rattle.win_order.specs.Mending.{rewritten}
use Rattle.win_order.proofs.mending.rewritten.Given as goal

abbrev pub invariant-steps : goal.invariant-steps
invariant-steps l = record {
  same : rewritten (l.steps - l.counter) l.list.written.items l.list.held.items (reverse l.list.next.items) ≡ rewritten l.steps [] [] (reverse l.initial.list.next.items);
  marked : IsMarked l.list.written.items l.list.held.items l.list.marked.keys l.list.awaited.keys;
}
