use Rattle.std.proofs.Common.{◌≡◌, ◌++◌, take}
use Rattle.win_rows.specs.Parts.{parts_of}
use Rattle.win_rows.proofs.order.put_each.Given as goal

abbrev pub invariant-loop-x : goal.invariant-loop-x
invariant-loop-x l = l.parts.items ≡ l.initial.parts.items ++ parts_of l.kind l.depth (take l.x-index l.windows)
