use Rattle.std.proofs.Common.{◌≡◌, nat_eq, take}
use Rattle.indexmap.specs.IndexMap.{IsUnique}
use Rattle.win_order.proofs.families.Families.copy.Given as goal

abbrev pub invariant-loop-i : goal.invariant-loop-i
invariant-loop-i l = record {
  same : l.lists.entries ≡ take l.i l.self-inside.lists.entries;
  unique : IsUnique nat_eq l.lists;
}
