use Rattle.std.proofs.Common.{take}
use Rattle.win_rows.specs.Links.{AreGroups}
use Rattle.win_rows.proofs.links.grouped.Given as goal

abbrev pub invariant-loop-i : goal.invariant-loop-i
invariant-loop-i l = AreGroups l.link (take l.i l.rows) l.rows l.groups.items
