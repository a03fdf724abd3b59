use Rattle.std.proofs.Common.{take}
use Rattle.win_order.specs.Entries.{newest_first}
use Rattle.win_order.specs.Tops.{AreTopmost}
use Rattle.win_order.proofs.standings.topmost_among.Given as goal

abbrev pub invariant-loop-i : goal.invariant-loop-i
invariant-loop-i l = AreTopmost l.topmost.keys (newest_first (take l.i l.windows.entries))
