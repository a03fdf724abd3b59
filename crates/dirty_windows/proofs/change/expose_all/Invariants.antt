use Rattle.std.proofs.Common.{take}
use Rattle.dirty_windows.specs.Changes.{IsExposed}
use Rattle.dirty_windows.proofs.Exposing.{owns}
use Rattle.dirty_windows.proofs.change.expose_all.Given as goal

abbrev pub invariant-loop-owned : goal.invariant-loop-owned
invariant-loop-owned l = IsExposed (owns (take l.owned-index l.owners)) l.old l.new l.moved l.carried l.initial.entries.items l.entries.items
