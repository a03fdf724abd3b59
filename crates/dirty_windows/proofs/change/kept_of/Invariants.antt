use Rattle.std.proofs.Common.{take}
use Rattle.dirty_windows.specs.Changes.{IsCut}
use Rattle.dirty_windows.proofs.change.kept_of.Given as goal

abbrev pub invariant-loop-d : goal.invariant-loop-d
invariant-loop-d l = IsCut l.owners l.moved l.carried (take l.d-index l.entries) l.kept.items
