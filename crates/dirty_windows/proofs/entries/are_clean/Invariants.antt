use Rattle.std.proofs.Common.{take}
use Rattle.std.specs.Prelude.{All}
use Rattle.dirty_windows.specs.LookUps.{IsClean}
use Rattle.dirty_windows.proofs.entries.are_clean.Given as goal

abbrev pub invariant-loop-d : goal.invariant-loop-d
invariant-loop-d l = All IsClean (take l.d-index l.entries)
