use Rattle.std.proofs.Common.{take}
use Rattle.screen_owners.specs.Shown.{ListsSameOf}
use Rattle.screen_owners.proofs.changes.each_list_same.Given as goal

abbrev pub invariant-loop-w : goal.invariant-loop-w
invariant-loop-w l = ListsSameOf l.changed l.old l.new (take l.w-index l.windows)
