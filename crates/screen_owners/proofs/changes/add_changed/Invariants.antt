use Rattle.std.proofs.Common.{take}
use Rattle.screen_owners.specs.Shown.{Keeps, LookSame}
use Rattle.screen_owners.proofs.changes.add_changed.Given as goal

abbrev pub invariant-loop-w : goal.invariant-loop-w
invariant-loop-w l = record {
  kept : Keeps l.initial.changed.items l.changed.items;
  added : LookSame l.old.live l.new.live (take l.w-index l.windows) l.changed.items;
}
