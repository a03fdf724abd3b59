use Rattle.std.proofs.Common.{take}
use Rattle.std.specs.List.{flat_map}
use Rattle.user_io.specs.Text.{Adds}
use Rattle.log_read.specs.Logs.{extra_line}
use Rattle.log_read.proofs.writer.put_extras.Given as goal

abbrev pub invariant-loop-extra : goal.invariant-loop-extra
invariant-loop-extra l = Adds l.initial.out.items l.out.items (flat_map (extra_line l.words.script.now) (take l.extra-index l.extras))
