use Rattle.std.proofs.Common.{◌≡◌, replicate}
use Rattle.send_variants.specs.Counts.{no_mark}
use Rattle.send_variants.proofs.mark.no_marks.Given as goal

abbrev pub invariant-loop : goal.invariant-loop
invariant-loop l = l.marks.items ≡ replicate l.counter no_mark
