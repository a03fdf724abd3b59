use Rattle.std.proofs.Common.{◌≡◌, replicate}
use Rattle.send_variants.specs.Tables.{no_ends}
use Rattle.send_variants.proofs.table.empty_ends.Given as goal

abbrev pub invariant-loop : goal.invariant-loop
invariant-loop l = l.ends.items ≡ replicate l.counter no_ends
