use Rattle.std.proofs.Common.{◌≡◌, ◌<◌, ℕ, slice_index_or}
use Rattle.send_variants.specs.Lists.{count_in}
use Rattle.send_variants.specs.Tables.{listed, no_ends}
use Rattle.send_variants.proofs.table.holder.Given as goal

abbrev pub invariant-loop-i : goal.invariant-loop-i
invariant-loop-i l = (k : ℕ) → k < l.i → count_in l.send.0 (listed l.slots.items (slice_index_or l.ends.items k no_ends)) ≡ 0
