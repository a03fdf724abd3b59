use Rattle.std.proofs.Common.{◌≡◌, ℕ, List, length}
use Rattle.send_variants.specs.Tables.{Freed, seen}
use Rattle.send_variants.proofs.table.free_slots.Given as goal

abbrev pub invariant-loop-key : goal.invariant-loop-key
invariant-loop-key l = (length l.slots.items ≡ l.key) × ((ks : List ℕ) × Freed (seen l.slots.items 0) l.free ks × (length ks ≡ l.key))
