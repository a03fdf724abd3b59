use Rattle.std.proofs.Common.{◌≡◌, ◌+◌, ℕ, slice_get}
use Rattle.send_variants.specs.Lists.{count_in}
use Rattle.send_variants.specs.Tables.{jump, walk}
use Rattle.send_variants.proofs.table.find.Given as goal

abbrev pub invariant-loop : goal.invariant-loop
invariant-loop l =
    (left : ℕ) × (left + l.counter ≡ 1024)
    × (jump (slice_get l.slots.items) l.counter l.fn.first ≡ l.at)
    × (count_in l.send.0 (walk (slice_get l.slots.items) left l.at) ≡ 0 → count_in l.send.0 (walk (slice_get l.slots.items) 1024 l.fn.first) ≡ 0)
