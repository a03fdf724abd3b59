use Rattle.std.proofs.Common.{◌≡◌, ◌++◌, map, reverse}
use Rattle.std.specs.List.{flat_map}
use Rattle.win_rows.specs.Destruction.{answer_of, destruction_of}
use Rattle.win_rows.specs.Parts.{part_steps}
use Rattle.win_rows.proofs.order.steps_of.Given as goal

abbrev pub invariant-lists : goal.invariant-lists
invariant-lists l = flat_map (part_steps l.rows) l.parts.items ++ reverse l.steps.items ≡ map answer_of (destruction_of l.rows l.x)
