use Rattle.std.proofs.Common.{◌≡◌}
use Rattle.std.specs.Prelude.{option_map}
use Rattle.input_queue.specs.Elements.{last_of}
use Rattle.input_queue.specs.Rows.{glance_of, has_home, merged}
use Rattle.input_queue.proofs.Reading.{lower}
use Rattle.input_queue.proofs.rows.last_in.Given as goal

abbrev pub invariant-loop-home : goal.invariant-loop-home
invariant-loop-home l = l.last ≡ option_map glance_of (last_of (lower (has_home l.group) l.home (merged l.rows)))
