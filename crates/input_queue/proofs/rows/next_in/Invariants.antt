use Rattle.std.proofs.Common.{◌≡◌, ◌<◌, IfSome, List, length, get_or}
use Rattle.std.specs.Prelude.{option_map, slice_get}
use Rattle.input_queue.specs.declared.element.Element.{Element}
use Rattle.input_queue.specs.Rows.{IsLeft, has_home, row, spot_of}
use Rattle.input_queue.proofs.Reading.{lower}
use Rattle.input_queue.proofs.rows.next_in.Given as goal

abbrev pub invariant-loop-home : goal.invariant-loop-home
invariant-loop-home l = record {
  within : IfSome l.next (λ s. (s.home < 16) × (get_or l.seen s.home 0 < length (row l.rows s.home)));
  next : (left : List Element) → IsLeft l.group l.rows l.seen left → l.next ≡ option_map spot_of (slice_get (lower (has_home l.group) l.home left) 0);
}
