use Rattle.std.specs.Prelude.{◌≡◌, ◌≤◌, length, reverse}
use Rattle.clip_board.specs.Laws.{last_set}
use Rattle.clip_board.proofs.law.last_set.Given as goal

abbrev pub invariant-loop-last : goal.invariant-loop-last
invariant-loop-last l = (last_set l.format (reverse l.history) ≡ last_set l.format (reverse l.rest)) × (length l.rest ≤ 2097152)

abbrev pub decreases-loop-last : goal.decreases-loop-last
decreases-loop-last l = length l.rest
