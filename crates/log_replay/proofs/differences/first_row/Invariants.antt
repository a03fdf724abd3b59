use Rattle.log_replay.proofs.Differing.{Alike}
use Rattle.log_replay.proofs.differences.first_row.Given as goal

abbrev pub invariant-loop-row : goal.invariant-loop-row
invariant-loop-row l = Alike l.width l.height l.row l.found l.right l.found_rest l.right_rest
