use Rattle.board_examples.specs.Owners.{IsOwner}
use Rattle.board_examples.proofs.monitor.work.Given as goal

abbrev pub invariant-loop : goal.invariant-loop
invariant-loop g l = IsOwner l.desk l.seat l.writer
