use Rattle.std.proofs.Common.{length, ◌+◌, ◌*◌}
use Rattle.machine_examples.proofs.desk.crowd.+all_yield+fn-all_yield-join+arg3.Given as goal

abbrev pub decreases-all_yield : goal.decreases-all_yield
decreases-all_yield g l = 2 * length l.seats.items

abbrev pub decreases-join+arg3 : goal.decreases-join+arg3
decreases-join+arg3 g l = 2 * length l.seats.items + 1
