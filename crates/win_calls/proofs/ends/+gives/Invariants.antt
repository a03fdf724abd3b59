use Rattle.win_calls.specs.States.{count}
use Rattle.win_calls.proofs.ends.+gives.Given as goal

abbrev pub decreases-gives : goal.decreases-gives
decreases-gives l = count l.turn.around
