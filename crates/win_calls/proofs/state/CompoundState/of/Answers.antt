use Rattle.win_calls.specs.States.{is_fresh}
use Rattle.win_calls.proofs.state.CompoundState.of.Goals as goal

pub returns-clause-stands : goal.returns-clause-stands
returns-clause-stands c v = is_fresh c.args.compound v
