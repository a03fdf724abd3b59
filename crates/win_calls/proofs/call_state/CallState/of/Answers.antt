use Rattle.win_calls.specs.declared.stage.Around.TheVariants.{Nobody}
use Rattle.win_calls.specs.States.{is_ready}
use Rattle.win_calls.proofs.call_state.CallState.of.Goals as goal

pub returns-clause-stands : goal.returns-clause-stands
returns-clause-stands c v = is_ready _ v (record { stays = c.requires.stays; goes_on = c.requires.goes_on; inside = tt })
