use Rattle.win_calls.specs.declared.stage.Around.TheVariants.{Nobody}
use Rattle.win_calls.specs.States.{is_ready, first_turn}
use Rattle.win_calls.proofs.state.CompoundState.of_begin.Goals as goal

pub returns-clause-stands : goal.returns-clause-stands
returns-clause-stands c v = is_ready (first_turn c.args.begin Nobody c.args.settling) v c.requires
