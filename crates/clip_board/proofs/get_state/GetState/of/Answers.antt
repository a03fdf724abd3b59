use Rattle.clip_board.specs.declared.errand.Errand.TheVariants.{Getting}
use Rattle.clip_board.specs.Traces.{is_fresh}
use Rattle.clip_board.proofs.get_state.GetState.of.Goals as goal

pub returns-clause-stands : goal.returns-clause-stands
returns-clause-stands c = is_fresh (Getting c.args.format)
