use Rattle.clip_board.specs.declared.errand.Errand.TheVariants.{Emptying}
use Rattle.clip_board.specs.Traces.{is_fresh}
use Rattle.clip_board.proofs.empty_state.EmptyState.of.Goals as goal

pub returns-clause-stands : goal.returns-clause-stands
returns-clause-stands c = is_fresh Emptying
