use Rattle.dialog_keys.specs.States.{is_fresh}
use Rattle.dialog_keys.proofs.key_state.KeyState.of.Goals as goal

pub returns-clause-stands : goal.returns-clause-stands
returns-clause-stands c = is_fresh c.args.key
