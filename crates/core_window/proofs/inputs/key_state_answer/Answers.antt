use Rattle.std.proofs.Common.{sym, ◌∙◌}
use Rattle.core_window.proofs.Injected.{key_small}
use Rattle.core_window.proofs.inputs.key_state_answer.Goals as goal

pub key_of-requires : goal.key_of-requires
key_of-requires c = key_small c.args.key (sym c.is_no_key.ensures ∙ c.if-is_no_key.false)
