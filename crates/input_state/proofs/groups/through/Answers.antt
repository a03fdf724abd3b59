use Rattle.input_state.proofs.GroupLemmas.{has_true, union_bit}
use Rattle.input_state.proofs.groups.through.Goals as goal

pub returns-then-has : goal.returns-then-has
returns-then-has c = union_bit c.args.group c.args.onward c.args.from (has_true _ _ _ c.has.ensures c.if-has.true)
