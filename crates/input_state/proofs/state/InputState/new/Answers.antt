use Rattle.std.proofs.Common.{replicate, arith}
use Rattle.std.proofs.lemmas.List.{get_or-replicate}
use Rattle.input_state.proofs.GroupLemmas.{mutual_none}
use Rattle.input_state.proofs.state.InputState.new.Goals as goal

pub invariant_of-result : goal.invariant_of-result
invariant_of-result c = (omega arith, c.groups_of-groups.ensures, mutual_none (replicate 16 0) (λ t l. get_or-replicate 16 t 0 0 l))
