use Rattle.input_state.specs.Groups.{IsClosure}
use Rattle.input_state.proofs.GroupLemmas.{JoinsBefore}
use Rattle.input_state.proofs.groups.groups_of.Given as goal

abbrev pub invariant-loop-k : goal.invariant-loop-k
invariant-loop-k l = IsClosure (JoinsBefore l.links l.k) l.groups
