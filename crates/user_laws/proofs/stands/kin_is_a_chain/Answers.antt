use Rattle.user_laws.proofs.Standing.{kin_exactly, walk_enough}
use Rattle.user_laws.proofs.stands.kin_is_a_chain.Goals as goal

pub returns-clause-chain : goal.returns-clause-chain
returns-clause-chain c = kin_exactly

pub returns-clause-enough : goal.returns-clause-enough
returns-clause-enough c = walk_enough
