use Rattle.user_laws.proofs.Standing.{ready_exactly}
use Rattle.user_laws.proofs.ReadyOrder.{ready_rises}
use Rattle.user_laws.proofs.stands.ready_until_served.Goals as goal

pub returns-clause-values : goal.returns-clause-values
returns-clause-values c past t r = ready_exactly past t r

pub returns-clause-rising : goal.returns-clause-rising
returns-clause-rising c setup past t lawful = ready_rises setup past t lawful
