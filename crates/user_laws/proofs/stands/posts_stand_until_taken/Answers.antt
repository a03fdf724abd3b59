use Rattle.user_laws.proofs.Standing.{posts_exactly, posts_held, posts_rise}
use Rattle.user_laws.proofs.stands.posts_stand_until_taken.Goals as goal

pub returns-clause-values : goal.returns-clause-values
returns-clause-values c = posts_exactly

pub returns-clause-windows : goal.returns-clause-windows
returns-clause-windows c = posts_held

pub returns-clause-rising : goal.returns-clause-rising
returns-clause-rising c = posts_rise
