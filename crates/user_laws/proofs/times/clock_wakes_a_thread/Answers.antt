use Rattle.user_model.proofs.WakeLaws.{advance_wakes}
use Rattle.user_laws.proofs.times.clock_wakes_a_thread.Goals as goal

pub returns : goal.returns
returns c = advance_wakes
