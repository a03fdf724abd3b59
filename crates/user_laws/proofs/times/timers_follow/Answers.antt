use Rattle.user_model.proofs.TimerLaws.{base-next, timers-next}
use Rattle.user_model.proofs.TimerWindows.{timers_live}
use Rattle.user_laws.proofs.times.timers_follow.Goals as goal

pub returns-clause-live : goal.returns-clause-live
returns-clause-live c = timers_live

pub returns-clause-next : goal.returns-clause-next
returns-clause-next c = λ past e. timers-next e past

pub returns-clause-begun : goal.returns-clause-begun
returns-clause-begun c = λ past e. base-next e past
