use Rattle.std.proofs.Common.{refl}
use Rattle.user_model.specs.declared.call.Call.TheVariants.{Advance}
use Rattle.user_pool.proofs.Seating.{has_gone_on}
use Rattle.user_pool.proofs.run.move_clock.Goals as goal

pub returns-clause-moved : goal.returns-clause-moved
returns-clause-moved g c = has_gone_on c.args.script.now (g.M.Machine.past c.args.machine.now) (g.M.Machine.past c.step.new.self) 0 Advance (g.M.Machine.setup c.args.machine.now) c.requires.setup c.requires.free tt refl c.requires.room c.in_ok-_answer.ensures.entry
