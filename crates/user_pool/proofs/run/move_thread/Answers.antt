use Rattle.user_pool.proofs.Turns.{thread_within}
use Rattle.user_pool.proofs.Seating.{seats_thread}
use Rattle.user_pool.proofs.run.move_thread.Goals as goal

pub returns-clause-seats : goal.returns-clause-seats
returns-clause-seats g c = seats_thread c.args.script.now c.args.program.now (g.M.Machine.past c.args.machine.now) (g.M.Machine.past c.turn.new.machine) c.args.seats.now.items c.args.thread c.turn.new.self c.in_ok-turn.ensures.moved c.requires.thread (thread_within c.args.script.now c.args.thread c.requires.can.known) c.requires.seats c.in_ok-turn.ensures.seat
