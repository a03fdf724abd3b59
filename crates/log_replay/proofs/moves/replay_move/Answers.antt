use Rattle.std.proofs.Common.{◌≡◌, ◌<◌, ◌≤◌, length, arith}
use Rattle.log_replay.proofs.Steps.{clock_done, thread_done}
use Rattle.log_replay.proofs.moves.replay_move.Goals as goal

pub returns-then-actor-eq0-clause-workers : goal.returns-then-actor-eq0-clause-workers
returns-then-actor-eq0-clause-workers g c =
    clock_done c.args.script.now c.args.program.now (g.M.Machine.past c.args.machine.now) (g.M.Machine.past c.clock_move.new.machine) c.args.entry c.args.workers.now.items c.clock_move.result (omega (arith, c.if-actor-eq0.true)) c.requires.workers c.clock_move.ensures.told

pub returns-clause-workers : goal.returns-clause-workers
returns-clause-workers g c =
    let some : 0 < c.args.entry.who.0 = omega (arith, c.if-actor-eq0.false) in
    let known : c.args.entry.who.0 ≤ length c.args.script.now.threads = omega (arith, c.if-actor-len.false, c.len.ensures, c.requires.workers.count) in
    thread_done c.args.script.now c.args.program.now (g.M.Machine.past c.args.machine.now) (g.M.Machine.past c.thread_move.new.machine) c.args.entry c.args.workers.now.items c.thread_move.new.worker c.thread_move.result some known c.requires.workers c.thread_move.ensures.told c.thread_move.ensures.worker
