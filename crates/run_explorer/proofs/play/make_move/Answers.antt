use Rattle.user_pool.proofs.NeverFull.{has_room}
use Rattle.run_explorer.proofs.play.make_move.Goals as goal

pub move_clock-requires-clause-room : goal.move_clock-requires-clause-room
move_clock-requires-clause-room g c = has_room c.args.script.now (g.M.Machine.past c.args.machine.now) c.requires.few c.requires.small c.requires.run

pub move_thread-requires-clause-room : goal.move_thread-requires-clause-room
move_thread-requires-clause-room g c = has_room c.args.script.now (g.M.Machine.past c.args.machine.now) c.requires.few c.requires.small c.requires.run
