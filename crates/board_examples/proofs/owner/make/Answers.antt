use Rattle.std.proofs.Common.{length, refl}
use Rattle.board_examples.proofs.Owning.{still_owner, call_counts}
use Rattle.board_examples.proofs.owner.make.Goals as goal

pub returns : goal.returns
returns g c =
    let setup = g.M.Machine.setup c.args.desk.now.opening.machine in let past = g.M.Machine.past c.args.desk.now.opening.machine in
    let counted = c.requires.owner.2 in
    still_owner c.args.desk.now c.args.seat.now c.call.new.seat c.args.writer.now c.args.writer.now c.call.ensures.same refl c.requires.owner
    (counted.0, call_counts setup past c.args.seat.now c.call.new.seat c.args.call c.call.result (length c.args.writer.now.list) counted.0 c.requires.other c.call.ensures.came_to c.call.ensures.no_memory counted.1)
