use Rattle.board_examples.proofs.Owning.{still_owner}
use Rattle.board_examples.proofs.owner.publish.Goals as goal

pub returns-clause-owner : goal.returns-clause-owner
returns-clause-owner g c =
    let same = c.publish.ensures.same in
    still_owner c.args.desk.now c.args.seat.now c.publish.new.seat c.args.writer.now c.publish.new.self same.0 same.2 c.requires (c.requires.2.0, c.publish.ensures.counted c.requires.2.0 c.requires.2.1)
