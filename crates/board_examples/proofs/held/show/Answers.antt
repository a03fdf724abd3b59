use Rattle.board_examples.proofs.Owning.{first_owner}
use Rattle.board_examples.proofs.held.show.Goals as goal

pub make-requires-clause-owner : goal.make-requires-clause-owner
make-requires-clause-owner g c = first_owner c.args.desk.now c.args.seat c.in_ok-writer.writer c.requires c.in_ok-writer.ensures.writer.0 c.in_ok-writer.ensures.writer.1
