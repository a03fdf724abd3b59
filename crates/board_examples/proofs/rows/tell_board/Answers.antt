use Rattle.board_examples.proofs.Owning.{first_owner}
use Rattle.board_examples.proofs.rows.tell_board.Goals as goal

pub tell_all-requires-clause-owner : goal.tell_all-requires-clause-owner
tell_all-requires-clause-owner g c = first_owner c.args.desk.now c.args.seat c.in_ok-writer.writer c.requires c.in_ok-writer.ensures.writer.0 c.in_ok-writer.ensures.writer.1
