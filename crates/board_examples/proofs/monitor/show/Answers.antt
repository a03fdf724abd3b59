use Rattle.board_examples.proofs.Owning.{first_owner}
use Rattle.board_examples.proofs.monitor.show.Goals as goal

pub publish-requires : goal.publish-requires
publish-requires g c = first_owner c.args.desk.now c.args.seat c.in_ok-writer.writer c.requires.worker c.in_ok-writer.ensures.writer.0 c.in_ok-writer.ensures.writer.1
