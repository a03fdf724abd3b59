use Rattle.status_board.proofs.Keeping.{starts}
use Rattle.status_board.proofs.writer.BoardWriter.open.Goals as goal

pub of_words-requires : goal.of_words-requires
of_words-requires g c = starts
