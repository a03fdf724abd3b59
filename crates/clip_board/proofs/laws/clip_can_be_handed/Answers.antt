use Rattle.clip_board.proofs.PointLaws.{handed_at}
use Rattle.clip_board.proofs.laws.clip_can_be_handed.Goals as goal

pub returns : goal.returns
returns c s n stage p g h a = handed_at s n (λ x ps st y i j. c.can_be_handed.ensures s n x ps st y i j) stage p g h a
