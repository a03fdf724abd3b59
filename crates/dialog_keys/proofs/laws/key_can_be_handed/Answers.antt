use Rattle.dialog_keys.proofs.PointLaws.{handed_at}
use Rattle.dialog_keys.proofs.laws.key_can_be_handed.Goals as goal

pub returns : goal.returns
returns c s n stage p g h a = handed_at s n (λ x ps st y i j. c.can_be_handed.ensures s n x ps st y i j) stage p g h a
