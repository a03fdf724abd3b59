use Rattle.dialog_keys.proofs.PointLaws.{one_comes}
use Rattle.dialog_keys.proofs.laws.one_key_next.Goals as goal

pub returns : goal.returns
returns c s n p q r x y m k = one_comes s n (λ ps qs rs st sq sr a b i j. c.one_next.ensures.next s n ps qs rs st sq sr a b i j) m k
