use Rattle.win_calls.proofs.TableLaws.{one_place}
use Rattle.win_calls.proofs.laws.one_next.Goals as goal

pub returns-clause-next : goal.returns-clause-next
returns-clause-next c s n ps qs rs st sq sr x y m k = (one_place s n m k).0

pub returns-clause-place : goal.returns-clause-place
returns-clause-place c s n ps qs rs st sq sr x y m k = let r = one_place s n m k in (r.1, r.2)
