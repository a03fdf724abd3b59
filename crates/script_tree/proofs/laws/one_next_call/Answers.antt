use Rattle.std.proofs.Common.{refl}
use Rattle.script_tree.specs.Pieces.{Going}
use Rattle.script_tree.specs.Values.{start}
use Rattle.script_tree.specs.Traces.{program}
use Rattle.script_tree.proofs.TraceLaws.{one_end, goes_on, front, some_end}
use Rattle.script_tree.proofs.laws.one_next_call.Goals as goal

pub returns-clause-one : goal.returns-clause-one
returns-clause-one c s t tr e f m k = one_end s m k

pub returns-clause-goes_on : goal.returns-clause-goes_on
returns-clause-goes_on c s t tr call a m = goes_on s call a m refl

pub returns-clause-front : goal.returns-clause-front
returns-clause-front c s t tr more call a e m = front s tr call a more m refl

pub returns-clause-begins : goal.returns-clause-begins
returns-clause-begins c s t = some_end s (program s t) (Going start) 0
