use Rattle.run_explorer.proofs.Parts.{some_part, one_part, whole_part}
use Rattle.run_explorer.proofs.laws.each_run_is_of_one_part.Goals as goal

pub returns-clause-some : goal.returns-clause-some
returns-clause-some c = some_part

pub returns-clause-one : goal.returns-clause-one
returns-clause-one c = one_part

pub returns-clause-whole : goal.returns-clause-whole
returns-clause-whole c = whole_part
