use Rattle.script_tree.proofs.EndLaws.{whole_ends, cut_goes_on}
use Rattle.script_tree.proofs.laws.ends_once.Goals as goal

pub returns-clause-whole : goal.returns-clause-whole
returns-clause-whole c s t tr m = whole_ends s t tr m

pub returns-clause-cut : goal.returns-clause-cut
returns-clause-cut c s t tr call m = cut_goes_on s t tr call m
