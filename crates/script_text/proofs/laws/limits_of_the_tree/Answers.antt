use Rattle.script_text.proofs.TreeNesting.{tree_nests}
use Rattle.script_text.proofs.NestedTrees.{nested_tree}
use Rattle.script_text.proofs.TreeNames.{tree_named}
use Rattle.script_text.proofs.laws.limits_of_the_tree.Goals as goal

pub returns-clause-nested : goal.returns-clause-nested
returns-clause-nested c s script = tree_nests s script.nested

pub returns-clause-exactly : goal.returns-clause-exactly
returns-clause-exactly c s = (tree_nests s, nested_tree s)

pub returns-clause-named : goal.returns-clause-named
returns-clause-named c s script = tree_named s script.in_order script.procedures_in_order
