use Rattle.script_tree.proofs.RowsComplete.{to_rows}
use Rattle.script_tree.proofs.RowsSound.{of_rows}
use Rattle.script_tree.proofs.laws.rows_are_the_table.Goals as goal

pub returns-clause-rows : goal.returns-clause-rows
returns-clause-rows c s t tr e d = of_rows s t tr e d

pub returns-clause-table : goal.returns-clause-table
returns-clause-table c s t tr e m = to_rows s t tr e m
