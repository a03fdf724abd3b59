use Rattle.script_tree.proofs.ListedAnswers.{past_listed, next_by_row}
use Rattle.script_tree.proofs.laws.calls_come_in_turn.Goals as goal

pub returns-clause-listed : goal.returns-clause-listed
returns-clause-listed c s setup past t e thread lawful short m = past_listed s setup t past e thread lawful short m

pub returns-clause-row : goal.returns-clause-row
returns-clause-row c s setup past t call thread lawful short m = next_by_row s setup t past call thread lawful short m
