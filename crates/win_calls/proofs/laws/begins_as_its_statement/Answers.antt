use Rattle.win_calls.proofs.TableLaws.{begins_so}
use Rattle.win_calls.proofs.laws.begins_as_its_statement.Goals as goal

pub returns-clause-compound : goal.returns-clause-compound
returns-clause-compound c compound v n = begins_so compound v n
