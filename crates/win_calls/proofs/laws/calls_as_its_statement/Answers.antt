use Rattle.win_calls.proofs.TableLaws.{stands_alone}
use Rattle.win_calls.proofs.laws.calls_as_its_statement.Goals as goal

pub returns-clause-alone : goal.returns-clause-alone
returns-clause-alone c ask v = stands_alone ask v
