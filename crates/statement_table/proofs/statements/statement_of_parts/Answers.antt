use Rattle.std.proofs.Common.{◌∙◌}
use Rattle.statement_table.proofs.StatementLaws.{statement_of}
use Rattle.statement_table.proofs.statements.statement_of_parts.Goals as goal

pub returns-clause-back : goal.returns-clause-back
returns-clause-back c x named same = c.made_statement.ensures ∙ statement_of c.args.name c.args.parts.now x named same
