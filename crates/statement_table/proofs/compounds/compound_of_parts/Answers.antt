use Rattle.std.proofs.Common.{◌∙◌}
use Rattle.statement_table.proofs.CompoundLaws.{compound_of}
use Rattle.statement_table.proofs.compounds.compound_of_parts.Goals as goal

pub returns-clause-back : goal.returns-clause-back
returns-clause-back c x named same = c.made_compound.ensures ∙ compound_of c.args.name c.args.parts.now x named same
