use Rattle.std.proofs.Common.{refl}
use Rattle.name_table.specs.Constants.{constant_rows}
use Rattle.script_lines.proofs.NamedRows.{has_one}
use Rattle.script_lines.proofs.operands.constant_operand.Goals as goal

pub returns-in-Some-clause-fits : goal.returns-in-Some-clause-fits
returns-in-Some-clause-fits c =
    has_one c.args.tables.now.constants constant_rows c.in-Some.ordinal c.args.word.now c.args.tables.now.all_constants ((c.in-Some.ensures.back c.in-Some.ordinal).0 refl)
