use Rattle.std.proofs.Common.{refl}
use Rattle.name_table.specs.Messages.{message_rows}
use Rattle.script_lines.proofs.NamedRows.{has_one}
use Rattle.script_lines.proofs.operands.named_at.Goals as goal

pub returns-in-Some-clause-fits : goal.returns-in-Some-clause-fits
returns-in-Some-clause-fits c =
    has_one c.args.tables.now.messages message_rows c.in-Some.number c.args.word.now c.args.tables.now.all_messages ((c.in-Some.ensures.back c.in-Some.number).0 refl)
