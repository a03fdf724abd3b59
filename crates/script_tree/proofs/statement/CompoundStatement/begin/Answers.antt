use Rattle.std.proofs.Common.{sym, ap, ◌∙◌}
use Rattle.script_tree.specs.Compounds.{notifying}
use Rattle.script_tree.proofs.RowSteps.{begins_otherwise}
use Rattle.script_tree.proofs.statement.CompoundStatement.begin.Goals as goal

pub returns-in_default : goal.returns-in_default
returns-in_default c =
    c.notifying.ensures ∙ ap notifying c.first_call.ensures ∙ sym (begins_otherwise c.args.self.now c.args.variables.now c.in_default.not-PostAll c.in_default.not-NotifyAll c.in_default.not-Pump c.in_default.not-Dialog)
