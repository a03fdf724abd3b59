use Rattle.std.proofs.Common.{sym, ◌∙◌}
use Rattle.script_tree.proofs.RowSteps.{getting_otherwise}
use Rattle.script_tree.proofs.modal.after_getting.Goals as goal

pub returns-in_default : goal.returns-in_default
returns-in_default c = c.loop_ends-in_default.ensures ∙ sym (getting_otherwise c.args.modal c.args.answer.now c.in_default.not-Got c.in_default.not-Refused)
