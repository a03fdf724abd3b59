use Rattle.std.specs.Prelude.{Some}
use Rattle.win_calls.specs.declared.compound.Next.TheVariants.{Done}
use Rattle.dialog_keys.specs.declared.stage.Stage.TheVariants.{Over}
use Rattle.dialog_keys.specs.Traces.{stating}
use Rattle.dialog_keys.proofs.TraceLaws.{carry, step_of, statement_ended, focus_on}
use Rattle.dialog_keys.proofs.steps.focuses.Goals as goal

pub returns-in-Done-clause-follows : goal.returns-in-Done-clause-follows
returns-in-Done-clause-follows c s n ps st l =
    carry s n (stating (Some c.args.window) ps st) (step_of Over (Done c.args.window c.in-Done.err)) c.over.result c.over.ensures (statement_ended s n (Some c.args.window) c.args.focus.stage c.args.next ps st c.in-Done.r c.in-Done.err c.in-Done.is l)

pub returns-in_default : goal.returns-in_default
returns-in_default c = record {
  follows = λ s n ps st l. focus_on s n c.args.window c.args.focus c.args.next ps st c.in_default.not-Done l;
  accepts = λ g h. c.requires g h;
}
