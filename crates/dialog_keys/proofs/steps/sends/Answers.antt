use Rattle.std.specs.Prelude.{None}
use Rattle.win_calls.specs.declared.compound.Next.TheVariants.{Done}
use Rattle.dialog_keys.specs.declared.stage.Stage.TheVariants.{Over}
use Rattle.dialog_keys.specs.Traces.{stating}
use Rattle.dialog_keys.proofs.TraceLaws.{carry, step_of, statement_ended, send_on}
use Rattle.dialog_keys.proofs.steps.sends.Goals as goal

pub returns-in-Done-clause-follows : goal.returns-in-Done-clause-follows
returns-in-Done-clause-follows c s n ps st l =
    carry s n (stating None ps st) (step_of Over (Done c.in-Done.r c.in-Done.err)) c.over.result c.over.ensures (statement_ended s n None c.args.send.stage c.args.next ps st c.in-Done.r c.in-Done.err c.in-Done.is l)

pub returns-in_default : goal.returns-in_default
returns-in_default c = record {
  follows = λ s n ps st l. send_on s n c.args.send c.args.next ps st c.in_default.not-Done l;
  accepts = λ g h. c.requires g h;
}
