use Rattle.win_calls.proofs.TurnLaws.{begins_leads}
use Rattle.win_calls.proofs.ends.begins.Goals as goal

pub returns-in_default-clause-follows : goal.returns-in_default-clause-follows
returns-in_default-clause-follows c s n v =
    begins_leads s n c.args.compound c.beginning-begin.result c.starts.result v c.in_default.not-Default c.beginning-begin.ensures c.starts.ensures.step
