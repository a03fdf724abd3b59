use Rattle.log_read.proofs.OneLog.{one_log}
use Rattle.log_read.proofs.laws.one_log.Goals as goal

pub returns : goal.returns
returns c s l m h = one_log s h l m
