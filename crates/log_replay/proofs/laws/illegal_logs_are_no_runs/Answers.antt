use Rattle.log_replay.proofs.NoRuns.{no_run, lawful}
use Rattle.log_replay.proofs.laws.illegal_logs_are_no_runs.Goals as goal

pub returns : goal.returns
returns c = record { no_run = no_run; lawful = lawful }
