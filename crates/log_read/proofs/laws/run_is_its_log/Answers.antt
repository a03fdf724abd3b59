use Rattle.log_read.proofs.RunColours.{run_colours}
use Rattle.log_read.proofs.RunLogs.{run_text, run_history, run_fits, run_read}
use Rattle.log_read.proofs.laws.run_is_its_log.Goals as goal

pub returns : goal.returns
returns c = record {
  text = run_text;
  history = run_history;
  colours = run_colours;
  fits = run_fits;
  read = run_read;
}
