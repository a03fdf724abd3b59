use Rattle.user_app.proofs.SameRuns.{same_run}
use Rattle.user_app.proofs.SameLogs.{same_end}
use Rattle.user_app.proofs.SameOutputs.{one_text, same_text}
use Rattle.user_app.proofs.laws.one_log.Goals as goal

pub returns : goal.returns
returns c = record {
  run = λ s t h k e. same_run s t (one_text s t h k e);
  text = λ form s t h k e. same_text form s t (one_text s t h k e).moves;
  end = λ s t h k e. same_end s t (one_text s t h k e).moves;
}
