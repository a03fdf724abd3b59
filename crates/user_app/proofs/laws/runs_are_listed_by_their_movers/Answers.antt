use Rattle.std.proofs.Common.{sym}
use Rattle.user_app.proofs.Replays.{done_is_listed, movers_are_chosen, other_order, over_is_listed, spent_is_listed}
use Rattle.user_app.proofs.SameLogs.{same_end}
use Rattle.user_app.proofs.SameOutputs.{same_text}
use Rattle.user_app.specs.Replays.{ordered}
use Rattle.user_app.proofs.laws.runs_are_listed_by_their_movers.Goals as goal

pub returns : goal.returns
returns c = record {
  chosen = movers_are_chosen;
  listed = over_is_listed;
  done = done_is_listed;
  spent = spent_is_listed;
  text = λ form s numbers past. sym (same_text form s (ordered s numbers) (other_order s numbers) past);
  end = λ s numbers past. sym (same_end s (ordered s numbers) (other_order s numbers) past);
}
