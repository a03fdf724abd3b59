use Rattle.std.proofs.Common.{ap}
use Rattle.dialog_keys.specs.Controls.{next_control}
use Rattle.dialog_keys.proofs.WalkLaws.{saw_all}
use Rattle.dialog_keys.proofs.laws.walk_sees_the_controls.Goals as goal

pub returns : goal.returns
returns c = record {
  controls = λ setup who k forwards past ws l w. saw_all setup who k forwards past ws l w;
  next = λ setup who k forwards past ws l w. ap (next_control forwards k.focus.0) (saw_all setup who k forwards past ws l w);
}
