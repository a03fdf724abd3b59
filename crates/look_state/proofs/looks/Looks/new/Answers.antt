use Rattle.look_state.proofs.LookSteps.{no_looks}
use Rattle.look_state.proofs.looks.Looks.new.Goals as goal

pub returns : goal.returns
returns c = λ setup threads. no_looks setup c.args.threads c.in_ok-looks.looks.items threads c.in_ok-looks.ensures.length c.in_ok-looks.ensures.fresh
