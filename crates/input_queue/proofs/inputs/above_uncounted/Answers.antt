use Rattle.std.proofs.Common.{ap, ◌∙◌}
use Rattle.std.specs.Prelude.{nat_lt, ◌&&◌}
use Rattle.std.specs.List.{list_any}
use Rattle.input_queue.proofs.inputs.above_uncounted.Goals as goal

pub returns : goal.returns
returns g c = λ test tests. c.has_above.ensures test tests ∙ ap (list_any (λ x. nat_lt c.args.number x.number && test x)) c.inputs.view_is
