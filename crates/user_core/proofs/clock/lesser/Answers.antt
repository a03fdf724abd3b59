use Rattle.std.proofs.Common.{◌≡◌, Some, None, ap, ◌∙◌, arith}
use Rattle.std.specs.Prelude.{min}
use Rattle.user_core.proofs.Leasts.{least_none, least_some}
use Rattle.user_core.proofs.clock.lesser.Goals as goal

pub returns-in-Some-Some : goal.returns-in-Some-Some
returns-in-Some-Some c = λ times others e f.
    let two = c.in-Some-Some in
    let lesser : min two.a two.b ≡ c.min.result = omega (arith, c.min.ensures) in
    least_some times others two.a (Some two.b) (e ∙ two.is-0) (f ∙ two.is-1) ∙ ap (λ n. Some n) lesser

pub returns-in-Some-None : goal.returns-in-Some-None
returns-in-Some-None c = λ times others e f. least_some times others c.in-Some-None.a None (e ∙ c.in-Some-None.is-0) (f ∙ c.in-Some-None.is-1)

pub returns-in-None-default : goal.returns-in-None-default
returns-in-None-default c = λ times others e f. least_none times others c.args.second (e ∙ c.in-None-default.is-0) f
