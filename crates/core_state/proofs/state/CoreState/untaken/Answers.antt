use Rattle.std.proofs.Common.{reverse, subst}
use Rattle.std.specs.List.{AllByRecursion}
use Rattle.user_model.specs.Past.{Past}
use Rattle.user_model.specs.Inputs.{untaken}
use Rattle.core_state.specs.Inputs.{IsAtHome}
use Rattle.core_state.specs.States.{Seen}
use Rattle.core_state.proofs.Homes.{at_home}
use Rattle.core_state.proofs.state.CoreState.untaken.Goals as goal

pub returns-clause-homes : goal.returns-clause-homes
returns-clause-homes c =
    let s = c.self.inside in
    let past : Past = reverse s.history.items in
    subst (λ (v : Seen). AllByRecursion (IsAtHome v.setup) (untaken v.setup v.past)) c.self.view_is (at_home s.setup past c.self.invariant.lawful c.self.invariant.ready)
