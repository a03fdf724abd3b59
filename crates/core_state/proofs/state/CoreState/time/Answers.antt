use Rattle.win_num.specs.Clocks.{clock_limit}
use Rattle.std.proofs.Common.{◌<◌, ℕ, reverse, subst, sym}
use Rattle.user_model.specs.Past.{Past}
use Rattle.user_model.proofs.TimeBounds.{clock_small}
use Rattle.core_state.proofs.state.CoreState.time.Goals as goal

pub returns-clause-early : goal.returns-clause-early
returns-clause-early c =
    let s = c.self.inside in
    let past : Past = reverse s.history.items in
    let early = clock_small s.setup past c.self.invariant.lawful c.self.invariant.short in
    subst (λ (t : ℕ). t < clock_limit) (sym c.self.invariant.clock) early
