use Rattle.std.proofs.Common.{reverse, ap, ◌∙◌}
use Rattle.std.specs.Prelude.{length, nat_le}
use Rattle.user_model.specs.Past.{Past}
use Rattle.user_model.specs.Timers.{timers_of}
use Rattle.core_state.specs.States.{Seen}
use Rattle.core_state.proofs.state.CoreState.timers_are_full.Goals as goal

pub returns : goal.returns
returns c =
    let s = c.self.inside in
    let past : Past = reverse s.history.items in
    c.timers_are_full.ensures past c.self.invariant.timers
    ∙ ap (λ (v : Seen). nat_le 256 (length (timers_of v.past c.args.thread))) c.self.view_is
