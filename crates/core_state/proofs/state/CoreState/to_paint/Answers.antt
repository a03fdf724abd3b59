use Rattle.std.proofs.Common.{reverse, ap, ◌∙◌}
use Rattle.user_model.specs.Past.{Past}
use Rattle.user_model.specs.Painting.{to_paint}
use Rattle.core_state.specs.States.{Seen}
use Rattle.core_state.proofs.ScreenReads.{screen_told}
use Rattle.core_state.proofs.state.CoreState.to_paint.Goals as goal

pub returns : goal.returns
returns c =
    let s = c.self.inside in
    let past : Past = reverse s.history.items in
    c.to_paint.ensures s.setup past c.self.invariant.lawful c.self.invariant.tree c.self.invariant.order (screen_told s.setup past s.display c.screen.result.now c.screen.ensures c.self.invariant.display)
    ∙ ap (λ (v : Seen). to_paint v.setup v.past c.args.thread c.args.filter) c.self.view_is
