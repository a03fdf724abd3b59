use Rattle.std.proofs.Common.{reverse, ap, ◌∙◌}
use Rattle.user_model.specs.Past.{Past}
use Rattle.user_model.specs.ZOrder.{titled}
use Rattle.core_state.specs.States.{Seen}
use Rattle.window_state.proofs.TitleLaws.{titled_at}
use Rattle.core_state.proofs.state.CoreState.titled.Goals as goal

pub returns : goal.returns
returns c =
    let s = c.self.inside in
    let past : Past = reverse s.history.items in
    c.titled.ensures
    ∙ titled_at past s.tree s.order c.self.invariant.tree c.self.invariant.order c.args.title
    ∙ ap (λ (v : Seen). titled v.past c.args.title) c.self.view_is
