use Rattle.std.proofs.Common.{ap, ◌∙◌, reverse}
use Rattle.user_model.specs.Past.{Past}
use Rattle.user_model.specs.Filters.{passes_window}
use Rattle.core_state.specs.States.{Seen}
use Rattle.core_state.proofs.Deliveries.{passes_window_in-is}
use Rattle.core_state.proofs.state.CoreState.passes_window.Goals as goal

pub returns : goal.returns
returns c =
    let s = c.self.inside in
    let past : Past = reverse s.history.items in
    c.passes_window.ensures
    ∙ passes_window_in-is past s.tree.live c.args.wanted c.args.w.0 c.self.invariant.tree.windows
    ∙ ap (λ (v : Seen). passes_window v.past c.args.wanted c.args.w.0) c.self.view_is
