use Rattle.std.proofs.Common.{reverse, ap, sym, ◌∙◌}
use Rattle.user_model.specs.Past.{Past}
use Rattle.std.specs.Prelude.{is_some}
use Rattle.win_rows.specs.Windows.{window_of}
use Rattle.user_model.specs.Windows.{is_live}
use Rattle.core_state.specs.States.{Seen}
use Rattle.window_state.proofs.Lookups.{number_found}
use Rattle.window_state.proofs.TreeFacts.{is_live_at}
use Rattle.core_state.proofs.state.CoreState.is_live.Goals as goal

pub returns : goal.returns
returns c =
    let s = c.self.inside in
    let past : Past = reverse s.history.items in
    c.is_some.ensures
    ∙ ap is_some c.find.ensures.window
    ∙ number_found (window_of s.tree.live c.args.w)
    ∙ sym (is_live_at past s.tree c.self.invariant.tree c.args.w)
    ∙ ap (λ (v : Seen). is_live v.past c.args.w) c.self.view_is
