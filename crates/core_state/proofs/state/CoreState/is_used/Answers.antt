use Rattle.std.proofs.Common.{reverse, ap, sym, ◌∙◌}
use Rattle.user_model.specs.Past.{Past}
use Rattle.user_model.specs.Classes.{is_used}
use Rattle.core_state.specs.States.{Seen}
use Rattle.window_state.proofs.TreeFacts.{is_used_at}
use Rattle.core_state.proofs.state.CoreState.is_used.Goals as goal

pub returns : goal.returns
returns c =
    let s = c.self.inside in
    let past : Past = reverse s.history.items in
    c.has_class.ensures
    ∙ sym (is_used_at past s.tree c.self.invariant.tree c.args.name)
    ∙ ap (λ (v : Seen). is_used v.past c.args.name) c.self.view_is
