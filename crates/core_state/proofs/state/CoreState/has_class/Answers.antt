use Rattle.std.proofs.Common.{reverse, ap, ◌∙◌}
use Rattle.user_model.specs.Past.{Past}
use Rattle.std.specs.Prelude.{is_some}
use Rattle.win_class.specs.ClassTable.{ClassTable, class_in}
use Rattle.user_model.specs.Classes.{class}
use Rattle.core_state.specs.States.{Seen}
use Rattle.window_state.proofs.ClassLaws.{has_class_at}
use Rattle.core_state.proofs.state.CoreState.has_class.Goals as goal

pub returns : goal.returns
returns c =
    let s = c.self.inside in
    let past : Past = reverse s.history.items in
    c.is_some.ensures
    ∙ ap is_some c.class.ensures
    ∙ ap (λ (t : ClassTable). is_some (class_in t c.args.name)) c.self.invariant.classes
    ∙ has_class_at past c.args.name
    ∙ ap (λ (v : Seen). is_some (class v.past c.args.name)) c.self.view_is
