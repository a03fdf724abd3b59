use Rattle.std.proofs.Common.{reverse, ap, ◌∙◌}
use Rattle.user_model.specs.Past.{Past}
use Rattle.std.specs.Prelude.{◌&&◌}
use Rattle.user_model.specs.Windows.{is_live}
use Rattle.user_model.specs.Looks.{is_disabled}
use Rattle.core_state.specs.States.{Seen}
use Rattle.window_state.specs.Placings.{disabled_in}
use Rattle.window_state.proofs.Lookups.{none_disabled}
use Rattle.window_state.proofs.LookSteps.{disabled_at}
use Rattle.core_state.proofs.state.CoreState.is_disabled.Goals as goal

pub returns-in-Some : goal.returns-in-Some
returns-in-Some c =
    let s = c.self.inside in
    let past : Past = reverse s.history.items in
    c.is_disabled.ensures
    ∙ ap (disabled_in s.tree.live) c.in-Some.ensures.same
    ∙ disabled_at past s.tree c.args.w c.self.invariant.tree
    ∙ ap (λ (v : Seen). is_live v.past c.args.w && is_disabled v.past c.args.w) c.self.view_is

pub returns-in-None : goal.returns-in-None
returns-in-None c =
    let s = c.self.inside in
    let past : Past = reverse s.history.items in
    none_disabled s.tree.live c.args.w c.in-None.ensures.window
    ∙ disabled_at past s.tree c.args.w c.self.invariant.tree
    ∙ ap (λ (v : Seen). is_live v.past c.args.w && is_disabled v.past c.args.w) c.self.view_is
