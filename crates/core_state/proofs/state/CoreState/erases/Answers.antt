use Rattle.std.proofs.Common.{reverse, ap, ◌∙◌}
use Rattle.std.specs.Prelude.{◌&&◌}
use Rattle.user_model.specs.Past.{Past}
use Rattle.user_model.specs.Windows.{is_live}
use Rattle.user_model.specs.Dirty.{must_erase}
use Rattle.dirty_windows.specs.LookUps.{erases_in}
use Rattle.screen_state.specs.Screens.{Kept}
use Rattle.core_state.specs.States.{Seen}
use Rattle.core_state.proofs.ScreenReads.{erases_found, none_told}
use Rattle.core_state.proofs.state.CoreState.erases.Goals as goal

pub returns-in-Some : goal.returns-in-Some
returns-in-Some c =
    let s = c.self.inside in
    let past : Past = reverse s.history.items in
    c.erases.ensures
    ∙ ap (λ (k : Kept). erases_in k.dirty c.in-Some.window.0) c.screen.ensures
    ∙ erases_found s.setup past s.tree s.display.screen c.args.w c.in-Some.window c.self.invariant.tree c.self.invariant.display.screen c.in-Some.ensures.window c.in-Some.ensures.same
    ∙ ap (λ (v : Seen). is_live v.past c.args.w && must_erase v.setup v.past c.args.w) c.self.view_is

pub returns-in-None : goal.returns-in-None
returns-in-None c =
    let s = c.self.inside in
    let past : Past = reverse s.history.items in
    none_told past s.tree c.args.w (must_erase s.setup past c.args.w) c.self.invariant.tree c.in-None.ensures.window
    ∙ ap (λ (v : Seen). is_live v.past c.args.w && must_erase v.setup v.past c.args.w) c.self.view_is
