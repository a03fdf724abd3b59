use Rattle.std.proofs.Common.{reverse, ap, ◌∙◌}
use Rattle.std.specs.Prelude.{◌&&◌}
use Rattle.user_model.specs.Past.{Past}
use Rattle.user_model.specs.Windows.{is_live}
use Rattle.user_model.specs.Painting.{is_painting}
use Rattle.paint_sessions.specs.LookUps.{is_begun}
use Rattle.screen_state.specs.Screens.{Kept}
use Rattle.core_state.specs.States.{Seen}
use Rattle.core_state.proofs.ScreenReads.{painting_found, none_told}
use Rattle.core_state.proofs.state.CoreState.is_painting.Goals as goal

pub returns-in-Some : goal.returns-in-Some
returns-in-Some c =
    let s = c.self.inside in
    let past : Past = reverse s.history.items in
    c.is_painting.ensures
    ∙ ap (λ (k : Kept). is_begun k.sessions c.in-Some.window.0) c.screen.ensures
    ∙ painting_found s.setup past s.tree s.display.screen c.args.w c.in-Some.window c.self.invariant.tree c.self.invariant.display.screen c.in-Some.ensures.window c.in-Some.ensures.same
    ∙ ap (λ (v : Seen). is_live v.past c.args.w && is_painting v.past c.args.w) c.self.view_is

pub returns-in-None : goal.returns-in-None
returns-in-None c =
    let s = c.self.inside in
    let past : Past = reverse s.history.items in
    none_told past s.tree c.args.w (is_painting past c.args.w) c.self.invariant.tree c.in-None.ensures.window
    ∙ ap (λ (v : Seen). is_live v.past c.args.w && is_painting v.past c.args.w) c.self.view_is
