use Rattle.std.proofs.Common.{eqb, reverse, ap, ◌∙◌}
use Rattle.std.specs.Prelude.{◌&&◌, option_copied}
use Rattle.win_num.specs.PixelSets.{has_pixel}
use Rattle.user_model.specs.Past.{Past}
use Rattle.user_model.specs.Pixels.{owner, screen}
use Rattle.core_state.specs.States.{Seen}
use Rattle.core_state.proofs.ScreenReads.{owned_told, screen_told}
use Rattle.core_state.proofs.state.CoreState.owned_region.Goals as goal

pub returns : goal.returns
returns c = λ p.
    let s = c.self.inside in
    let past : Past = reverse s.history.items in
    owned_told s.setup past c.screen.result.now c.args.w (option_copied c.owned_region.result) p (screen_told s.setup past s.display c.screen.result.now c.screen.ensures c.self.invariant.display) c.owned_region.ensures
    ∙ ap (λ (v : Seen). has_pixel (screen v.setup) p && eqb (owner v.setup v.past p).0 c.args.w.0) c.self.view_is
