use Rattle.std.proofs.Common.{◌≡◌, true, reverse, ap, ◌∙◌, subst, sym}
use Rattle.win_num.specs.PixelSets.{kind_of}
use Rattle.user_model.specs.Past.{Past}
use Rattle.user_model.specs.Windows.{is_live}
use Rattle.user_model.specs.Pixels.{origin}
use Rattle.user_model.specs.Dirty.{dirty_pixels}
use Rattle.user_model.specs.ReplyDrawing.{bounds_from}
use Rattle.core_state.specs.States.{Seen}
use Rattle.core_state.proofs.ScreenReads.{live_found, screen_told}
use Rattle.core_state.proofs.state.CoreState.update_box.Goals as goal

pub window_or_none-requires : goal.window_or_none-requires
window_or_none-requires c =
    let s = c.self.inside in
    let past : Past = reverse s.history.items in
    live_found past s.tree c.args.w c.self.invariant.tree (subst (λ (v : Seen). is_live v.past c.args.w ≡ true) (sym c.self.view_is) c.requires)

pub returns-clause-kind : goal.returns-clause-kind
returns-clause-kind c =
    let s = c.self.inside in
    let past : Past = reverse s.history.items in
    let lives : is_live past c.args.w ≡ true = subst (λ (v : Seen). is_live v.past c.args.w ≡ true) (sym c.self.view_is) c.requires in
    let here : is_live past c.window_or_none.result.0 ≡ true = ap (is_live past) c.window_or_none.ensures ∙ lives in
    c.update_box.ensures.kind s.setup past c.self.invariant.lawful c.self.invariant.tree (screen_told s.setup past s.display c.screen.result.now c.screen.ensures c.self.invariant.display) here
    ∙ ap (λ w. kind_of (dirty_pixels s.setup past w)) c.window_or_none.ensures
    ∙ ap (λ (v : Seen). kind_of (dirty_pixels v.setup v.past c.args.w)) c.self.view_is

pub returns-clause-edges : goal.returns-clause-edges
returns-clause-edges c =
    let s = c.self.inside in
    let past : Past = reverse s.history.items in
    let lives : is_live past c.args.w ≡ true = subst (λ (v : Seen). is_live v.past c.args.w ≡ true) (sym c.self.view_is) c.requires in
    let here : is_live past c.window_or_none.result.0 ≡ true = ap (is_live past) c.window_or_none.ensures ∙ lives in
    c.update_box.ensures.edges s.setup past c.self.invariant.lawful c.self.invariant.tree (screen_told s.setup past s.display c.screen.result.now c.screen.ensures c.self.invariant.display) here
    ∙ ap (λ w. bounds_from (origin past w) (dirty_pixels s.setup past w)) c.window_or_none.ensures
    ∙ ap (λ (v : Seen). bounds_from (origin v.past c.args.w) (dirty_pixels v.setup v.past c.args.w)) c.self.view_is
