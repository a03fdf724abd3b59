use Rattle.std.proofs.Common.{◌≡◌, true, reverse, ap, ◌∙◌, subst, sym}
use Rattle.user_model.specs.Past.{Past}
use Rattle.user_model.specs.Windows.{is_live}
use Rattle.user_model.specs.Looks.{style_of}
use Rattle.core_state.specs.States.{Seen}
use Rattle.core_state.proofs.ScreenReads.{live_found}
use Rattle.window_state.specs.Placings.{style_in}
use Rattle.window_state.proofs.LookSteps.{style_at}
use Rattle.core_state.proofs.state.CoreState.style_of.Goals as goal

pub window_or_none-requires : goal.window_or_none-requires
window_or_none-requires c =
    let s = c.self.inside in
    let past : Past = reverse s.history.items in
    live_found past s.tree c.args.w c.self.invariant.tree (subst (λ (v : Seen). is_live v.past c.args.w ≡ true) (sym c.self.view_is) c.requires)

pub returns : goal.returns
returns c =
    let s = c.self.inside in
    let past : Past = reverse s.history.items in
    let lives : is_live past c.args.w ≡ true = subst (λ (v : Seen). is_live v.past c.args.w ≡ true) (sym c.self.view_is) c.requires in
    c.from.ensures
    ∙ c.style_of.ensures
    ∙ ap (style_in s.tree.live) c.window_or_none.ensures
    ∙ style_at past s.tree c.args.w c.self.invariant.tree lives
    ∙ ap (λ (v : Seen). style_of v.past c.args.w) c.self.view_is
