use Rattle.std.proofs.Common.{◌≡◌, true, reverse, ap, ◌∙◌, subst, sym}
use Rattle.user_model.specs.Past.{Past}
use Rattle.user_model.specs.Windows.{is_live}
use Rattle.core_state.specs.States.{Seen}
use Rattle.core_state.proofs.ScreenReads.{live_found}
use Rattle.core_state.proofs.state.CoreState.child_after.Goals as goal

pub window_or_none-requires : goal.window_or_none-requires
window_or_none-requires c =
    let s = c.self.inside in
    let past : Past = reverse s.history.items in
    live_found past s.tree c.args.w c.self.invariant.tree (subst (λ (v : Seen). is_live v.past c.args.w ≡ true) (sym c.self.view_is) c.requires)
