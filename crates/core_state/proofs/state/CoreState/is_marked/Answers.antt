use Rattle.std.proofs.Common.{reverse, ap, ◌∙◌}
use Rattle.user_model.specs.Past.{Past}
use Rattle.std.specs.Prelude.{◌&&◌}
use Rattle.win_rows.specs.Windows as kept
use Rattle.user_model.specs.Windows.{is_live}
use Rattle.user_model.specs.Destruction.{is_marked}
use Rattle.core_state.specs.States.{Seen}
use Rattle.window_state.proofs.Lookups.{none_marked}
use Rattle.window_state.proofs.TreeFacts.{is_marked_at}
use Rattle.core_state.proofs.state.CoreState.is_marked.Goals as goal

pub returns-in-Some : goal.returns-in-Some
returns-in-Some c =
    let s = c.self.inside in
    let past : Past = reverse s.history.items in
    c.marked.ensures
    ∙ ap (kept.is_marked s.tree.live) c.in-Some.ensures.same
    ∙ is_marked_at past s.tree c.self.invariant.tree c.args.w
    ∙ ap (λ (v : Seen). is_live v.past c.args.w && is_marked v.past c.args.w) c.self.view_is

pub returns-in-None : goal.returns-in-None
returns-in-None c =
    let s = c.self.inside in
    let past : Past = reverse s.history.items in
    none_marked s.tree.live c.args.w c.in-None.ensures.window
    ∙ is_marked_at past s.tree c.self.invariant.tree c.args.w
    ∙ ap (λ (v : Seen). is_live v.past c.args.w && is_marked v.past c.args.w) c.self.view_is
