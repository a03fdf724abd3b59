use Rattle.std.proofs.Common.{reverse, ap, ◌∙◌}
use Rattle.user_model.specs.Past.{Past}
use Rattle.std.specs.Prelude.{◌&&◌}
use Rattle.win_rows.specs.Windows as kept
use Rattle.user_model.specs.Windows.{is_live}
use Rattle.user_model.specs.Destruction.{ended, was_given}
use Rattle.core_state.specs.States.{Seen}
use Rattle.window_state.proofs.Lookups.{none_ended}
use Rattle.window_state.proofs.TreeFacts.{is_ended_at}
use Rattle.core_state.proofs.state.CoreState.has_last.Goals as goal

pub returns-in-Some : goal.returns-in-Some
returns-in-Some c =
    let s = c.self.inside in
    let past : Past = reverse s.history.items in
    c.last_given.ensures
    ∙ ap (kept.is_ended s.tree.live) c.in-Some.ensures.same
    ∙ is_ended_at past s.tree c.self.invariant.tree c.args.w
    ∙ ap (λ (v : Seen). is_live v.past c.args.w && was_given v.past (ended c.args.w)) c.self.view_is

pub returns-in-None : goal.returns-in-None
returns-in-None c =
    let s = c.self.inside in
    let past : Past = reverse s.history.items in
    none_ended s.tree.live c.args.w c.in-None.ensures.window
    ∙ is_ended_at past s.tree c.self.invariant.tree c.args.w
    ∙ ap (λ (v : Seen). is_live v.past c.args.w && was_given v.past (ended c.args.w)) c.self.view_is
