use Rattle.std.proofs.Common.{reverse, ap, ◌∙◌}
use Rattle.user_model.specs.Past.{Past}
use Rattle.user_model.specs.ReplyDialogs.{owner_of}
use Rattle.win_rows.specs.Windows.{window_of}
use Rattle.core_state.specs.States.{Seen}
use Rattle.core_state.proofs.Owners.{no_owner, row_owner}
use Rattle.window_state.proofs.Procs.{unfound}
use Rattle.core_state.proofs.state.CoreState.owner.Goals as goal

pub returns-in_default : goal.returns-in_default
returns-in_default c =
    let s = c.self.inside in
    let past : Past = reverse s.history.items in
    no_owner past s.tree.live c.args.w c.self.invariant.tree.windows (unfound (window_of s.tree.live c.args.w) c.in_default.ensures.window)
    ∙ ap (λ (v : Seen). owner_of v.past c.args.w) c.self.view_is

pub returns-in-Some-row : goal.returns-in-Some-row
returns-in-Some-row c =
    let s = c.self.inside in
    let past : Past = reverse s.history.items in
    row_owner past s.tree.live c.in-Some.window.0 c.in-Some-row.row.now c.self.invariant.tree.windows c.in-Some-row.ensures
    ∙ ap (owner_of past) c.in-Some.ensures.same
    ∙ ap (λ (v : Seen). owner_of v.past c.args.w) c.self.view_is

pub returns-in-None : goal.returns-in-None
returns-in-None c =
    let s = c.self.inside in
    let past : Past = reverse s.history.items in
    no_owner past s.tree.live c.in-Some.window.0 c.self.invariant.tree.windows c.in-None.ensures
    ∙ ap (owner_of past) c.in-Some.ensures.same
    ∙ ap (λ (v : Seen). owner_of v.past c.args.w) c.self.view_is
