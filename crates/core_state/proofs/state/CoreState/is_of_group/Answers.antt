use Rattle.std.proofs.Common.{◌≤◌, ap, ◌∙◌, reverse, sym, subst}
use Rattle.std.specs.Prelude.{◌&&◌, is_some}
use Rattle.user_model.specs.Past.{Past}
use Rattle.user_model.specs.Windows.{is_live, thread_of}
use Rattle.user_model.specs.Groups.{is_in_group}
use Rattle.window_state.proofs.Lookups.{none_found}
use Rattle.window_state.proofs.TreeFacts.{is_live_at}
use Rattle.core_state.specs.States.{Seen}
use Rattle.core_state.proofs.state.CoreState.is_of_group.Goals as goal

pub is_of_group-requires : goal.is_of_group-requires
is_of_group-requires c = (c.requires.some, subst (λ n. c.args.thread ≤ n) (sym c.self.invariant.groups.threads) (subst (λ (v : Seen). c.args.thread ≤ v.setup.threads) (sym c.self.view_is) c.requires.known))

pub returns-in-Some : goal.returns-in-Some
returns-in-Some c =
    let s = c.self.inside in
    let past : Past = reverse s.history.items in
    c.is_of_group.ensures s.setup past c.self.invariant.lawful c.self.invariant.tree c.self.invariant.groups
    ∙ ap (λ w. is_live past w && is_in_group past c.args.thread (thread_of past w)) c.in-Some.ensures.same
    ∙ ap (λ (v : Seen). is_live v.past c.args.w && is_in_group v.past c.args.thread (thread_of v.past c.args.w)) c.self.view_is

pub returns-in-None : goal.returns-in-None
returns-in-None c =
    let s = c.self.inside in
    let past : Past = reverse s.history.items in
    sym (ap (λ b. b && is_in_group past c.args.thread (thread_of past c.args.w)) (is_live_at past s.tree c.self.invariant.tree c.args.w ∙ ap is_some (none_found s.tree.live c.args.w c.in-None.ensures.window)))
    ∙ ap (λ (v : Seen). is_live v.past c.args.w && is_in_group v.past c.args.thread (thread_of v.past c.args.w)) c.self.view_is
