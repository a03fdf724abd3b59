use Rattle.std.proofs.Common.{◌≤◌, ap, ◌∙◌, reverse, sym, subst}
use Rattle.user_model.specs.Past.{Past}
use Rattle.user_model.specs.Focus.{value_of}
use Rattle.group_state.specs.GroupTables.{named}
use Rattle.core_state.specs.States.{Seen}
use Rattle.core_state.proofs.state.CoreState.shared_window.Goals as goal

pub value-requires : goal.value-requires
value-requires c = (c.requires.some, subst (λ n. c.args.thread ≤ n) (sym c.self.invariant.groups.threads) (subst (λ (v : Seen). c.args.thread ≤ v.setup.threads) (sym c.self.view_is) c.requires.known))

pub returns : goal.returns
returns c =
    let s = c.self.inside in
    let past : Past = reverse s.history.items in
    c.value.ensures s.setup past c.self.invariant.lawful c.self.invariant.tree c.self.invariant.groups
    ∙ ap (λ (v : Seen). value_of v.past c.args.thread (named c.args.slot)) c.self.view_is
