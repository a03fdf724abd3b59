use Rattle.std.proofs.Common.{◌≤◌, ap, ◌∙◌, reverse, sym, subst}
use Rattle.user_model.specs.Past.{Past}
use Rattle.user_model.specs.Keys.{is_key_down}
use Rattle.core_state.specs.States.{Seen}
use Rattle.core_state.proofs.state.CoreState.is_key_down.Goals as goal

pub is_key_down-requires : goal.is_key_down-requires
is_key_down-requires c = (c.requires.some, subst (λ n. c.args.thread ≤ n) (sym c.self.invariant.groups.threads) (subst (λ (v : Seen). c.args.thread ≤ v.setup.threads) (sym c.self.view_is) c.requires.known))

pub returns : goal.returns
returns c =
    let s = c.self.inside in
    let past : Past = reverse s.history.items in
    c.is_key_down.ensures s.setup past c.self.invariant.lawful c.self.invariant.groups
    ∙ ap (λ (v : Seen). is_key_down v.past c.args.thread c.args.key) c.self.view_is
