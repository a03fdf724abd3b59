use Rattle.std.proofs.Common.{◌≤◌, sym, subst, reverse, ◌∙◌, arith}
use Rattle.std.proofs.lemmas.Bool.{eq-eqb, false≢true}
use Rattle.user_model.specs.Past.{Past}
use Rattle.pending_state.specs.Pending.{IsGroupOf}
use Rattle.core_state.specs.States.{Seen}
use Rattle.core_state.proofs.state.CoreState.members.Goals as goal

pub group-requires : goal.group-requires
group-requires c = (omega (arith, c.if-thread-eq0.false), subst (λ n. c.args.thread ≤ n) (sym c.self.invariant.groups.threads) (subst (λ (v : Seen). c.args.thread ≤ v.setup.threads) (sym c.self.view_is) c.requires))

pub returns-then-thread-eq0 : goal.returns-then-thread-eq0
returns-then-thread-eq0 c = λ some. absurd (false≢true (sym some ∙ eq-eqb c.args.thread 0 c.if-thread-eq0.true))

pub returns : goal.returns
returns c =
    let s = c.self.inside in
    let past : Past = reverse s.history.items in
    λ some. subst (λ (v : Seen). IsGroupOf v.past c.args.thread c.group.result) c.self.view_is (c.group.ensures s.setup past c.self.invariant.lawful c.self.invariant.groups)
