use Rattle.std.proofs.Common.{[], reverse, subst, sym}
use Rattle.user_model.specs.Past.{Past}
use Rattle.look_state.specs.Looks.{first_look}
use Rattle.core_state.specs.States.{Seen}
use Rattle.core_state.specs.Status.{IsBefore}
use Rattle.core_state.proofs.StatusReads.{from_start}
use Rattle.core_state.proofs.state.CoreState.bits_now.Goals as goal

pub returns-clause-bits : goal.returns-clause-bits
returns-clause-bits c =
    let s = c.self.inside in
    let past : Past = reverse s.history.items in
    let v = c.args.self.now in
    let t = c.args.thread in
    let before : IsBefore v.setup v.past [] t first_look = subst (λ (v : Seen). IsBefore v.setup v.past [] t first_look) c.self.view_is (from_start s.setup past t c.self.invariant.lawful c.requires.some) in
    c.in_ok-bits.ensures.bits [] (subst (IsBefore v.setup v.past [] t) (sym c.new-start.ensures) before) c.has_post-posted.ensures c.has_send-sent.ensures
