use Rattle.std.proofs.Common.{◌≡◌, ◌≤◌, ◌<◌, ◌+◌, ◌-◌, length, arith, reverse, subst, sym}
use Rattle.user_model.specs.Past.{Past}
use Rattle.user_model.specs.Status.{last_look}
use Rattle.look_state.specs.Looks.{IsLookAt}
use Rattle.core_state.specs.States.{Seen}
use Rattle.core_state.specs.Status.{IsBefore}
use Rattle.core_state.proofs.StatusReads.{from_look}
use Rattle.core_state.proofs.state.CoreState.bits_since_look.Goals as goal

pub of-requires-clause-known : goal.of-requires-clause-known
of-requires-clause-known c =
    let s = c.self.inside in
    let known : c.args.thread ≤ s.setup.threads = subst (λ (v : Seen). c.args.thread ≤ v.setup.threads) (sym c.self.view_is) c.requires.known in
    omega (arith, known, c.self.invariant.looks.count)

pub returns-clause-bits : goal.returns-clause-bits
returns-clause-bits c =
    let s = c.self.inside in
    let past : Past = reverse s.history.items in
    let v = c.args.self.now in
    let t = c.args.thread in
    let k = c.of.result.now in
    let known : t ≤ s.setup.threads = subst (λ (v : Seen). t ≤ v.setup.threads) (sym c.self.view_is) c.requires.known in
    let within : t - 1 < length s.looks = omega (arith, known, c.requires.some, c.self.invariant.looks.count) in
    let place : t - 1 + 1 ≡ t = omega (arith, c.requires.some) in
    let there : IsLookAt s.setup (last_look past (t - 1 + 1)) (t - 1 + 1) k = subst (IsLookAt s.setup (last_look past (t - 1 + 1)) (t - 1 + 1)) (sym (c.of.ensures k)) (c.self.invariant.looks.each (t - 1) k within) in
    let kept : IsLookAt s.setup (last_look past t) t k = subst (λ n. IsLookAt s.setup (last_look past n) n k) place there in
    let before : IsBefore v.setup v.past (last_look v.past t) t k = subst (λ (v : Seen). IsBefore v.setup v.past (last_look v.past t) t k) c.self.view_is (from_look s.setup past t k c.self.invariant.lawful kept) in
    c.in_ok-bits.ensures.bits (last_look v.past t) before c.has_new_post-posted.ensures c.has_new_send-sent.ensures
