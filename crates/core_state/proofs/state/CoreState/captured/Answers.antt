use Rattle.std.proofs.Common.{◌≡◌, ◌≤◌, ap, ◌∙◌, reverse, sym, arith}
use Rattle.user_model.specs.Past.{Past}
use Rattle.user_model.specs.Focus.{capture, foreground, value_of}
use Rattle.group_state.proofs.Nobody.{nobody_has}
use Rattle.core_state.specs.States.{Seen}
use Rattle.core_state.proofs.Homes.{foreground_known}
use Rattle.core_state.proofs.state.CoreState.captured.Goals as goal

pub value-requires : goal.value-requires
value-requires c =
    let s = c.self.inside in
    let past : Past = reverse s.history.items in
    let thread = c.foreground-thread.result in
    let is : thread ≡ foreground past = c.foreground-thread.ensures s.setup past c.self.invariant.groups in
    let known : foreground past ≤ s.setup.threads = foreground_known s.setup past c.self.invariant.lawful in
    let same : s.groups.inputs.threads ≡ s.setup.threads = c.self.invariant.groups.threads in
    (omega (arith, c.if-thread-eq0.false), omega (arith, is, known, same))

pub returns-then-thread-eq0 : goal.returns-then-thread-eq0
returns-then-thread-eq0 c =
    let s = c.self.inside in
    let past : Past = reverse s.history.items in
    let none : foreground past ≡ 0 = sym (c.foreground-thread.ensures s.setup past c.self.invariant.groups) ∙ c.if-thread-eq0.true in
    sym (ap (λ t. value_of past t capture) none ∙ nobody_has s.setup past capture c.self.invariant.lawful)
    ∙ ap (λ (v : Seen). value_of v.past (foreground v.past) capture) c.self.view_is

pub returns : goal.returns
returns c =
    let s = c.self.inside in
    let past : Past = reverse s.history.items in
    c.value.ensures s.setup past c.self.invariant.lawful c.self.invariant.tree c.self.invariant.groups
    ∙ ap (λ t. value_of past t capture) (c.foreground-thread.ensures s.setup past c.self.invariant.groups)
    ∙ ap (λ (v : Seen). value_of v.past (foreground v.past) capture) c.self.view_is
