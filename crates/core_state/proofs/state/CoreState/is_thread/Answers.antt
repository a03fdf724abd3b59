use Rattle.std.proofs.Common.{◌≡◌, arith, false, reverse, subst}
use Rattle.std.proofs.lemmas.Bool.Decides.{nat_tests}
use Rattle.user_model.specs.Idle.{is_idle}
use Rattle.user_model.specs.Threads.{is_thread}
use Rattle.user_model.proofs.ThreadLaws.{no_thread_idle}
use Rattle.core_state.specs.States.{Seen}
use Rattle.core_state.proofs.state.CoreState.is_thread.Goals as goal

pub returns-then-thread-ne0-clause-never_idle : goal.returns-then-thread-ne0-clause-never_idle
returns-then-thread-ne0-clause-never_idle c = λ e.
    let none : is_thread c.self.inside.setup c.args.thread ≡ false = grind (arith, nat_tests, e) in
    subst (λ (s : Seen). is_idle s.setup s.past c.args.thread ≡ false) c.self.view_is (no_thread_idle c.self.inside.setup (reverse c.self.inside.history.items) c.args.thread c.self.invariant.lawful none)

pub returns-else-thread-ne0-clause-never_idle : goal.returns-else-thread-ne0-clause-never_idle
returns-else-thread-ne0-clause-never_idle c = λ e.
    let none : is_thread c.self.inside.setup c.args.thread ≡ false = grind (arith, nat_tests, c.if-thread-ne0.false) in
    subst (λ (s : Seen). is_idle s.setup s.past c.args.thread ≡ false) c.self.view_is (no_thread_idle c.self.inside.setup (reverse c.self.inside.history.items) c.args.thread c.self.invariant.lawful none)
