use Rattle.std.proofs.Common.{◌≡◌, true, arith, sym, ◌∙◌}
use Rattle.std.proofs.lemmas.Bool.{false≢true}
use Rattle.std.proofs.lemmas.Bool.Decides.{nat_tests}
use Rattle.user_model.specs.Threads.{is_thread}
use Rattle.user_model.proofs.GroupThreads.{running_is_thread}
use Rattle.core_state.proofs.state.CoreState.is_shift_down.Goals as goal

pub is_key_down-requires-clause-some : goal.is_key_down-requires-clause-some
is_key_down-requires-clause-some c =
    let thread : is_thread c.args.self.now.setup c.args.thread ≡ true = sym c.is_thread.ensures.number ∙ c.if-not-is_thread.false in
    grind (arith, nat_tests, thread)

pub is_key_down-requires-clause-known : goal.is_key_down-requires-clause-known
is_key_down-requires-clause-known c =
    let thread : is_thread c.args.self.now.setup c.args.thread ≡ true = sym c.is_thread.ensures.number ∙ c.if-not-is_thread.false in
    grind (arith, nat_tests, thread)

pub returns-then-not-is_thread : goal.returns-then-not-is_thread
returns-then-not-is_thread c = λ runs. absurd (false≢true (sym (sym c.is_thread.ensures.number ∙ c.if-not-is_thread.true) ∙ running_is_thread c.args.self.now.setup c.args.self.now.past c.args.thread runs))

pub returns : goal.returns
returns c = λ runs. c.is_key_down.ensures
