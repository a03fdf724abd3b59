use Rattle.std.proofs.Common.{◌≡◌, true, arith, sym}
use Rattle.std.proofs.lemmas.Bool.Decides.{nat_tests}
use Rattle.user_model.specs.Threads.{is_running}
use Rattle.core_deliver.proofs.delivery.post_to_window.Goals as goal

pub post_to-requires-2-clause-some : goal.post_to-requires-2-clause-some
post_to-requires-2-clause-some c =
    let runs : is_running c.args.state.now.setup c.args.state.now.past c.thread_of.result ≡ true = c.thread_of.ensures.running (sym c.if-not-is_live.ensures) in
    grind (arith, nat_tests, runs, c.from-2.ensures)

pub post_to-requires-2-clause-known : goal.post_to-requires-2-clause-known
post_to-requires-2-clause-known c =
    let runs : is_running c.args.state.now.setup c.args.state.now.past c.thread_of.result ≡ true = c.thread_of.ensures.running (sym c.if-not-is_live.ensures) in
    grind (arith, nat_tests, runs, c.from-2.ensures)
