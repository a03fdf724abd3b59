use Rattle.std.proofs.Common.{◌≡◌, ap, arith, rules, sym, subst, ◌+◌, ◌∙◌}
use Rattle.std.specs.Fn.{FnReturnsAt}
use Rattle.std.specs.Prelude.{find, option_map}
use Rattle.post_queue.specs.Queue.{pair_of}
use Rattle.thread_state.specs.Passing.{IsMissed, passes_here, passes_in}
use Rattle.thread_state.specs.Reads.{reads}
use Rattle.thread_state.specs.Threads.{ThreadView}
use Rattle.thread_state.proofs.Misses.{none_passes}
use Rattle.thread_state.proofs.Reading.{counts, where_some}
use Rattle.thread_state.proofs.thread.ThreadState.first_counted.Goals as goal

pub returns-then-misses-clause-found : goal.returns-then-misses-clause-found
returns-then-misses-clause-found g c = sym (none_passes c.args.tree.now.live c.args.filter c.args.self.now.queue.posted (subst (λ (v : ThreadView). IsMissed c.args.filter v.queue.posted) c.self.view_is (c.misses.ensures c.self.inside.posts.posted c.if-misses.true c.self.invariant.missed)))

pub returns-clause-found : goal.returns-clause-found
returns-clause-found g c =
    c.first.ensures.found (passes_here c.args.tree.now.live c.args.filter) (λ m b k. search rules)
    ∙ ap (λ (v : ThreadView). option_map pair_of (find (passes_in c.args.tree.now.live c.args.filter) v.queue.posted)) c.self.view_is

pub returns-clause-reads : goal.returns-clause-reads
returns-clause-reads g c =
    where_some c.first.result
    (counts (FnReturnsAt _ _) _ _ _ _ c.first.ensures.first (passes_here c.args.tree.now.live c.args.filter) (λ m b k. search rules)
    ∙ ap (λ (v : ThreadView). c.args.steps.now + reads (passes_in c.args.tree.now.live c.args.filter) v.queue.posted) c.self.view_is)

pub returns-clause-most : goal.returns-clause-most
returns-clause-most g c =
    let exactly : c.first.new.steps ≡ c.args.steps.now + reads (passes_in c.args.tree.now.live c.args.filter) c.args.self.now.queue.posted =
    counts (FnReturnsAt _ _) _ _ _ _ c.first.ensures.first (passes_here c.args.tree.now.live c.args.filter) (λ m b k. search rules)
    ∙ ap (λ (v : ThreadView). c.args.steps.now + reads (passes_in c.args.tree.now.live c.args.filter) v.queue.posted) c.self.view_is in
    omega (arith, exactly)
