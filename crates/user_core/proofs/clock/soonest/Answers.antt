use Rattle.std.proofs.Common.{ℕ, ◌+◌, List, ◌++◌, ap, ◌∙◌, sym, add-one}
use Rattle.user_model.specs.Threads.{from_each}
use Rattle.user_model.specs.Idle.{last_entry, least_of, times_of}
use Rattle.user_core.proofs.clock.soonest.Goals as goal

pub loop-thread-preserved : goal.loop-thread-preserved
loop-thread-preserved c =
    let past = c.args.state.now.past in
    let gives : ℕ → List ℕ = λ t. times_of past t (last_entry past t) in
    let n = c.loop-thread.thread in
    sym (c.lesser-least.ensures (from_each gives n) (gives (n + 1)) (sym c.loop-thread.invariant) (sym c.wake_time.ensures))
    ∙ ap (λ k. least_of (from_each gives n ++ gives k)) (add-one n)
    ∙ ap (λ k. least_of (from_each gives k)) (sym (add-one n))
