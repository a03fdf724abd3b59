use Rattle.std.proofs.Common.{◌≡◌, ◌+◌, false, true, ℕ, Bool, ◌&&◌, arith, sym, ◌∙◌}
use Rattle.std.specs.Prelude.{nat_lt}
use Rattle.user_model.proofs.Lowest.{lowest_found, lowest_here, lowest_none}
use Rattle.user_pool.specs.Runs.{is_runnable}
use Rattle.user_pool.proofs.Choices.{between_less, between_start, between_test}
use Rattle.user_pool.proofs.choice.first_between.Goals as goal

pub loop-thread-init : goal.loop-thread-init
loop-thread-init g c = record { above = omega arith; none = between_start c.args.script.now (g.M.Machine.past c.args.machine.now) c.args.low c.args.low (omega arith) }

pub returns : goal.returns
returns g c = sym (between_less c.args.script.now (g.M.Machine.past c.args.machine.now) c.args.low c.args.high c.loop-thread.thread (omega (arith, c.loop-thread-test.false)) c.loop-thread.invariant.none)

pub returns-then-runnable : goal.returns-then-runnable
returns-then-runnable g c =
    let s = c.args.script.now in
    let past = g.M.Machine.past c.args.machine.now in
    let test : ℕ → Bool = λ t. nat_lt c.args.low t && is_runnable s past t in
    let hit : test (c.loop-thread.thread + 1) ≡ true = between_test s past c.args.low (c.loop-thread.thread + 1) true (omega (arith, c.loop-thread.invariant.above)) (sym c.runnable.ensures ∙ c.if-runnable.true) in
    sym (lowest_found test c.args.high _ (lowest_here test c.loop-thread.thread c.loop-thread.invariant.none hit) (omega arith))

pub loop-thread-preserved : goal.loop-thread-preserved
loop-thread-preserved g c =
    let s = c.args.script.now in
    let past = g.M.Machine.past c.args.machine.now in
    let test : ℕ → Bool = λ t. nat_lt c.args.low t && is_runnable s past t in
    let miss : test (c.loop-thread.thread + 1) ≡ false = between_test s past c.args.low (c.loop-thread.thread + 1) false (omega (arith, c.loop-thread.invariant.above)) (sym c.runnable.ensures ∙ c.if-runnable.false) in
    record { above = omega (arith, c.loop-thread.invariant.above); none = lowest_none test c.loop-thread.thread c.loop-thread.invariant.none miss }
