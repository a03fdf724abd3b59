use Rattle.std.proofs.Common.{rules, ◌≡◌, ◌<◌, ◌≤◌, true, false, length, arith}
use Rattle.run_explorer.proofs.Telling.{long_order, numbers_more, whole_order}
use Rattle.run_explorer.proofs.report.order_of.Goals as goal

pub returns-then-not-branch : goal.returns-then-not-branch
returns-then-not-branch c = λ s bound past are.
    let fits : c.in_ok-add_mover.field-0 ≡ false = search (rules, c.if-not-branch.true) in
    let full = c.in_ok-add_mover.ensures.full fits in
    let lt : c.loop-step.step-index < length c.args.steps.now = omega arith in
    long_order c.args.steps.now c.loop-step.step-index _ c.loop-step.numbers.items lt full.0 c.loop-step.invariant.is full.1 s bound past are

pub loop-step-preserved : goal.loop-step-preserved
loop-step-preserved c =
    let fits : c.in_ok-add_mover.field-0 ≡ true = search (rules, c.if-not-branch.false) in
    let lt : c.loop-step.step-index < length c.args.steps.now = omega arith in
    record {
      is = numbers_more c.args.steps.now c.loop-step.step-index _ c.loop-step.numbers.items c.add_mover.new.numbers.items lt c.loop-step.invariant.is (c.in_ok-add_mover.ensures.added fits);
      few = c.in_ok-add_mover.ensures.few;
    }

pub returns : goal.returns
returns c = λ s bound past are.
    let le : length c.args.steps.now ≤ c.loop-step.step-index = omega arith in
    whole_order c.args.steps.now c.loop-step.step-index c.loop-step.numbers.items le c.loop-step.invariant.is c.loop-step.invariant.few s bound past are
