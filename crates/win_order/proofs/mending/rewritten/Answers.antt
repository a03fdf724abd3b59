use Rattle.std.proofs.Common.{◌≡◌, ◌∙◌, ◌-◌, ◌+◌, ◌*◌, suc, reverse, arith, ap}
use Rattle.win_order.specs.Mending.{rewritten}
use Rattle.win_order.proofs.mending.rewritten.Goals as goal

pub steps-preserved : goal.steps-preserved
steps-preserved c =
    let list = c.steps.list in
    let left = 2 * c.len-steps.result - (c.steps.counter + 1) in
    let more : suc left ≡ 2 * c.len-steps.result - c.steps.counter = omega arith in
    record {
      same = c.in_ok-write_next.ensures.step left ∙ (ap (λ n. rewritten n list.written.items list.held.items (reverse list.next.items)) more ∙ c.steps.invariant.same);
      marked = c.in_ok-write_next.ensures.marked;
    }
