use Rattle.std.proofs.Common.{◌≤◌, ◌∙◌, arith, length}
use Rattle.thread_state.proofs.thread.ThreadState.purge.Goals as goal

pub counted-self-inside-requires : goal.counted-self-inside-requires
counted-self-inside-requires g c = omega (arith, c.purge_each.ensures.fewer, c.self.invariant.few)

pub invariant_of-self : goal.invariant_of-self
invariant_of-self g c =
    let few : length c.purge_each.new.self.posted ≤ 10000 = omega (arith, c.purge_each.ensures.fewer, c.self.invariant.few) in
    record {
      missed = tt;
      limit = c.purge_each.ensures.limit ∙ c.self.invariant.limit;
      few = few;
      counted = c.counted-self-inside.ensures;
    }
