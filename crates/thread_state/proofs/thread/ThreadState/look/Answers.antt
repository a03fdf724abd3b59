use Rattle.std.proofs.Common.{◌∙◌, ap, sym}
use Rattle.queue_status.specs.Counts.{none_fresh}
use Rattle.thread_state.proofs.Counts.{looked}
use Rattle.thread_state.proofs.thread.ThreadState.look.Goals as goal

pub invariant_of-self-else-has_above : goal.invariant_of-self-else-has_above
invariant_of-self-else-has_above c =
    let s = c.self.inside in
    record {
      missed = c.self.invariant.missed;
      limit = c.self.invariant.limit;
      few = c.self.invariant.few;
      counted = c.look.ensures ∙ ap none_fresh c.self.invariant.counted ∙ looked s.seen c.args.posts s.posts.posted s.quit s.quit_is_new (sym c.has_above.ensures ∙ c.if-has_above.false);
    }
