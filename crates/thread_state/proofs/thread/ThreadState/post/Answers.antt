use Rattle.std.proofs.Common.{◌<◌, ◌≤◌, ◌∙◌, ap, length, nat_lt, subst, sym}
use Rattle.post_queue.specs.Queue.{Queue, post_of}
use Rattle.queue_status.specs.Counts.{one_more}
use Rattle.thread_state.specs.Counts.{posts_counted}
use Rattle.thread_state.specs.Passing.{IsMissedBy}
use Rattle.thread_state.specs.Threads.{ThreadView}
use Rattle.thread_state.proofs.Counts.{one_more_fits, posted_more}
use Rattle.thread_state.proofs.thread.ThreadState.post.Goals as goal

pub invariant_of-self : goal.invariant_of-self
invariant_of-self c =
    let s = c.self.inside in
    let ps = s.posts.posted in
    let p = post_of c.args.number c.args.msg in
    let put = c.in-Ok.ensures.ok in
    let room : length ps < s.posts.limit = subst (λ (v : ThreadView). length v.queue.posted < v.queue.limit) (sym c.self.view_is) c.requires.room in
    record {
      missed = subst (λ (q : Queue). IsMissedBy c.still_missed-self-inside.result q.posted) (sym put) (c.still_missed-self-inside.ensures ps c.args.number c.self.invariant.missed);
      limit = ap (λ (q : Queue). q.limit) put ∙ c.self.invariant.limit;
      few = subst (λ (q : Queue). length q.posted ≤ 10000) (sym put) (one_more_fits ps p (subst (λ n. length ps < n) c.self.invariant.limit room));
      counted =
          c.add.ensures
          ∙ ap (one_more (nat_lt s.seen c.args.number)) c.self.invariant.counted
          ∙ sym (posted_more s.seen ps s.quit s.quit_is_new p)
          ∙ ap (λ (q : Queue). posts_counted s.seen q.posted s.quit s.quit_is_new) (sym put);
    }
