use Rattle.std.proofs.Common.{◌||◌, ◌&&◌, ◌∙◌, ap, is_some, nat_lt}
use Rattle.std.specs.List.{list_any}
use Rattle.post_queue.specs.Queue.{Posted}
use Rattle.queue_status.specs.Counts.{is_fresh}
use Rattle.thread_state.specs.Threads.{ThreadView}
use Rattle.thread_state.proofs.Counts.{new_told}
use Rattle.thread_state.proofs.thread.ThreadState.has_new_post.Goals as goal

pub returns : goal.returns
returns c =
    let s = c.self.inside in
    c.is_fresh.ensures
    ∙ ap is_fresh c.self.invariant.counted
    ∙ new_told s.seen s.posts.posted s.quit s.quit_is_new
    ∙ ap (λ (v : ThreadView). list_any (λ (p : Posted). nat_lt v.seen p.number) v.queue.posted || (is_some v.quit && v.quit_is_new)) c.self.view_is
