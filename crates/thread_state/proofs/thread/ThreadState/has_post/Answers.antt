use Rattle.std.proofs.Common.{◌||◌, ◌∙◌, ap, is_some, true}
use Rattle.std.specs.List.{list_any}
use Rattle.post_queue.specs.Queue.{Posted}
use Rattle.queue_status.specs.Counts.{is_there}
use Rattle.thread_state.specs.Threads.{ThreadView}
use Rattle.thread_state.proofs.Counts.{is_told}
use Rattle.thread_state.proofs.thread.ThreadState.has_post.Goals as goal

pub returns : goal.returns
returns c =
    let s = c.self.inside in
    c.is_there.ensures
    ∙ ap is_there c.self.invariant.counted
    ∙ is_told s.seen s.posts.posted s.quit s.quit_is_new
    ∙ ap (λ (v : ThreadView). list_any (λ (p : Posted). true) v.queue.posted || is_some v.quit) c.self.view_is
