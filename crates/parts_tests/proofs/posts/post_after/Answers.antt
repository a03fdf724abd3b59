use Rattle.std.proofs.Common.{◌∙◌, sym}
use Rattle.post_queue.proofs.QueueLemmas.{below_next}
use Rattle.parts_tests.proofs.posts.post_after.Goals as goal

pub post-requires : goal.post-requires
post-requires c = below_next c.args.before c.args.posts.now.posted (sym c.has_above.ensures ∙ c.if-has_above.false)
