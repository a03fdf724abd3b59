use Rattle.std.proofs.Common.{◌∙◌, None, length, ap, sym, arith}
use Rattle.slab.specs.Slab.{get}
use Rattle.post_queue.specs.Queue.{Queue}
use Rattle.post_queue.proofs.Chains.{posted_length}
use Rattle.post_queue.proofs.posts.Posts.len.Goals as goal

pub overflow_cast-result : goal.overflow_cast-result
overflow_cast-result c =
    let size = posted_length (get c.self.inside.chain.slots) None 0 c.self.inside.chain.index.entries None c.self.invariant.chain.linked in
    omega (arith, c.len.ensures.len, size, c.self.invariant.within, c.self.invariant.fits)

pub returns : goal.returns
returns c =
    c.len.ensures.len
    ∙ sym (posted_length (get c.self.inside.chain.slots) None 0 c.self.inside.chain.index.entries None c.self.invariant.chain.linked)
    ∙ ap (λ (q : Queue). length q.posted) c.self.view_is
