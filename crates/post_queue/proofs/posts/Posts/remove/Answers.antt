use Rattle.std.proofs.Common.{◌==◌, None, length, not, ap, arith, subst}
use Rattle.std.proofs.lemmas.List.Sums.{length-filter, count_by-le-length}
use Rattle.slab.specs.Slab.{get}
use Rattle.post_queue.specs.Queue.{Posted, Queue, Rises}
use Rattle.post_queue.specs.Chains.{posted_in}
use Rattle.post_queue.proofs.Chains.{posted_rises}
use Rattle.post_queue.proofs.posts.Posts.remove.Goals as goal

pub invariant_of-self : goal.invariant_of-self
invariant_of-self c =
    let ps = posted_in c.self.inside.chain in
    let stays = λ (p : Posted). not (p.number == c.args.number) in
    record {
      chain = c.take.ensures.chain;
      within = omega (arith, ap length c.take.ensures.rest, length-filter stays ps, count_by-le-length stays ps, c.self.invariant.within);
      fits = c.self.invariant.fits;
    }

pub returns-clause-rises : goal.returns-clause-rises
returns-clause-rises c = subst (λ (q : Queue). Rises 0 q.posted) c.self.view_is (posted_rises (get c.self.inside.chain.slots) None 0 c.self.inside.chain.index.entries None c.self.invariant.chain.linked)
