use Rattle.std.proofs.Common.{ap, ◌∙◌}
use Rattle.std.specs.Fn.{FnReturnsAt}
use Rattle.std.specs.Prelude.{find, option_map}
use Rattle.post_queue.specs.Queue.{Queue, pair_of}
use Rattle.post_queue.specs.Chains.{posted_in}
use Rattle.post_queue.proofs.Finding.{finds}
use Rattle.post_queue.proofs.posts.Posts.first.Goals as goal

pub returns-clause-found : goal.returns-clause-found
returns-clause-found g c = λ test tells.
    finds (FnReturnsAt g.F.Fn c.args.pass) (posted_in c.self.inside.chain) c.first_in.result _ _ c.first_in.ensures test tells
    ∙ ap (λ (q : Queue). option_map pair_of (find (λ p. test p.msg) q.posted)) c.self.view_is
