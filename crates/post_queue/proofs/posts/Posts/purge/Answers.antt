use Rattle.std.proofs.Common.{◌==◌, ◌∙◌, List, ap, rules, tests}
use Rattle.post_queue.specs.Queue.{Queue, Posted, queue, without_window}
use Rattle.post_queue.proofs.posts.Posts.purge.Goals as goal

pub returns-clause-rest : goal.returns-clause-rest
returns-clause-rest c =
    ap (λ (ps : List Posted). queue c.self.inside.limit ps) (c.purge.ensures.rest (λ m. m == c.args.w.0) (λ x b k. search (rules, tests)))
    ∙ ap (λ (q : Queue). queue q.limit (without_window q.posted c.args.w.0)) c.self.view_is
