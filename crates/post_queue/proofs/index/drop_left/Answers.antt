use Rattle.std.proofs.Common.{◌∙◌, sym}
use Rattle.post_queue.proofs.PlaceLemmas.{left_gone}
use Rattle.post_queue.proofs.index.drop_left.Goals as goal

pub loop-places-preserved : goal.loop-places-preserved
loop-places-preserved c =
    let gone = left_gone c.loop-places.places.items c.pop_front.new.self.items (sym c.has_left.ensures ∙ c.loop-places-test.true) c.pop_front.ensures.rest c.loop-places.invariant.1 in
    (gone.0 ∙ c.loop-places.invariant.0, gone.1)
