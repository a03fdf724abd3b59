use Rattle.std.proofs.Common.{◌≡◌, length, arith}
use Rattle.post_queue.specs.Places.{kept_in}
use Rattle.post_queue.proofs.PlaceLemmas.{full_below}
use Rattle.post_queue.proofs.index.has_way.Goals as goal

pub returns-then-len : goal.returns-then-len
returns-then-len c = λ same.
    let ps = c.args.places.now.items in
    let full : length (kept_in ps) ≡ length ps = omega (arith, c.requires.counted, c.if-len.true, c.len.ensures, c.args.places.now.ok.0) in
    full_below c.args.number ps full c.requires.above
