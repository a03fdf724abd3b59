use Rattle.std.proofs.Common.{ap, arith}
use Rattle.std.proofs.lemmas.Int.{ints}
use Rattle.win_num.specs.declared.shapes.Point.{Point}
use Rattle.window_state.proofs.BoxLaws.{is_origin}
use Rattle.window_state.proofs.boxes.origin_of.Goals as goal

pub returns : goal.returns
returns c =
    let corner = c.corner_within-corner.ensures.corner in
    let x = ap (λ (p : Point). p.x) corner in
    let y = ap (λ (p : Point). p.y) corner in
    is_origin c.args.tree.now c.args.w.0 _
    (λ low high. let told = c.narrow.ensures (omega (arith, ints, x, low)) (omega (arith, ints, x, high)) in omega (arith, ints, told, x, low, high))
    (λ low high. let told = c.narrow-2.ensures (omega (arith, ints, y, low)) (omega (arith, ints, y, high)) in omega (arith, ints, told, y, low, high))
