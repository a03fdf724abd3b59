use Rattle.std.proofs.Common.{◌≡◌, arith, w32, FitsSigned}
use Rattle.std.specs.Int.{int_max, int_min}
use Rattle.std.proofs.lemmas.Int.{ints, clamps, to_z-of_z}
use Rattle.band_region.proofs.Geometry.{in_order, joined_is}
use Rattle.band_region.proofs.pieces.joined.Goals as goal

pub known_rect-requires-clause-left_near : goal.known_rect-requires-clause-left_near
known_rect-requires-clause-left_near c = omega (arith, ints, clamps)

pub known_rect-requires-clause-top_near : goal.known_rect-requires-clause-top_near
known_rect-requires-clause-top_near c = omega (arith, ints, clamps)

pub known_rect-requires-clause-across : goal.known_rect-requires-clause-across
known_rect-requires-clause-across c = in_order _ _ _ _ _ _ c.min.type_inv c.l.type_inv c.r.type_inv c.max.type_inv c.min.ensures.self_bound c.l.ensures c.args.a.across c.r.ensures c.max.ensures.self_bound

pub known_rect-requires-clause-down : goal.known_rect-requires-clause-down
known_rect-requires-clause-down c = in_order _ _ _ _ _ _ c.min-2.type_inv c.t.type_inv c.b.type_inv c.max-2.type_inv c.min-2.ensures.self_bound c.t.ensures c.args.a.down c.b.ensures c.max-2.ensures.self_bound

pub known_rect-requires-clause-right_near : goal.known_rect-requires-clause-right_near
known_rect-requires-clause-right_near c = omega (arith, ints, clamps)

pub known_rect-requires-clause-bottom_near : goal.known_rect-requires-clause-bottom_near
known_rect-requires-clause-bottom_near c = omega (arith, ints, clamps)

pub returns : goal.returns
returns c =
    let l : c.min.result ≡ int_min c.args.a.l c.args.b.l = grind (arith, to_z-of_z) in
    let t : c.min-2.result ≡ int_min c.args.a.t c.args.b.t = grind (arith, to_z-of_z) in
    let r : c.max.result ≡ int_max c.args.a.r c.args.b.r = grind (arith, to_z-of_z) in
    let b : c.max-2.result ≡ int_max c.args.a.b c.args.b.b = grind (arith, to_z-of_z) in
    let sl : FitsSigned w32 c.min.result = record { sfits = c.min.type_inv } in
    let st : FitsSigned w32 c.min-2.result = record { sfits = c.min-2.type_inv } in
    let sr : FitsSigned w32 c.max.result = record { sfits = c.max.type_inv } in
    let sb : FitsSigned w32 c.max-2.result = record { sfits = c.max-2.type_inv } in
    joined_is _ _ _ _ _ _ _ l t r b (simp to_z-of_z at c.known_rect.ensures)
