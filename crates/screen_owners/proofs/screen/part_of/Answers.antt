use Rattle.std.proofs.Common.{◌≡◌, ◌<◌, ◌∙◌, arith}
use Rattle.std.specs.Prelude.{◌+ℤ◌}
use Rattle.std.proofs.lemmas.Int.{ints, to_z-of_z}
use Rattle.screen_owners.proofs.Edges.{clamped, part_edges, part_has_pixels, same_edges}
use Rattle.screen_owners.proofs.screen.part_of.Goals as goal

pub known_rect-requires : goal.known_rect-requires
known_rect-requires c =
    let width : c.args.screen.width < 65536 = omega arith in
    let height : c.args.screen.height < 65536 = omega arith in
    let l : c.edge_on_screen-l.result ≡ clamped (c.args.corner.x +ℤ c.args.place.l) c.args.screen.width = grind (arith, to_z-of_z) in
    let t : c.edge_on_screen-t.result ≡ clamped (c.args.corner.y +ℤ c.args.place.t) c.args.screen.height = grind (arith, to_z-of_z) in
    let r : c.edge_on_screen-r.result ≡ clamped (c.args.corner.x +ℤ c.args.place.r) c.args.screen.width = grind (arith, to_z-of_z) in
    let b : c.edge_on_screen-b.result ≡ clamped (c.args.corner.y +ℤ c.args.place.b) c.args.screen.height = grind (arith, to_z-of_z) in
    let e = part_edges c.args.screen.width c.args.screen.height c.args.corner c.args.place _ _ _ _ width height l t r b in
    record {
      across = omega (arith, ints, e.across);
      down = omega (arith, ints, e.down);
      left_near = omega (arith, ints, e.left_near);
      top_near = omega (arith, ints, e.top_near);
      right_near = omega (arith, ints, e.right_near);
      bottom_near = omega (arith, ints, e.bottom_near);
    }

pub returns : goal.returns
returns c =
    let width : c.args.screen.width < 65536 = omega arith in
    let height : c.args.screen.height < 65536 = omega arith in
    let l : c.edge_on_screen-l.result ≡ clamped (c.args.corner.x +ℤ c.args.place.l) c.args.screen.width = grind (arith, to_z-of_z) in
    let t : c.edge_on_screen-t.result ≡ clamped (c.args.corner.y +ℤ c.args.place.t) c.args.screen.height = grind (arith, to_z-of_z) in
    let r : c.edge_on_screen-r.result ≡ clamped (c.args.corner.x +ℤ c.args.place.r) c.args.screen.width = grind (arith, to_z-of_z) in
    let b : c.edge_on_screen-b.result ≡ clamped (c.args.corner.y +ℤ c.args.place.b) c.args.screen.height = grind (arith, to_z-of_z) in
    part_has_pixels c.args.screen.width c.args.screen.height c.args.corner c.args.place c.known_rect.result (grind (arith, to_z-of_z) ∙ same_edges _ _ _ _ _ _ _ _ l t r b)
