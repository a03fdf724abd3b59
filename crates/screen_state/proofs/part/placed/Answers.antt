use Rattle.std.proofs.Common.{◌≡◌, ◌∙◌, w32, arith, rules}
use Rattle.std.specs.Prelude.{◌+ℤ◌}
use Rattle.std.proofs.lemmas.Int.{ints, to_z-of_z}
use mir.Val.{of_z, to_z}
use Rattle.window_state.proofs.Outcomes.{fine_rect}
use Rattle.screen_state.proofs.Parts.{are_edges, moved_edges}
use Rattle.screen_state.proofs.part.placed.Goals as goal

pub unwrap-requires : goal.unwrap-requires
unwrap-requires c =
    let place = c.args.place in
    let o = c.args.corner in
    let e = are_edges place.l place.t place.r place.b c.requires.place in
    let l : c.moved-l.result ≡ place.l +ℤ o.x = grind (arith, to_z-of_z) in
    let t : c.moved-t.result ≡ place.t +ℤ o.y = grind (arith, to_z-of_z) in
    let r : c.moved-r.result ≡ place.r +ℤ o.x = grind (arith, to_z-of_z) in
    let b : c.moved-b.result ≡ place.b +ℤ o.y = grind (arith, to_z-of_z) in
    fine_rect c.rect.result (to_z w32 (of_z w32 c.moved-l.result)) (to_z w32 (of_z w32 c.moved-t.result)) (to_z w32 (of_z w32 c.moved-r.result)) (to_z w32 (of_z w32 c.moved-b.result)) (place.l +ℤ o.x) (place.t +ℤ o.y) (place.r +ℤ o.x) (place.b +ℤ o.y) c.rect.ensures.err
    (to_z-of_z w32 _ c.moved-l.ensures.fits ∙ l) (to_z-of_z w32 _ c.moved-t.ensures.fits ∙ t) (to_z-of_z w32 _ c.moved-r.ensures.fits ∙ r) (to_z-of_z w32 _ c.moved-b.ensures.fits ∙ b)
    (moved_edges place.l place.t place.r place.b o c.requires.place c.requires.corner)

pub moved-r-requires-clause-low : goal.moved-r-requires-clause-low
moved-r-requires-clause-low c = let e = are_edges c.args.place.l c.args.place.t c.args.place.r c.args.place.b c.requires.place in omega (arith, ints, e.left, e.across, e.right)

pub moved-r-requires-clause-high : goal.moved-r-requires-clause-high
moved-r-requires-clause-high c = let e = are_edges c.args.place.l c.args.place.t c.args.place.r c.args.place.b c.requires.place in omega (arith, ints, e.left, e.across, e.right)

pub moved-b-requires-clause-low : goal.moved-b-requires-clause-low
moved-b-requires-clause-low c = let e = are_edges c.args.place.l c.args.place.t c.args.place.r c.args.place.b c.requires.place in omega (arith, ints, e.top, e.down, e.bottom)

pub moved-b-requires-clause-high : goal.moved-b-requires-clause-high
moved-b-requires-clause-high c = let e = are_edges c.args.place.l c.args.place.t c.args.place.r c.args.place.b c.requires.place in omega (arith, ints, e.top, e.down, e.bottom)

pub moved-l-requires-clause-low : goal.moved-l-requires-clause-low
moved-l-requires-clause-low c = search rules

pub moved-l-requires-clause-high : goal.moved-l-requires-clause-high
moved-l-requires-clause-high c = search rules

pub moved-l-requires-clause-near_low : goal.moved-l-requires-clause-near_low
moved-l-requires-clause-near_low c = search rules

pub moved-l-requires-clause-near_high : goal.moved-l-requires-clause-near_high
moved-l-requires-clause-near_high c = search rules

pub moved-t-requires-clause-low : goal.moved-t-requires-clause-low
moved-t-requires-clause-low c = search rules

pub moved-t-requires-clause-high : goal.moved-t-requires-clause-high
moved-t-requires-clause-high c = search rules

pub moved-t-requires-clause-near_low : goal.moved-t-requires-clause-near_low
moved-t-requires-clause-near_low c = search rules

pub moved-t-requires-clause-near_high : goal.moved-t-requires-clause-near_high
moved-t-requires-clause-near_high c = search rules

pub moved-r-requires-clause-near_low : goal.moved-r-requires-clause-near_low
moved-r-requires-clause-near_low c = search rules

pub moved-r-requires-clause-near_high : goal.moved-r-requires-clause-near_high
moved-r-requires-clause-near_high c = search rules

pub moved-b-requires-clause-near_low : goal.moved-b-requires-clause-near_low
moved-b-requires-clause-near_low c = search rules

pub moved-b-requires-clause-near_high : goal.moved-b-requires-clause-near_high
moved-b-requires-clause-near_high c = search rules

pub returns : goal.returns
returns c = search rules
