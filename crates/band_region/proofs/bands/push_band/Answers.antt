use Rattle.std.proofs.Common.{FitsSigned, ◌∙◌, ◌<ℤ◌, get_or, w32, pos, refl, arith}
use Rattle.std.proofs.lemmas.Int.{ints, to_z-of_z}
use Rattle.band_region.specs.declared.columns.Span.{Span}
use Rattle.band_region.proofs.Geometry.{near_fits, box_same}
use Rattle.band_region.proofs.Rows.{grown-start, grown-more, grown-end, above_at}
use Rattle.band_region.proofs.bands.push_band.Goals as goal

abbrev none : Span
none = record { l = pos 0; r = pos 0 }

pub known_rect-requires : goal.known_rect-requires
known_rect-requires c =
    let span = get_or c.args.row.now c.loop-span.span-index none in
    let good = c.requires.row.good c.loop-span.span-index none c.loop-span-test.true in
    let down : c.args.top <ℤ c.args.bottom = c.requires.down c.loop-span.span-index none c.loop-span-test.true in
    let across : span.l <ℤ span.r = good.across in
    let left = good.left_near in
    let right = good.right_near in
    let fl : FitsSigned w32 span.l = near_fits span.l (omega (arith, ints)) (omega (arith, ints)) in
    let fr : FitsSigned w32 span.r = near_fits span.r (omega (arith, ints)) (omega (arith, ints)) in
    record { across = omega (arith, ints); down = omega (arith, ints); left_near = omega (arith, ints); top_near = omega (arith, ints); right_near = omega (arith, ints); bottom_near = omega (arith, ints) }

pub loop-span-init : goal.loop-span-init
loop-span-init c = grown-start _ _ _ _ (above_at _ c.args.top _ (omega (arith, ints)) c.requires.above)

pub loop-span-preserved : goal.loop-span-preserved
loop-span-preserved c =
    let span = get_or c.args.row.now c.loop-span.span-index none in
    let good = c.requires.row.good c.loop-span.span-index none c.loop-span-test.true in
    let down : c.args.top <ℤ c.args.bottom = c.requires.down c.loop-span.span-index none c.loop-span-test.true in
    let across : span.l <ℤ span.r = good.across in
    let left = good.left_near in
    let right = good.right_near in
    let fl : FitsSigned w32 span.l = near_fits span.l (omega (arith, ints)) (omega (arith, ints)) in
    let fr : FitsSigned w32 span.r = near_fits span.r (omega (arith, ints)) (omega (arith, ints)) in
    let e = c.known_rect.ensures ∙ box_same (to_z-of_z w32 span.l fl) refl (to_z-of_z w32 span.r fr) refl in
    grown-more _ _ _ _ _ _ c.loop-span.span-index none _ c.loop-span-test.true c.requires.row (omega (arith, ints)) e c.in_ok-push.ensures.items c.loop-span.invariant

pub returns : goal.returns
returns c = grown-end _ _ _ _ _ _ _ c.loop-span.span-index c.loop-span-test.false (omega (arith, ints)) (omega (arith, ints)) c.loop-span.invariant
