use Rattle.std.proofs.Common.{◌<◌, List, length, refl, sym, ap, subst, ◌<ℤ◌, All, to_z, of_z, w32, arith}
use Rattle.std.specs.Prelude.{pos}
use Rattle.std.proofs.lemmas.Int.{ints, clamps}
use Rattle.band_region.specs.declared.columns.Span.{Span}
use Rattle.band_region.specs.Columns.{IsRow}
use Rattle.band_region.proofs.Geometry.{nearer}
use Rattle.band_region.proofs.BandSweep.{slab_of, sweep_start, sweep_on, sweep_turn, sweep_end, swept_at, added_at, down_to}
use Rattle.band_region.proofs.Unique.{same_from_ne, other_from_ne}
use Rattle.band_region.proofs.bands.mixed.Goals as goal
use Rattle.band_region.proofs.bands.mixed.Goals.{then-ne+in_ok-push_band, else-ne}

pub loop-y-init : goal.loop-y-init
loop-y-init c = sweep_start _ _ _ _ _ _ _ _ _ c.new-rects.ensures.items c.new-row.ensures.items refl refl c.below-ones.ensures c.below-others.ensures

pub loop-y-preserved : goal.loop-y-preserved
loop-y-preserved c =
    let w = c.loop-y.invariant in
    let s = slab_of _ _ _ _ _ c.in_ok-next.next.items (to_z w32 c.loop-y.y-bits) (to_z w32 (of_z w32 c.min-y.result)) c.rows_at-one.result c.rows_at-other.result _ _ w.left w.left_too c.rows_at-one.ensures c.rows_at-other.ensures refl refl c.in_ok-next.ensures (omega (arith, ints, clamps)) (omega (arith, ints)) (omega (arith, ints)) in
    elim c.if-ne.branch [
      | then-ne+in_ok-push_band v ↦ swept_at (ap (λ r. r.items) v.rects-is) v.top-is (sweep_turn _ _ _ _ _ _ _ _ _ _ _ _ _ _ w s (other_from_ne _ _ _ c.ne.ensures v.if-ne.true) (added_at v.as_slice.ensures.value v.in_ok-push_band.ensures) c.below-ones-in-loop-y.ensures c.below-others-in-loop-y.ensures)
      | else-ne v ↦ swept_at (ap (λ r. r.items) v.rects-is) v.top-is (sweep_on _ _ _ _ _ _ _ _ _ _ _ _ _ w s (same_from_ne _ _ _ c.ne.ensures v.if-ne.false) c.below-ones-in-loop-y.ensures c.below-others-in-loop-y.ensures)
    ]

pub loop-y-smaller : goal.loop-y-smaller
loop-y-smaller c = nearer (pos 8388608) (to_z w32 c.loop-y.y-bits) (to_z w32 (of_z w32 c.min-y.result)) (omega (arith, ints, clamps)) (omega (arith, ints))

pub push_band-requires : goal.push_band-requires
push_band-requires c =
    let w = c.loop-y.invariant in
    record { row = subst IsRow (sym c.as_slice.ensures.value) w.spans; down = subst (λ ss. All (λ (_ : Span). to_z w32 c.loop-y.top-bits <ℤ to_z w32 c.loop-y.y-bits) ss) (sym c.as_slice.ensures.value) w.down; top_near = w.from; bottom_near = w.to; above = w.above }

pub push_band-requires-2 : goal.push_band-requires-2
push_band-requires-2 c =
    let w = c.loop-y.invariant in
    record { row = subst IsRow (sym c.as_slice-2.ensures.value) w.spans; down = λ k d h. down_to w (omega (arith, ints)) k d (subst (λ (ss : List Span). k < length ss) c.as_slice-2.ensures.value h); top_near = w.from; bottom_near = omega (arith, ints); above = w.above }

pub returns : goal.returns
returns c = sweep_end _ _ _ _ _ _ _ _ _ _ (omega (arith, ints)) c.loop-y.invariant (added_at c.as_slice-2.ensures.value c.in_ok-push_band-2.ensures)
