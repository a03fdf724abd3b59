use Rattle.std.proofs.Common.{refl, sym, ap, ◌∙◌, to_z, of_z, w32, arith}
use Rattle.std.specs.Prelude.{pos}
use Rattle.std.proofs.lemmas.Int.{ints, clamps}
use Rattle.band_region.proofs.Geometry.{nearer}
use Rattle.band_region.proofs.Spans.{added_at}
use Rattle.band_region.proofs.RowSweep.{row_start, row_kept, row_skipped, row_done, spans_at}
use Rattle.band_region.proofs.columns.mixed_row.Goals as goal
use Rattle.band_region.proofs.columns.mixed_row.Goals.{then-keeps+in_ok-push_span, else-keeps}

pub loop-x-init : goal.loop-x-init
loop-x-init c = row_start _ _ _ _ _ _ _ c.new-spans.ensures.items refl c.right_of-ones.ensures c.right_of-others.ensures

pub push_span-requires-clause-across : goal.push_span-requires-clause-across
push_span-requires-clause-across c = let on = c.stretch_at-one.ensures.on in let on_too = c.stretch_at-other.ensures.on in omega (arith, ints, clamps)

pub loop-x-preserved : goal.loop-x-preserved
loop-x-preserved c =
    elim c.if-keeps.branch [
      | then-keeps+in_ok-push_span w ↦ row_kept _ _ _ _ _ _ _ c.stretch_at-one.result c.stretch_at-other.result _ _ _ _ c.loop-x.invariant c.stretch_at-one.ensures c.stretch_at-other.ensures (omega (arith, ints)) (omega (arith, ints)) (omega (arith, ints, clamps)) (sym c.keeps.ensures ∙ w.if-keeps.true) (added_at (ap (λ v. v.items) w.spans-is) w.in_ok-push_span.ensures) c.right_of-ones-in-loop-x.ensures c.right_of-others-in-loop-x.ensures
      | else-keeps w ↦ spans_at (ap (λ v. v.items) w.spans-is) (row_skipped _ _ _ _ _ _ _ c.stretch_at-one.result c.stretch_at-other.result _ _ _ c.loop-x.invariant c.stretch_at-one.ensures c.stretch_at-other.ensures (omega (arith, ints)) (omega (arith, ints)) (omega (arith, ints, clamps)) (sym c.keeps.ensures ∙ w.if-keeps.false) c.right_of-ones-in-loop-x.ensures c.right_of-others-in-loop-x.ensures)
    ]

pub loop-x-smaller : goal.loop-x-smaller
loop-x-smaller c = nearer (pos 8388608) (to_z w32 c.loop-x.x-bits) (to_z w32 (of_z w32 c.min-end.result)) (omega (arith, ints, clamps)) (omega (arith, ints))

pub returns : goal.returns
returns c = row_done _ _ _ _ _ _ _ (omega (arith, ints)) c.loop-x.invariant
