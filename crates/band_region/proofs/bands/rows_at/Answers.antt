use Rattle.std.proofs.Common.{refl, arith}
use Rattle.std.proofs.lemmas.Int.{ints, clamps}
use Rattle.band_region.proofs.Rows.{seen-start, seen-more, rows_here, rows_all, ahead_at, seen_at}
use Rattle.band_region.proofs.bands.rows_at.Goals as goal

pub loop-count-init : goal.loop-count-init
loop-count-init c = seen-start _ _ _ (omega (arith, ints)) refl

pub returns-then-t-y : goal.returns-then-t-y
returns-then-t-y c = rows_here _ _ _ c.loop-count.count _ _ c.loop-count-test.true c.index-rects-count.is c.requires.apart c.requires.ahead (seen_at _ _ _ _ _ (omega (arith, ints)) c.loop-count.invariant) (omega (arith, ints)) refl (omega (arith, ints, clamps)) (omega (arith, ints)) (omega (arith, ints))

pub loop-count-preserved : goal.loop-count-preserved
loop-count-preserved c = seen-more _ _ _ _ c.loop-count.count _ c.loop-count-test.true c.index-rects-count.is c.requires.apart (ahead_at _ c.args.y _ (omega (arith, ints)) c.requires.ahead) (omega (arith, ints)) (omega (arith, ints)) c.loop-count.invariant

pub returns : goal.returns
returns c = rows_all _ _ _ c.loop-count.count _ c.loop-count-test.false c.loop-count.auto.count-end c.requires.apart c.requires.ahead (seen_at _ _ _ _ _ (omega (arith, ints)) c.loop-count.invariant) refl refl
