use Rattle.std.proofs.Common.{refl, arith}
use Rattle.std.proofs.lemmas.Int.{ints}
use Rattle.band_region.proofs.Spans.{stretch_in_at, stretch_out_at}
use Rattle.band_region.proofs.columns.stretch_at.Goals as goal

pub returns-then-l-x : goal.returns-then-l-x
returns-then-l-x c = stretch_in_at _ c.in-Some.first.now c.in-Some.field-0-1.now _ _ c.in-Some.ensures.cases.0 c.requires.ahead (omega (arith, ints)) refl (omega (arith, ints))

pub returns-else-l-x : goal.returns-else-l-x
returns-else-l-x c = stretch_out_at _ c.in-Some.first.now c.in-Some.field-0-1.now _ _ c.in-Some.ensures.cases.0 c.requires.apart (omega (arith, ints)) refl (omega (arith, ints))
