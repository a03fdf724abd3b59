use Rattle.std.proofs.Common.{arith, rules, tests}
use Rattle.dirty_windows.proofs.Cutting.{clean_all, clean_more, not_clean}
use Rattle.dirty_windows.proofs.entries.are_clean.Goals as goal

pub returns-then-not-is_empty : goal.returns-then-not-is_empty
returns-then-not-is_empty c = not_clean c.args.entries.now c.loop-d.d-index c.d-item.result c.is_empty.result c.loop-d-test.true c.d-item.is c.is_empty.ensures (search (rules, tests))

pub loop-d-preserved : goal.loop-d-preserved
loop-d-preserved c = clean_more c.args.entries.now c.loop-d.d-index c.d-item.result c.loop-d-test.true c.d-item.is c.loop-d.invariant (c.is_empty.ensures.0 (search (rules, tests)))

pub returns : goal.returns
returns c = clean_all c.args.entries.now c.loop-d.d-index (omega arith) c.loop-d.invariant
