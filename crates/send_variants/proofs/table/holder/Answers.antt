use Rattle.std.proofs.Common.{arith}
use Rattle.send_variants.proofs.Tables.{none_named}
use Rattle.send_variants.proofs.table.holder.Goals as goal

pub returns-clause-none : goal.returns-clause-none
returns-clause-none c = none_named c.args.slots.now.items c.args.send.0 c.args.ends.now.items (λ k lt. c.loop-i.invariant k (omega (arith, lt, c.loop-i-test.false, c.len-i-end.ensures, c.args.ends.now.ok)))
