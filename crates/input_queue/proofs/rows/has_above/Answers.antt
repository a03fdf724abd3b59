use Rattle.std.proofs.Common.{sym, arith}
use Rattle.std.specs.Prelude.{◌&&◌, nat_lt}
use Rattle.input_queue.specs.Rows.{merged}
use Rattle.input_queue.proofs.Above.{any_all, any_none, row_none, row_some}
use Rattle.input_queue.proofs.rows.has_above.Goals as goal

pub loop-home-init : goal.loop-home-init
loop-home-init g c = λ test tests. any_none (λ x. nat_lt c.args.number x.number && test x) (merged c.args.rows.now)

pub loop-home-preserved : goal.loop-home-preserved
loop-home-preserved g c = λ test tests. row_none (λ x. nat_lt c.args.number x.number && test x) c.args.rows.now c.loop-home.home _ _ c.requires.kept (omega arith) c.row_at.ensures (c.has_above.ensures test tests) c.if-has_above.false (c.loop-home.invariant test tests)

pub returns-then-has_above : goal.returns-then-has_above
returns-then-has_above g c = λ test tests. row_some (λ x. nat_lt c.args.number x.number && test x) c.args.rows.now c.loop-home.home _ _ c.requires.kept (omega arith) c.row_at.ensures (c.has_above.ensures test tests) c.if-has_above.true

pub returns : goal.returns
returns g c = λ test tests. sym (any_all (λ x. nat_lt c.args.number x.number && test x) c.loop-home.home (merged c.args.rows.now) (omega arith) c.requires.kept.homes (c.loop-home.invariant test tests))
