use Rattle.std.proofs.Common.{arith}
use Rattle.input_queue.proofs.Changing.{clear_done, none_cleared}
use Rattle.input_queue.proofs.rows.clear.Goals as goal

pub returns-then-home-lt-HOMES-clause-kept : goal.returns-then-home-lt-HOMES-clause-kept
returns-then-home-lt-HOMES-clause-kept c = (clear_done c.args.rows.now c.from-home.result c.args.home c.clear.new.self c.requires c.from-home.ensures (omega (arith, c.if-home-lt-HOMES.true)) c.clear.ensures).kept

pub returns-then-home-lt-HOMES-clause-left : goal.returns-then-home-lt-HOMES-clause-left
returns-then-home-lt-HOMES-clause-left c = (clear_done c.args.rows.now c.from-home.result c.args.home c.clear.new.self c.requires c.from-home.ensures (omega (arith, c.if-home-lt-HOMES.true)) c.clear.ensures).is

pub returns-else-home-lt-HOMES-clause-left : goal.returns-else-home-lt-HOMES-clause-left
returns-else-home-lt-HOMES-clause-left c = none_cleared c.args.rows.now c.args.home c.requires (omega (arith, c.from-home.ensures, c.if-home-lt-HOMES.false))
