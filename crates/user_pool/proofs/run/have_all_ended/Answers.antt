use Rattle.std.proofs.Common.{sym, ap, ◌∙◌}
use Rattle.user_pool.specs.declared.seat.Seat.{Seat}
use Rattle.user_pool.proofs.Seating.{someone_left}
use Rattle.user_pool.proofs.run.have_all_ended.Goals as goal

pub returns-then-not-seat : goal.returns-then-not-seat
returns-then-not-seat g c = sym (someone_left c.args.script.now (g.M.Machine.past c.args.machine.now) c.args.seats.now c.loop-seat.seat-index c.seat-item.result c.requires.seats c.loop-seat.invariant c.loop-seat-test.true (sym (ap (λ (x : Seat). x.ended) c.seat-item.is) ∙ c.if-not-seat.true))
