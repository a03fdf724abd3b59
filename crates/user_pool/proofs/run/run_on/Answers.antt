use Rattle.std.proofs.Common.{List, sym, subst}
use Rattle.user_pool.specs.declared.seat.Seat.{Seat}
use Rattle.user_pool.specs.Seats.{SeatsCount}
use Rattle.user_pool.proofs.Seating.{seats_count}
use Rattle.user_pool.proofs.NeverFull.{has_room}
use Rattle.user_pool.proofs.run.run_on.Goals as goal

pub turn-requires-clause-room : goal.turn-requires-clause-room
turn-requires-clause-room g c = has_room c.args.script.now (g.M.Machine.past c.loop-chosen.machine) c.requires.few c.requires.small c.loop-chosen.invariant.run

pub choose-requires-clause-seats : goal.choose-requires-clause-seats
choose-requires-clause-seats g c =
    subst (λ (xs : List Seat). SeatsCount c.args.script.now (g.M.Machine.past c.loop-chosen.machine) xs) (sym c.deref.ensures.value) (seats_count c.args.script.now c.in_ok-program.program (g.M.Machine.past c.loop-chosen.machine) c.loop-chosen.seats.items c.loop-chosen.invariant.seats)

pub end_of-requires-clause-seats : goal.end_of-requires-clause-seats
end_of-requires-clause-seats g c =
    subst (λ (xs : List Seat). SeatsCount c.args.script.now (g.M.Machine.past c.loop-chosen.machine) xs) (sym c.deref-2.ensures.value) (seats_count c.args.script.now c.in_ok-program.program (g.M.Machine.past c.loop-chosen.machine) c.loop-chosen.seats.items c.loop-chosen.invariant.seats)
