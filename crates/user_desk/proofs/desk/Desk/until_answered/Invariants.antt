use Rattle.std.proofs.Common.{◌≡◌, ◌∷◌}
use Rattle.user_model.specs.declared.entry.Answer.TheVariants.{Wait}
use Rattle.user_model.specs.Machines.{entry_of}
use Rattle.turn_lock.specs.Seats.{IsSameSeat}
use Rattle.user_desk.specs.Desks.{thread, made_by, Remembers}
use Rattle.user_desk.proofs.desk.Desk.until_answered.Given as goal

abbrev pub invariant-loop : goal.invariant-loop
invariant-loop g l = record {
  same : IsSameSeat l.fn.seat l.seat;
  remembers : Remembers (g.M.Machine.setup l.self.opening.machine) (g.M.Machine.past l.self.opening.machine) l.fn.seat l.seat;
  waited : made_by l.seat ≡ entry_of (thread l.fn.seat.number) l.call Wait ∷ made_by l.fn.seat;
}
