use Rattle.std.proofs.Common.{subst}
use Rattle.turn_lock.specs.Seats.{HasAllSeats}
use Rattle.user_desk.specs.declared.shared.Shared.{Shared}
use Rattle.user_desk.specs.Desks.{HasClosed}
use Rattle.user_desk.proofs.Seats.{closed}
use Rattle.user_desk.proofs.desk.Desk.close.Goals as goal

pub returns-in-Ok-clause-machine : goal.returns-in-Ok-clause-machine
returns-in-Ok-clause-machine g c =
    let setup = λ (s : Shared g.row.M.Denot). g.M.Machine.setup s.machine in
    let past = λ (s : Shared g.row.M.Denot). g.M.Machine.past s.machine in
    subst (λ l. HasClosed (setup l.opening) (past l.opening) l.seats c.args.seats.items (setup c.in-Ok.shared) (past c.in-Ok.shared)) c.self.view_is (closed setup past c.self.inside.lock c.args.seats.items c.in-Ok.shared c.in-Ok.ensures.state)

pub returns-in-Err-clause-missing : goal.returns-in-Err-clause-missing
returns-in-Err-clause-missing g c = subst (λ l. HasAllSeats l c.args.seats.items → ⊥) c.self.view_is c.in-Err.ensures.missing
