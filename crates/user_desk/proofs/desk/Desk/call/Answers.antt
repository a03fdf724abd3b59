use Rattle.std.proofs.Common.{sym, ap, ◌∙◌, subst, arith}
use Rattle.std.specs.Prelude.{IfOk}
use Rattle.user_desk.specs.declared.shared.Shared.{Shared}
use Rattle.user_desk.specs.Desks.{thread, HasLooked, CameTo}
use Rattle.user_desk.proofs.Seats.{has_looked, if_came_to}
use Rattle.user_desk.proofs.desk.Desk.call.Goals as goal

pub overflow_cast-who : goal.overflow_cast-who
overflow_cast-who g c = let few = c.self.invariant in let low = c.requires.1 in let seats = ap (λ l. l.seats) c.self.view_is in omega (arith, c.number.ensures, few, low, seats)

pub returns-clause-looked : goal.returns-clause-looked
returns-clause-looked g c =
    subst (λ o. HasLooked (g.M.Machine.setup o.machine) (g.M.Machine.past o.machine) c.args.seat.now c.run-answer.new.seat) (ap (λ l. l.opening) c.self.view_is)
    (has_looked (λ s. g.M.Machine.setup s.machine) (λ s. g.M.Machine.past s.machine) c.self.inside.lock.opening c.args.seat.now c.run-answer.new.seat c.run-answer.ensures.looks)

pub returns-clause-came_to : goal.returns-clause-came_to
returns-clause-came_to g c =
    let setup = λ (s : Shared g.row.M.Denot). g.M.Machine.setup s.machine in
    let past = λ (s : Shared g.row.M.Denot). g.M.Machine.past s.machine in
    let o = c.self.inside.lock.opening in
    let has = has_looked setup past o c.args.seat.now c.run-answer.new.seat c.run-answer.ensures.looks in
    subst (λ o. IfOk c.run-answer.result (λ answer. CameTo (g.M.Machine.setup o.machine) (g.M.Machine.past o.machine) c.args.seat.now c.run-answer.new.seat c.args.call answer)) (ap (λ l. l.opening) c.self.view_is)
    (if_came_to setup past o c.args.seat.now c.run-answer.new.seat (thread c.number.result) c.args.call (ap thread (c.number.ensures ∙ sym c.run-answer.ensures.same.2)) has c.run-answer.result c.run-answer.ensures.answered)
