use Rattle.std.proofs.Common.{◌≡◌, ◌<◌, ◌+◌, [], ◌∷◌, length, ap, sym, ◌∙◌, subst, refl, arith, length-append}
use Rattle.user_model.specs.declared.call.Call.TheVariants.{Status}
use Rattle.user_desk.specs.Desks.{made_by, CameTo}
use Rattle.status_board.specs.Lists.{shown}
use Rattle.status_board.specs.Owners.{HasCounted}
use Rattle.status_board.proofs.Statuses.{value_fits, number_fits, no_other, has_shown, shown_counts, has_denied, denied_counts}
use Rattle.status_board.proofs.writer.BoardWriter.publish.Goals as goal

pub overflow_cast-value : goal.overflow_cast-value
overflow_cast-value g c =
    let setup = g.M.Machine.setup c.args.desk.now.opening.machine in let past = g.M.Machine.past c.args.desk.now.opening.machine in
    let small : c.in-Value.value < 4294967296 = value_fits setup past c.args.seat.now c.call.new.seat c.in-Value.value (subst (CameTo setup past c.args.seat.now c.call.new.seat (Status 127)) c.in-Value.is c.in_ok-value.ensures.came_to) in
    omega (arith, small)

pub show-requires : goal.show-requires
show-requires g c =
    let setup = g.M.Machine.setup c.args.desk.now.opening.machine in let past = g.M.Machine.past c.args.desk.now.opening.machine in
    number_fits setup past c.args.seat.now c.call.new.seat c.in-Value.value c.in_ok-value.ensures.looked (subst (CameTo setup past c.args.seat.now c.call.new.seat (Status 127)) c.in-Value.is c.in_ok-value.ensures.came_to) c.requires.counted.0 (length c.args.self.now.list) c.requires.counted.1

pub unreachable-requires : goal.unreachable-requires
unreachable-requires g c =
    let setup = g.M.Machine.setup c.args.desk.now.opening.machine in let past = g.M.Machine.past c.args.desk.now.opening.machine in
    no_other setup past c.args.seat.now c.call.new.seat c.in_ok-value.field-0 c.in_ok-value.ensures.came_to c.in_default.not-Value c.in_default.not-Refused

pub returns-in-Value-clause-came_to : goal.returns-in-Value-clause-came_to
returns-in-Value-clause-came_to g c =
    let setup = g.M.Machine.setup c.args.desk.now.opening.machine in let past = g.M.Machine.past c.args.desk.now.opening.machine in
    has_shown setup past c.args.seat.now c.call.new.seat c.in-Value.value (subst (CameTo setup past c.args.seat.now c.call.new.seat (Status 127)) c.in-Value.is c.in_ok-value.ensures.came_to) c.args.self.now.list c.show.new.self.list c.show.result c.show.ensures.number (ap (λ w. w.list) c.show.ensures.writer)

pub returns-in-Value-clause-counted : goal.returns-in-Value-clause-counted
returns-in-Value-clause-counted g c start has =
    let setup = g.M.Machine.setup c.args.desk.now.opening.machine in let past = g.M.Machine.past c.args.desk.now.opening.machine in
    let before = c.args.self.now.list in
    let longer : length before + 1 ≡ length c.show.new.self.list = sym (ap (λ w. length w.list) c.show.ensures.writer ∙ length-append before (shown c.show.result c.in-Value.value ∷ [])) in
    subst (HasCounted start (made_by c.call.new.seat)) longer (shown_counts setup past c.args.seat.now c.call.new.seat c.in-Value.value (subst (CameTo setup past c.args.seat.now c.call.new.seat (Status 127)) c.in-Value.is c.in_ok-value.ensures.came_to) start (length before) has)

pub returns-in-Refused-clause-came_to : goal.returns-in-Refused-clause-came_to
returns-in-Refused-clause-came_to g c =
    let setup = g.M.Machine.setup c.args.desk.now.opening.machine in let past = g.M.Machine.past c.args.desk.now.opening.machine in
    has_denied setup past c.args.seat.now c.call.new.seat c.in-Refused.code (subst (CameTo setup past c.args.seat.now c.call.new.seat (Status 127)) c.in-Refused.is c.in_ok-value.ensures.came_to) c.args.self.now.list c.args.self.now.list refl

pub returns-in-Refused-clause-counted : goal.returns-in-Refused-clause-counted
returns-in-Refused-clause-counted g c start has =
    let setup = g.M.Machine.setup c.args.desk.now.opening.machine in let past = g.M.Machine.past c.args.desk.now.opening.machine in
    denied_counts setup past c.args.seat.now c.call.new.seat c.in-Refused.code (subst (CameTo setup past c.args.seat.now c.call.new.seat (Status 127)) c.in-Refused.is c.in_ok-value.ensures.came_to) start (length c.args.self.now.list) has
