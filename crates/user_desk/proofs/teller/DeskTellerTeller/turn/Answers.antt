use Rattle.std.proofs.Common.{sym, ◌∙◌}
use Rattle.user_desk.proofs.Tellers.{if_came}
use Rattle.user_desk.proofs.teller.DeskTellerTeller.turn.Goals as goal

pub returns-clause-told : goal.returns-clause-told
returns-clause-told g c =
    let desk = c.args.self.now.desk.now in
    if_came (g.M.Machine.setup desk.opening.machine) (g.M.Machine.past desk.opening.machine) c.args.self.now.seat.now c.turn.new.seat c.args._who c.args.call (c.turn.ensures.same.2 ∙ sym c.requires.1) c.turn.result c.turn.ensures.came_to
