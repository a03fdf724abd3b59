use Rattle.std.proofs.Common.{sym, ap, ◌∙◌, subst}
use Rattle.turn_lock.specs.Seats.{Looks, Sitting, sitting}
use Rattle.turn_lock.proofs.Results.{looks_made}
use Rattle.turn_lock.proofs.lock.TurnLock.run_if.Goals as goal

pub returns-clause-looks : goal.returns-clause-looks
returns-clause-looks g c = let j = g.S.Journaled in let o = c.self.inside.board.shared.key.state.value in
    let did = looks_made j.history j.setting j.lawful j.number o c.seat.inside.place c.take-state.new.place c.take-state.result c.take-state.ensures _ c.make.new.place c.args.call _ c.make.result c.make.ensures.answered c.make.ensures.no_memory
    (c.requires.own ∙ sym (ap (λ z. z.number) c.seat.view_is)) in
    subst (λ (z : g.row.S.Denot × Sitting g.row.S.Denot g.row.S-Call.Denot g.row.S-Answer.Denot). Looks j.history j.setting j.lawful j.number z.0 z.1 (sitting c.make.new.place)) (λ i. ((c.self.view_is i).opening, c.seat.view_is i)) did
