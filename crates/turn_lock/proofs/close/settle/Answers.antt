use Rattle.std.proofs.Common.{sym, refl, ap, ◌∙◌, subst}
use Rattle.std.specs.Option.{IsSome}
use Rattle.turn_lock.specs.Seats.{Ends}
use Rattle.turn_lock.proofs.RuleKept.{state_or}
use Rattle.turn_lock.proofs.Closed.{settled}
use Rattle.turn_lock.proofs.close.settle.Goals as goal

pub unwrap-state-requires : goal.unwrap-state-requires
unwrap-state-requires g c = let j = g.S.Journaled in let key = c.args.board.shared.key in
    let t = settled j.history j.setting j.lawful j.number key.state.value key.seats c.args.place.id c.args.place.me.0 c.requires.all.0 c.requires.all.1 _ _ c.close_with-closed.ensures.values.2 c.take.result c.take.ensures.value in
    subst (λ o. IsSome o) (sym t.1) refl

pub returns : goal.returns
returns g c = let j = g.S.Journaled in let key = c.args.board.shared.key in
    let t = settled j.history j.setting j.lawful j.number key.state.value key.seats c.args.place.id c.args.place.me.0 c.requires.all.0 c.requires.all.1 _ _ c.close_with-closed.ensures.values.2 c.take.result c.take.ensures.value in
    subst (λ x. Ends j.history j.setting j.lawful j.number key.state.value key.seats c.args.place.me.0 x) (ap (state_or t.0) (sym t.1 ∙ c.unwrap-state.ensures)) t.2
