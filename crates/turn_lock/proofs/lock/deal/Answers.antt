use Rattle.std.proofs.Common.{arith, ◌≡◌, ◌<◌, ap, ◌∙◌, refl}
use Rattle.turn_lock.proofs.RuleKept.{splits}
use Rattle.turn_lock.proofs.Results.{rest_by}
use Rattle.turn_lock.proofs.lock.deal.Goals as goal

pub split_seat-place-requires : goal.split_seat-place-requires
split_seat-place-requires g c = let j = g.S.Journaled in let held = c.loop-number.invariant in let key = c.args.top.now.key in
    let made : c.loop-number.first.me.0.made ≡ c.loop-number.number = ap (λ m. m.0.made) held.3 in let low : c.loop-number.number < c.args.seats = c.loop-number-test.true in
    let all : key.seats ≡ c.args.seats = c.requires.table.2 in
    (held.2, c.requires.table.1, splits j.history j.setting j.lawful j.number key.state.value key.seats c.loop-number.first.id c.loop-number.first.me.0 (ap (λ m. m.0.stage) held.3) (ap (λ m. m.0.number) held.3) (omega arith))

pub of-requires : goal.of-requires
of-requires g c = (rest_by c.split_seat-place.result _ c.split_seat-place.ensures.4 refl refl, ap (λ m. m.0.number) c.split_seat-place.ensures.4 ∙ ap (λ m. m.0.made) c.loop-number.invariant.3)

pub of-requires-2 : goal.of-requires-2
of-requires-2 g c = (rest_by c.loop-number.first _ c.loop-number.invariant.3 refl refl, ap (λ m. m.0.number) c.loop-number.invariant.3)
