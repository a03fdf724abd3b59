use Rattle.std.proofs.Common.{ℕ, rules, arith, ◌≡◌, ◌<◌, ◌≤◌, length, sym, ap, ◌∙◌, subst, Some}
use Rattle.std.proofs.lemmas.Grind.{common_steps}
use lib.ListN.{length-map}
use Rattle.turn_lock.specs.Seats.{Ends, seat_number}
use Rattle.turn_lock.proofs.Gathering.{too_few, settles, has_all}
use Rattle.turn_lock.proofs.lock.TurnLock.close.Goals as goal

pub returns-then-len-self-clause-missing : goal.returns-then-len-self-clause-missing
returns-then-len-self-clause-missing g c all = let few = too_few c.args.self c.args.seats.items all in let n = length-map c.args.seats.items seat_number in
    let same : c.self.inside.seats ≡ c.args.self.seats = ap (λ l. l.seats) c.self.view_is in let low : length c.args.seats.items < c.self.inside.seats = first_of (search rules, grind (arith, common_steps)) in absurd (omega arith)

pub gather-place-requires-clause-seats : goal.gather-place-requires-clause-seats
gather-place-requires-clause-seats g c = let some_seat = c.self.invariant.3 in let many : c.self.inside.seats ≤ length c.args.seats.items = first_of (search rules, grind (arith, common_steps)) in let is = c.into_board-board.ensures in
    (omega arith, λ k d low. let q = c.requires k d low in (q.0 ∙ sym is.table.0, q.1 ∙ sym (ap (λ o. Some o) is.key.0)))

pub returns-clause-state : goal.returns-clause-state
returns-clause-state g c = let j = g.S.Journaled in let is = c.into_board-board.ensures.key in let v = c.gather-place.result.me.0 in
    let e = subst (λ (z : g.row.S.Denot × ℕ). Ends j.history j.setting j.lawful j.number z.0 z.1 v c.settle.result) (λ i. (is.0 i, is.1 i)) c.settle.ensures in
    settles j.history j.setting j.lawful j.number c.args.self c.args.seats.items v c.settle.result e c.gather-place.ensures.all

pub returns-clause-all : goal.returns-clause-all
returns-clause-all g c = let j = g.S.Journaled in let is = c.into_board-board.ensures.key in let v = c.gather-place.result.me.0 in
    let e = subst (λ (z : g.row.S.Denot × ℕ). Ends j.history j.setting j.lawful j.number z.0 z.1 v c.settle.result) (λ i. (is.0 i, is.1 i)) c.settle.ensures in
    has_all j.history j.setting j.lawful j.number c.args.self c.args.seats.items v c.settle.result e c.gather-place.ensures.all
