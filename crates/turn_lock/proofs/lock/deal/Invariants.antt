use Rattle.std.proofs.Common.{◌≡◌, ◌+◌, ◌-◌, ◌<◌, ◌≤◌, [], ◌∷◌}
use Rattle.std.specs.Vec.{vec_capacity, vec_len}
use Rattle.turn_lock.specs.Views.{first_view}
use Rattle.turn_lock.specs.Seats.{Lock, new_seat, new_seats}
use Rattle.turn_lock.proofs.lock.deal.Given as goal

abbrev pub invariant-loop-number : goal.invariant-loop-number
invariant-loop-number g l = let o = l.fn.top.key.state.value in let lock : Lock g.row.S.Denot = record { table = l.fn.top.table_id; opening = o; seats = l.fn.seats } in
    (0 < l.number) × (l.number ≤ l.fn.seats) × (l.first.table_id ≡ l.fn.top.table_id) × (l.first.me ≡ (record (first_view o) { made = l.number }, []))
    × (new_seats lock l.number ≡ new_seat lock 0 ∷ l.made.items) × (l.fn.seats ≤ vec_capacity l.made) × (vec_len l.made + 1 ≡ l.number)

abbrev pub decreases-loop-number : goal.decreases-loop-number
decreases-loop-number g l = l.fn.seats - l.number
