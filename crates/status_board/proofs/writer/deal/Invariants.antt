use Rattle.std.proofs.Common.{◌≡◌, ◌-◌, ◌≤◌, [], All}
use Rattle.std.specs.Vec.{vec_len}
use Rattle.status_board.proofs.writer.deal.Given as goal

abbrev pub invariant-loop-number : goal.invariant-loop-number
invariant-loop-number l =
    (l.number ≤ l.readers) × (vec_len l.made ≡ l.number) × (l.place.table_id ≡ l.fn.place.table_id) × (l.place.id ≡ l.fn.place.id) × (l.place.me ≡ l.fn.place.me)
    × All (λ r. (r.board ≡ l.fn.place.table_id) × (r.list ≡ [])) l.made.items

abbrev pub decreases-loop-number : goal.decreases-loop-number
decreases-loop-number l = l.readers - l.number
