use Rattle.std.proofs.Common.{◌≡◌}
use Rattle.clip_board.specs.declared.moves.ClipGot.{ClipGot}
use Rattle.clip_board.specs.Traces.{Awaits, Accepts}
use Rattle.turn_lock.specs.Seats.{IsSeatOf}
use Rattle.user_desk.specs.Desks.{IsDeskSeat}
use Rattle.clip_examples.proofs.sharing.reader.get.Given as goal

-- the seats stay, and what was asked for can be handed in
abbrev pub invariant-loop : goal.invariant-loop
invariant-loop g l = IsDeskSeat l.desk l.seat × (IsSeatOf l.clip l.place × (l.place.number ≡ 2)) × ((h : ClipGot) → Awaits l.next h → Accepts l.state.stage h)
