-- What the owner of a board needs to publish.
use Rattle.std.specs.Prelude.{◌≡◌}
use Rattle.win_num.specs.declared.message.Thread.{Thread}
use Rattle.user_model.specs.declared.call.Call.{Call}
use Rattle.user_model.specs.declared.entry.Answer.{Answer}
use Rattle.turn_lock.specs.Seats.{Lock, Sitting}
use Rattle.user_desk.specs.Desks.{IsDeskSeat, made_by}
use Rattle.status_board.specs.Boards.{Writing}
use Rattle.status_board.specs.Owners.{IsCounted}

-- the seat is the owner's, one of the desk, and since some moment it was told as many statuses as there are published ones
abbrev pub IsOwner : {S : Type 0} → Lock S → Sitting S (Thread × Call) Answer → Writing → Type 0
IsOwner desk seat writer = IsDeskSeat desk seat × (seat.number ≡ writer.owner) × IsCounted (made_by seat) writer.list
