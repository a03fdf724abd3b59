-- What a desk and one of its seats know as a teller.
use Rattle.std.specs.Prelude.{Some}
use Rattle.user_model.specs.declared.call.Call.{Call}
use Rattle.user_model.specs.declared.entry.Answer.{Answer}
use Rattle.user_model.specs.declared.entry.Setup.{Setup}
use Rattle.win_num.specs.declared.message.Thread.{Thread}
use Rattle.user_model.specs.Past.{Past}
use Rattle.user_model.specs.Tellers.{TellerView}
use Rattle.turn_lock.specs.Seats.{Sitting}
use Rattle.user_desk.specs.Desks.{seen_by, made_by}

-- the setup and the past of the opening, and what the seat has seen and made since then, and how often it looked
abbrev pub desk_view : {S : Type 0} → Setup → Past → Sitting S (Thread × Call) Answer → TellerView
desk_view setup opening seat = record { setup = setup; opening = opening; seen = λ t. seen_by seat; mine = λ t. made_by seat; looks = λ t. Some seat.looks }
