-- A worked row: what was answered is the reply at each place.
use Rattle.std.specs.Prelude.{◌≡◌, ℕ, pos, List, [], ◌∷◌, reverse, refl}
use Rattle.std.proofs.Common.{lit≤}
use Rattle.region_box.specs.Screens.{screen_points, row_points}
use Rattle.user_model.specs.declared.call.Call.{Call}
use Rattle.user_model.specs.declared.entry.Answer.{Answer}
use Rattle.user_model.specs.declared.entry.Entry.{Entry}
use Rattle.user_model.specs.declared.entry.Origin.{Origin}
use Rattle.user_model.specs.declared.entry.Setup.{Setup}
use Rattle.user_model.specs.Setups.{setup_from}
use Rattle.user_model.specs.Past.{Past}
use Rattle.user_model.specs.Posts.{message}
use Rattle.user_model.specs.Idle.{reply}
use Rattle.user_model.specs.Legal.{IsLegal, told, replies}
use Rattle.user_model.proofs.LegalLaws.{lawful_from_replies}

abbrev pub entry : ℕ → Call → Answer → Entry
entry t call answer = record { who = record { 0 = t }; call = call; answer = answer }

abbrev pub setup : Setup
setup = setup_from 1 8 4

abbrev pub history : List Entry
history = entry 1 (Call.Register 0 0 0) (Answer.Value 1)
    ∷ entry 1 (Call.NewWindow 0 1 0 0 0 (pos 0) (pos 0) (pos 0) (pos 0)) (Answer.Window (record { 0 = 16 }))
    ∷ entry 1 (Call.SetTimer 16 1 30) (Answer.Okay)
    ∷ entry 1 (Call.Status 127) (Answer.Value 0)
    ∷ entry 0 (Call.Tick 30) (Answer.Value 30)
    ∷ entry 1 (Call.Status 127) (Answer.Value 1048592)
    ∷ entry 1 (Call.Status 127) (Answer.Value 1048576)
    ∷ entry 1 (Call.SetTimer 16 1 30) (Answer.Okay)
    ∷ entry 1 (Call.Status 127) (Answer.Value 0)
    ∷ entry 0 (Call.Tick 40) (Answer.Value 70)
    ∷ entry 1 (Call.SetTimer 16 2 10) (Answer.Okay)
    ∷ entry 1 (Call.Status 127) (Answer.Value 1048592)
    ∷ entry 0 (Call.Tick 40) (Answer.Value 110)
    ∷ entry 1 (Call.Status 127) (Answer.Value 1048592)
    ∷ entry 1 (Call.Get 0 0 0) (Answer.Got Origin.Timer 0 (message 16 275 1 0 110 (record { x = (pos 0); y = (pos 0) })))
    ∷ entry 1 (Call.Status 127) (Answer.Value 1048576)
    ∷ entry 0 (Call.Tick 10) (Answer.Value 120)
    ∷ entry 1 (Call.Peek 0 0 0 0) (Answer.Got Origin.Timer 0 (message 16 275 2 0 120 (record { x = (pos 0); y = (pos 0) })))
    ∷ entry 1 (Call.Status 127) (Answer.Value 1048576)
    ∷ entry 1 (Call.KillTimer 16 2) (Answer.Okay)
    ∷ entry 1 (Call.Status 127) (Answer.Value 0)
    ∷ []

abbrev pub past : Past
past = reverse history

pub answers : told past ≡ replies setup past
unfolding reply screen_points row_points
answers = refl

-- so it is legal
pub legal : IsLegal setup history
legal = (lit≤ tt, lawful_from_replies setup past answers)
