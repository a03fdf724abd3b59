-- A worked row: what was answered is the reply at each place.
use Rattle.std.specs.Prelude.{◌≡◌, ℕ, pos, List, [], ◌∷◌, reverse, refl}
use Rattle.std.proofs.Common.{lit≤}
use Rattle.region_box.specs.Screens.{screen_points, row_points}
use Rattle.user_model.specs.declared.call.Call.{Call}
use Rattle.user_model.specs.declared.entry.Answer.{Answer}
use Rattle.user_model.specs.declared.entry.Entry.{Entry}
use Rattle.user_model.specs.declared.entry.Origin.{Origin}
use Rattle.user_model.specs.declared.entry.Setup.{Setup}
use Rattle.user_model.specs.Setups.{setup_from}
use Rattle.user_model.specs.Past.{Past}
use Rattle.user_model.specs.Posts.{message}
use Rattle.user_model.specs.Idle.{reply}
use Rattle.user_model.specs.Legal.{IsLegal, told, replies}
use Rattle.user_model.proofs.LegalLaws.{lawful_from_replies}

abbrev pub entry : ℕ → Call → Answer → Entry
entry t call answer = record { who = record { 0 = t }; call = call; answer = answer }

abbrev pub setup : Setup
setup = setup_from 2 3 2

abbrev pub history : List Entry
history = entry 1 (Call.Register 0 0 0) (Answer.Value 1)
    ∷ entry 1 (Call.NewWindow 0 1 0 0 0 (pos 0) (pos 0) (pos 0) (pos 0)) (Answer.Window (record { 0 = 16 }))
    ∷ entry 2 (Call.NewWindow 0 2 0 0 0 (pos 0) (pos 0) (pos 0) (pos 0)) (Answer.Window (record { 0 = 17 }))
    ∷ entry 1 (Call.Attach 1 2) (Answer.Okay)
    ∷ entry 1 (Call.SetActive 16) (Answer.Was (record { 0 = 0 }))
    ∷ entry 1 (Call.SetFocus 16) (Answer.Was (record { 0 = 0 }))
    ∷ entry 1 (Call.Key 1 65) (Answer.Input 1)
    ∷ entry 1 (Call.Status 127) (Answer.Value 65537)
    ∷ entry 2 (Call.Status 127) (Answer.Value 0)
    ∷ entry 2 (Call.SetFocus 17) (Answer.Was (record { 0 = 16 }))
    ∷ entry 1 (Call.Status 127) (Answer.Value 0)
    ∷ entry 2 (Call.Status 127) (Answer.Value 65536)
    ∷ entry 1 (Call.SetCapture 16) (Answer.Was (record { 0 = 0 }))
    ∷ entry 1 (Call.Mouse 512 (pos 1) (pos 1)) (Answer.Input 2)
    ∷ entry 1 (Call.Mouse 512 (pos 2) (pos 1)) (Answer.Input 3)
    ∷ entry 1 (Call.Mouse 513 (pos 2) (pos 1)) (Answer.Input 4)
    ∷ entry 1 (Call.Status 5) (Answer.Value 262148)
    ∷ entry 1 (Call.Status 127) (Answer.Value 393216)
    ∷ entry 1 (Call.Mouse 512 (pos 0) (pos 0)) (Answer.Input 5)
    ∷ entry 1 (Call.Status 127) (Answer.Value 393218)
    ∷ entry 2 (Call.Get 0 256 256) (Answer.Got Origin.Input 1 (message 17 256 65 1 0 (record { x = (pos 0); y = (pos 0) })))
    ∷ entry 2 (Call.Status 127) (Answer.Value 0)
    ∷ entry 1 (Call.Get 0 0 0) (Answer.Got Origin.Input 3 (message 16 512 0 65538 0 (record { x = (pos 2); y = (pos 1) })))
    ∷ entry 1 (Call.Status 6) (Answer.Value 393216)
    ∷ []

abbrev pub past : Past
past = reverse history

pub answers : told past ≡ replies setup past
unfolding reply screen_points row_points
answers = refl

-- so it is legal
pub legal : IsLegal setup history
legal = (lit≤ tt, lawful_from_replies setup past answers)
