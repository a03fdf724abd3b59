-- A worked row: what was answered is the reply at each place.
use Rattle.std.specs.Prelude.{◌≡◌, ℕ, pos, List, [], ◌∷◌, reverse, refl}
use Rattle.std.proofs.Common.{lit≤}
use Rattle.win_num.specs.declared.code.Code.{Code}
use Rattle.user_model.specs.declared.call.Call.{Call}
use Rattle.user_model.specs.declared.entry.Answer.{Answer}
use Rattle.user_model.specs.declared.entry.Entry.{Entry}
use Rattle.user_model.specs.declared.entry.Origin.{Origin}
use Rattle.user_model.specs.declared.entry.Setup.{Setup}
use Rattle.user_model.specs.Setups.{setup_from}
use Rattle.user_model.specs.Past.{Past}
use Rattle.user_model.specs.Posts.{message}
use Rattle.user_model.specs.Idle.{reply}
use Rattle.user_model.specs.Legal.{IsLegal, told, replies}
use Rattle.user_model.proofs.LegalLaws.{lawful_from_replies}

abbrev pub entry : ℕ → Call → Answer → Entry
entry t call answer = record { who = record { 0 = t }; call = call; answer = answer }

abbrev pub setup : Setup
setup = setup_from 1 8 4

abbrev pub history : List Entry
history = entry 1 (Call.Register 0 0 0) (Answer.Value 1)
    ∷ entry 1 (Call.NewWindow 0 1 0 0 0 (pos 0) (pos 0) (pos 0) (pos 0)) (Answer.Window (record { 0 = 16 }))
    ∷ entry 1 (Call.Key 1 65) (Answer.Refused Code.NoTarget)
    ∷ entry 1 (Call.SetActive 16) (Answer.Was (record { 0 = 0 }))
    ∷ entry 1 (Call.Key 1 65) (Answer.Input 1)
    ∷ entry 1 (Call.Post 0 1025 0 0) (Answer.Posted 1)
    ∷ entry 1 (Call.PostQuit 3) (Answer.Okay)
    ∷ entry 1 (Call.Get 0 0 0) (Answer.Got Origin.Posted 1 (message 0 1025 0 0 0 (record { x = (pos 0); y = (pos 0) })))
    ∷ entry 1 (Call.Get 0 0 0) (Answer.Got Origin.Quit 0 (message 0 18 3 0 0 (record { x = (pos 0); y = (pos 0) })))
    ∷ entry 1 (Call.Peek 0 0 0 0) (Answer.Got Origin.Input 1 (message 16 256 65 1 0 (record { x = (pos 0); y = (pos 0) })))
    ∷ entry 1 (Call.KeyState 65) (Answer.Value 0)
    ∷ entry 1 (Call.Get 0 0 0) (Answer.Got Origin.Input 1 (message 16 256 65 1 0 (record { x = (pos 0); y = (pos 0) })))
    ∷ entry 1 (Call.KeyState 65) (Answer.Value 32768)
    ∷ entry 1 (Call.Key 0 65) (Answer.Input 2)
    ∷ entry 1 (Call.KeyState 65) (Answer.Value 32768)
    ∷ entry 1 (Call.Get 0 0 0) (Answer.Got Origin.Input 2 (message 16 257 65 1 0 (record { x = (pos 0); y = (pos 0) })))
    ∷ entry 1 (Call.KeyState 65) (Answer.Value 0)
    ∷ entry 1 (Call.KeyState 0) (Answer.Refused (Code.Win 87))
    ∷ entry 1 (Call.Key 2 65) (Answer.Refused (Code.Win 87))
    ∷ entry 1 (Call.Key 1 255) (Answer.Refused (Code.Win 87))
    ∷ []

abbrev pub past : Past
past = reverse history

pub answers : told past ≡ replies setup past
unfolding reply
answers = refl

-- so it is legal
pub legal : IsLegal setup history
legal = (lit≤ tt, lawful_from_replies setup past answers)
