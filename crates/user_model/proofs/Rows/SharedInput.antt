-- A worked row: what was answered is the reply at each place.
use Rattle.std.specs.Prelude.{◌≡◌, ℕ, pos, List, [], ◌∷◌, reverse, refl}
use Rattle.std.proofs.Common.{lit≤}
use Rattle.user_model.specs.declared.call.Call.{Call}
use Rattle.user_model.specs.declared.entry.Answer.{Answer}
use Rattle.user_model.specs.declared.entry.Entry.{Entry}
use Rattle.user_model.specs.declared.entry.Origin.{Origin}
use Rattle.user_model.specs.declared.entry.Setup.{Setup}
use Rattle.user_model.specs.Setups.{setup_from}
use Rattle.user_model.specs.Past.{Past}
use Rattle.user_model.specs.Posts.{message}
use Rattle.user_model.specs.Idle.{reply}
use Rattle.user_model.specs.Legal.{IsLegal, told, replies}
use Rattle.user_model.proofs.LegalLaws.{lawful_from_replies}

abbrev pub entry : ℕ → Call → Answer → Entry
entry t call answer = record { who = record { 0 = t }; call = call; answer = answer }

abbrev pub setup : Setup
setup = setup_from 2 8 4

abbrev pub history : List Entry
history = entry 1 (Call.Register 0 0 0) (Answer.Value 1)
    ∷ entry 1 (Call.NewWindow 0 1 0 268435456 0 (pos 0) (pos 0) (pos 2) (pos 2)) (Answer.Window (record { 0 = 16 }))
    ∷ entry 2 (Call.NewWindow 0 2 0 268435456 0 (pos 4) (pos 0) (pos 6) (pos 2)) (Answer.Window (record { 0 = 17 }))
    ∷ entry 1 (Call.Attach 1 2) (Answer.Okay)
    ∷ entry 1 (Call.SetCapture 16) (Answer.Was (record { 0 = 0 }))
    ∷ entry 2 (Call.SetActive 17) (Answer.Was (record { 0 = 0 }))
    ∷ entry 2 (Call.SetFocus 17) (Answer.Was (record { 0 = 0 }))
    ∷ entry 1 (Call.Mouse 513 (pos 7) (pos 3)) (Answer.Input 1)
    ∷ entry 1 (Call.Key 1 65) (Answer.Input 2)
    ∷ entry 2 (Call.Peek 17 256 258 1) (Answer.Nothing)
    ∷ entry 1 (Call.Get 0 512 517) (Answer.Got Origin.Input 1 (message 16 513 0 196615 0 (record { x = (pos 7); y = (pos 3) })))
    ∷ entry 2 (Call.Get 17 256 258) (Answer.Got Origin.Input 2 (message 17 256 65 1 0 (record { x = (pos 7); y = (pos 3) })))
    ∷ entry 2 (Call.Translate 17 256 65 1) (Answer.Posted 1)
    ∷ entry 2 (Call.Get 17 258 258) (Answer.Got Origin.Posted 1 (message 17 258 97 1 0 (record { x = (pos 7); y = (pos 3) })))
    ∷ []

abbrev pub past : Past
past = reverse history

pub answers : told past ≡ replies setup past
unfolding reply
answers = refl

-- so it is legal
pub legal : IsLegal setup history
legal = (lit≤ tt, lawful_from_replies setup past answers)
