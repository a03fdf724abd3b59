-- A worked row: what was answered is the reply at each place.
use Rattle.std.specs.Prelude.{◌≡◌, ℕ, pos, List, [], ◌∷◌, reverse, refl}
use Rattle.std.proofs.Common.{lit≤}
use Rattle.win_num.specs.declared.send.Cause.{Cause}
use Rattle.user_model.specs.declared.call.Call.{Call}
use Rattle.user_model.specs.declared.entry.Answer.{Answer}
use Rattle.user_model.specs.declared.entry.Entry.{Entry}
use Rattle.user_model.specs.declared.entry.Setup.{Setup}
use Rattle.user_model.specs.Setups.{setup_from}
use Rattle.user_model.specs.Past.{Past}
use Rattle.user_model.specs.Idle.{reply}
use Rattle.user_model.specs.Legal.{IsLegal, told, replies}
use Rattle.user_model.proofs.LegalLaws.{lawful_from_replies}

abbrev pub entry : ℕ → Call → Answer → Entry
entry t call answer = record { who = record { 0 = t }; call = call; answer = answer }

abbrev pub setup : Setup
setup = setup_from 2 8 4

abbrev pub history : List Entry
history = entry 1 (Call.Register 0 0 0) (Answer.Value 1)
    ∷ entry 1 (Call.NewWindow 0 1 0 0 0 (pos 0) (pos 0) (pos 0) (pos 0)) (Answer.Window (record { 0 = 16 }))
    ∷ entry 2 (Call.NewWindow 0 1 0 0 0 (pos 0) (pos 0) (pos 0) (pos 0)) (Answer.Window (record { 0 = 17 }))
    ∷ entry 1 (Call.SendTimeout 17 1024 0 0 0 50) (Answer.Begun (record { 0 = 1 }))
    ∷ entry 2 (Call.Get 0 0 0) (Answer.Enter (record { 0 = 1 }) 0 (record { 0 = 17 }) 1024 0 0)
    ∷ entry 0 (Call.Tick 50) (Answer.Value 50)
    ∷ entry 1 (Call.Await 1) (Answer.Done 0 Cause.Timeout)
    ∷ entry 2 (Call.InSend) (Answer.Value 9)
    ∷ entry 2 (Call.Reply 3) (Answer.Value 0)
    ∷ entry 2 (Call.Leave 7) (Answer.Left (record { 0 = 1 }))
    ∷ []

abbrev pub past : Past
past = reverse history

pub answers : told past ≡ replies setup past
unfolding reply
answers = refl

-- so it is legal
pub legal : IsLegal setup history
legal = (lit≤ tt, lawful_from_replies setup past answers)
