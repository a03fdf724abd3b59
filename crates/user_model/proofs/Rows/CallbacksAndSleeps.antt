-- A worked row: what was answered is the reply at each place.
use Rattle.std.specs.Prelude.{◌≡◌, ℕ, pos, List, [], ◌∷◌, reverse, refl}
use Rattle.std.proofs.Common.{lit≤}
use Rattle.win_num.specs.declared.send.Cause.{Cause}
use Rattle.win_num.specs.declared.code.Code.{Code}
use Rattle.region_box.specs.Screens.{screen_points, row_points}
use Rattle.user_model.specs.declared.call.Call.{Call}
use Rattle.user_model.specs.declared.entry.Answer.{Answer}
use Rattle.user_model.specs.declared.entry.Entry.{Entry}
use Rattle.user_model.specs.declared.entry.Setup.{Setup}
use Rattle.user_model.specs.Setups.{setup_from}
use Rattle.user_model.specs.Past.{Past}
use Rattle.user_model.specs.Idle.{reply}
use Rattle.user_model.specs.Legal.{IsLegal, told, replies}
use Rattle.user_model.proofs.LegalLaws.{lawful_from_replies}

abbrev pub entry : ℕ → Call → Answer → Entry
entry t call answer = record { who = record { 0 = t }; call = call; answer = answer }

abbrev pub setup : Setup
setup = setup_from 2 8 4

abbrev pub history : List Entry
history = entry 1 (Call.Register 0 0 0) (Answer.Value 1)
    ∷ entry 1 (Call.NewWindow 0 1 0 0 0 (pos 0) (pos 0) (pos 0) (pos 0)) (Answer.Window (record { 0 = 16 }))
    ∷ entry 2 (Call.NewWindow 0 1 0 0 0 (pos 0) (pos 0) (pos 0) (pos 0)) (Answer.Window (record { 0 = 17 }))
    ∷ entry 1 (Call.SendCallback 16 1024 1 2 3 9) (Answer.Inside (record { 0 = 1 }) 0)
    ∷ entry 1 (Call.InSend) (Answer.Value 0)
    ∷ entry 1 (Call.Reply 8) (Answer.Value 0)
    ∷ entry 1 (Call.Leave 4) (Answer.Callback (record { 0 = 1 }) 3 (record { 0 = 16 }) 1024 9 4)
    ∷ entry 1 (Call.Leave 0) (Answer.Left (record { 0 = 0 }))
    ∷ entry 1 (Call.SendCallback 17 1025 1 2 3 9) (Answer.Begun (record { 0 = 2 }))
    ∷ entry 1 (Call.SendNotify 17 1026 1 2) (Answer.Begun (record { 0 = 3 }))
    ∷ entry 2 (Call.SleepUntil 30) Answer.Wait
    ∷ entry 1 (Call.Get 0 0 0) Answer.Wait
    ∷ entry 0 Call.Advance (Answer.Advanced 30)
    ∷ entry 2 (Call.SleepUntil 30) Answer.Okay
    ∷ entry 2 Call.Clock (Answer.Value 30)
    ∷ entry 2 (Call.Peek 0 0 0 0) (Answer.Enter (record { 0 = 2 }) 0 (record { 0 = 17 }) 1025 1 2)
    ∷ entry 2 Call.InSend (Answer.Value 4)
    ∷ entry 2 (Call.Leave 6) (Answer.Left (record { 0 = 2 }))
    ∷ entry 2 (Call.Get 0 0 0) (Answer.Enter (record { 0 = 3 }) 0 (record { 0 = 17 }) 1026 1 2)
    ∷ entry 2 Call.InSend (Answer.Value 2)
    ∷ entry 1 (Call.Get 0 0 0) (Answer.Callback (record { 0 = 2 }) 3 (record { 0 = 17 }) 1025 9 6)
    ∷ entry 1 Call.EndThread (Answer.Refused Code.NotNow)
    ∷ entry 1 (Call.Leave 0) (Answer.Left (record { 0 = 0 }))
    ∷ entry 1 (Call.SendTimeout 17 1027 0 0 1 20) (Answer.Begun (record { 0 = 4 }))
    ∷ entry 1 (Call.Await 4) Answer.Wait
    ∷ entry 2 (Call.Leave 5) (Answer.Left (record { 0 = 3 }))
    ∷ entry 2 Call.EndThread Answer.Ended
    ∷ entry 1 (Call.Await 4) (Answer.Done 0 Cause.Loss)
    ∷ entry 1 (Call.SendNotify 17 1027 0 0) (Answer.Refused (Code.Win 1400))
    ∷ entry 1 Call.EndThread Answer.Ended
    ∷ []

abbrev pub past : Past
past = reverse history

pub answers : told past ≡ replies setup past
unfolding reply screen_points row_points
answers = refl

-- so it is legal
pub legal : IsLegal setup history
legal = (lit≤ tt, lawful_from_replies setup past answers)
