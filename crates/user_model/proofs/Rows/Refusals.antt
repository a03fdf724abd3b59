-- A worked row: what was answered is the reply at each place.
use Rattle.std.specs.Prelude.{◌≡◌, ℕ, pos, List, [], ◌∷◌, reverse, refl}
use Rattle.std.proofs.Common.{lit≤}
use Rattle.win_num.specs.declared.code.Code.{Code}
use Rattle.user_model.specs.declared.call.Call.{Call}
use Rattle.user_model.specs.declared.entry.Answer.{Answer}
use Rattle.user_model.specs.declared.entry.Entry.{Entry}
use Rattle.user_model.specs.declared.entry.Setup.{Setup}
use Rattle.user_model.specs.Setups.{setup_from}
use Rattle.user_model.specs.Past.{Past}
use Rattle.user_model.specs.Idle.{reply}
use Rattle.user_model.specs.Legal.{IsLegal, told, replies}
use Rattle.user_model.proofs.LegalLaws.{lawful_from_replies}

abbrev pub entry : ℕ → Call → Answer → Entry
entry t call answer = record { who = record { 0 = t }; call = call; answer = answer }

abbrev pub setup : Setup
setup = setup_from 2 8 4

abbrev pub history : List Entry
history = entry 1 (Call.Register 0 0 0) (Answer.Value 1)
    ∷ entry 1 (Call.NewWindow 0 1 0 0 0 (pos 0) (pos 0) (pos 0) (pos 0)) (Answer.Window (record { 0 = 16 }))
    ∷ entry 2 (Call.NewWindow 0 1 0 0 0 (pos 0) (pos 0) (pos 0) (pos 0)) (Answer.Window (record { 0 = 17 }))
    ∷ entry 1 (Call.Await 5) (Answer.Refused Code.NotNow)
    ∷ entry 1 (Call.Leave 0) (Answer.Refused Code.NotNow)
    ∷ entry 1 (Call.Advance) (Answer.Refused Code.NotNow)
    ∷ entry 0 (Call.Advance) (Answer.Busy (record { 0 = 1 }))
    ∷ entry 1 (Call.Post 16 65536 0 0) (Answer.Refused (Code.Win 87))
    ∷ entry 1 (Call.Get 99 0 0) (Answer.Refused (Code.Win 1400))
    ∷ entry 1 (Call.PostThread 9 1024 0 0) (Answer.Refused (Code.Win 1444))
    ∷ entry 2 (Call.Dispatch 16 1024 0 0) (Answer.Refused (Code.Win 5))
    ∷ entry 1 (Call.NewWindow 0 1 0 1073741824 0 (pos 0) (pos 0) (pos 1) (pos 1)) (Answer.Refused (Code.Win 1406))
    ∷ entry 1 (Call.NewWindow 2 1 0 0 0 (pos 0) (pos 0) (pos 1) (pos 1)) (Answer.Refused (Code.Win 1407))
    ∷ entry 1 (Call.Register 0 0 0) (Answer.Refused (Code.Win 1410))
    ∷ entry 1 (Call.Unregister 2) (Answer.Refused (Code.Win 1411))
    ∷ entry 1 (Call.Unregister 0) (Answer.Refused (Code.Win 1412))
    ∷ entry 1 (Call.Key 1 65) (Answer.Refused Code.NoTarget)
    ∷ entry 1 (Call.Status 128) (Answer.Refused (Code.Win 87))
    ∷ entry 1 (Call.Send 16 1024 0 0) (Answer.Inside (record { 0 = 1 }) 0)
    ∷ entry 1 (Call.Send 16 1024 0 0) (Answer.Inside (record { 0 = 2 }) 0)
    ∷ entry 1 (Call.Send 16 1024 0 0) (Answer.Inside (record { 0 = 3 }) 0)
    ∷ entry 1 (Call.Send 16 1024 0 0) (Answer.Inside (record { 0 = 4 }) 0)
    ∷ entry 1 (Call.Send 16 1024 0 0) (Answer.Inside (record { 0 = 5 }) 0)
    ∷ entry 1 (Call.Send 16 1024 0 0) (Answer.Inside (record { 0 = 6 }) 0)
    ∷ entry 1 (Call.Send 16 1024 0 0) (Answer.Inside (record { 0 = 7 }) 0)
    ∷ entry 1 (Call.Send 16 1024 0 0) (Answer.Inside (record { 0 = 8 }) 0)
    ∷ entry 1 (Call.Send 16 1024 0 0) (Answer.Inside (record { 0 = 9 }) 0)
    ∷ entry 1 (Call.Send 16 1024 0 0) (Answer.Inside (record { 0 = 10 }) 0)
    ∷ entry 1 (Call.Send 16 1024 0 0) (Answer.Inside (record { 0 = 11 }) 0)
    ∷ entry 1 (Call.Send 16 1024 0 0) (Answer.Inside (record { 0 = 12 }) 0)
    ∷ entry 1 (Call.Send 16 1024 0 0) (Answer.Inside (record { 0 = 13 }) 0)
    ∷ entry 1 (Call.Send 16 1024 0 0) (Answer.Inside (record { 0 = 14 }) 0)
    ∷ entry 1 (Call.Send 16 1024 0 0) (Answer.Inside (record { 0 = 15 }) 0)
    ∷ entry 1 (Call.Send 16 1024 0 0) (Answer.Inside (record { 0 = 16 }) 0)
    ∷ entry 1 (Call.Send 16 1024 0 0) (Answer.Inside (record { 0 = 17 }) 0)
    ∷ entry 1 (Call.Send 16 1024 0 0) (Answer.Inside (record { 0 = 18 }) 0)
    ∷ entry 1 (Call.Send 16 1024 0 0) (Answer.Inside (record { 0 = 19 }) 0)
    ∷ entry 1 (Call.Send 16 1024 0 0) (Answer.Inside (record { 0 = 20 }) 0)
    ∷ entry 1 (Call.Send 16 1024 0 0) (Answer.Inside (record { 0 = 21 }) 0)
    ∷ entry 1 (Call.Send 16 1024 0 0) (Answer.Inside (record { 0 = 22 }) 0)
    ∷ entry 1 (Call.Send 16 1024 0 0) (Answer.Inside (record { 0 = 23 }) 0)
    ∷ entry 1 (Call.Send 16 1024 0 0) (Answer.Inside (record { 0 = 24 }) 0)
    ∷ entry 1 (Call.Send 16 1024 0 0) (Answer.Inside (record { 0 = 25 }) 0)
    ∷ entry 1 (Call.Send 16 1024 0 0) (Answer.Inside (record { 0 = 26 }) 0)
    ∷ entry 1 (Call.Send 16 1024 0 0) (Answer.Inside (record { 0 = 27 }) 0)
    ∷ entry 1 (Call.Send 16 1024 0 0) (Answer.Inside (record { 0 = 28 }) 0)
    ∷ entry 1 (Call.Send 16 1024 0 0) (Answer.Inside (record { 0 = 29 }) 0)
    ∷ entry 1 (Call.Send 16 1024 0 0) (Answer.Inside (record { 0 = 30 }) 0)
    ∷ entry 1 (Call.Send 16 1024 0 0) (Answer.Inside (record { 0 = 31 }) 0)
    ∷ entry 1 (Call.Send 16 1024 0 0) (Answer.Inside (record { 0 = 32 }) 0)
    ∷ entry 1 (Call.Send 16 1024 0 0) (Answer.Inside (record { 0 = 33 }) 0)
    ∷ entry 1 (Call.Send 16 1024 0 0) (Answer.Inside (record { 0 = 34 }) 0)
    ∷ entry 1 (Call.Send 16 1024 0 0) (Answer.Inside (record { 0 = 35 }) 0)
    ∷ entry 1 (Call.Send 16 1024 0 0) (Answer.Inside (record { 0 = 36 }) 0)
    ∷ entry 1 (Call.Send 16 1024 0 0) (Answer.Inside (record { 0 = 37 }) 0)
    ∷ entry 1 (Call.Send 16 1024 0 0) (Answer.Inside (record { 0 = 38 }) 0)
    ∷ entry 1 (Call.Send 16 1024 0 0) (Answer.Inside (record { 0 = 39 }) 0)
    ∷ entry 1 (Call.Send 16 1024 0 0) (Answer.Inside (record { 0 = 40 }) 0)
    ∷ entry 1 (Call.Send 16 1024 0 0) (Answer.Inside (record { 0 = 41 }) 0)
    ∷ entry 1 (Call.Send 16 1024 0 0) (Answer.Inside (record { 0 = 42 }) 0)
    ∷ entry 1 (Call.Send 16 1024 0 0) (Answer.Inside (record { 0 = 43 }) 0)
    ∷ entry 1 (Call.Send 16 1024 0 0) (Answer.Inside (record { 0 = 44 }) 0)
    ∷ entry 1 (Call.Send 16 1024 0 0) (Answer.Inside (record { 0 = 45 }) 0)
    ∷ entry 1 (Call.Send 16 1024 0 0) (Answer.Inside (record { 0 = 46 }) 0)
    ∷ entry 1 (Call.Send 16 1024 0 0) (Answer.Inside (record { 0 = 47 }) 0)
    ∷ entry 1 (Call.Send 16 1024 0 0) (Answer.Inside (record { 0 = 48 }) 0)
    ∷ entry 1 (Call.Send 16 1024 0 0) (Answer.Inside (record { 0 = 49 }) 0)
    ∷ entry 1 (Call.Send 16 1024 0 0) (Answer.Inside (record { 0 = 50 }) 0)
    ∷ entry 1 (Call.Send 16 1024 0 0) (Answer.Inside (record { 0 = 51 }) 0)
    ∷ entry 1 (Call.Send 16 1024 0 0) (Answer.Inside (record { 0 = 52 }) 0)
    ∷ entry 1 (Call.Send 16 1024 0 0) (Answer.Inside (record { 0 = 53 }) 0)
    ∷ entry 1 (Call.Send 16 1024 0 0) (Answer.Inside (record { 0 = 54 }) 0)
    ∷ entry 1 (Call.Send 16 1024 0 0) (Answer.Inside (record { 0 = 55 }) 0)
    ∷ entry 1 (Call.Send 16 1024 0 0) (Answer.Inside (record { 0 = 56 }) 0)
    ∷ entry 1 (Call.Send 16 1024 0 0) (Answer.Inside (record { 0 = 57 }) 0)
    ∷ entry 1 (Call.Send 16 1024 0 0) (Answer.Inside (record { 0 = 58 }) 0)
    ∷ entry 1 (Call.Send 16 1024 0 0) (Answer.Inside (record { 0 = 59 }) 0)
    ∷ entry 1 (Call.Send 16 1024 0 0) (Answer.Inside (record { 0 = 60 }) 0)
    ∷ entry 1 (Call.Send 16 1024 0 0) (Answer.Inside (record { 0 = 61 }) 0)
    ∷ entry 1 (Call.Send 16 1024 0 0) (Answer.Inside (record { 0 = 62 }) 0)
    ∷ entry 1 (Call.Send 16 1024 0 0) (Answer.Inside (record { 0 = 63 }) 0)
    ∷ entry 1 (Call.Send 16 1024 0 0) (Answer.Inside (record { 0 = 64 }) 0)
    ∷ entry 1 (Call.Send 16 1024 0 0) (Answer.Refused (Code.Win 1001))
    ∷ entry 1 (Call.EndThread) (Answer.Refused Code.NotNow)
    ∷ []

abbrev pub past : Past
past = reverse history

pub answers : told past ≡ replies setup past
unfolding reply
answers = refl

-- so it is legal
pub legal : IsLegal setup history
legal = (lit≤ tt, lawful_from_replies setup past answers)
