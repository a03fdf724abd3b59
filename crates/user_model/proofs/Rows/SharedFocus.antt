-- A worked row: what was answered is the reply at each place.
use Rattle.std.specs.Prelude.{◌≡◌, ℕ, pos, List, [], ◌∷◌, reverse, refl}
use Rattle.std.proofs.Common.{lit≤}
use Rattle.win_num.specs.declared.code.Code.{Code}
use Rattle.user_model.specs.declared.call.Call.{Call}
use Rattle.user_model.specs.declared.entry.Answer.{Answer}
use Rattle.user_model.specs.declared.entry.Entry.{Entry}
use Rattle.user_model.specs.declared.entry.Setup.{Setup}
use Rattle.user_model.specs.Setups.{setup_from}
use Rattle.user_model.specs.Past.{Past}
use Rattle.user_model.specs.Idle.{reply}
use Rattle.user_model.specs.Legal.{IsLegal, told, replies}
use Rattle.user_model.proofs.LegalLaws.{lawful_from_replies}

abbrev pub entry : ℕ → Call → Answer → Entry
entry t call answer = record { who = record { 0 = t }; call = call; answer = answer }

abbrev pub setup : Setup
setup = setup_from 3 8 4

abbrev pub history : List Entry
history = entry 1 (Call.Register 0 0 0) (Answer.Value 1)
    ∷ entry 1 (Call.NewWindow 0 1 0 0 0 (pos 0) (pos 0) (pos 2) (pos 2)) (Answer.Window (record { 0 = 16 }))
    ∷ entry 2 (Call.NewWindow 0 2 0 0 0 (pos 2) (pos 0) (pos 4) (pos 2)) (Answer.Window (record { 0 = 17 }))
    ∷ entry 3 (Call.NewWindow 0 3 0 0 0 (pos 4) (pos 0) (pos 6) (pos 2)) (Answer.Window (record { 0 = 18 }))
    ∷ entry 2 (Call.NewWindow 0 4 17 1073741824 0 (pos 0) (pos 0) (pos 1) (pos 1)) (Answer.Window (record { 0 = 19 }))
    ∷ entry 1 (Call.SetFocus 16) (Answer.Was (record { 0 = 0 }))
    ∷ entry 2 (Call.GetFocus) (Answer.Window (record { 0 = 0 }))
    ∷ entry 2 (Call.Attach 1 2) (Answer.Okay)
    ∷ entry 2 (Call.GetFocus) (Answer.Window (record { 0 = 16 }))
    ∷ entry 2 (Call.Attach 2 1) (Answer.Refused (Code.Win 87))
    ∷ entry 3 (Call.Attach 3 3) (Answer.Refused (Code.Win 87))
    ∷ entry 1 (Call.Attach 2 3) (Answer.Okay)
    ∷ entry 3 (Call.GetFocus) (Answer.Window (record { 0 = 16 }))
    ∷ entry 3 (Call.SetFocus 17) (Answer.Was (record { 0 = 16 }))
    ∷ entry 1 (Call.GetFocus) (Answer.Window (record { 0 = 17 }))
    ∷ entry 1 (Call.SetActive 19) (Answer.Refused (Code.Win 87))
    ∷ entry 1 (Call.SetActive 17) (Answer.Was (record { 0 = 0 }))
    ∷ entry 3 (Call.GetActive) (Answer.Window (record { 0 = 17 }))
    ∷ entry 3 (Call.SetActive 0) (Answer.Was (record { 0 = 17 }))
    ∷ entry 1 (Call.GetActive) (Answer.Window (record { 0 = 0 }))
    ∷ entry 3 (Call.SetCapture 16) (Answer.Refused (Code.Win 5))
    ∷ entry 3 (Call.SetCapture 18) (Answer.Was (record { 0 = 0 }))
    ∷ entry 1 (Call.GetCapture) (Answer.Window (record { 0 = 18 }))
    ∷ entry 1 (Call.Enable 16 0) (Answer.Value 0)
    ∷ entry 1 (Call.Enable 16 2) (Answer.Refused (Code.Win 87))
    ∷ entry 2 (Call.Enable 16 1) (Answer.Value 1)
    ∷ entry 2 (Call.Enable 16 0) (Answer.Value 0)
    ∷ entry 1 (Call.SetFocus 16) (Answer.Refused (Code.Win 87))
    ∷ entry 1 (Call.SetFocus 99) (Answer.Refused (Code.Win 1400))
    ∷ entry 2 (Call.Detach 3 2) (Answer.Okay)
    ∷ entry 2 (Call.Detach 1 3) (Answer.Refused (Code.Win 87))
    ∷ entry 3 (Call.GetFocus) (Answer.Window (record { 0 = 0 }))
    ∷ entry 1 (Call.SetFocus 18) (Answer.Refused (Code.Win 5))
    ∷ entry 1 (Call.GetFocus) (Answer.Window (record { 0 = 16 }))
    ∷ entry 3 (Call.Attach 3 2) (Answer.Okay)
    ∷ entry 3 (Call.SetFocus 17) (Answer.Was (record { 0 = 17 }))
    ∷ entry 2 (Call.EndThread) (Answer.Ended)
    ∷ entry 1 (Call.GetFocus) (Answer.Window (record { 0 = 16 }))
    ∷ entry 3 (Call.GetFocus) (Answer.Window (record { 0 = 0 }))
    ∷ entry 3 (Call.GetCapture) (Answer.Window (record { 0 = 18 }))
    ∷ entry 3 (Call.Doom 18) (Answer.Okay)
    ∷ entry 3 (Call.Unmake 18) (Answer.Tell (record { 0 = 18 }))
    ∷ entry 3 (Call.Unmake 18) (Answer.Last (record { 0 = 18 }))
    ∷ entry 3 (Call.SetFocus 18) (Answer.Was (record { 0 = 0 }))
    ∷ entry 3 (Call.Drop 18) (Answer.Okay)
    ∷ entry 3 (Call.GetFocus) (Answer.Window (record { 0 = 0 }))
    ∷ entry 3 (Call.GetCapture) (Answer.Window (record { 0 = 0 }))
    ∷ entry 3 (Call.ReleaseCapture) (Answer.Was (record { 0 = 0 }))
    ∷ entry 3 (Call.Attach 3 2) (Answer.Refused (Code.Win 87))
    ∷ entry 1 (Call.Detach 2 1) (Answer.Refused (Code.Win 87))
    ∷ []

abbrev pub past : Past
past = reverse history

pub answers : told past ≡ replies setup past
unfolding reply
answers = refl

-- so it is legal
pub legal : IsLegal setup history
legal = (lit≤ tt, lawful_from_replies setup past answers)
