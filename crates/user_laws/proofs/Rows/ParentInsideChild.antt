-- A parent is destroyed inside of its child's procedure: what was answered is the reply at each place.
use Rattle.std.specs.Prelude.{◌≡◌, ℕ, pos, List, [], ◌∷◌, reverse, refl}
use Rattle.std.proofs.Common.{lit≤}
use Rattle.win_num.specs.declared.send.Cause.{Cause}
use Rattle.user_model.specs.declared.call.Call.{Call}
use Rattle.user_model.specs.declared.entry.Answer.{Answer}
use Rattle.user_model.specs.declared.entry.Entry.{Entry}
use Rattle.user_model.specs.declared.entry.Setup.{Setup}
use Rattle.user_model.specs.Setups.{setup_from}
use Rattle.user_model.specs.Past.{Past}
use Rattle.user_model.specs.Idle.{reply}
use Rattle.user_model.specs.Legal.{IsLegal, told, replies}
use Rattle.user_model.proofs.LegalLaws.{lawful_from_replies}

abbrev entry : ℕ → Call → Answer → Entry
entry t call answer = record { who = record { 0 = t }; call = call; answer = answer }

-- a window of a parent and a style
abbrev made : ℕ → ℕ → ℕ → Entry
made parent style w = entry 1 (Call.NewWindow 0 1 parent style 0 (pos 0) (pos 0) (pos 0) (pos 0)) (Answer.Window (record { 0 = w }))

-- the next step of the destruction of w tells v
abbrev tells : ℕ → ℕ → Entry
tells w v = entry 1 (Call.Unmake w) (Answer.Tell (record { 0 = v }))

-- or gives v its last message
abbrev ends : ℕ → ℕ → Entry
ends w v = entry 1 (Call.Unmake w) (Answer.Last (record { 0 = v }))

abbrev setup : Setup
setup = setup_from 2 8 4

abbrev history : List Entry
history = entry 1 (Call.Register 0 0 0) (Answer.Value 1)
    ∷ made 0 0 16
    ∷ made 16 1073741824 17
    ∷ entry 2 (Call.Send 17 1024 5 6) (Answer.Begun (record { 0 = 1 }))
    ∷ entry 2 (Call.Await 1) Answer.Wait
    ∷ entry 1 (Call.Get 0 0 0) (Answer.Enter (record { 0 = 1 }) 0 (record { 0 = 17 }) 1024 5 6)
    ∷ entry 1 (Call.Doom 16) Answer.Okay
    ∷ tells 16 16
    ∷ entry 1 (Call.Send 16 2 0 0) (Answer.Inside (record { 0 = 2 }) 0)
    ∷ entry 1 (Call.Leave 0) (Answer.Left (record { 0 = 2 }))
    ∷ tells 16 17
    ∷ entry 1 (Call.Send 17 2 0 0) (Answer.Inside (record { 0 = 3 }) 0)
    ∷ entry 1 (Call.Leave 0) (Answer.Left (record { 0 = 3 }))
    ∷ ends 16 17
    ∷ entry 1 (Call.Send 17 130 0 0) (Answer.Inside (record { 0 = 4 }) 0)
    ∷ entry 1 (Call.Leave 0) (Answer.Left (record { 0 = 4 }))
    ∷ ends 16 16
    ∷ entry 1 (Call.Send 16 130 0 0) (Answer.Inside (record { 0 = 5 }) 0)
    ∷ entry 1 (Call.Leave 0) (Answer.Left (record { 0 = 5 }))
    ∷ entry 1 (Call.Drop 16) Answer.Okay
    ∷ entry 1 (Call.IsWindow 17) (Answer.Value 0)
    ∷ entry 1 Call.InSend (Answer.Value 1)
    ∷ entry 1 (Call.Leave 7) (Answer.Left (record { 0 = 1 }))
    ∷ entry 2 (Call.Await 1) (Answer.Done 7 Cause.Proc)
    ∷ []

abbrev past : Past
past = reverse history

answers : told past ≡ replies setup past
unfolding reply
answers = refl

-- so it is legal
pub legal : IsLegal setup history
legal = (lit≤ tt, lawful_from_replies setup past answers)
