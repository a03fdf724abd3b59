-- A worked row: what was answered is the reply at each place.
use Rattle.std.specs.Prelude.{◌≡◌, ℕ, pos, List, [], ◌∷◌, reverse, refl}
use Rattle.std.proofs.Common.{lit≤}
use Rattle.win_num.specs.declared.code.Code.{Code}
use Rattle.user_model.specs.declared.call.Call.{Call}
use Rattle.user_model.specs.declared.entry.Answer.{Answer}
use Rattle.user_model.specs.declared.entry.Entry.{Entry}
use Rattle.user_model.specs.declared.entry.Origin.{Origin}
use Rattle.user_model.specs.declared.entry.Setup.{Setup}
use Rattle.user_model.specs.Setups.{setup_from}
use Rattle.user_model.specs.Past.{Past}
use Rattle.user_model.specs.Posts.{message}
use Rattle.user_model.specs.Idle.{reply}
use Rattle.user_model.specs.Legal.{IsLegal, told, replies}
use Rattle.user_model.proofs.LegalLaws.{lawful_from_replies}

abbrev pub entry : ℕ → Call → Answer → Entry
entry t call answer = record { who = record { 0 = t }; call = call; answer = answer }

abbrev pub setup : Setup
setup = setup_from 2 8 4

abbrev pub history : List Entry
history = entry 1 (Call.Register 0 0 0) (Answer.Value 1)
    ∷ entry 1 (Call.NewWindow 0 1 0 0 0 (pos 0) (pos 0) (pos 0) (pos 0)) (Answer.Window (record { 0 = 16 }))
    ∷ entry 1 (Call.SetActive 16) (Answer.Was (record { 0 = 0 }))
    ∷ entry 1 (Call.Translate 16 256 65 7) (Answer.Posted 1)
    ∷ entry 1 (Call.Translate 16 257 65 7) (Answer.Value 0)
    ∷ entry 1 (Call.Translate 16 256 13 7) (Answer.Value 0)
    ∷ entry 1 (Call.Translate 16 70000 65 7) (Answer.Value 0)
    ∷ entry 1 (Call.Translate 99 256 13 7) (Answer.Value 0)
    ∷ entry 1 (Call.Translate 99 256 65 7) (Answer.Refused (Code.Win 1400))
    ∷ entry 1 (Call.Key 1 16) (Answer.Input 1)
    ∷ entry 1 (Call.Translate 16 256 66 7) (Answer.Posted 2)
    ∷ entry 1 (Call.Get 0 256 257) (Answer.Got Origin.Input 1 (message 16 256 16 1 0 (record { x = (pos 0); y = (pos 0) })))
    ∷ entry 1 (Call.Translate 16 256 66 7) (Answer.Posted 3)
    ∷ entry 1 (Call.Translate 0 256 49 8) (Answer.Posted 4)
    ∷ entry 1 (Call.Translate 0 256 4294967361 8) (Answer.Value 0)
    ∷ entry 2 (Call.Translate 16 256 67 9) (Answer.Posted 5)
    ∷ entry 1 (Call.Attach 1 2) (Answer.Okay)
    ∷ entry 2 (Call.Translate 16 256 67 9) (Answer.Posted 6)
    ∷ entry 1 (Call.Key 0 16) (Answer.Input 2)
    ∷ entry 1 (Call.Get 0 256 257) (Answer.Got Origin.Input 2 (message 16 257 16 1 0 (record { x = (pos 0); y = (pos 0) })))
    ∷ entry 1 (Call.Translate 16 256 32 0) (Answer.Posted 7)
    ∷ entry 1 (Call.Translate 16 256 68 0) (Answer.Posted 8)
    ∷ entry 1 (Call.Get 0 258 258) (Answer.Got Origin.Posted 1 (message 16 258 97 7 0 (record { x = (pos 0); y = (pos 0) })))
    ∷ entry 1 (Call.Get 0 258 258) (Answer.Got Origin.Posted 2 (message 16 258 98 7 0 (record { x = (pos 0); y = (pos 0) })))
    ∷ entry 1 (Call.Get 0 258 258) (Answer.Got Origin.Posted 3 (message 16 258 66 7 0 (record { x = (pos 0); y = (pos 0) })))
    ∷ entry 1 (Call.Get 0 258 258) (Answer.Got Origin.Posted 4 (message 0 258 49 8 0 (record { x = (pos 0); y = (pos 0) })))
    ∷ entry 1 (Call.Get 0 258 258) (Answer.Got Origin.Posted 5 (message 16 258 99 9 0 (record { x = (pos 0); y = (pos 0) })))
    ∷ entry 1 (Call.Get 0 258 258) (Answer.Got Origin.Posted 6 (message 16 258 67 9 0 (record { x = (pos 0); y = (pos 0) })))
    ∷ entry 1 (Call.Get 0 258 258) (Answer.Got Origin.Posted 7 (message 16 258 32 0 0 (record { x = (pos 0); y = (pos 0) })))
    ∷ []

abbrev pub past : Past
past = reverse history

pub answers : told past ≡ replies setup past
unfolding reply
answers = refl

-- so it is legal
pub legal : IsLegal setup history
legal = (lit≤ tt, lawful_from_replies setup past answers)
