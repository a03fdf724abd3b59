-- A worked row: what was answered is the reply at each place.
use Rattle.std.specs.Prelude.{◌≡◌, ℕ, pos, List, [], ◌∷◌, reverse, refl}
use Rattle.std.proofs.Common.{lit≤}
use Rattle.win_num.specs.declared.code.Code.{Code}
use Rattle.user_model.specs.declared.call.Call.{Call}
use Rattle.user_model.specs.declared.entry.Answer.{Answer}
use Rattle.user_model.specs.declared.entry.Entry.{Entry}
use Rattle.user_model.specs.declared.entry.Origin.{Origin}
use Rattle.user_model.specs.declared.entry.Setup.{Setup}
use Rattle.user_model.specs.Setups.{setup_from}
use Rattle.user_model.specs.Past.{Past}
use Rattle.user_model.specs.Posts.{message}
use Rattle.user_model.specs.Idle.{reply}
use Rattle.user_model.specs.Legal.{IsLegal, told, replies}
use Rattle.user_model.proofs.LegalLaws.{lawful_from_replies}

abbrev pub entry : ℕ → Call → Answer → Entry
entry t call answer = record { who = record { 0 = t }; call = call; answer = answer }

abbrev pub setup : Setup
setup = setup_from 2 8 4

abbrev pub history : List Entry
history = entry 2 (Call.PostThread 1 1024 0 0) (Answer.Posted 1)
    ∷ entry 1 (Call.Status 8) (Answer.Value 524296)
    ∷ entry 2 (Call.PostThread 1 1025 0 0) (Answer.Posted 2)
    ∷ entry 1 (Call.Get 99 0 0) (Answer.Refused (Code.Win 1400))
    ∷ entry 1 (Call.Peek 0 0 0 4) (Answer.Refused (Code.Win 87))
    ∷ entry 1 (Call.Status 128) (Answer.Refused (Code.Win 87))
    ∷ entry 1 (Call.Status 119) (Answer.Value 0)
    ∷ entry 2 (Call.Status 127) (Answer.Value 0)
    ∷ entry 1 (Call.Status 127) (Answer.Value 524288)
    ∷ entry 2 (Call.PostThread 1 1026 0 0) (Answer.Posted 3)
    ∷ entry 1 (Call.Peek 0 1026 1026 0) (Answer.Got Origin.Posted 3 (message 0 1026 0 0 0 (record { x = (pos 0); y = (pos 0) })))
    ∷ entry 1 (Call.Status 127) (Answer.Value 524288)
    ∷ entry 1 (Call.PostQuit 1) (Answer.Okay)
    ∷ entry 1 (Call.PostQuit 2) (Answer.Okay)
    ∷ entry 1 (Call.Status 8) (Answer.Value 524296)
    ∷ entry 1 (Call.Get 0 0 0) (Answer.Got Origin.Posted 1 (message 0 1024 0 0 0 (record { x = (pos 0); y = (pos 0) })))
    ∷ entry 1 (Call.Get 0 0 0) (Answer.Got Origin.Posted 2 (message 0 1025 0 0 0 (record { x = (pos 0); y = (pos 0) })))
    ∷ entry 1 (Call.Get 0 0 0) (Answer.Got Origin.Posted 3 (message 0 1026 0 0 0 (record { x = (pos 0); y = (pos 0) })))
    ∷ entry 1 (Call.Status 127) (Answer.Value 524288)
    ∷ entry 1 (Call.PostQuit 3) (Answer.Okay)
    ∷ entry 1 (Call.Status 127) (Answer.Value 524296)
    ∷ entry 1 (Call.Get 0 0 0) (Answer.Got Origin.Quit 0 (message 0 18 3 0 0 (record { x = (pos 0); y = (pos 0) })))
    ∷ entry 1 (Call.Status 127) (Answer.Value 0)
    ∷ []

abbrev pub past : Past
past = reverse history

pub answers : told past ≡ replies setup past
unfolding reply
answers = refl

-- so it is legal
pub legal : IsLegal setup history
legal = (lit≤ tt, lawful_from_replies setup past answers)
