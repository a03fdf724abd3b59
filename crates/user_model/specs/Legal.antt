-- Legal histories.
use Rattle.std.specs.Prelude.{◌≡◌, ◌≤◌, ◌^◌, List, [], ◌∷◌, length, reverse, map}
use Rattle.user_model.specs.declared.entry.Setup.{Setup}
use Rattle.user_model.specs.declared.entry.Entry.{Entry}
use Rattle.user_model.specs.declared.entry.Answer.{Answer}
use Rattle.user_model.specs.Past.{Past}
use Rattle.user_model.specs.Idle.{reply}

-- each answer of the past is the reply at what was before it
abbrev pub IsLawful : Setup → Past → Type 0
IsLawful setup [] = Unit {0}
IsLawful setup (e ∷ past) = IsLawful setup past × (e.answer ≡ reply setup past e.who.0 e.call)

-- a history with the oldest entry first is legal where its past is lawful, and it is no longer than allowed
abbrev pub IsLegal : Setup → List Entry → Type 0
IsLegal setup history = (length history ≤ 2 ^ 21) × IsLawful setup (reverse history)

-- what was answered
abbrev pub told : Past → List Answer
told past = map (λ e. e.answer) past

-- the replies at each place, the newest first
abbrev pub replies : Setup → Past → List Answer
replies setup [] = []
replies setup (e ∷ past) = reply setup past e.who.0 e.call ∷ replies setup past
