-- A beginning of a legal history is legal.
use Rattle.std.specs.Prelude.{◌≡◌, ◌≤◌, ◌^◌, List, [], ◌∷◌, ◌++◌, length, map, reverse}
use Rattle.std.proofs.Common.{ap, ◌∙◌, subst}
use Rattle.std.proofs.lemmas.List.{map-append, reverse-append}
use Rattle.turn_lock.specs.Counting.{shorter}
use Rattle.user_model.specs.declared.entry.Entry.{Entry}
use Rattle.user_model.specs.declared.entry.Setup.{Setup}
use Rattle.user_model.specs.Past.{Past}
use Rattle.user_model.specs.Legal.{IsLawful}
use Rattle.user_desk.specs.Journal.{Said, entry, past_of, IsLegalLog}

-- an earlier past of a lawful one is lawful
pub lawful_behind : (setup : Setup) (late early : Past) → IsLawful setup (late ++ early) → IsLawful setup early
lawful_behind setup [] early lawful = lawful
lawful_behind setup (e ∷ late) early lawful = lawful_behind setup late early lawful.0

-- what is said later stands in front of the past
pub past-append : (early late : List Said) → past_of (early ++ late) ≡ past_of late ++ past_of early
past-append early late = ap (λ (l : List Entry). reverse l) (map-append entry early late) ∙ reverse-append (map entry early) (map entry late)

-- a beginning of a legal log is legal
pub legal_beginning : (setup : Setup) (early late : List Said) → IsLegalLog setup (early ++ late) → IsLegalLog setup early
legal_beginning setup early late legal =
    (shorter (2 ^ 21) (map entry early) (map entry late) (subst (λ (l : List Entry). length l ≤ 2 ^ 21) (map-append entry early late) legal.0), lawful_behind setup (past_of late) (past_of early) (subst (IsLawful setup) (past-append early late) legal.1))
