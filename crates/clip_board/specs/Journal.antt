-- A clipboard's history as the journal of a state that threads share: what was said, the oldest first.
use Rattle.std.specs.Prelude.{◌≡◌, ℕ, Bool, List, [], ◌∷◌, ◌++◌, map, reverse}
use Rattle.std.proofs.Common.{ap, ◌∙◌, subst}
use Rattle.std.proofs.lemmas.List.{map-append, reverse-append}
use Rattle.win_num.specs.declared.message.Thread.{Thread}
use Rattle.clip_board.specs.declared.entry.ClipCall.{ClipCall}
use Rattle.clip_board.specs.declared.entry.ClipAnswer.{ClipAnswer}
use Rattle.clip_board.specs.declared.entry.ClipEntry.{ClipEntry}
use Rattle.clip_board.specs.Clipboards.{ClipPast, clip_entry, clip_reply, is_full, IsLawful}

-- a call of a thread, with its answer
abbrev pub Said : Type 0
Said = (Thread × ClipCall) × ClipAnswer

-- the entry that it is in a history
abbrev pub entry : Said → ClipEntry
entry x = clip_entry x.0.0 x.0.1 x.1

-- what an entry says
abbrev pub said : ClipEntry → Said
said e = ((e.who, e.call), e.answer)

-- the past in which so much was said
abbrev pub past_of : List Said → ClipPast
past_of log = reverse (map entry log)

-- what was said in a past
abbrev pub said_in : ClipPast → List Said
said_in past = map said (reverse past)

-- whether so much was said that there is no room for more
abbrev pub is_full_of : List Said → Bool
is_full_of log = is_full (past_of log)

-- the thread of a call
abbrev pub caller : Thread × ClipCall → ℕ
caller call = call.0.0

-- what the call is answered where so much was said
abbrev pub reply_after : List Said → Thread × ClipCall → ClipAnswer
reply_after log call = clip_reply (past_of log) call.0 call.1

-- each answer is the reply at what was said before it
abbrev pub IsLawfulLog : List Said → Type 0
IsLawfulLog log = IsLawful (past_of log)

-- an earlier past of a lawful one is lawful
pub lawful_behind : (late early : ClipPast) → IsLawful (late ++ early) → IsLawful early
lawful_behind [] early lawful = lawful
lawful_behind (e ∷ late) early lawful = lawful_behind late early lawful.0

-- what is said later stands in front of the past
pub past-append : (early late : List Said) → past_of (early ++ late) ≡ past_of late ++ past_of early
past-append early late = ap (λ (l : List ClipEntry). reverse l) (map-append entry early late) ∙ reverse-append (map entry early) (map entry late)

-- a beginning of a lawful log is lawful
pub lawful_beginning : (early late : List Said) → IsLawfulLog (early ++ late) → IsLawfulLog early
lawful_beginning early late lawful = lawful_behind (past_of late) (past_of early) (subst IsLawful (past-append early late) lawful)
