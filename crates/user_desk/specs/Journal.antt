-- A machine's history as the journal of a state that threads share: what was said, the oldest first.
use Rattle.std.specs.Prelude.{ℕ, Bool, List, map, reverse}
use Rattle.win_num.specs.declared.message.Thread.{Thread}
use Rattle.user_model.specs.declared.call.Call.{Call}
use Rattle.user_model.specs.declared.entry.Answer.{Answer}
use Rattle.user_model.specs.declared.entry.Entry.{Entry}
use Rattle.user_model.specs.declared.entry.Setup.{Setup}
use Rattle.user_model.specs.Past.{Past, is_full}
use Rattle.user_model.specs.Idle.{reply, is_barred}
use Rattle.user_model.specs.Legal.{IsLegal}
use Rattle.user_model.specs.Machines.{entry_of}

-- a call of an actor, with its answer
abbrev pub Said : Type 0
Said = (Thread × Call) × Answer

-- the entry that it is in a history
abbrev pub entry : Said → Entry
entry x = entry_of x.0.0 x.0.1 x.1

-- what an entry says
abbrev pub said : Entry → Said
said e = ((e.who, e.call), e.answer)

-- the past in which so much was said
abbrev pub past_of : List Said → Past
past_of log = reverse (map entry log)

-- what was said in a past
abbrev pub said_in : Past → List Said
said_in past = map said (reverse past)

-- whether so much was said that there is no room for more
abbrev pub is_full_of : List Said → Bool
is_full_of log = is_full (past_of log)

-- the actor of a call
abbrev pub actor : Thread × Call → ℕ
actor call = call.0.0

-- whether the actor has no call to make where so much was said
abbrev pub is_barred_after : Setup → List Said → Thread × Call → Bool
is_barred_after setup log call = is_barred setup (past_of log) (actor call)

-- what the call is answered where so much was said
abbrev pub reply_after : Setup → List Said → Thread × Call → Answer
reply_after setup log call = reply setup (past_of log) (actor call) call.1

-- each answer is the reply at what was said before it, and not more was said than a history has room for
abbrev pub IsLegalLog : Setup → List Said → Type 0
IsLegalLog setup log = IsLegal setup (map entry log)
