-- What contracts say of a desk and of its seats. A past has its newest entry first.
use Rattle.std.specs.Prelude.{◌≡◌, ◌≢◌, ◌⊎◌, ◌≤◌, ◌<◌, ℕ, ◌+◌, true, false, List, ◌∷◌, ◌++◌, length, All, Option, Some, None}
use Rattle.win_num.specs.declared.message.Thread.{Thread}
use Rattle.win_num.specs.declared.code.Code.TheVariants.{Full}
use Rattle.user_model.specs.declared.call.Call.{Call}
use Rattle.user_model.specs.declared.entry.Answer.{Answer}
use Rattle.user_model.specs.declared.entry.Answer.TheVariants.{Wait, Refused}
use Rattle.user_model.specs.declared.entry.Setup.{Setup}
use Rattle.user_model.specs.declared.teller.Told.{Told}
use Rattle.user_model.specs.declared.teller.Told.TheVariants.{Answered, Barred}
use Rattle.user_model.specs.Past.{Past, is_full}
use Rattle.user_model.specs.Places.{mine as entries_of}
use Rattle.user_model.specs.Idle.{reply, is_barred}
use Rattle.user_model.specs.Legal.{IsLawful}
use Rattle.user_model.specs.Machines.{entry_of}
use Rattle.user_model.specs.Tellers.{HasGrown}
use Rattle.turn_lock.specs.Seats.{Lock, Sitting, IsSeatOf}
use Rattle.user_desk.specs.Journal.{past_of}

-- the actor of this number
abbrev pub thread : ℕ → Thread
thread n = record { 0 = n }

-- what a turn is told: the answer of the call that was made, or that none was
abbrev pub told_of : Option Answer → Told
told_of (Some answer) = Answered answer
told_of None = Barred

-- the actor had a call to make where so much had happened since the opening
abbrev pub WasFree : Setup → Past → ℕ → Past → Type 0
WasFree setup opening who since = is_barred setup (since ++ opening) who ≡ false

module _ {S : Type 0} where
  -- what the seat has seen since the desk was opened
  abbrev pub seen_by : Sitting S (Thread × Call) Answer → Past
  seen_by seat = past_of seat.seen

  -- the entries that the seat has made since then
  abbrev pub made_by : Sitting S (Thread × Call) Answer → Past
  made_by seat = past_of seat.mine

  -- the seat is one of the desk
  abbrev pub IsDeskSeat : Lock S → Sitting S (Thread × Call) Answer → Type 0
  IsDeskSeat desk seat = IsSeatOf desk seat × (seat.number < desk.seats)

  -- the seat has looked once more, and forgets nothing: the opening and all that it has seen is legal, and the entries of its actor there since the opening are just those that it has made, each once and in order
  pub record HasLooked (setup : Setup) (opening : Past) (old new : Sitting S (Thread × Call) Answer) : Type 0 where
    pub looks : new.looks ≡ old.looks + 1
    pub seen : HasGrown (seen_by old) (seen_by new)
    pub lawful : IsLawful setup (seen_by new ++ opening)
    pub short : length (seen_by new ++ opening) ≤ 2097152
    pub own : entries_of (seen_by new) new.number ≡ made_by new

  -- the call was made where so much had happened since the opening that there was room; its answer is the reply there, and its entry is the newest that the seat has seen and made
  pub record HasMade (setup : Setup) (opening : Past) (old new : Sitting S (Thread × Call) Answer) (call : Call) (answer : Answer) : Type 0 where
    pub since : Past
    pub before : HasGrown (seen_by old) since
    pub room : is_full (since ++ opening) ≡ false
    pub is_reply : answer ≡ reply setup (since ++ opening) new.number call
    pub seen : seen_by new ≡ entry_of (thread new.number) call answer ∷ since
    pub made : made_by new ≡ entry_of (thread new.number) call answer ∷ made_by old

  -- the history, which the seat has now seen, is full, so the call made no entry
  pub record HasFoundFull (opening : Past) (old new : Sitting S (Thread × Call) Answer) (answer : Answer) : Type 0 where
    pub full : is_full (seen_by new ++ opening) ≡ true
    pub is_refusal : answer ≡ Refused Full
    pub made : made_by new ≡ made_by old

  -- what a call came to
  abbrev pub CameTo : Setup → Past → Sitting S (Thread × Call) Answer → Sitting S (Thread × Call) Answer → Call → Answer → Type 0
  CameTo setup opening old new call answer = HasMade setup opening old new call answer ⊎ HasFoundFull opening old new answer

  -- what a turn came to: the call of an actor that has one to make, or none of one that is barred at the history, which its seat has now seen
  abbrev pub TurnCameTo : Setup → Past → Sitting S (Thread × Call) Answer → Sitting S (Thread × Call) Answer → Call → Told → Type 0
  TurnCameTo setup opening old new call (Answered answer) =
      ((made : HasMade setup opening old new call answer) × WasFree setup opening new.number made.since)
      ⊎ (HasFoundFull opening old new answer × WasFree setup opening new.number (seen_by new))
  TurnCameTo setup opening old new call Barred = (is_barred setup (seen_by new ++ opening) new.number ≡ true) × (made_by new ≡ made_by old)

  -- the seat has made no entry, or one of this call that waits
  abbrev pub MayHaveWaited : Sitting S (Thread × Call) Answer → Sitting S (Thread × Call) Answer → Call → Type 0
  MayHaveWaited old new call = (made_by new ≡ made_by old) ⊎ (made_by new ≡ entry_of (thread old.number) call Wait ∷ made_by old)

  -- what a call came to that was tried until it waited no more: before its last entry one of the same call that waits may stand
  pub record CameToAtLast (setup : Setup) (opening : Past) (old new : Sitting S (Thread × Call) Answer) (call : Call) (answer : Answer) : Type 0 where
    pub between : Sitting S (Thread × Call) Answer
    pub seen : HasGrown (seen_by old) (seen_by between)
    pub waited : MayHaveWaited old between call
    pub came_to : CameTo setup opening between new call answer
    pub no_wait : answer ≢ Wait

  -- the seat remembers: the opening and all that it has seen is legal, and its own entries there are those that it has made
  pub record Remembers (setup : Setup) (opening : Past) (old new : Sitting S (Thread × Call) Answer) : Type 0 where
    pub looks : old.looks < new.looks
    pub seen : HasGrown (seen_by old) (seen_by new)
    pub lawful : IsLawful setup (seen_by new ++ opening)
    pub short : length (seen_by new ++ opening) ≤ 2097152
    pub own : entries_of (seen_by new) new.number ≡ made_by new

  -- what comes out of a desk: the setup of the opening, and a legal past, the opening's and then what began with all that each seat has seen; the entries of each seat's actor since the opening are those that the seat has made, and no entry is another actor's
  pub record HasClosed (setup : Setup) (opening : Past) (count : ℕ) (seats : List (Sitting S (Thread × Call) Answer)) (setup_now : Setup) (now : Past) : Type 0 where
    pub setup_stays : setup_now ≡ setup
    pub lawful : IsLawful setup_now now
    pub short : length now ≤ 2097152
    pub since : Past
    pub whole : now ≡ since ++ opening
    pub seen : All (λ seat. HasGrown (seen_by seat) since) seats
    pub own : All (λ seat. entries_of since seat.number ≡ made_by seat) seats
    pub known : All (λ e. e.who.0 < count) since
