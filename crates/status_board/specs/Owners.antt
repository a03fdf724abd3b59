-- What the owner of a board publishes: its own statuses. A past has its newest entry first.
use Rattle.std.specs.Prelude.{◌≡◌, ◌⊎◌, ℕ, ◌+◌, ◌-◌, ◌==◌, if◌then◌else◌, Bool, false, List, [], ◌∷◌, ◌++◌, length, slice_get, Option, Some, None}
use Rattle.win_num.specs.declared.message.Thread.{Thread}
use Rattle.win_num.specs.declared.code.Code.{Code}
use Rattle.win_num.specs.declared.code.Code.TheVariants.{Full, NotNow}
use Rattle.user_model.specs.declared.call.Call.{Call}
use Rattle.user_model.specs.declared.call.Call.TheVariants.{Status}
use Rattle.user_model.specs.declared.entry.Answer.{Answer}
use Rattle.user_model.specs.declared.entry.Answer.TheVariants.{Value, Refused}
use Rattle.user_model.specs.declared.entry.Entry.{Entry}
use Rattle.user_model.specs.declared.entry.Setup.{Setup}
use Rattle.user_model.specs.Past.{Past}
use Rattle.user_model.specs.Status.{status}
use Rattle.turn_lock.specs.Seats.{Sitting}
use Rattle.user_desk.specs.Desks.{made_by, HasMade, CameTo}
use Rattle.status_board.specs.declared.shown.Shown.{Shown}
use Rattle.status_board.specs.declared.shown.Published.{Published}
use Rattle.status_board.specs.declared.shown.Published.TheVariants.{Shown as Told, Refused as Denied}
use Rattle.status_board.specs.Lists.{shown}

-- whether the call asks for the status of all kinds of messages
abbrev pub is_status : Call → Bool
is_status (Status flags) = flags == 127
is_status _ = false

-- the value that an answer tells
abbrev pub value_told : Answer → Option ℕ
value_told (Value v) = Some v
value_told _ = None

-- a value, if there is one
abbrev pub one_of : Option ℕ → List ℕ
one_of None = []
one_of (Some v) = v ∷ []

-- the value that an entry tells, where it asked for that status
abbrev pub told_by : Entry → List ℕ
told_by e = if is_status e.call then one_of (value_told e.answer) else []

-- the values that were told so, the oldest first
abbrev pub values : Past → List ℕ
values [] = []
values (e ∷ past) = values past ++ told_by e

-- since the opening so many were told
pub record HasCounted (opening mine : Past) (n : ℕ) : Type 0 where
  pub since : Past
  pub whole : mine ≡ since ++ opening
  pub count : length (values since) ≡ n

-- since some moment so many were told as these
abbrev pub IsCounted : Past → List Shown → Type 0
IsCounted mine list = (start : Past) × HasCounted start mine (length list)

-- since the opening the value of this number was told as the one of that number
pub record IsPublished (opening mine : Past) (x : Shown) : Type 0 where
  pub since : Past
  pub whole : mine ≡ since ++ opening
  pub value : slice_get (values since) (x.number - 1) ≡ Some x.value

module _ {S : Type 0} (setup : Setup) (opening : Past) (old new : Sitting S (Thread × Call) Answer) where
  -- the call told a value, the status at its place in the history; it was published with the next number, and is the value of that number that the seat was told since any opening from which the numbers count
  pub record HasShown (before after : List Shown) (n : ℕ) : Type 0 where
    pub value : ℕ
    pub made : HasMade setup opening old new (Status 127) (Value value)
    pub is_status : value ≡ status setup (made.since ++ opening) new.number 127
    pub number : n ≡ length before + 1
    pub list : after ≡ before ++ shown n value ∷ []
    pub is_published : (start : Past) → HasCounted start (made_by old) (length before) → IsPublished start (made_by new) (shown n value)

  -- the call was refused, since it can't be made now or the history is full; nothing was published
  pub record HasDenied (before after : List Shown) (code : Code) : Type 0 where
    pub came_to : CameTo setup opening old new (Status 127) (Refused code)
    pub causes : (code ≡ NotNow) ⊎ (code ≡ Full)
    pub list : after ≡ before

  -- what a publish came to
  abbrev pub CameToShow : List Shown → List Shown → Published → Type 0
  CameToShow before after (Told n) = HasShown before after n
  CameToShow before after (Denied code) = HasDenied before after code
