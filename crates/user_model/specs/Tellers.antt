-- What tellers know of the history of one machine, which others may share, and what a turn does.
use Rattle.std.specs.Prelude.{◌≡◌, ◌≢◌, ◌⊎◌, ◌≤◌, ℕ, ◌+◌, true, false, [], ◌∷◌, ◌++◌, Option, Some, None}
use Rattle.win_num.specs.declared.message.Thread.{Thread}
use Rattle.user_model.specs.declared.call.Call.{Call}
use Rattle.user_model.specs.declared.entry.Answer.{Answer}
use Rattle.user_model.specs.declared.entry.Setup.{Setup}
use Rattle.user_model.specs.declared.teller.Told.{Told}
use Rattle.user_model.specs.declared.teller.Told.TheVariants.{Answered, Barred}
use Rattle.user_model.specs.Past.{Past, is_full}
use Rattle.user_model.specs.Places.{mine as entries_of}
use Rattle.user_model.specs.Idle.{reply, is_barred}
use Rattle.user_model.specs.Legal.{IsLawful}
use Rattle.user_model.specs.Machines.{entry_of, after}

-- what a teller knows: the setup, the past at its opening, and of each actor that it serves what the actor has seen since then, the newest entry first, its own entries since then, and how often it looked, where that is told
pub record TellerView : Type 0 where
  pub setup : Setup
  pub opening : Past
  pub seen : ℕ → Past
  pub mine : ℕ → Past
  pub looks : ℕ → Option ℕ

-- the whole past where so much has happened since the opening
abbrev pub whole_past : TellerView → Past → Past
whole_past view since = since ++ view.opening

-- newer entries stand in front of the earlier past, or none
abbrev pub HasGrown : Past → Past → Type 0
HasGrown early late = (newer : Past) × (late ≡ newer ++ early)

-- where looks are told, there is exactly one more of them now
abbrev pub IsOneMore : Option ℕ → Option ℕ → Type 0
IsOneMore None new = new ≡ None
IsOneMore (Some before) new = new ≡ Some (before + 1)

-- where looks are told, there are no fewer of them now
abbrev pub HasNotFallen : Option ℕ → Option ℕ → Type 0
HasNotFallen None new = new ≡ None
HasNotFallen (Some before) new = (now : ℕ) × (new ≡ Some now) × (before ≤ now)

-- the entries of the actor in what it has seen are just its own, each once and in order
abbrev pub IsFaithful : TellerView → ℕ → Type 0
IsFaithful view t = entries_of (view.seen t) t ≡ view.mine t

-- each answer in the opening and in what the actor has seen since is the reply at its place
abbrev pub IsLawfulTo : TellerView → ℕ → Type 0
IsLawfulTo view t = IsLawful view.setup (whole_past view (view.seen t))

-- the actor forgets nothing that it has seen, and what it sees stays in order
pub record Remembers (old new : TellerView) (t : ℕ) : Type 0 where
  pub seen : HasGrown (old.seen t) (new.seen t)
  pub looks : HasNotFallen (old.looks t) (new.looks t)
  pub faithful : IsFaithful old t → IsFaithful new t
  pub lawful : IsLawfulTo old t → IsLawfulTo new t

-- a turn of an actor leaves the setup, the opening and the entries of each other actor that is served, and none of these forgets
pub record GoesOn (old new : TellerView) (serves : ℕ → Type 0) (who : ℕ) : Type 0 where
  pub setup : new.setup ≡ old.setup
  pub opening : new.opening ≡ old.opening
  pub others : (t : ℕ) → t ≢ who → serves t → new.mine t ≡ old.mine t
  pub remembers : (t : ℕ) → serves t → Remembers old new t

-- the actor has had exactly one turn, in which it has looked: its own entries are those in what it has seen
pub record HasLooked (old new : TellerView) (t : ℕ) : Type 0 where
  pub looks : IsOneMore (old.looks t) (new.looks t)
  pub faithful : IsFaithful new t

-- the call was made, where so much had happened since the opening that there was room and the actor wasn't barred; its answer is the reply there, and its entry stands in front of all that
pub record HasMade (old new : TellerView) (who : Thread) (call : Call) (answer : Answer) : Type 0 where
  pub since : Past
  pub before : HasGrown (old.seen who.0) since
  pub room : is_full (whole_past old since) ≡ false
  pub free : is_barred old.setup (whole_past old since) who.0 ≡ false
  pub is_reply : answer ≡ reply old.setup (whole_past old since) who.0 call
  pub seen : new.seen who.0 ≡ entry_of who call answer ∷ since
  pub mine : new.mine who.0 ≡ entry_of who call answer ∷ old.mine who.0

-- the history, which the actor has now seen, is full and the actor isn't barred there; the answer is the reply there, and no entry was made
pub record HasFoundFull (old new : TellerView) (who : Thread) (call : Call) (answer : Answer) : Type 0 where
  pub full : is_full (whole_past old (new.seen who.0)) ≡ true
  pub free : is_barred old.setup (whole_past old (new.seen who.0)) who.0 ≡ false
  pub is_reply : answer ≡ reply old.setup (whole_past old (new.seen who.0)) who.0 call
  pub mine : new.mine who.0 ≡ old.mine who.0

-- the actor is barred at the history, which it has now seen, and made no call
pub record HasFoundBarred (old new : TellerView) (who : Thread) : Type 0 where
  pub barred : is_barred old.setup (whole_past old (new.seen who.0)) who.0 ≡ true
  pub mine : new.mine who.0 ≡ old.mine who.0

-- what a turn came to
abbrev pub CameTo : TellerView → TellerView → Thread → Call → Told → Type 0
CameTo old new who call (Answered answer) = HasMade old new who call answer ⊎ HasFoundFull old new who call answer
CameTo old new who call Barred = HasFoundBarred old new who

-- a machine of which nobody else makes calls: all see all of it from its beginning, and looks aren't told
abbrev pub alone_view : Setup → Past → TellerView
alone_view setup past = record { setup = setup; opening = []; seen = λ t. past; mine = λ t. entries_of past t; looks = λ t. None }

-- what one knows after a turn of an actor at such a machine
abbrev pub AloneGoesOn : Setup → Setup → Past → Past → Thread → Type 0
AloneGoesOn setup setup_now past now who = GoesOn (alone_view setup past) (alone_view setup_now now) (λ t. Unit {0}) who.0

-- the machine made that step for an actor that wasn't barred, or the actor was barred and nothing happened
abbrev pub IsStepOrBar : Setup → Past → Past → Thread → Call → Told → Type 0
IsStepOrBar setup past now who call (Answered answer) = (is_barred setup past who.0 ≡ false) × (answer ≡ reply setup past who.0 call) × (now ≡ after setup past who call)
IsStepOrBar setup past now who call Barred = (is_barred setup past who.0 ≡ true) × (now ≡ past)

-- what was told of a turn at such a machine is just what the machine did
abbrev pub TellsAll : Type 0
TellsAll = (setup setup_now : Setup) (past now : Past) (who : Thread) (call : Call) (told : Told) → AloneGoesOn setup setup_now past now who → CameTo (alone_view setup past) (alone_view setup_now now) who call told → IsStepOrBar setup past now who call told

-- where the actor has no entry more, nothing happened at such a machine
abbrev pub StandsStill : Type 0
StandsStill = (setup setup_now : Setup) (past now : Past) (who : Thread) → AloneGoesOn setup setup_now past now who → entries_of now who.0 ≡ entries_of past who.0 → now ≡ past
