-- Focus, active window and capture, which a group of attached threads shares, and the foreground thread.
use Rattle.std.specs.Prelude.{if◌then◌else◌, ℕ, ◌==◌, Bool, ◌&&◌, Option, Some, None, unwrap_or}
use Rattle.user_model.specs.declared.call.Call.{Call}
use Rattle.user_model.specs.declared.call.Call.TheVariants.{SetFocus, SetActive, SetCapture, ReleaseCapture}
use Rattle.user_model.specs.declared.entry.Entry.{Entry}
use Rattle.user_model.specs.Past.{Past, last_of}
use Rattle.user_model.specs.Windows.{is_live, thread_of}
use Rattle.user_model.specs.Groups.{is_in_group}

-- what a group has one window of
pub data Slot : Type 0 where
  focus : Slot
  active : Slot
  capture : Slot

-- the window that a call sets for the slot
abbrev pub set_in : Slot → Call → Option ℕ
set_in focus (SetFocus w) = Some w
set_in active (SetActive w) = Some w
set_in capture (SetCapture w) = Some w
set_in capture ReleaseCapture = Some 0
set_in _ _ = None

-- what is told, where the thread is one of these
abbrev pub if_among : {A : Type 0} → (ℕ → Bool) → ℕ → Option A → Option A
if_among among who None = None
if_among among who (Some a) = if among who then Some a else None

-- the window that an entry of one of these threads sets
abbrev pub set_among : (ℕ → Bool) → Slot → Entry → Past → Option ℕ
set_among among slot e before = if_among among e.who.0 (set_in slot e.call)

-- the window that one of these threads set last, or 0
abbrev pub last_set : (ℕ → Bool) → Slot → Past → ℕ
last_set among slot past = unwrap_or (last_of (set_among among slot) past) 0

-- w where it is a live window of t's group, else 0
abbrev pub if_of_group : Past → ℕ → ℕ → ℕ
if_of_group past t w = if is_live past w && is_in_group past t (thread_of past w) then w else 0

-- the focus, active window or capture of t's group: what one of its threads set last, where that is a live window of the group, else 0
abbrev pub value_of : Past → ℕ → Slot → ℕ
value_of past t slot = if_of_group past t (last_set (is_in_group past t) slot past)

-- the thread that makes the call, where it makes a window active
abbrev pub activates : ℕ → Call → Option ℕ
activates who (SetActive w) = if w == 0 then None else Some who
activates who _ = None

-- the foreground thread: the one that made a window active last, or 0
abbrev pub foreground : Past → ℕ
foreground past = unwrap_or (last_of (λ e before. activates e.who.0 e.call) past) 0
