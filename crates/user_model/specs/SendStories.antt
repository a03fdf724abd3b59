-- What holds of the sends and the stacks of a lawful past.
use Rattle.std.specs.Prelude.{if◌then◌else◌, ◌≡◌, ℕ, ◌==◌, ◌+◌, ◌≤◌, ◌<◌, Bool, true, false, ◌||◌, List, [], ◌∷◌, length, Some}
use Rattle.std.specs.List.{AllByRecursion, list_any}
use Rattle.win_num.specs.declared.send.SendId.{SendId}
use Rattle.win_num.specs.declared.send.Frame.{Frame}
use Rattle.win_num.specs.declared.send.Frame.TheVariants.{Entered, Inside as InsideFrame, Called as CalledFrame, CallbackRun, Await as AwaitFrame}
use Rattle.user_model.specs.declared.call.Call.{Call}
use Rattle.user_model.specs.declared.call.Call.TheVariants.{Await}
use Rattle.user_model.specs.declared.entry.Entry.{Entry}
use Rattle.user_model.specs.declared.entry.SendCount.{SendCount}
use Rattle.user_model.specs.declared.entry.Answer.{Answer}
use Rattle.user_model.specs.declared.entry.Answer.TheVariants.{Done, Callback, Left}
use Rattle.user_model.specs.Past.{Past, place_after, each_of, ever}
use Rattle.user_model.specs.Places.{mine}
use Rattle.user_model.specs.Sends.{SentMsg, Outcome, send, enters, answer, calls_back, unfinished}
use Rattle.user_model.specs.Stacks.{stack}

-- whether the await of the send is done
abbrev pub ends_await : Call → Answer → ℕ → Bool
ends_await (Await t) (Done result cause) s = t == s
ends_await _ _ s = false

-- whether the entry hands the send's answer on: its await is done, or its callback runs
abbrev pub hands_on : Entry → ℕ → Bool
hands_on e s = ends_await e.call e.answer s || calls_back e.answer s

-- whether the send's answer was handed on
abbrev pub was_handed_on : Past → ℕ → Bool
was_handed_on past s = ever (λ e before. hands_on e s) past

-- the result that an answer hands on
abbrev pub result_handed : Answer → ℕ
result_handed (Done result cause) = result
result_handed (Callback t proc_no w number extra result) = result
result_handed _ = 0

-- an answer handed on: where, and with what result
pub record Handing : Type 0 where
  pub place : ℕ
  pub result : ℕ

-- what the entry hands on of the send
abbrev pub handed_by : ℕ → Entry → Past → List Handing
handed_by s e before = if hands_on e s then record { place = place_after before; result = result_handed e.answer } ∷ [] else []

-- each handing on of the send's answer, in order
abbrev pub handings : Past → ℕ → List Handing
handings past s = each_of (handed_by s) past

-- the place of the entry, where it enters the send
abbrev pub entered_by : ℕ → Entry → Past → List ℕ
entered_by s e before = if enters e.answer s then place_after before ∷ [] else []

-- the places at which the send was entered
abbrev pub entries : Past → ℕ → List ℕ
entries past s = each_of (entered_by s) past

-- whether a handing on stands at or after the answer, with its result
pub record Follows (past : Past) (s : ℕ) (h : Handing) : Type 0 where
  pub of : Outcome
  pub answered : answer past s ≡ Some of
  pub not_before : of.place ≤ h.place
  pub same_result : h.result ≡ of.result

-- a send is entered at most once and not after its answer; its answer is handed on at most once, after it came, with its result
pub record IsSendStory (past : Past) (s : ℕ) : Type 0 where
  pub entered_once : length (entries past s) ≤ 1
  pub entered_before : (o : Outcome) → answer past s ≡ Some o → AllByRecursion (λ place. place < o.place) (entries past s)
  pub handed_once : length (handings past s) ≤ 1
  pub handed_after : AllByRecursion (Follows past s) (handings past s)

-- whether two frames are of one kind and name one send
abbrev pub same_frame : Frame → Frame → Bool
same_frame (Entered s) (Entered t) = s.0 == t.0
same_frame (InsideFrame s) (InsideFrame t) = s.0 == t.0
same_frame (AwaitFrame s) (AwaitFrame t) = s.0 == t.0
same_frame _ _ = false

-- no send is named twice by frames of one kind
abbrev pub NamesOnce : List Frame → Type 0
NamesOnce [] = Unit {0}
NamesOnce (f ∷ fs) = (list_any (same_frame f) fs ≡ false) × NamesOnce fs

-- a send with its sender and its receiver
pub record IsSendOf (past : Past) (s from to : ℕ) : Type 0 where
  pub of : SentMsg
  pub found : send past s ≡ Some of
  pub is_from : of.from ≡ from
  pub is_to : of.to ≡ to

-- the frame is on the right thread's stack: an entered send's on its receiver's, an awaited send's on its sender's, an inside send's on that of both
abbrev pub IsPlaced : Past → ℕ → Frame → Type 0
IsPlaced past t (Entered s) = (from : ℕ) × IsSendOf past s.0 from t
IsPlaced past t (InsideFrame s) = IsSendOf past s.0 t t
IsPlaced past t (AwaitFrame s) = (to : ℕ) × IsSendOf past s.0 t to
IsPlaced past t CalledFrame = Unit {0}
IsPlaced past t CallbackRun = Unit {0}

-- a stack is of its thread's own entries, and names a send at most once by frames of one kind, each on the right thread
pub record IsStackStory (past : Past) (t : ℕ) : Type 0 where
  pub of_own_entries : stack past t ≡ stack (mine past t) t
  pub named_once : NamesOnce (stack past t)
  pub placed : AllByRecursion (IsPlaced past t) (stack past t)

-- whether a procedure runs in the frame
abbrev pub is_procedure : Frame → Bool
is_procedure (AwaitFrame s) = false
is_procedure _ = true

-- whether the answer is that a callback runs
abbrev pub runs_callback : Answer → Bool
runs_callback (Callback t proc_no w number extra result) = true
runs_callback _ = false

-- the send that the frame is of; 0 for one that runs for no send
abbrev pub send_of : Frame → ℕ
send_of (Entered s) = s.0
send_of (InsideFrame s) = s.0
send_of (AwaitFrame s) = s.0
send_of CalledFrame = 0
send_of CallbackRun = 0

-- the send that an answer names as left
abbrev pub send_left : Answer → ℕ
send_left (Left s) = s.0
send_left (Callback t proc_no w number extra result) = t.0
send_left _ = 0

-- an entry changes a stack at its top alone: it pushes one frame, pops one, or puts a callback's frame in the place of one
pub data IsStackStep (before after : List Frame) : Type 0 where
  stays : after ≡ before → IsStackStep before after
  pushes : (frame : Frame) → after ≡ frame ∷ before → IsStackStep before after
  pops_top : (frame : Frame) → before ≡ frame ∷ after → IsStackStep before after
  replaces : (frame : Frame) (below : List Frame) → before ≡ frame ∷ below → after ≡ CallbackRun ∷ below → IsStackStep before after

-- a leave pops the procedure's frame that its thread pushed last, and names its send; a callback that it answers stands in its place
pub record IsLeaving (past : Past) (e : Entry) : Type 0 where
  pub frame : Frame
  pub below : List Frame
  pub before : stack past e.who.0 ≡ frame ∷ below
  pub of_procedure : is_procedure frame ≡ true
  pub names_send : send_left e.answer ≡ send_of frame
  pub after : stack (e ∷ past) e.who.0 ≡ if runs_callback e.answer then CallbackRun ∷ below else below

-- an await that is done pops the frame of its send, which its thread pushed last
pub record IsAwaitDone (past : Past) (e : Entry) (s : ℕ) : Type 0 where
  pub frame : SendId
  pub is_send : frame.0 ≡ s
  pub before : stack past e.who.0 ≡ AwaitFrame frame ∷ stack (e ∷ past) e.who.0

-- where all threads have ended, each send has one answer, and none is unfinished
pub record IsSettled (past : Past) (c : SendCount) : Type 0 where
  pub all_answered : c.begun ≡ c.by_proc + c.by_reply + c.by_loss + c.by_timeout
  pub none_unfinished : c.unfinished ≡ 0

-- the limits of a lawful past: 64 frames on each stack, and 1,024 sends that are unfinished
pub record IsLimited (past : Past) : Type 0 where
  pub short : (t : ℕ) → length (stack past t) ≤ 64
  pub few : length (unfinished past) ≤ 1024
