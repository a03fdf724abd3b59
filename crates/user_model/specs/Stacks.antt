-- The stack of a thread, its newest frame first. It depends on the thread's own entries alone.
use Rattle.std.specs.Prelude.{if◌then◌else◌, ℕ, ◌==◌, nat_lt, Bool, true, false, List, [], ◌∷◌, length, drop, Option, Some, None}
use Rattle.win_num.specs.declared.send.Kind.{Kind}
use Rattle.win_num.specs.declared.send.Kind.TheVariants.{Wait, Timeout as WithTimeout, Notify, Callback as WithCallback}
use Rattle.win_num.specs.declared.send.Frame.{Frame}
use Rattle.win_num.specs.declared.send.Frame.TheVariants.{Entered, Inside, Called, CallbackRun, Await}
use Rattle.user_model.specs.declared.call.Call.{Call}
use Rattle.user_model.specs.declared.entry.Answer.{Answer}
use Rattle.user_model.specs.declared.entry.Answer.TheVariants.{Update, Painting, Snap, Enter, Inside as InsideOf, Called as CalledProc, Callback, Begun, Left, Done, Okay, Ended, Nothing, Wait as StillWaits, Stuck, Gone, Running, Finished, Value, Window, Was, Posted, Input, Tell, Last, Advanced, Busy, Got, Refused}
use Rattle.user_model.specs.Past.{Past, is_refused, first}
use Rattle.user_model.specs.Deeds.{SendParts, parts_of, Deed, leaving, deed}

-- whether a procedure is left
abbrev pub leaves_in : Deed → Bool
leaves_in (leaving v) = true
leaves_in _ = false

-- whether the call leaves a procedure
abbrev pub leaves : Call → Bool
leaves call = leaves_in (deed call)

-- whether the sender waits for the answer
abbrev pub is_waiting_kind : Kind → Bool
is_waiting_kind Wait = true
is_waiting_kind (WithTimeout flags ms) = true
is_waiting_kind Notify = false
is_waiting_kind (WithCallback proc_no extra) = false

-- whether the caller waits for the answer of a send that another thread answers
abbrev pub waits_for : Option SendParts → Bool
waits_for (Some of) = is_waiting_kind of.kind
waits_for None = false

-- whether the call makes its caller wait for such an answer
abbrev pub waits : Call → Bool
waits call = waits_for (parts_of call)

-- what an answer does to the stack of its thread
abbrev pub stacked : Call → Answer → List Frame → List Frame
stacked call (Enter s proc_no w number wparam lparam) frames = Entered s ∷ frames
stacked call (InsideOf s proc_no) frames = Inside s ∷ frames
stacked call (CalledProc proc_no) frames = Called ∷ frames
stacked call (Callback s proc_no w number extra result) frames = CallbackRun ∷ (if leaves call then drop 1 frames else frames)
stacked call (Begun s) frames = if waits call then Await s ∷ frames else frames
stacked call (Left s) frames = drop 1 frames
stacked call (Done result cause) frames = drop 1 frames
stacked call Okay frames = frames
stacked call Ended frames = frames
stacked call Nothing frames = frames
stacked call StillWaits frames = frames
stacked call Stuck frames = frames
stacked call Gone frames = frames
stacked call Running frames = frames
stacked call (Finished v) frames = frames
stacked call (Value v) frames = frames
stacked call (Window w) frames = frames
stacked call (Was w) frames = frames
stacked call (Posted k) frames = frames
stacked call (Input k) frames = frames
stacked call (Tell w) frames = frames
stacked call (Last w) frames = frames
stacked call (Advanced time) frames = frames
stacked call (Busy t) frames = frames
stacked call (Update kind l t r b) frames = frames
stacked call (Painting erase l t r b) frames = frames
stacked call (Snap k) frames = frames
stacked call (Got origin number msg) frames = frames
stacked call (Refused code) frames = frames

-- the frames that stand, the newest first
abbrev pub stack : Past → ℕ → List Frame
stack [] t = []
stack (e ∷ past) t = elim (is_refused e) [ true ↦ stack past t | false ↦ elim (e.who.0 == t) [ true ↦ stacked e.call e.answer (stack past t) | false ↦ stack past t ] ]

-- the frame on top
abbrev pub top : Past → ℕ → Option Frame
top past t = first (stack past t)

-- a stack has at most 64 frames
abbrev pub has_room : Past → ℕ → Bool
has_room past t = nat_lt (length (stack past t)) 64
