-- How many sends came to what, and what one entry adds.
use Rattle.std.specs.Prelude.{if◌then◌else◌, ◌≡◌, ℕ, ◌+◌, ◌<◌, ◌^◌, Bool, true, false, Option, Some, None, is_none, count_by}
use Rattle.std.specs.FinMap as map
use Rattle.win_num.specs.declared.send.SendId.{SendId}
use Rattle.win_num.specs.declared.send.Cause.{Cause}
use Rattle.win_num.specs.declared.send.Cause.TheVariants as causes
use Rattle.win_num.specs.declared.send.Frame.{Frame}
use Rattle.win_num.specs.declared.send.Frame.TheVariants.{Entered, Inside as InsideFrame, Called as CalledFrame, CallbackRun, Await as AwaitFrame}
use Rattle.user_model.specs.declared.call.Call.{Call}
use Rattle.user_model.specs.declared.call.Call.TheVariants.{Await, Leave, Reply}
use Rattle.user_model.specs.declared.entry.Answer.{Answer}
use Rattle.user_model.specs.declared.entry.Answer.TheVariants.{Callback, Enter, Inside, Left}
use Rattle.user_model.specs.Past.{Past}
use Rattle.user_model.specs.Sends.{is_entered, is_one, is_timed_out, sends}
use Rattle.user_model.specs.Counts.{count_of_cause, same_cause}
use Rattle.send_frames.specs.Book.{IsThread, KnownSend}
use Rattle.send_state.specs.Parts.{SendParts, top_of}
use Rattle.send_state.specs.declared.tally.Tally.{Tally}

-- the counts of a past
abbrev pub tally_at : Past → Tally
tally_at past = record {
  entered = count_by (λ x. is_entered past x.number) (sends past);
  by_proc = count_of_cause past causes.Proc;
  by_reply = count_of_cause past causes.Reply;
  by_loss = count_of_cause past causes.Loss;
  by_timeout = count_of_cause past causes.Timeout;
}

-- ---- a first answer

-- the send whose procedure was left
abbrev pub left_send : Answer → Option (SendId × Cause)
left_send (Left s) = Some (s, causes.Proc)
left_send (Callback s proc_no w number extra result) = Some (s, causes.Proc)
left_send _ = None

-- the send of an entered frame, as one that was replied to
abbrev pub replied_to : Option Frame → Option (SendId × Cause)
replied_to (Some (Entered s)) = Some (s, causes.Reply)
replied_to (Some (InsideFrame s)) = None
replied_to (Some CalledFrame) = None
replied_to (Some CallbackRun) = None
replied_to (Some (AwaitFrame s)) = None
replied_to None = None

-- the send that an entry may answer, and by which cause
abbrev pub named_send : SendParts → ℕ → Answer → Call → Option (SendId × Cause)
named_send p who a (Leave v) = left_send a
named_send p who a (Reply v) = if is_one a then replied_to (top_of p who) else None
named_send p who a (Await s) = if is_timed_out a then Some (record { 0 = s }, causes.Timeout) else None
named_send p who a _ = None

-- what naming it needs
abbrev pub FitsNaming : SendParts → ℕ → Answer → Call → Type 0
FitsNaming p who a (Reply v) = is_one a ≡ true → IsThread p.book who
FitsNaming p who a (Await s) = is_timed_out a ≡ true → s < 2 ^ 32
FitsNaming p who a _ = Unit {0}

-- whether a send is known and has no answer
abbrev pub is_open : Option KnownSend → Bool
is_open None = false
is_open (Some k) = is_none k.answer

-- the cause of a send that may be none, where it is the first
abbrev pub first_of : SendParts → Option (SendId × Cause) → Option Cause
first_of p None = None
first_of p (Some q) = if is_open (map.get p.book.known q.0.0) then Some q.1 else None

-- the cause by which an entry gives a send its first answer, if it names one
abbrev pub first_cause : SendParts → ℕ → Answer → Call → Option Cause
first_cause p who a call = first_of p (named_send p who a call)

-- ---- one entry more

abbrev pub one_if : Bool → ℕ
one_if b = if b then 1 else 0

-- whether the answer enters a send
abbrev pub enters_one : Answer → Bool
enters_one (Inside s proc_no) = true
enters_one (Enter s proc_no w number wparam lparam) = true
enters_one _ = false

-- whether a cause that may be none is this one
abbrev pub is_by : Cause → Option Cause → Bool
is_by cause None = false
is_by cause (Some c) = same_cause c cause

-- the counts after an answer, where a send got its first answer by a cause, and so many were lost
abbrev pub tallied : Answer → Option Cause → ℕ → Tally → Tally
tallied a first lost old = record {
  entered = old.entered + one_if (enters_one a);
  by_proc = old.by_proc + one_if (is_by causes.Proc first);
  by_reply = old.by_reply + one_if (is_by causes.Reply first);
  by_loss = old.by_loss + lost;
  by_timeout = old.by_timeout + one_if (is_by causes.Timeout first);
}

-- they fit
pub record FitsTally (old : Tally) (lost : ℕ) : Type 0 where
  pub entered : old.entered < 2 ^ 31
  pub by_proc : old.by_proc < 2 ^ 31
  pub by_reply : old.by_reply < 2 ^ 31
  pub by_loss : old.by_loss < 2 ^ 31
  pub by_timeout : old.by_timeout < 2 ^ 31
  pub few : lost < 2 ^ 31
