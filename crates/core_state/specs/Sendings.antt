-- What an entry does to the sends, among the windows of a table.
use Rattle.std.specs.Prelude.{if◌then◌else◌, ◌≡◌, ◌==◌, ◌&&◌, ◌<◌, ◌≤◌, ◌^◌, ℕ, Bool, true, false, not, List, length, Option, Some, None, is_some, option_and_then}
use Rattle.win_num.specs.declared.message.Thread.{Thread}
use Rattle.win_num.specs.declared.send.Kind.{Kind}
use Rattle.std.specs.FinMap as map
use Rattle.win_rows.specs.declared.window.Window.{Window}
use Rattle.win_rows.specs.Windows.{is_live}
use Rattle.send_frames.specs.declared.row.SendRow.{SendRow}
use Rattle.send_frames.specs.Book.{IsThread, refusal_at_begin, stack_of}
use Rattle.send_state.specs.Parts.{SendParts, CanBegin, CanLeaveFrom, CanLose, CanReplyIn, CanServe, begun, dispatched, ended, finished, head_of, left, looked, lost, lost_count, rank, replied, served, timed_out, top_of}
use Rattle.send_variants.specs.Lists.{AreBelow, list_of}
use Rattle.send_state.specs.Stories.{EachStory, noted_loss}
use Rattle.user_model.specs.declared.story.SendStory.{SendStory}
use Rattle.user_model.specs.Deeds.{SendParts as CallParts, parts_of}
use Rattle.user_model.specs.declared.call.Call.{Call}
use Rattle.user_model.specs.declared.call.Call.TheVariants.{Send, SendTimeout, SendNotify, SendCallback, Await, Leave, Reply, Drop}
use Rattle.user_model.specs.declared.entry.Entry.{Entry}
use Rattle.user_model.specs.Past.{is_refused}
use Rattle.user_model.specs.Status.{is_look}
use Rattle.user_model.specs.declared.entry.Answer.{Answer}
use Rattle.user_model.specs.declared.entry.Answer.TheVariants.{Okay, Ended, Value, Inside, Begun, Enter, Callback, Called, Left, Done}
use Rattle.window_state.specs.Trees.{thread_in}
use Rattle.thread_queues.specs.Deliveries.{goes_with}

-- ---- a send is made

-- a send to a window of these
abbrev pub row_to : List Window → ℕ → Thread → ℕ → ℕ → ℕ → ℕ → Kind → SendRow
row_to ws time who w number wparam lparam kind = record { from = who; to = record { 0 = thread_in ws w }; hwnd = record { 0 = w }; number = number; wparam = wparam; lparam = lparam; kind = kind; time = time }

-- a send with these parts
abbrev pub row_with : List Window → ℕ → Thread → Option CallParts → Option SendRow
row_with ws time who (Some of) = Some (row_to ws time who of.hwnd of.message of.wparam of.lparam of.kind)
row_with ws time who None = None

-- the send that a call makes
abbrev pub sending : List Window → ℕ → Thread → Call → Option SendRow
sending ws time who call = row_with ws time who (parts_of call)

-- the window is live, and its message's number is one
abbrev pub FitsSending : List Window → Call → Type 0
FitsSending ws (Send w number wparam lparam) = (is_live ws w ≡ true) × (number ≤ 65535)
FitsSending ws (SendTimeout w number wparam lparam flags ms) = (is_live ws w ≡ true) × (number ≤ 65535) × (flags ≤ 11) × (ms ≤ 4294967295)
FitsSending ws (SendNotify w number wparam lparam) = (is_live ws w ≡ true) × (number ≤ 65535)
FitsSending ws (SendCallback w number wparam lparam proc_no extra) = (is_live ws w ≡ true) × (number ≤ 65535)
FitsSending ws _ = Unit {0}

-- a send that can be begun at a place
pub record FitsRow (p : SendParts) (place : ℕ) (row : SendRow) : Type 0 where
  pub from : IsThread p.book row.from.0
  pub to : IsThread p.book row.to.0
  pub early : place < 2 ^ 21
  pub joins : CanBegin p row place
  pub free : refusal_at_begin p.book row ≡ None

-- the same of one that may be none
abbrev pub FitsOption : SendParts → ℕ → Option SendRow → Type 0
FitsOption p place None = Unit {0}
FitsOption p place (Some row) = FitsRow p place row

-- the parts with a send that may be none
abbrev pub begun_with : ℕ → Option SendRow → SendParts → SendParts
begun_with place None p = p
begun_with place (Some row) p = begun p row place

-- after an answer that takes memory
abbrev pub added_sends : List Window → ℕ → ℕ → Thread → Answer → Call → SendParts → SendParts
added_sends ws time place who (Inside s proc_no) call p = begun_with place (sending ws time who call) p
added_sends ws time place who (Begun s) call p = begun_with place (sending ws time who call) p
added_sends ws time place who _ call p = p

-- what such an answer needs
abbrev pub FitsAddedSends : List Window → ℕ → ℕ → Thread → Answer → Call → SendParts → Type 0
FitsAddedSends ws time place who (Inside s proc_no) call p = FitsSending ws call × FitsOption p place (sending ws time who call)
FitsAddedSends ws time place who (Begun s) call p = FitsSending ws call × FitsOption p place (sending ws time who call)
FitsAddedSends ws time place who _ call p = Unit {0}

-- ---- what takes no memory

-- whether w is a live window of the thread
abbrev pub is_of : List Window → ℕ → ℕ → Bool
is_of ws t w = is_live ws w && (thread_in ws w == t)

-- a procedure is left, or what is ready is run
abbrev pub left_by_call : ℕ → ℕ → Call → SendParts → SendParts
left_by_call place who (Leave v) p = left p who v place
left_by_call place who _ p = p

abbrev pub called_back : ℕ → ℕ → Call → SendParts → SendParts
called_back place who (Leave v) p = left p who v place
called_back place who _ p = served p who

abbrev pub replied_by_call : ℕ → ℕ → Call → SendParts → SendParts
replied_by_call place who (Reply v) p = replied p who v place
replied_by_call place who _ p = p

-- whether a send is known to be answered
abbrev pub is_answered_in : SendParts → ℕ → Bool
is_answered_in p s = is_some (option_and_then (λ k. k.answer) (map.get p.book.known s))

-- a wait ends: its send was answered, or its time is over
abbrev pub waited : ℕ → Call → SendParts → SendParts
waited who (Await s) p = if is_answered_in p s then finished p who else timed_out p who s
waited who _ p = p

-- the unentered sends to the windows that go are lost
abbrev pub dropped_sends : List Window → ℕ → Call → SendParts → SendParts
dropped_sends ws place (Drop v) p = lost (goes_with ws v) p place
dropped_sends ws place _ p = p

-- and what is ready goes with its thread
abbrev pub ended_sends : List Window → ℕ → ℕ → SendParts → SendParts
ended_sends ws place who p = ended (lost (is_of ws who) p place) who

-- whether the answer is that a reply was the first answer
abbrev pub replied_if : Bool → ℕ → ℕ → Call → SendParts → SendParts
replied_if first place who call p = if first then replied_by_call place who call p else p

-- after an answer that takes no memory
abbrev pub affected_sends : List Window → ℕ → ℕ → Answer → Call → SendParts → SendParts
affected_sends ws place who (Enter s proc_no w number wparam lparam) call p = served p who
affected_sends ws place who (Callback s proc_no w number extra result) call p = called_back place who call p
affected_sends ws place who (Called proc_no) call p = dispatched p who
affected_sends ws place who (Left s) call p = left_by_call place who call p
affected_sends ws place who (Value v) call p = replied_if (v == 1) place who call p
affected_sends ws place who (Done result cause) call p = waited who call p
affected_sends ws place who Okay call p = dropped_sends ws place call p
affected_sends ws place who Ended call p = ended_sends ws place who p
affected_sends ws place who _ call p = p

-- how many sends a call loses that was answered by ok
abbrev pub dropped_count : List Window → ℕ → Call → SendParts → ℕ
dropped_count ws place (Drop v) p = lost_count (goes_with ws v) p place
dropped_count ws place _ p = 0

-- how many sends an answer loses
abbrev pub losses_by : List Window → ℕ → ℕ → Answer → Call → SendParts → ℕ
losses_by ws place who Okay call p = dropped_count ws place call p
losses_by ws place who Ended call p = lost_count (is_of ws who) p place
losses_by ws place who _ call p = 0

-- what a call that was answered by ok says to the stories of sends
abbrev pub dropped_losses : List Window → ℕ → Call → SendParts → ℕ → SendStory → SendStory
dropped_losses ws place (Drop v) p = noted_loss (goes_with ws v) p place
dropped_losses ws place _ p = λ s x. x

-- what an answer says to the stories of the sends that it loses
abbrev pub noted_losses : List Window → ℕ → ℕ → Answer → Call → SendParts → ℕ → SendStory → SendStory
noted_losses ws place who Okay call p = dropped_losses ws place call p
noted_losses ws place who Ended call p = noted_loss (is_of ws who) p place
noted_losses ws place who _ call p = λ s x. x

-- ---- what that needs

-- what is first ready can be run
pub record FitsServing (p : SendParts) (t : ℕ) : Type 0 where
  pub is_one : IsThread p.book t
  pub room : length (stack_of p.book t) < 64
  pub known : CanServe p.book (head_of p t)

pub record FitsLeaving (p : SendParts) (t place : ℕ) : Type 0 where
  pub is_one : IsThread p.book t
  pub early : place < 2 ^ 21
  pub joins : CanLeaveFrom p (rank place 0) (top_of p t)

pub record FitsReplying (p : SendParts) (t place : ℕ) : Type 0 where
  pub is_one : IsThread p.book t
  pub early : place < 2 ^ 21
  pub joins : CanReplyIn p (rank place 0) (top_of p t)

pub record FitsLosing (goes : ℕ → Bool) (p : SendParts) (place : ℕ) : Type 0 where
  pub early : place < 2 ^ 21
  pub joins : CanLose goes (p, rank place 0)

pub record FitsDispatch (p : SendParts) (t : ℕ) : Type 0 where
  pub is_one : IsThread p.book t
  pub room : length (stack_of p.book t) < 64

abbrev pub FitsLeave : ℕ → ℕ → Call → SendParts → Type 0
FitsLeave place who (Leave v) p = FitsLeaving p who place
FitsLeave place who _ p = Unit {0}

abbrev pub FitsCallback : ℕ → ℕ → Call → SendParts → Type 0
FitsCallback place who (Leave v) p = FitsLeaving p who place
FitsCallback place who _ p = FitsServing p who

abbrev pub FitsReply : ℕ → ℕ → Call → SendParts → Type 0
FitsReply place who (Reply v) p = FitsReplying p who place
FitsReply place who _ p = Unit {0}

-- a number of a send fits
abbrev pub FitsWait : ℕ → Call → SendParts → Type 0
FitsWait who (Await s) p = IsThread p.book who × (s < 2 ^ 32)
FitsWait who _ p = Unit {0}

abbrev pub FitsDropped : List Window → ℕ → Call → SendParts → Type 0
FitsDropped ws place (Drop v) p = (is_live ws v ≡ true) × FitsLosing (goes_with ws v) p place
FitsDropped ws place _ p = Unit {0}

abbrev pub FitsReplied : Bool → ℕ → ℕ → Call → SendParts → Type 0
FitsReplied true place who call p = FitsReply place who call p
FitsReplied false place who call p = Unit {0}

-- what an answer that takes no memory needs
abbrev pub FitsSendEffect : List Window → ℕ → ℕ → Answer → Call → SendParts → Type 0
FitsSendEffect ws place who (Enter s proc_no w number wparam lparam) call p = FitsServing p who
FitsSendEffect ws place who (Callback s proc_no w number extra result) call p = FitsCallback place who call p
FitsSendEffect ws place who (Called proc_no) call p = FitsDispatch p who
FitsSendEffect ws place who (Left s) call p = FitsLeave place who call p
FitsSendEffect ws place who (Value v) call p = FitsReplied (v == 1) place who call p
FitsSendEffect ws place who (Done result cause) call p = FitsWait who call p
FitsSendEffect ws place who Okay call p = FitsDropped ws place call p
FitsSendEffect ws place who Ended call p = IsThread p.book who × FitsLosing (is_of ws who) p place
FitsSendEffect ws place who _ call p = Unit {0}

-- ---- a look

-- whether an entry is a look that wasn't refused
abbrev pub is_looking : Entry → Bool
is_looking e = is_look e.call && not (is_refused e)

-- after an entry: where it is such a look, its thread has looked. place is that of the next entry
abbrev pub looked_by : Entry → ℕ → SendParts → SendParts
looked_by e place p = if is_looking e then looked p e.who.0 place else p

-- a thread can look at a place: it is above all that is ready
pub record FitsLook (p : SendParts) (t place : ℕ) : Type 0 where
  pub is_one : IsThread p.book t
  pub early : place ≤ 2 ^ 21
  pub above : AreBelow (rank place 0) (list_of p.lists t)

-- ---- stories are told

-- the stories were changed by the one, and then by the other
pub record AreTold (first second : ℕ → SendStory → SendStory) (old new : List SendStory) : Type 0 where
  pub between : List SendStory
  pub before : EachStory first old between
  pub after : EachStory second between new
