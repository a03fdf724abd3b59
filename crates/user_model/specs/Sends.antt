-- Sends, and the first answer of each.
use Rattle.std.specs.Prelude.{if◌then◌else◌, ℕ, ◌==◌, Bool, true, false, not, ◌&&◌, ◌||◌, List, [], ◌∷◌, filter, find, Option, Some, None, is_some}
use Rattle.std.specs.List.{list_any}
use Rattle.win_num.specs.declared.send.Kind.{Kind}
use Rattle.win_num.specs.declared.send.Kind.TheVariants.{Callback as WithCallback}
use Rattle.win_num.specs.declared.send.Cause.{Cause}
use Rattle.win_num.specs.declared.send.Cause.TheVariants.{Proc, Reply as ByReply, Loss, Timeout as ByTimeout}
use Rattle.win_num.specs.declared.send.Frame.{Frame}
use Rattle.win_num.specs.declared.send.Frame.TheVariants.{Entered, Inside as InsideFrame, Await as AwaitFrame}
use Rattle.user_model.specs.declared.call.Call.{Call}
use Rattle.user_model.specs.declared.entry.Entry.{Entry}
use Rattle.user_model.specs.declared.entry.Answer.{Answer}
use Rattle.user_model.specs.declared.entry.Answer.TheVariants.{Inside, Begun, Enter, Callback, Left, Value, Done}
use Rattle.user_model.specs.Past.{Past, place_after, first_of, each_of, ever}
use Rattle.user_model.specs.Places.{clock, has_ended}
use Rattle.user_model.specs.Deeds.{SendParts, parts_of, Deed, leaving, replying, awaiting, deed}
use Rattle.user_model.specs.Windows.{thread_of, drops_window}
use Rattle.user_model.specs.Stacks.{stack, top}

-- a send as it was made; inside where its window is the sender's own
pub record SentMsg : Type 0 where
  pub number : ℕ
  pub from : ℕ
  pub to : ℕ
  pub hwnd : ℕ
  pub message : ℕ
  pub wparam : ℕ
  pub lparam : ℕ
  pub kind : Kind
  pub place : ℕ
  pub time : ℕ
  pub is_inside : Bool

-- a send with what is known when it is made
abbrev pub sent : Entry → Past → ℕ → ℕ → ℕ → ℕ → Kind → ℕ → Bool → List SentMsg
sent e past w message wparam lparam kind s is_inside = record { number = s; from = e.who.0; to = thread_of past w; hwnd = w; message = message; wparam = wparam; lparam = lparam; kind = kind; place = place_after past; time = clock past; is_inside = is_inside } ∷ []

-- a send by its answer: inside, or begun
abbrev pub sent_as : Answer → Entry → Past → ℕ → ℕ → ℕ → ℕ → Kind → List SentMsg
sent_as (Inside s proc_no) e past w message wparam lparam kind = sent e past w message wparam lparam kind s.0 true
sent_as (Begun s) e past w message wparam lparam kind = sent e past w message wparam lparam kind s.0 false
sent_as _ e past w message wparam lparam kind = []

-- the send that an entry makes with these parts
abbrev pub sends_with : Option SendParts → Entry → Past → List SentMsg
sends_with (Some of) e past = sent_as e.answer e past of.hwnd of.message of.wparam of.lparam of.kind
sends_with None e past = []

-- the send that an entry makes
abbrev pub sends_by : Call → Entry → Past → List SentMsg
sends_by call e past = sends_with (parts_of call) e past

-- all sends, in order
abbrev pub sends : Past → List SentMsg
sends past = each_of (λ e before. sends_by e.call e before) past

-- the send of a number
abbrev pub send : Past → ℕ → Option SentMsg
send past s = find (λ x. x.number == s) (sends past)

-- whether the answer enters the send
abbrev pub enters : Answer → ℕ → Bool
enters (Inside t proc_no) s = t.0 == s
enters (Enter t proc_no w number wparam lparam) s = t.0 == s
enters _ s = false

-- a send is entered by its own entry where that answers inside, else by one that answers enter
abbrev pub is_entered : Past → ℕ → Bool
is_entered past s = ever (λ e before. enters e.answer s) past

-- where, with what and how a send was answered
pub record Outcome : Type 0 where
  pub place : ℕ
  pub result : ℕ
  pub cause : Cause

-- an answer at this place
abbrev pub outcome : Past → ℕ → Cause → Outcome
outcome past result cause = record { place = place_after past; result = result; cause = cause }

-- whether the answer says that the send's procedure was left
abbrev pub left_by : Answer → ℕ → Bool
left_by (Left t) s = t.0 == s
left_by (Callback t proc_no w number extra result) s = t.0 == s
left_by _ s = false

-- whether the answer is value 1
abbrev pub is_one : Answer → Bool
is_one (Value v) = v == 1
is_one _ = false

-- whether the answer is that the time is over
abbrev pub is_timed_out : Answer → Bool
is_timed_out (Done result ByTimeout) = true
is_timed_out _ = false

-- whether the frame is that of the entered send
abbrev pub is_entered_frame : Option Frame → ℕ → Bool
is_entered_frame (Some (Entered t)) s = t.0 == s
is_entered_frame _ s = false

-- the answers that name the send: its procedure is left, it is replied to, or its wait times out
abbrev pub answers_as : Deed → Entry → Past → ℕ → Option Outcome
answers_as (leaving v) e past s = if left_by e.answer s then Some (outcome past v Proc) else None
answers_as (replying v) e past s = if is_one e.answer && is_entered_frame (top past e.who.0) s then Some (outcome past v ByReply) else None
answers_as (awaiting t) e past s = if is_timed_out e.answer && (t == s) then Some (outcome past 0 ByTimeout) else None
answers_as _ e past s = None

-- the answer that a call gives the send by name
abbrev pub answers_in : Call → Entry → Past → ℕ → Option Outcome
answers_in call e past s = answers_as (deed call) e past s

-- whether the entry drops the window of a send that isn't entered
abbrev pub loses : Entry → Past → ℕ → Bool
loses e past s = elim (send past s) [ Some x ↦ drops_window e past x.hwnd && not (is_entered past s) | None ↦ false ]

-- the answer that an entry gives the send
abbrev pub answers : Entry → Past → ℕ → Option Outcome
answers e past s = if loses e past s then Some (outcome past 0 Loss) else answers_in e.call e past s

-- the first answer of a send
abbrev pub answer : Past → ℕ → Option Outcome
answer past s = first_of (λ e before. answers e before s) past

-- whether the send has an answer
abbrev pub is_answered : Past → ℕ → Bool
is_answered past s = is_some (answer past s)

-- whether the frame is one of the send's
abbrev pub names_send : Frame → ℕ → Bool
names_send (Entered t) s = t.0 == s
names_send (InsideFrame t) s = t.0 == s
names_send (AwaitFrame t) s = t.0 == s
names_send _ s = false

-- whether a frame of the send stands on the stack of its sender or its receiver
abbrev pub is_stacked : Past → SentMsg → Bool
is_stacked past x = list_any (λ f. names_send f x.number) (stack past x.from) || list_any (λ f. names_send f x.number) (stack past x.to)

-- whether the sender wants to be called back
abbrev pub is_callback_kind : Kind → Bool
is_callback_kind (WithCallback proc_no extra) = true
is_callback_kind _ = false

-- whether the answer hands over the send's result
abbrev pub calls_back : Answer → ℕ → Bool
calls_back (Callback t proc_no w number extra result) s = t.0 == s
calls_back _ s = false

-- whether the sender was handed the result of its callback send
abbrev pub was_called_back : Past → SentMsg → Bool
was_called_back past x = ever (λ e before. calls_back e.answer x.number && (e.who.0 == x.from)) past

-- whether the sender of a callback send to another thread waits to be called back
abbrev pub is_owed : Past → SentMsg → Bool
is_owed past x = is_callback_kind x.kind && (not x.is_inside && (not (has_ended past x.from) && not (was_called_back past x)))

-- a send is unfinished while it has no answer, a frame of it stands, or its sender waits to be called back
abbrev pub is_unfinished : Past → SentMsg → Bool
is_unfinished past x = not (is_answered past x.number) || (is_stacked past x || is_owed past x)

-- the sends that are unfinished
abbrev pub unfinished : Past → List SentMsg
unfinished past = filter (is_unfinished past) (sends past)
