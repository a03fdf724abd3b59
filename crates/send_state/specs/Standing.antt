-- When parts of sends stand for a past.
use Rattle.std.specs.Prelude.{◌≡◌, ℕ, ◌/◌, ◌≤◌, List, length, map as each, Option, Some, None, option_map, if◌then◌else◌}
use Rattle.std.specs.FinMap as map
use Rattle.win_num.specs.declared.send.Cause.{Cause}
use Rattle.user_model.specs.declared.entry.Setup.{Setup}
use Rattle.user_model.specs.Past.{Past, place_after}
use Rattle.user_model.specs.Stacks.{stack}
use Rattle.user_model.specs.Status.{last_look}
use Rattle.user_model.specs.Sends.{SentMsg, Outcome, sends, send, answer, is_owed, is_unfinished}
use Rattle.user_model.specs.Ready.{ReadyMsg, to_enter, to_call_back, place_of, ready}
use Rattle.send_frames.specs.declared.row.SendRow.{SendRow}
use Rattle.send_frames.specs.Book.{Book, KnownSend, stack_of}
use Rattle.send_variants.specs.declared.ready.Ready.{Ready}
use Rattle.send_variants.specs.declared.ready.Ready.TheVariants.{Send, Result}
use Rattle.send_variants.specs.Lists.{AreBelow, Entry, IsSound, list_of, mark_of}
use Rattle.send_state.specs.Parts.{SendParts, rank}

-- the row of a send
abbrev pub row_of : SentMsg → SendRow
row_of x = record { from = record { 0 = x.from }; to = record { 0 = x.to }; hwnd = record { 0 = x.hwnd }; number = x.message; wparam = x.wparam; lparam = x.lparam; kind = x.kind; time = x.time }

-- the result and the cause of an answer
abbrev pub as_told : Outcome → ℕ × Cause
as_told o = (o.result, o.cause)

-- what is known of a send
abbrev pub known_as : Past → SentMsg → KnownSend
known_as past x = record { row = row_of x; answer = option_map as_told (answer past x.number); owed = is_owed past x }

-- a send is known where it is unfinished
abbrev pub known_of : Past → Option SentMsg → Option KnownSend
known_of past None = None
known_of past (Some x) = if is_unfinished past x then Some (known_as past x) else None

-- what is known of the send of a number
abbrev pub known_at : Past → ℕ → Option KnownSend
known_at past s = known_of past (send past s)

-- t is a thread of the setup
abbrev pub IsOurs : Setup → ℕ → Type 0
IsOurs setup t = (1 ≤ t) × (t ≤ setup.threads)

-- the sends with their frames are those of the past
pub record BookStands (setup : Setup) (past : Past) (b : Book) : Type 0 where
  pub begun : b.begun ≡ length (sends past)
  pub threads : length b.stacks ≡ setup.threads
  pub stacks : (t : ℕ) → IsOurs setup t → stack_of b t ≡ stack past t
  pub known : (s : ℕ) → map.get b.known s ≡ known_at past s

-- a message that is ready, by the number of its send
abbrev pub ready_as : ReadyMsg → Ready
ready_as (to_enter x) = Send (record { 0 = x.number })
ready_as (to_call_back x proc_no extra place) = Result (record { 0 = x.number })

-- the same with the place at which it became ready
abbrev pub item_as : ReadyMsg → ℕ × Ready
item_as r = (place_of r, ready_as r)

-- the place of a rank
abbrev pub place_at : ℕ → ℕ
place_at n = n / 1024

-- what an entry of a list has, with the place of its rank
abbrev pub item : Entry → ℕ × Ready
item e = (place_at e.0, e.1)

-- the lists are what is ready, under rising ranks of the places at which it became so; these have been
pub record ListsStand (setup : Setup) (past : Past) (lists : List (List Entry)) : Type 0 where
  pub threads : length lists ≡ setup.threads
  pub ready : (t : ℕ) → IsOurs setup t → each item (list_of lists t) ≡ each item_as (ready past t)
  pub below : (t : ℕ) → AreBelow (rank (place_after past) 0) (list_of lists t)
  pub sound : IsSound lists

-- both parts stand for the past
pub record PartsStand (setup : Setup) (past : Past) (p : SendParts) : Type 0 where
  pub book : BookStands setup past p.book
  pub lists : ListsStand setup past p.lists

-- each thread's mark is the first rank of the place after its last look
pub record MarksStand (setup : Setup) (past : Past) (marks : List ℕ) : Type 0 where
  pub count : length marks ≡ setup.threads
  pub at : (t : ℕ) → IsOurs setup t → mark_of marks t ≡ rank (length (last_look past t)) 0
