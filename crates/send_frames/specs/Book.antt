-- What the sends of all threads are.
use Rattle.std.specs.Prelude.{◌≡◌, ℕ, ◌+◌, ◌-◌, ◌<◌, ◌≤◌, ◌==◌, Bool, true, false, not, ◌&&◌, ◌||◌, nat_lt, nat_le, if◌then◌else◌, List, [], ◌∷◌, length, replicate, slice_index_or, slice_set, Option, Some, None, is_none, IsSome, IfSome, IsTrue, refl}
use Rattle.std.specs.Coded.{Coded, code_by, coded×, coded_ℕ, coded_bool, coded_list, coded_option}
use Rattle.win_num.specs.contracts.send.Frame as frame
use Rattle.win_num.specs.contracts.send.Cause as cause
use Rattle.send_frames.specs.contracts.row.SendRow as row
use Rattle.std.specs.Ordering.{nat_cmp}
use Rattle.std.specs.FinMap as map
use Rattle.win_num.specs.declared.code.Code.{Code}
use Rattle.win_num.specs.declared.code.Code.TheVariants.{Win, Full}
use Rattle.win_num.specs.declared.code.Fault.{Fault}
use Rattle.win_num.specs.declared.code.Fault.TheVariants.{Refused, Memory}
use Rattle.win_num.specs.declared.send.SendId.{SendId}
use Rattle.win_num.specs.declared.send.Cause.{Cause}
use Rattle.win_num.specs.declared.send.Kind.{Kind}
use Rattle.win_num.specs.declared.send.Kind.TheVariants.{Wait, Timeout, Notify, Callback}
use Rattle.win_num.specs.declared.send.Frame.{Frame}
use Rattle.win_num.specs.declared.send.Frame.TheVariants.{Entered, Inside, Called, CallbackRun, Await}
use Rattle.send_frames.specs.declared.row.SendRow.{SendRow}

-- what is known of a send: its row, its first answer, and whether its result is still owed to a callback procedure
pub record KnownSend : Type 0 where
  pub row : SendRow
  pub answer : Option (ℕ × Cause)
  pub owed : Bool

-- how many sends were begun, each thread's frames with the newest first, and the known sends by number
pub record Book : Type 0 where
  pub begun : ℕ
  pub stacks : List (List Frame)
  pub known : map.FinMap nat_cmp KnownSend

-- what is known of a send is stored as the tuple of its parts
abbrev pub known_code : Coded KnownSend
known_code =
    code_by (SendRow × (Option (ℕ × Cause) × Bool)) (coded× row.the_row.coded (coded× (coded_option (coded× coded_ℕ cause.the_row.coded)) coded_bool))
    (λ k. (k.row, (k.answer, k.owed))) (λ p. record { row = p.0; answer = p.1.0; owed = p.1.1 }) (λ _. refl)

-- a book is stored as the tuple of its parts
abbrev pub book_code : Coded Book
book_code =
    code_by (ℕ × (List (List Frame) × map.FinMap nat_cmp KnownSend)) (coded× coded_ℕ (coded× (coded_list (coded_list frame.the_row.coded)) (map.code coded_ℕ known_code)))
    (λ b. (b.begun, (b.stacks, b.known))) (λ p. record { begun = p.0; stacks = p.1.0; known = p.1.1 }) (λ _. refl)

-- whether a kind of send has its sender wait
abbrev pub is_waiting : Kind → Bool
is_waiting Wait = true
is_waiting (Timeout flags ms) = true
is_waiting Notify = false
is_waiting (Callback proc_no extra) = false

-- whether a kind of send hands its result to a callback procedure
abbrev pub is_callback : Kind → Bool
is_callback Wait = false
is_callback (Timeout flags ms) = false
is_callback Notify = false
is_callback (Callback proc_no extra) = true

-- whether a send stays within its thread
abbrev pub is_inside : SendRow → Bool
is_inside r = r.from.0 == r.to.0

-- the frame that a send's beginning pushes: its own procedure, or the wait of its sender
abbrev pub frame_at_begin : SendRow → SendId → Option Frame
frame_at_begin r s = if is_inside r then Some (Inside s) else (if is_waiting r.kind then Some (Await s) else None)

-- whether the result of a send is owed to a callback procedure: it is a callback send to another thread
abbrev pub is_owed_at_begin : SendRow → Bool
is_owed_at_begin r = not (is_inside r) && is_callback r.kind

-- whether a send's beginning pushes a frame
abbrev pub pushes_at_begin : SendRow → Bool
pushes_at_begin r = is_inside r || is_waiting r.kind

-- the frames of thread t, the newest first
abbrev pub stack_of : Book → ℕ → List Frame
stack_of b t = slice_index_or b.stacks (t - 1) []

-- t is one of the threads
abbrev pub IsThread : Book → ℕ → Type 0
IsThread b t = (1 ≤ t) × (t ≤ length b.stacks)

-- the send that a frame names
abbrev pub named_by : Frame → Option ℕ
named_by (Entered s) = Some s.0
named_by (Inside s) = Some s.0
named_by Called = None
named_by CallbackRun = None
named_by (Await s) = Some s.0

-- whether this is the send s
abbrev pub is_send : ℕ → Option ℕ → Bool
is_send s None = false
is_send s (Some n) = s == n

-- whether a frame names the send s
abbrev pub names : ℕ → Frame → Bool
names s f = is_send s (named_by f)

-- whether two frames are of one kind and name one send
abbrev pub is_same : Frame → Frame → Bool
is_same (Entered s) (Entered q) = s.0 == q.0
is_same (Inside s) (Inside q) = s.0 == q.0
is_same (Await s) (Await q) = s.0 == q.0
is_same f g = false

-- how many frames of a stack pass a test
abbrev pub count_in : (Frame → Bool) → List Frame → ℕ
count_in test [] = 0
count_in test (f ∷ fs) = (if test f then 1 else 0) + count_in test fs

-- how many frames of all stacks pass a test
abbrev pub count_on : (Frame → Bool) → List (List Frame) → ℕ
count_on test [] = 0
count_on test (fs ∷ stacks) = count_in test fs + count_on test stacks

-- at most one frame of each kind names a send
abbrev pub AreNamedOnce : List (List Frame) → Type 0
AreNamedOnce stacks = (f : Frame) → count_on (is_same f) stacks ≤ 1

-- a frame names no send, or no frame of its kind names that send yet
abbrev pub IsNewFrame : List (List Frame) → Frame → Type 0
IsNewFrame stacks f = IfSome (named_by f) (λ _. count_on (is_same f) stacks ≡ 0)

-- whether a send stays known: it has no answer, or its result is owed, or a frame that names it stands on a stack
abbrev pub is_wanted : List (List Frame) → ℕ → KnownSend → Bool
is_wanted stacks s k = is_none k.answer || k.owed || nat_lt 0 (count_on (names s) stacks)

-- the send s is as k says, and no longer known where nothing keeps it known
abbrev pub with_send : Book → ℕ → KnownSend → Book
with_send b s k = record b { known = if is_wanted b.stacks s k then map.insert b.known s k else map.remove b.known s }

-- thread t has these frames
abbrev pub with_stack : Book → ℕ → List Frame → Book
with_stack b t fs = record b { stacks = slice_set b.stacks (t - 1) fs }

-- the stacks with a frame, if there is one, on the top of thread t's
abbrev pub with_top : List (List Frame) → ℕ → Option Frame → List (List Frame)
with_top stacks t None = stacks
with_top stacks t (Some f) = slice_set stacks (t - 1) (f ∷ slice_index_or stacks (t - 1) [])

-- a frame is put on the top of thread t's stack
abbrev pub pushed : Book → ℕ → Frame → Book
pushed b t f = record b { stacks = with_top b.stacks t (Some f) }

-- a send, if there is one, is no longer known where nothing keeps it known
abbrev pub settled_as : Book → ℕ → Option KnownSend → Book
settled_as b s None = b
settled_as b s (Some k) = with_send b s k

abbrev pub settled : Book → Option ℕ → Book
settled b None = b
settled b (Some s) = settled_as b s (map.get b.known s)

-- the newest of these frames is taken from thread t's stack
abbrev pub popped_from : Book → ℕ → List Frame → Book
popped_from b t [] = b
popped_from b t (f ∷ fs) = settled (with_stack b t fs) (named_by f)

abbrev pub popped : Book → ℕ → Book
popped b t = popped_from b t (stack_of b t)

-- no send, and an empty stack for each thread
abbrev pub no_sends : ℕ → Book
no_sends threads = record { begun = 0; stacks = replicate threads []; known = map.empty }

-- a send as it is known from its beginning
abbrev pub new_send : SendRow → KnownSend
new_send r = record { row = r; answer = None; owed = is_owed_at_begin r }

-- the next send is begun: it has the next number, its frame stands on its sender's stack, and it is known
abbrev pub begun_by : Book → SendRow → Book
begun_by b r = record {
  begun = b.begun + 1;
  stacks = with_top b.stacks r.from.0 (frame_at_begin r (record { 0 = b.begun + 1 }));
  known = map.insert b.known (b.begun + 1) (new_send r);
}

-- the beginning would push at depth 64
abbrev pub is_too_deep : Book → SendRow → Bool
is_too_deep b r = pushes_at_begin r && nat_le 64 (length (stack_of b r.from.0))

-- why a send can't be begun: 1001 for the depth, else `Full` for 1,024 known sends
abbrev pub refusal_at_begin : Book → SendRow → Option Code
refusal_at_begin b r = if is_too_deep b r then Some (Win 1001) else (if nat_le 1024 (map.len b.known) then Some Full else None)

-- a fault is this refusal; where there is none it is want of memory
abbrev pub IsFaultFor : Option Code → Fault → Type 0
IsFaultFor None fault = fault ≡ Memory
IsFaultFor (Some code) fault = fault ≡ Refused code

-- a send that is known has no answer yet
abbrev pub is_open : Option KnownSend → Bool
is_open None = false
is_open (Some k) = is_none k.answer

-- a send that is known still owes its result
abbrev pub is_owing : Option KnownSend → Bool
is_owing None = false
is_owing (Some k) = k.owed

-- the first answer of a send is kept, and a later one changes nothing
abbrev pub answered_as : Book → ℕ → ℕ × Cause → Option KnownSend → Book
answered_as b s a None = b
answered_as b s a (Some k) = if is_none k.answer then with_send b s (record k { answer = Some a }) else b

abbrev pub answered_by : Book → ℕ → ℕ × Cause → Book
answered_by b s a = answered_as b s a (map.get b.known s)

-- the result of a send is owed to nobody
abbrev pub forgotten_as : Book → ℕ → Option KnownSend → Book
forgotten_as b s None = b
forgotten_as b s (Some k) = with_send b s (record k { owed = false })

abbrev pub forgotten : Book → ℕ → Book
forgotten b s = forgotten_as b s (map.get b.known s)

-- the least known number above this one, or none
abbrev pub IsNextAbove : map.FinMap nat_cmp KnownSend → ℕ → Option ℕ → Type 0
IsNextAbove m n None = (j : ℕ) → n < j → map.get m j ≡ None
IsNextAbove m n (Some s) = (n < s) × IsSome (map.get m s) × ((j : ℕ) → n < j → j < s → map.get m j ≡ None)

-- a frame names no send, or a known one
abbrev pub NamesKnown : Book → Frame → Type 0
NamesKnown b f = IfSome (named_by f) (λ s. IsSome (map.get b.known s))

-- what is so of each number: a send that isn't known is named by no frame, and a known one was begun and is wanted
abbrev pub IsRightSend : Book → ℕ → Option KnownSend → Type 0
IsRightSend b s None = count_on (names s) b.stacks ≡ 0
IsRightSend b s (Some k) = (1 ≤ s) × (s ≤ b.begun) × IsTrue (is_wanted b.stacks s k)

-- what is so of every book that can be reached
pub record IsSound (b : Book) : Type 0 where
  pub threads : (1 ≤ length b.stacks) × (length b.stacks ≤ 15)
  pub depth : (t : ℕ) → length (stack_of b t) ≤ 64
  pub sends : (s : ℕ) → IsRightSend b s (map.get b.known s)
  pub few : map.len b.known ≤ 1024
