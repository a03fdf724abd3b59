-- What the parts of sends are, and what each change makes of them.
use Rattle.std.specs.Prelude.{◌≡◌, ◌==◌, bit_and, nat_lt, ℕ, zero, suc, is_some, ◌+◌, ◌-◌, ◌*◌, ◌^◌, ◌<◌, Bool, true, false, ◌&&◌, if◌then◌else◌, List, [], ◌∷◌, ◌++◌, drop, length, Option, Some, None, is_none, slice_get, slice_set, option_map, option_and_then, IsSome, replicate, refl}
use Rattle.std.specs.List.{list_any}
use Rattle.std.specs.Coded.{Coded, code_by, coded×, coded_ℕ, coded_list}
use Rattle.std.specs.FinMap as map
use Rattle.win_num.specs.declared.send.SendId.{SendId}
use Rattle.win_num.specs.declared.message.Hwnd.{Hwnd}
use Rattle.win_num.specs.declared.send.Kind.{Kind}
use Rattle.win_num.specs.declared.send.Kind.TheVariants.{Wait, Timeout as WithTimeout, Notify, Callback as WithCallback}
use Rattle.user_model.specs.declared.entry.Answer.{Answer}
use Rattle.user_model.specs.declared.entry.Answer.TheVariants.{Enter, Callback}
use Rattle.win_num.specs.declared.send.Cause.{Cause}
use Rattle.win_num.specs.declared.send.Cause.TheVariants.{Proc, Reply, Loss, Timeout}
use Rattle.win_num.specs.declared.send.Frame.{Frame}
use Rattle.win_num.specs.declared.send.Frame.TheVariants.{Entered, Inside, Called, CallbackRun, Await}
use Rattle.send_frames.specs.declared.row.SendRow.{SendRow}
use Rattle.send_frames.specs.Book.{Book, KnownSend, book_code, answered_by, begun_by, forgotten, is_callback, is_inside, no_sends, popped, pushed, stack_of}
use Rattle.send_variants.specs.declared.ready.Ready.{Ready}
use Rattle.send_variants.specs.declared.ready.Ready.TheVariants.{Send, Result}
use Rattle.send_variants.specs.contracts.ready.Ready as ready
use Rattle.send_variants.specs.Lists.{AreBelow, Entry, IsThread, named_by as send_of, all_without, count_on, is_new, list_of, mark_of, place_on, total, with_list}

-- the sends with their frames, what is ready for each thread, and each thread's mark
pub record SendParts : Type 0 where
  pub book : Book
  pub lists : List (List Entry)
  pub marks : List ℕ

-- parts are stored as pairs
abbrev pub parts_code : Coded SendParts
parts_code =
    code_by (Book × (List (List Entry) × List ℕ)) (coded× book_code (coded× (coded_list (coded_list (coded× coded_ℕ ready.the_row.coded))) (coded_list coded_ℕ)))
    (λ p. (p.book, (p.lists, p.marks))) (λ p. record { book = p.0; lists = p.1.0; marks = p.1.1 }) (λ _. refl)

-- no send, and nothing ready
abbrev pub no_parts : ℕ → SendParts
no_parts threads = record { book = no_sends threads; lists = replicate threads []; marks = replicate threads 0 }

-- a number under which a thread's list has what came at a place; i counts what came at one place
abbrev pub rank : ℕ → ℕ → ℕ
rank place i = place * 1024 + i

-- one entry more at the end of a thread's list
abbrev pub with_entry : List (List Entry) → ℕ → ℕ → Ready → List (List Entry)
with_entry lists t n r = with_list lists t (list_of lists t ++ (n, r) ∷ [])

-- what may be put at the end of a thread's list
pub record CanJoin (lists : List (List Entry)) (t n s : ℕ) : Type 0 where
  pub thread : IsThread lists t
  pub above : AreBelow n (list_of lists t)
  pub room : total lists < 1024
  pub unnamed : count_on s lists ≡ 0

-- ---- a look

-- a thread looks at this place: what becomes ready from there on comes after the look
abbrev pub looked : SendParts → ℕ → ℕ → SendParts
looked p t place = record p { marks = slice_set p.marks (t - 1) (rank place 0) }

-- whether something is ready
abbrev pub has_some : SendParts → ℕ → Bool
has_some p t = list_any (λ e. true) (list_of p.lists t)

-- whether something is ready that came since the thread's last look
abbrev pub has_new : SendParts → ℕ → Bool
has_new p t = list_any (is_new (mark_of p.marks t)) (list_of p.lists t)

-- ---- a send is begun

-- a send to another thread joins its list
abbrev pub lists_begun : List (List Entry) → SendRow → ℕ → SendId → List (List Entry)
lists_begun lists r n s = if is_inside r then lists else with_entry lists r.to.0 n (Send s)

abbrev pub begun : SendParts → SendRow → ℕ → SendParts
begun p r place = record p { book = begun_by p.book r; lists = lists_begun p.lists r (rank place 0) (record { 0 = p.book.begun + 1 }) }

-- what a send's beginning needs: where it joins another thread's list, that it can
abbrev pub CanBegin : SendParts → SendRow → ℕ → Type 0
CanBegin p r place = is_inside r ≡ false → map.len p.book.known < 1024 → CanJoin p.lists r.to.0 (rank place 0) (p.book.begun + 1)

-- ---- what is ready is run

-- what is first in a thread's list
abbrev pub head_of : SendParts → ℕ → Option Ready
head_of p t = option_map (λ e. e.1) (slice_get (list_of p.lists t) 0)

-- a thread's list without its first
abbrev pub without_head : List (List Entry) → ℕ → List (List Entry)
without_head lists t = with_list lists t (drop 1 (list_of lists t))

-- the frames and sends after what was ready is run: a send is entered, a result is handed to its callback procedure
abbrev pub book_served : Book → ℕ → Option Ready → Book
book_served b t None = b
book_served b t (Some (Send s)) = pushed b t (Entered s)
book_served b t (Some (Result s)) = forgotten (pushed b t CallbackRun) s.0

abbrev pub served : SendParts → ℕ → SendParts
served p t = record p { book = book_served p.book t (head_of p t); lists = without_head p.lists t }

-- a send that is entered is known
abbrev pub CanServe : Book → Option Ready → Type 0
CanServe b None = Unit {0}
CanServe b (Some (Send s)) = IsSome (map.get b.known s.0)
CanServe b (Some (Result s)) = Unit {0}

-- the send is entered by the procedure of its window's class
abbrev pub enter_as : ℕ → SendId → KnownSend → Answer
enter_as proc_no s k = Enter s proc_no k.row.hwnd k.row.number k.row.wparam k.row.lparam

-- the callback procedure of the send gets its result
abbrev pub callback_in : SendId → KnownSend → Kind → Option Answer
callback_in s k (WithCallback proc_no extra) = option_map (λ a. Callback s proc_no k.row.hwnd k.row.number extra a.0) k.answer
callback_in s k Wait = None
callback_in s k (WithTimeout flags ms) = None
callback_in s k Notify = None

abbrev pub run_as : Book → ℕ → Ready → Option Answer
run_as b proc_no (Send s) = option_map (enter_as proc_no s) (map.get b.known s.0)
run_as b proc_no (Result s) = option_and_then (λ k. callback_in s k k.row.kind) (map.get b.known s.0)

-- whether a thread's stack has room for a frame
abbrev pub has_depth : Book → ℕ → Bool
has_depth b t = nat_lt (length (stack_of b t)) 64

-- the answer that runs what is first ready
abbrev pub next_answer : SendParts → ℕ → ℕ → Option Answer
next_answer p t proc_no = if has_depth p.book t then option_and_then (run_as p.book proc_no) (head_of p t) else None

-- the window of what is first ready
abbrev pub window_of : Book → Ready → Option Hwnd
window_of b r = option_map (λ k. k.row.hwnd) (map.get b.known (send_of r))

abbrev pub next_window : SendParts → ℕ → Option Hwnd
next_window p t = if has_depth p.book t then option_and_then (window_of p.book) (head_of p t) else None

-- when a send gives up that waits for a time
abbrev pub deadline_in : SendRow → Kind → Option ℕ
deadline_in r (WithTimeout flags ms) = Some (r.time + ms)
deadline_in r Wait = None
deadline_in r Notify = None
deadline_in r (WithCallback proc_no extra) = None

abbrev pub deadline_of : Book → ℕ → Option ℕ
deadline_of b s = option_and_then (λ k. deadline_in k.row k.row.kind) (map.get b.known s)

-- whether the sender serves nobody meanwhile
abbrev pub blocks_in : Kind → Bool
blocks_in (WithTimeout flags ms) = bit_and flags 1 == 1
blocks_in Wait = false
blocks_in Notify = false
blocks_in (WithCallback proc_no extra) = false

abbrev pub blocks_as : Option KnownSend → Bool
blocks_as None = false
blocks_as (Some k) = blocks_in k.row.kind

-- ---- a dispatch

abbrev pub dispatched : SendParts → ℕ → SendParts
dispatched p t = record p { book = pushed p.book t Called }

-- ---- an answer

-- the result of a send joins the list of its sender
abbrev pub lists_joined : List (List Entry) → ℕ → ℕ → Option KnownSend → List (List Entry)
lists_joined lists s n None = lists
lists_joined lists s n (Some k) = with_entry lists k.row.from.0 n (Result (record { 0 = s }))

-- the result of a callback send joins the list of its sender with the first answer
abbrev pub lists_answered_as : List (List Entry) → ℕ → ℕ → Option KnownSend → List (List Entry)
lists_answered_as lists s n None = lists
lists_answered_as lists s n (Some k) = if is_none k.answer && k.owed then with_entry lists k.row.from.0 n (Result (record { 0 = s })) else lists

abbrev pub answered : SendParts → ℕ → ℕ → Cause → ℕ → SendParts
answered p s v cause n = record p { book = answered_by p.book s (v, cause); lists = lists_answered_as p.lists s n (map.get p.book.known s) }

-- where the answer is the first of a callback send, its result can join
abbrev pub CanAnswerAs : List (List Entry) → ℕ → ℕ → Option KnownSend → Type 0
CanAnswerAs lists s n None = Unit {0}
CanAnswerAs lists s n (Some k) = (is_none k.answer && k.owed) ≡ true → CanJoin lists k.row.from.0 n s

abbrev pub CanAnswer : SendParts → ℕ → ℕ → Type 0
CanAnswer p s n = CanAnswerAs p.lists s n (map.get p.book.known s)

-- ---- a procedure is left

-- the procedure's send gets its answer
abbrev pub left_answer : SendParts → Option Frame → ℕ → ℕ → SendParts
left_answer p (Some (Entered s)) v n = answered p s.0 v Proc n
left_answer p (Some (Inside s)) v n = answered p s.0 v Proc n
left_answer p (Some Called) v n = p
left_answer p (Some CallbackRun) v n = p
left_answer p (Some (Await s)) v n = p
left_answer p None v n = p

-- whether a send that may be none is a callback send
abbrev pub wants_callback : Option KnownSend → Bool
wants_callback None = false
wants_callback (Some k) = is_callback k.row.kind

-- whether the frame is that of an inside callback send, in whose place its callback procedure runs
abbrev pub runs_callback : Book → Option Frame → Bool
runs_callback b (Some (Entered s)) = false
runs_callback b (Some (Inside s)) = wants_callback (map.get b.known s.0)
runs_callback b (Some Called) = false
runs_callback b (Some CallbackRun) = false
runs_callback b (Some (Await s)) = false
runs_callback b None = false

-- the newest frame of a thread
abbrev pub top_of : SendParts → ℕ → Option Frame
top_of p t = slice_get (stack_of p.book t) 0

-- the newest frame is taken away, and a callback's put in its place
abbrev pub book_left : Bool → Book → ℕ → Book
book_left true b t = pushed (popped b t) t CallbackRun
book_left false b t = popped b t

abbrev pub left_from : SendParts → Option Frame → ℕ → ℕ → ℕ → SendParts
left_from p f t v n = let q = left_answer p f v n in record q { book = book_left (runs_callback p.book f) q.book t }

abbrev pub left : SendParts → ℕ → ℕ → ℕ → SendParts
left p t v place = left_from p (top_of p t) t v (rank place 0)

-- the answer that leaving gives can be given
abbrev pub CanLeaveFrom : SendParts → ℕ → Option Frame → Type 0
CanLeaveFrom p n (Some (Entered s)) = CanAnswer p s.0 n
CanLeaveFrom p n (Some (Inside s)) = CanAnswer p s.0 n
CanLeaveFrom p n (Some Called) = Unit {0}
CanLeaveFrom p n (Some CallbackRun) = Unit {0}
CanLeaveFrom p n (Some (Await s)) = Unit {0}
CanLeaveFrom p n None = Unit {0}

-- ---- a reply

abbrev pub replied_in : SendParts → Option Frame → ℕ → ℕ → SendParts
replied_in p (Some (Entered s)) v n = answered p s.0 v Reply n
replied_in p (Some (Inside s)) v n = p
replied_in p (Some Called) v n = p
replied_in p (Some CallbackRun) v n = p
replied_in p (Some (Await s)) v n = p
replied_in p None v n = p

abbrev pub replied : SendParts → ℕ → ℕ → ℕ → SendParts
replied p t v place = replied_in p (top_of p t) v (rank place 0)

abbrev pub CanReplyIn : SendParts → ℕ → Option Frame → Type 0
CanReplyIn p n (Some (Entered s)) = CanAnswer p s.0 n
CanReplyIn p n (Some (Inside s)) = Unit {0}
CanReplyIn p n (Some Called) = Unit {0}
CanReplyIn p n (Some CallbackRun) = Unit {0}
CanReplyIn p n (Some (Await s)) = Unit {0}
CanReplyIn p n None = Unit {0}

-- ---- the end of a wait

abbrev pub finished : SendParts → ℕ → SendParts
finished p t = record p { book = popped p.book t }

-- the send whose time is over is answered, and no list has it any more
abbrev pub timed_out : SendParts → ℕ → ℕ → SendParts
timed_out p t s = record p { book = popped (answered_by p.book s (0, Timeout)) t; lists = all_without s p.lists }

-- ---- windows that go

-- whether a send has no answer and its window goes
abbrev pub is_losable : (ℕ → Bool) → Option KnownSend → Bool
is_losable goes None = false
is_losable goes (Some k) = goes k.row.hwnd.0 && is_none k.answer

-- whether the send is lost: its window goes, and it waits in a list to be entered
abbrev pub is_lost : (ℕ → Bool) → SendParts → ℕ → Bool
is_lost goes p s = is_losable goes (map.get p.book.known s) && is_some (place_on s p.lists)

-- no list has the send
abbrev pub withdrawn : SendParts → ℕ → SendParts
withdrawn p s = record p { lists = all_without s p.lists }

-- the parts, and the next rank
abbrev pub Ranked : Type 0
Ranked = SendParts × ℕ

abbrev pub lost_step : (ℕ → Bool) → Ranked → ℕ → Ranked
lost_step goes r s = if is_lost goes r.0 s then (answered (withdrawn r.0 s) s 0 Loss r.1, r.1 + 1) else r

-- the sends from 1 to n to windows that go are lost, one rank each
abbrev pub lost_to : (ℕ → Bool) → Ranked → ℕ → Ranked
lost_to goes r zero = r
lost_to goes r (suc n) = lost_step goes (lost_to goes r n) (suc n)

-- all of them
abbrev pub lost : (ℕ → Bool) → SendParts → ℕ → SendParts
lost goes p place = (lost_to goes (p, rank place 0) p.book.begun).0

-- how many these are: each took one rank
abbrev pub lost_count : (ℕ → Bool) → SendParts → ℕ → ℕ
lost_count goes p place = (lost_to goes (p, rank place 0) p.book.begun).1 - rank place 0

-- each loss can be answered, and its rank is one of the place
abbrev pub CanLose : (ℕ → Bool) → Ranked → Type 0
CanLose goes r = (s : ℕ) → is_lost goes (lost_to goes r s).0 (suc s) ≡ true → CanAnswer (withdrawn (lost_to goes r s).0 (suc s)) (suc s) (lost_to goes r s).1 × ((lost_to goes r s).1 + 1 < 2 ^ 32)

-- ---- a thread ends

-- whether a send that may be none is the thread's
abbrev pub is_from : ℕ → Option KnownSend → Bool
is_from t None = false
is_from t (Some k) = k.row.from.0 == t

abbrev pub freed_step : ℕ → Book → ℕ → Book
freed_step t b s = if is_from t (map.get b.known s) then forgotten b s else b

-- no result of the sends from 1 to n is owed to the thread
abbrev pub freed_to : ℕ → Book → ℕ → Book
freed_to t b zero = b
freed_to t b (suc n) = freed_step t (freed_to t b n) (suc n)

-- nothing is ready for the thread, and nothing is owed to it
abbrev pub ended : SendParts → ℕ → SendParts
ended p t = record p { book = freed_to t p.book p.book.begun; lists = with_list p.lists t [] }
