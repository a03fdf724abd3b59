-- Runs of a script, whoever moved when, and the one by its order list and then by round robin.
use Rattle.std.specs.Prelude.{if◌then◌else◌, ◌≡◌, ◌<◌, ℕ, zero, suc, ◌==◌, nat_lt, Bool, false, not, ◌&&◌, List, [], ◌∷◌, length, find, Option, Some, None}
use Rattle.user_model.specs.declared.call.Call.{Call}
use Rattle.user_model.specs.declared.call.Call.TheVariants.{Advance}
use Rattle.user_model.specs.declared.entry.Entry.{Entry}
use Rattle.user_model.specs.Past.{Past, or_else, is_full}
use Rattle.user_model.specs.Threads.{lowest, is_thread}
use Rattle.user_model.specs.Idle.{reply, is_idle, is_barred}
use Rattle.script_tree.specs.Tree.{Tree}
use Rattle.script_tree.specs.Pieces.{Cut}
use Rattle.script_tree.specs.Traces.{IsTrace, trace_of}
use Rattle.log_text.specs.Ends.{setup_of, used}

-- ---- runs, whoever moved when

-- the call that an actor makes next: the clock goes on, and a thread goes on with its trace
abbrev pub ComesNext : Tree → Past → ℕ → Call → Type 0
ComesNext s past zero call = call ≡ Advance
ComesNext s past (suc n) call = IsTrace s (suc n) (trace_of past (suc n)) (Cut call)

-- the clock, or a thread of the script that has some of its budget left
abbrev pub HasEntriesLeft : Tree → Past → ℕ → Type 0
HasEntriesLeft s past zero = Unit {0}
HasEntriesLeft s past (suc n) = (n < length s.threads) × (used past (suc n) < s.budget)

-- an entry, whoever makes it: its actor isn't barred and has entries left, its call is the one that comes next, and its answer is the one that the past gives it, which has room
pub record IsMove (s : Tree) (past : Past) (e : Entry) : Type 0 where
  pub free : is_barred (setup_of s) past e.who.0 ≡ false
  pub remains : HasEntriesLeft s past e.who.0
  pub call : ComesNext s past e.who.0 e.call
  pub answer : e.answer ≡ reply (setup_of s) past e.who.0 e.call
  pub room : is_full past ≡ false

-- a run, also one that isn't over: each entry is a move
abbrev pub IsRun : Tree → Past → Type 0
IsRun s [] = Unit {0}
IsRun s (e ∷ past) = IsMove s past e × IsRun s past

-- ---- who is chosen

-- whether a number is a thread's that can move: it isn't idle, and has some of its budget left
abbrev pub is_runnable : Tree → Past → ℕ → Bool
is_runnable s past t = is_thread (setup_of s) t && (not (is_idle (setup_of s) past t) && nat_lt (used past t) s.budget)

-- the numbers behind the first that passes; where none does, none are left
abbrev pub behind_first : (ℕ → Bool) → List ℕ → List ℕ
behind_first test [] = []
behind_first test (t ∷ ts) = if test t then ts else behind_first test ts

-- the numbers of the order list that are left: each entry of a thread uses them up to the first that can move
abbrev pub left : Tree → Past → List ℕ
left s [] = s.order
left s (e ∷ past) = if e.who.0 == 0 then left s past else behind_first (is_runnable s past) (left s past)

-- the first thread of the numbers left that can move
abbrev pub listed : Tree → Past → Option ℕ
listed s past = find (is_runnable s past) (left s past)

-- the thread that moved last, or 0 before the first
abbrev pub last_thread : Past → ℕ
last_thread [] = 0
last_thread (e ∷ past) = if e.who.0 == 0 then last_thread past else e.who.0

-- the least thread above a number that can move
abbrev pub first_above : Tree → Past → ℕ → Option ℕ
first_above s past low = lowest (λ t. nat_lt low t && is_runnable s past t) (length s.threads)

-- the least thread above the last one that can move; where there is none, the least that can
abbrev pub in_turn : Tree → Past → Option ℕ
in_turn s past = or_else (first_above s past (last_thread past)) (first_above s past 0)

-- the clock, unless it is barred
abbrev pub clock_move : Tree → Past → Option ℕ
clock_move s past = if is_barred (setup_of s) past 0 then None else Some 0

-- who moves next: by the order list, else the next thread in turn; where none can move, the clock
abbrev pub choice : Tree → Past → Option ℕ
choice s past = or_else (listed s past) (or_else (in_turn s past) (clock_move s past))

-- each entry is by the actor that was chosen
abbrev pub IsByChoice : Tree → Past → Type 0
IsByChoice s [] = Unit {0}
IsByChoice s (e ∷ past) = (choice s past ≡ Some e.who.0) × IsByChoice s past

-- the run of those that are chosen, which goes on until nobody is
pub record IsListed (s : Tree) (past : Past) : Type 0 where
  pub run : IsRun s past
  pub chosen : IsByChoice s past
  pub over : choice s past ≡ None
