-- The traces of a thread.
use Rattle.std.specs.Prelude.{◌≡◌, ◌≢◌, ℕ, suc, List, [], ◌∷◌, ◌++◌, map, reverse}
use Rattle.user_model.specs.declared.call.Call.{Call}
use Rattle.user_model.specs.declared.call.Call.TheVariants.{EndThread}
use Rattle.user_model.specs.declared.entry.Answer.{Answer}
use Rattle.user_model.specs.declared.entry.Answer.TheVariants.{Wait}
use Rattle.user_model.specs.declared.entry.Entry.{Entry}
use Rattle.user_model.specs.Past.{Past}
use Rattle.user_model.specs.Places.{mine}
use Rattle.script_tree.specs.Tree.{Tree, body_of}
use Rattle.script_tree.specs.Values.{start}
use Rattle.script_tree.specs.Pieces.{Piece, Lines, Making, State, Going, Becomes, Asks, Trace, End, Whole, Cut}
use Rattle.script_tree.specs.Steps.{step, follows, answered, variables_of}

-- These pieces, one after another, make the trace from that state on, after so many entries, and it ends so.
pub data Makes (s : Tree) : List Piece → State → ℕ → Trace → End → Type 0 where
  -- with nothing left the trace is empty and whole
  over : {st : State} {n : ℕ} → Makes s [] st n [] Whole
  -- a piece that becomes other pieces has their trace
  silent : {p : Piece} {left : List Piece} {st : State} {n : ℕ} {tr : Trace} {e : End} (ps : List Piece) (st' : State) → step s p st n ≡ Becomes ps st' → Makes s (ps ++ left) st' n tr e → Makes s (p ∷ left) st n tr e
  -- a piece that makes a call has the call with an answer, and then the trace of what follows that answer
  entry : {p : Piece} {left : List Piece} {st : State} {n : ℕ} {tr : Trace} {e : End} (call : Call) (a : Answer) → step s p st n ≡ Asks call → Makes s (follows call a ++ left) (answered call a (variables_of st)) (suc n) tr e → Makes s (p ∷ left) st n ((call, a) ∷ tr) e
  -- or it is cut before the call
  cut : {p : Piece} {left : List Piece} {st : State} {n : ℕ} (call : Call) → step s p st n ≡ Asks call → Makes s (p ∷ left) st n [] (Cut call)

-- the program of a thread: its body, and the end of the thread
abbrev pub program : Tree → ℕ → List Piece
program s t = Lines (body_of s t) ∷ Making EndThread ∷ []

-- the trace is one of the thread, whole or cut before a call
abbrev pub IsTrace : Tree → ℕ → Trace → End → Type 0
IsTrace s t tr e = Makes s (program s t) (Going start) 0 tr e

-- the call and the answer of an entry
abbrev pub told : Entry → Call × Answer
told e = (e.call, e.answer)

-- the thread's own entries of a past, the oldest first
abbrev pub trace_of : Past → ℕ → Trace
trace_of past t = reverse (map told (mine past t))

-- one trace begins the other, or they first differ in an answer to one call
abbrev pub Agree : Trace → Trace → Type 0
Agree [] other = Unit {0}
Agree (x ∷ tr) [] = Unit {0}
Agree (x ∷ tr) (y ∷ other) = (x.0 ≡ y.0) × (x.1 ≡ y.1 → Agree tr other)

-- an entry after which the program goes on: an `end_thread` is only told to wait
abbrev pub GoesOn : Call × Answer → Type 0
GoesOn x = x.0 ≡ EndThread → x.1 ≡ Wait

-- the trace's last entry is `end_thread` with an answer other than `wait`, and this is all before it
abbrev pub EndsAfter : Trace → Trace → Type 0
EndsAfter before tr = (a : Answer) × (tr ≡ before ++ (EndThread, a) ∷ []) × (a ≢ Wait)
