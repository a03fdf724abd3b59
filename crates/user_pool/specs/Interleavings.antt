-- What a run is, taken as a whole.
use Rattle.std.specs.Prelude.{◌≡◌, ◌<◌, ◌≤◌, ℕ, false, List, ◌∷◌, ◌++◌, length, reverse}
use Rattle.user_model.specs.declared.call.Call.TheVariants.{Advance}
use Rattle.user_model.specs.declared.entry.Entry.{Entry}
use Rattle.user_model.specs.Past.{Past}
use Rattle.user_model.specs.Idle.{is_barred}
use Rattle.user_model.specs.Legal.{IsLegal}
use Rattle.script_tree.specs.Tree.{Tree}
use Rattle.script_tree.specs.Pieces.{End}
use Rattle.script_tree.specs.Traces.{IsTrace, trace_of}
use Rattle.log_text.specs.Ends.{setup_of, used}

-- a thread's own entries are a trace of its program, whole or cut before a call, and no more than its budget
pub record IsPart (s : Tree) (past : Past) (t : ℕ) : Type 0 where
  pub ends : End
  pub trace : IsTrace s t (trace_of past t) ends
  pub within : used past t ≤ s.budget

-- an entry is by the clock, which goes on, or by a thread of the script, and its actor wasn't barred
pub record IsFree (s : Tree) (before : Past) (e : Entry) : Type 0 where
  pub known : e.who.0 ≤ length s.threads
  pub clock : e.who.0 ≡ 0 → e.call ≡ Advance
  pub free : is_barred (setup_of s) before e.who.0 ≡ false

-- a legal history of the machine, in which each thread goes through its program, and nobody moves who was barred
pub record IsInterleaving (s : Tree) (past : Past) : Type 0 where
  pub legal : IsLegal (setup_of s) (reverse past)
  pub parts : (t : ℕ) → 0 < t → t ≤ length s.threads → IsPart s past t
  pub free : (newer : List Entry) (e : Entry) (before : Past) → past ≡ newer ++ e ∷ before → IsFree s before e
