-- What is told of the runs that were made.
use Rattle.std.specs.Prelude.{◌≡◌, ◌<◌, ◌≤◌, ◌*◌, ℕ, ◌==◌, Bool, true, false, if◌then◌else◌, List, [], ◌∷◌, ◌++◌, length, count_by, sum_by, Contains, Option, Some, None, is_some}
use Rattle.user_model.specs.Past.{Past, or_else}
use Rattle.script_tree.specs.Tree.{Tree}
use Rattle.log_text.specs.declared.end.End.{End}
use Rattle.log_text.specs.declared.end.End.TheVariants.{Done, Stuck, Spent}
use Rattle.log_text.specs.Ends.{end_of}
use Rattle.run_explorer.specs.declared.report.Report.{Report}
use Rattle.run_explorer.specs.declared.report.Found.{Found}
use Rattle.run_explorer.specs.declared.report.Order.{Order}
use Rattle.run_explorer.specs.declared.report.Order.TheVariants.{Nowhere, Movers, Long}
use Rattle.run_explorer.specs.declared.part.Part.{Part}
use Rattle.run_explorer.specs.Parts.{IsPartOf, AreFirst}
use Rattle.run_explorer.specs.Marks.{is_marked}

-- the mover behind some others, if it is a thread
abbrev pub with_mover : List ℕ → ℕ → List ℕ
with_mover numbers mover = if mover == 0 then numbers else numbers ++ mover ∷ []

-- the threads that moved, the first mover first; the entries of the clock are passed over
abbrev pub movers : Past → List ℕ
movers [] = []
movers (e ∷ past) = with_mover (movers past) e.who.0

-- whether all threads had ended
abbrev pub is_done : End → Bool
is_done Done = true
is_done _ = false

-- whether nothing could go on
abbrev pub is_stuck : End → Bool
is_stuck Stuck = true
is_stuck _ = false

-- whether the budgets were used up
abbrev pub is_spent : End → Bool
is_spent Spent = true
is_spent _ = false

-- the first run that passes, where the last one stands first
abbrev pub first_that : (Past → Bool) → List Past → Option Past
first_that test [] = None
first_that test (last ∷ runs) = or_else (first_that test runs) (if test last then Some last else None)

-- the movers of the run, where there are no more of them than an order list has; none where there is no run
abbrev pub IsOrderOf : Option Past → Order → Type 0
IsOrderOf None Nowhere = Unit {0}
IsOrderOf (Some past) (Movers numbers) = (numbers.items ≡ movers past) × (length (movers past) ≤ 65536)
IsOrderOf (Some past) Long = 65536 < length (movers past)
IsOrderOf _ _ = ⊥

-- how many runs pass, and who moved in the first one
pub record AreFound (test : Past → Bool) (runs : List Past) (found : Found) : Type 0 where
  pub count : found.count ≡ count_by test runs
  pub order : IsOrderOf (first_that test runs) found.order

-- how many runs there are, how many entries they have, how many ended so, and who moved in the first that did
pub record AreEndsTold (s : Tree) (runs : List Past) (report : Report) : Type 0 where
  pub count : report.runs ≡ length runs
  pub entries : report.entries ≡ sum_by length runs
  pub done : report.done ≡ count_by (λ past. is_done (end_of s past)) runs
  pub stuck : AreFound (λ past. is_stuck (end_of s past)) runs report.stuck
  pub spent : AreFound (λ past. is_spent (end_of s past)) runs report.spent

-- these, how many runs are marked by the name, and who moved in the first that is; and whether there is a name
pub record IsTold (s : Tree) (name : Option (List ℕ)) (runs : List Past) (report : Report) : Type 0 where
  pub ends : AreEndsTold s runs report
  pub marked : AreFound (is_marked s name) runs report.marked
  pub asks : report.asks_marked ≡ is_some name

-- no kind has more runs than there are, and no run has more entries than a history
pub record IsSized (report : Report) : Type 0 where
  pub entries : report.entries ≤ report.runs * 2097152
  pub done : report.done ≤ report.runs
  pub stuck : report.stuck.count ≤ report.runs
  pub spent : report.spent.count ≤ report.runs
  pub marked : report.marked.count ≤ report.runs

-- the first runs of the part, so many at most, are told; where it is told that these are all, each run of the part is among them; else there are as many as were asked for
pub record Explored (s : Tree) (bound limit : ℕ) (part : Part) (name : Option (List ℕ)) (report : Report) : Type 0 where
  pub runs : List Past
  pub first : AreFirst s bound part runs
  pub told : IsTold s name runs report
  pub few : length runs ≤ limit
  pub all : report.is_all ≡ true → (past : Past) → IsPartOf s bound part past → Contains runs past
  pub more : report.is_all ≡ false → length runs ≡ limit
