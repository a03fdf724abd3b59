-- Runs that have come to their end, in the order of who moves in them, and how often a thread takes the turn from another that could still move.
use Rattle.std.specs.Prelude.{◌≡◌, ◌<◌, ◌≤◌, ℕ, ◌+◌, ◌==◌, Bool, not, ◌&&◌, if◌then◌else◌, List, [], ◌∷◌, ◌++◌, All, None}
use Rattle.user_model.specs.declared.entry.Entry.{Entry}
use Rattle.user_model.specs.Past.{Past}
use Rattle.script_tree.specs.Tree.{Tree}
use Rattle.user_pool.specs.Runs.{is_runnable, last_thread, choice, IsRun}

-- whether the actor would take the turn from another thread, which moved last and could still move
abbrev pub is_switch : Tree → Past → ℕ → Bool
is_switch s past actor = not (actor == 0) && (not (actor == last_thread past) && is_runnable s past (last_thread past))

-- how many of the entries took the turn so
abbrev pub switches : Tree → Past → ℕ
switches s [] = 0
switches s (e ∷ past) = switches s past + (if is_switch s past e.who.0 then 1 else 0)

-- a run that goes on until nobody can move, with at most so many switches
pub record IsWithin (s : Tree) (bound : ℕ) (past : Past) : Type 0 where
  pub run : IsRun s past
  pub over : choice s past ≡ None
  pub few : switches s past ≤ bound

-- the two go the same way up to a place, where the first goes on with a lower mover
pub record IsBefore (a b : Past) : Type 0 where
  pub common : Past
  pub lower : Entry
  pub higher : Entry
  pub rest : List Entry
  pub others : List Entry
  pub first : a ≡ rest ++ lower ∷ common
  pub second : b ≡ others ++ higher ∷ common
  pub parts : lower.who.0 < higher.who.0

-- each is before all that were made later; the last one that was made stands first
abbrev pub AreRising : List Past → Type 0
AreRising [] = Unit {0}
AreRising (last ∷ runs) = All (λ run. IsBefore run last) runs × AreRising runs
