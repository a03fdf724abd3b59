-- What the search knows between two runs, and in the middle of one.
use Rattle.std.specs.Prelude.{◌≡◌, ◌<◌, ◌≤◌, ℕ, ◌-◌, ◌+◌, ◌*◌, zero, suc, true, List, [], ◌∷◌, ◌++◌, ◌⊎◌, All, Contains, map, Option, Some, None}
use Rattle.user_model.specs.declared.entry.Entry.{Entry}
use Rattle.user_model.specs.Past.{Past}
use Rattle.script_tree.specs.Tree.{Tree}
use Rattle.log_text.specs.declared.end.End.{End}
use Rattle.log_text.specs.Ends.{end_of}
use Rattle.run_explorer.specs.declared.part.Part.{Part}
use Rattle.run_explorer.specs.declared.path.Path.{Path}
use Rattle.run_explorer.specs.declared.report.Report.{Report}
use Rattle.run_explorer.specs.declared.step.Step.{Step}
use Rattle.run_explorer.specs.Orders.{IsBefore}
use Rattle.run_explorer.specs.Parts.{IsPartOf, AreFirst}
use Rattle.run_explorer.specs.Steps.{may_move, IsAt, IsMadeBy}
use Rattle.run_explorer.specs.Reports.{IsTold}

-- the run goes on from there
pub record GoesOnFrom (run past : Past) : Type 0 where
  pub newer : List Entry
  pub is : run ≡ newer ++ past

-- the run goes on from there with this mover, or a higher one
pub record GoesOnBy (run past : Past) (least : ℕ) : Type 0 where
  pub newer : List Entry
  pub next : Entry
  pub is : run ≡ newer ++ next ∷ past
  pub by : least ≤ next.who.0

-- in the middle of a run: each run of the part was made, or goes on from here, or comes after what does; and this comes after those that were made
pub record IsOpen (s : Tree) (bound : ℕ) (part : Part) (runs : List Past) (past : Past) : Type 0 where
  pub left : (run : Past) → IsPartOf s bound part run → Contains runs run ⊎ (GoesOnFrom run past ⊎ IsBefore past run)
  pub later : All (λ run. IsBefore run past) runs

-- no run of the part goes on from there
abbrev pub IsPassed : Tree → ℕ → Part → Past → Type 0
IsPassed s bound part past = (run : Past) → IsPartOf s bound part run → GoesOnFrom run past → ⊥

-- how a run came out: it is of the part, and has this end; or it is of another one
abbrev pub HasComeOut : Tree → ℕ → Part → Past → Option End → Type 0
HasComeOut s bound part past None = IsPassed s bound part past
HasComeOut s bound part past (Some end) = IsPartOf s bound part past × (end ≡ end_of s past)

-- at the end of a run, or where it was left: each run of the part was made, or comes after this one, which is the last that was made, or comes after those
pub record IsClosed (s : Tree) (bound : ℕ) (part : Part) (runs : List Past) (last : Past) : Type 0 where
  pub left : (run : Past) → IsPartOf s bound part run → Contains runs run ⊎ IsBefore last run
  pub later : All (λ run. (run ≡ last) ⊎ IsBefore run last) runs

-- where the next run turns off from those before it
pub record TurnsAt (s : Tree) (bound : ℕ) (part : Part) (runs : List Past) (past : Past) (t : ℕ) : Type 0 where
  pub may : may_move s bound past t ≡ true
  pub left : (run : Past) → IsPartOf s bound part run → Contains runs run ⊎ (GoesOnBy run past t ⊎ IsBefore past run)
  pub later : (e : Entry) → e.who.0 ≡ t → All (λ run. IsBefore run (e ∷ past)) runs

-- the first run begins with nothing; each other one turns off
abbrev pub GoesOn : Tree → ℕ → Part → List Past → Past → Option ℕ → Type 0
GoesOn s bound part runs past None = (past ≡ []) × (runs ≡ [])
GoesOn s bound part runs past (Some t) = TurnsAt s bound part runs past t

-- the way of the next run, up to where it goes on
pub record IsWay (s : Tree) (bound : ℕ) (part : Part) (runs : List Past) (path : Path) : Type 0 where
  pub past : Past
  pub made : IsMadeBy s bound path.steps.items past
  pub at : IsAt s past path.position
  pub next : GoesOn s bound part runs past path.turn

-- a way further was gone, along the path's steps, by which one run more was made or none: all that were made are the first ones, and are told of
pub record IsFurther (s : Tree) (bound : ℕ) (part : Part) (name : Option (List ℕ)) (path : Path) (report : Report) : Type 0 where
  pub runs : List Past
  pub last : Past
  pub made : IsMadeBy s bound path.steps.items last
  pub closed : IsClosed s bound part runs last
  pub first : AreFirst s bound part runs
  pub told : IsTold s name runs report

-- between two runs: those that were made are the first ones and are told of, and where the next one goes on is known
pub record HaveBeenMade (s : Tree) (bound : ℕ) (part : Part) (name : Option (List ℕ)) (path : Path) (report : Report) : Type 0 where
  pub runs : List Past
  pub way : IsWay s bound part runs path
  pub first : AreFirst s bound part runs
  pub told : IsTold s name runs report

-- ---- how much is left

-- how many ways there are of so many steps, each of one of sixteen actors
unfoldable pub ways : ℕ → ℕ
ways zero = 1
ways (suc n) = 16 * ways n

-- how many of the ways of so many steps don't come before this one
unfoldable pub ways_from : ℕ → List ℕ → ℕ
ways_from n [] = ways n
ways_from zero (t ∷ ts) = 0
ways_from (suc n) (t ∷ ts) = (15 - t) * ways n + ways_from n ts

-- who moves in some steps
abbrev pub actors : List Step → List ℕ
actors steps = map (λ x. x.mover) steps

-- the thread that turns off
abbrev pub turn_of : Option ℕ → List ℕ
turn_of None = []
turn_of (Some t) = t ∷ []

-- who moves on the way of the next run
abbrev pub actors_along : Path → List ℕ
actors_along path = actors path.steps.items ++ turn_of path.turn

-- the path's steps are those of the other, and some more
pub record IsAlong (path other : Path) : Type 0 where
  pub rest : List ℕ
  pub is : actors path.steps.items ≡ actors_along other ++ rest

-- the path parts from the steps of the other at a place where a higher thread moves
pub record HasTurned (path other : Path) : Type 0 where
  pub thread : ℕ
  pub mover : ℕ
  pub rest : List ℕ
  pub turn : path.turn ≡ Some thread
  pub is : actors other.steps.items ≡ actors path.steps.items ++ mover ∷ rest
  pub higher : mover < thread
  pub known : thread ≤ 15
