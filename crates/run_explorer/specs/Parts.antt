-- Parts of the runs within a bound, so that several processes make them. Which part a run is of is decided by the first entries at which a thread took over from another where two or more might have moved.
use Rattle.std.specs.Prelude.{◌≡◌, ◌<◌, ◌≤◌, ℕ, ◌+◌, ◌-◌, ◌*◌, ◌%◌, ◌==◌, Bool, true, if◌then◌else◌, List, [], ◌∷◌, ◌⊎◌, length, All, Contains}
use Rattle.user_model.specs.Past.{Past}
use Rattle.script_tree.specs.Tree.{Tree}
use Rattle.run_explorer.specs.declared.part.Part.{Part}
use Rattle.run_explorer.specs.declared.part.Share.{Share}
use Rattle.run_explorer.specs.declared.step.Step.{Step}
use Rattle.run_explorer.specs.Orders.{IsWithin, IsBefore, AreRising}
use Rattle.run_explorer.specs.Steps.{turns, counts, AreStepsOf}

-- a number below the count, from the places and the threads of the entries that decide
abbrev pub residue : Tree → ℕ → ℕ → Past → ℕ
residue s bound count [] = 0
residue s bound count (e ∷ past) = if counts s bound past e.who.0 then (residue s bound count past * 7 + length past + e.who.0) % count else residue s bound count past

-- whether the run is of the part
abbrev pub is_of : Tree → ℕ → Part → Past → Bool
is_of s bound part past = residue s bound part.count past == part.number - 1

-- a part of some: its number is from 1 to their count
pub record IsPart (part : Part) : Type 0 where
  pub some : 0 < part.number
  pub known : part.number ≤ part.count

-- a run within the bound that is of the part
pub record IsPartOf (s : Tree) (bound : ℕ) (part : Part) (past : Past) : Type 0 where
  pub within : IsWithin s bound past
  pub of : is_of s bound part past ≡ true

-- the first runs of the part, the last one of them first: each other one comes after all of these
pub record AreFirst (s : Tree) (bound : ℕ) (part : Part) (runs : List Past) : Type 0 where
  pub each : All (IsPartOf s bound part) runs
  pub rising : AreRising runs
  pub others : (past : Past) → IsPartOf s bound part past → Contains runs past ⊎ All (λ run. IsBefore run past) runs

-- how many entries have decided the part of a run, and to which residue
pub record IsShare (s : Tree) (bound count : ℕ) (past : Past) (share : Share) : Type 0 where
  pub turns : share.turns ≡ turns s bound past
  pub residue : share.residue ≡ residue s bound count past

-- the same of whichever run was made by the steps
abbrev pub IsShareOf : ℕ → List Step → Share → Type 0
IsShareOf count steps share = (s : Tree) (bound : ℕ) (past : Past) → AreStepsOf s bound past steps → IsShare s bound count past share
