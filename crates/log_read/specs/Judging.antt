-- What a fold over the lines of a text finds.
use Rattle.std.specs.Prelude.{ℕ, List, take}
use Rattle.script_tree.specs.Tree.{Tree}
use Rattle.script_text.specs.declared.fault.Reason.{Reason}
use Rattle.log_read.specs.declared.phase.Phase.{Phase}
use Rattle.log_read.specs.declared.phase.Phase.TheVariants as phases
use Rattle.log_read.specs.Grammar.{Leads}
use Rattle.log_read.specs.Refusals.{IsBadText}

-- so many lines are good, and the next one isn't
pub record IsBadAt (s : Tree) (texts : List (List ℕ)) (before : ℕ) (reason : Reason) : Type 0 where
  pub phase : Phase
  pub front : Leads s phases.First (take before texts) phase
  pub bad : IsBadText s texts before phase reason

-- all lines are good
pub record AreGood (s : Tree) (texts : List (List ℕ)) : Type 0 where
  pub phase : Phase
  pub front : Leads s phases.First texts phase
