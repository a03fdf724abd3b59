-- How the run of a script ends.
use Rattle.std.specs.Prelude.{ℕ, if◌then◌else◌, ◌==◌, Bool, not, ◌&&◌, is_none, length}
use Rattle.user_model.specs.declared.entry.Setup.{Setup}
use Rattle.user_model.specs.Past.{Past}
use Rattle.user_model.specs.Places.{mine}
use Rattle.user_model.specs.Setups.{setup_from}
use Rattle.user_model.specs.Threads.{lowest}
use Rattle.user_model.specs.Idle.{is_idle, is_quiet, have_all_ended, ends_stuck}
use Rattle.script_tree.specs.Tree.{Tree}
use Rattle.log_text.specs.declared.end.End.{End}
use Rattle.log_text.specs.declared.end.End.TheVariants.{Done, Stuck, Spent, Cut}

-- the setup of a script's machine: as many threads as the script has, and its screen
abbrev pub setup_of : Tree → Setup
setup_of s = setup_from (length s.threads) s.width s.height

-- how many entries an actor has made
abbrev pub used : Past → ℕ → ℕ
used past t = length (mine past t)

-- whether a thread isn't idle, and doesn't have as many entries as the budget
abbrev pub could_go_on : Tree → Past → ℕ → Bool
could_go_on s past t = not (is_idle (setup_of s) past t) && not (used past t == s.budget)

-- whether some thread isn't idle, and each such thread has as many entries as the budget
abbrev pub is_spent : Tree → Past → Bool
is_spent s past = not (is_quiet (setup_of s) past) && is_none (lowest (could_go_on s past) (length s.threads))

-- done where all threads have ended; else stuck where the last entry says so; else spent where the budgets of all that aren't idle are; else cut
abbrev pub end_of : Tree → Past → End
end_of s past = if have_all_ended (setup_of s) past then Done else if ends_stuck past then Stuck else if is_spent s past then Spent else Cut
