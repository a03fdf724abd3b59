-- One run after another, and what is told of them.
use Rattle.std.proofs.Common.{◌≡◌, ℕ, ◌≤◌, Bool, true, false, List, [], ◌∷◌, length, Option, sym, ◌∙◌, inr, arith}
use Rattle.std.specs.Prelude.{Contains}
use Rattle.std.proofs.lemmas.Bool.{false≢true}
use Rattle.user_model.specs.Past.{Past}
use Rattle.script_tree.specs.Tree.{Tree}
use Rattle.log_text.specs.declared.end.End.{End}
use Rattle.log_text.specs.Ends.{end_of}
use Rattle.user_pool.proofs.NeverFull.{run_short}
use Rattle.run_explorer.specs.declared.part.Part.{Part}
use Rattle.run_explorer.specs.declared.step.Step.{Step}
use Rattle.run_explorer.specs.declared.path.Path.{Path}
use Rattle.run_explorer.specs.declared.report.Report.{Report}
use Rattle.run_explorer.specs.Orders.{IsBefore}
use Rattle.run_explorer.specs.Parts.{IsPartOf}
use Rattle.run_explorer.specs.Marks.{is_marked}
use Rattle.run_explorer.specs.Steps.{AreStepsOf, IsMadeBy}
use Rattle.run_explorer.specs.Searches.{IsWay, IsOpen, IsPassed, IsFurther, HaveBeenMade}
use Rattle.run_explorer.specs.Reports.{IsTold, Explored}
use Rattle.run_explorer.proofs.Orders.{all_none}
use Rattle.run_explorer.proofs.Stepping.{steps_length}
use Rattle.run_explorer.proofs.Searching.{closed_now, closed_left, first_now}
use Rattle.run_explorer.proofs.Telling.{told_still}

-- a run has no more steps than a history has entries
pub made_short : (s : Tree) (bound : ℕ) (steps : List Step) (past : Past) → length s.threads ≤ 15 → s.budget ≤ 65536 → IsMadeBy s bound steps past → length steps ≤ 2097152
made_short s bound steps past few small made = omega (arith, steps_length s bound past steps made.each, run_short s past few small made.run)

-- what a run more makes of a report
abbrev pub TellsMore : List Step → End → Bool → Report → Report → Type 0
TellsMore steps end marks old now = (t : Tree) (b : ℕ) (n : Option (List ℕ)) (past : Past) (rs : List Past) → AreStepsOf t b past steps → end ≡ end_of t past → marks ≡ is_marked t n past → IsTold t n rs old → IsTold t n (past ∷ rs) now

module _ (s : Tree) (bound : ℕ) (part : Part) (name : Option (List ℕ)) where
  -- a run that was made and told of is one more
  pub one_more : (path after : Path) (old now : Report) (last : Past) (end : End) (marks : Bool) → HaveBeenMade s bound part name path old → IsMadeBy s bound after.steps.items last → IsPartOf s bound part last
      → ((runs : List Past) → IsWay s bound part runs path → IsOpen s bound part runs last) → end ≡ end_of s last → marks ≡ is_marked s name last → TellsMore after.steps.items end marks old now → IsFurther s bound part name after now
  one_more path after old now last end marks before made within kept ended marked tells =
      let were : IsOpen s bound part before.runs last = kept before.runs before.way in
      record {
        runs = last ∷ before.runs;
        last = last;
        made = made;
        closed = closed_now s bound part before.runs last within were;
        first = first_now s bound part before.runs last within were before.first;
        told = tells s bound name last before.runs made.each ended marked before.told;
      }

  -- one that is of another part is none
  pub none_more : (path after : Path) (old : Report) (last : Past) → HaveBeenMade s bound part name path old → IsMadeBy s bound after.steps.items last → IsPassed s bound part last
      → ((runs : List Past) → IsWay s bound part runs path → IsOpen s bound part runs last) → IsFurther s bound part name after old
  none_more path after old last before made passed kept = record {
    runs = before.runs;
    last = last;
    made = made;
    closed = closed_left s bound part before.runs last passed (kept before.runs before.way);
    first = before.first;
    told = before.told;
  }

  -- before the first run
  pub none_made : (path : Path) (report : Report) → IsWay s bound part [] path → IsTold s name [] report → HaveBeenMade s bound part name path report
  none_made path report way told = record {
    runs = [];
    way = way;
    first = record { each = all_none (IsPartOf s bound part); rising = tt; others = λ past within. inr (all_none (λ run. IsBefore run past)) };
    told = told;
  }

  -- where the search goes on
  pub next_made : (path after : Path) (report : Report) (further : IsFurther s bound part name path report) → IsWay s bound part further.runs after → HaveBeenMade s bound part name after report
  next_made path after report further way = record { runs = further.runs; way = way; first = further.first; told = further.told }

  -- where it doesn't, these are all
  pub all_explored : (limit : ℕ) (path : Path) (report now : Report) (further : IsFurther s bound part name path report) → report.runs ≤ limit → ((run : Past) → IsPartOf s bound part run → Contains further.runs run)
      → now.is_all ≡ true → now.runs ≡ report.runs → now.entries ≡ report.entries → now.done ≡ report.done → now.stuck ≡ report.stuck → now.spent ≡ report.spent → now.marked ≡ report.marked → now.asks_marked ≡ report.asks_marked → Explored s bound limit part name now
  all_explored limit path report now further few every is_all count entries done stuck spent marked asks = record {
    runs = further.runs;
    first = further.first;
    told = told_still s name further.runs report now further.told count entries done stuck spent marked asks;
    few = omega (arith, further.told.ends.count, few);
    all = λ is. every;
    more = λ is. absurd (false≢true (sym is ∙ is_all));
  }

  -- at the limit, these are as many as were asked for
  pub some_explored : (limit : ℕ) (path : Path) (report : Report) → HaveBeenMade s bound part name path report → report.is_all ≡ false → report.runs ≤ limit → limit ≤ report.runs → Explored s bound limit part name report
  some_explored limit path report before not_all few full = record {
    runs = before.runs;
    first = before.first;
    told = before.told;
    few = omega (arith, before.told.ends.count, few);
    all = λ is. absurd (false≢true (sym not_all ∙ is));
    more = λ is. omega (arith, before.told.ends.count, few, full);
  }
