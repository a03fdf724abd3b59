use Rattle.std.proofs.Common.{◌≡◌, true, rules, tests}
use Rattle.win_rows.specs.declared.links.Link.TheVariants.{Parent}
use Rattle.win_rows.specs.Tours.{is_due, IsVisit}
use Rattle.win_rows.proofs.Tours.{begins}
use Rattle.win_rows.proofs.Searches.{due}
use Rattle.win_rows.proofs.destruction.first_due.Goals as goal

pub returns-then-is_due : goal.returns-then-is_due
returns-then-is_due c =
    let v = c.in-Some.visit in
    let is : IsVisit c.args.rows.now c.args.depth v = search (rules, tests) in
    let yes : is_due c.args.way v ≡ true = search (rules, tests) in
    let first = begins Parent c.args.rows.now c.args.depth v is in
    due c.args.way v _ first.0 _ first.1 yes (rw c.in-Some.is at c.visits.invariant.so_far)
