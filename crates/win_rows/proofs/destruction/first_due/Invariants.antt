use Rattle.std.proofs.Common.{◌≡◌, length, find, option_map, IfSome}
use Rattle.win_rows.specs.declared.links.Link.TheVariants.{Parent}
use Rattle.win_rows.specs.Tours.{tour, rest, visited, is_due, IsVisit}
use Rattle.win_rows.proofs.destruction.first_due.Given as goal

abbrev pub invariant-visits : goal.invariant-visits
invariant-visits l = record {
  so_far : option_map visited (find (is_due l.way) (rest Parent l.rows l.depth l.at)) ≡ option_map visited (find (is_due l.way) (tour Parent l.depth l.rows l.x));
  at : IfSome l.at (IsVisit l.rows l.depth);
}

abbrev pub decreases-visits : goal.decreases-visits
decreases-visits l = length (rest Parent l.rows l.depth l.at)
