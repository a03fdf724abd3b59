use Rattle.std.proofs.Common.{◌≡◌, length, find, option_map, IfSome}
use Rattle.std.specs.List.{flat_map}
use Rattle.win_rows.specs.declared.links.Link.TheVariants.{Owner}
use Rattle.win_rows.specs.Destruction.{destruction_of, is_left, answer_of}
use Rattle.win_rows.specs.Tours.{rest, visit_steps, IsVisit}
use Rattle.win_rows.proofs.destruction.first_left.Given as goal

abbrev pub invariant-visits : goal.invariant-visits
invariant-visits l = record {
  so_far : option_map answer_of (find is_left (flat_map (visit_steps l.rows) (rest Owner l.rows l.top l.at))) ≡ option_map answer_of (find is_left (destruction_of l.rows l.x));
  at : IfSome l.at (IsVisit l.rows l.top);
}

abbrev pub decreases-visits : goal.decreases-visits
decreases-visits l = length (rest Owner l.rows l.top l.at)
