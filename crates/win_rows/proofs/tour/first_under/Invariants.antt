use Rattle.std.proofs.Common.{◌≡◌, drop, find}
use Rattle.win_rows.specs.Tours.{is_past}
use Rattle.win_rows.proofs.tour.first_under.Given as goal

abbrev pub invariant-loop-i : goal.invariant-loop-i
invariant-loop-i l = find (is_past l.link l.w.0 l.past.0) (drop l.i l.rows) ≡ find (is_past l.link l.w.0 l.past.0) l.rows
