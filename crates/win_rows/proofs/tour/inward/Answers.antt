use Rattle.std.proofs.Common.{sym, arith}
use Rattle.win_rows.specs.Tours.{is_past}
use Rattle.win_rows.proofs.Tours.{next_child, next_alone, next_shallow, found_live}
use Rattle.win_rows.proofs.tour.inward.Goals as goal
use Rattle.win_rows.proofs.tour.inward.Goals.{then-visit-gt1+in_default, else-visit-gt1}

pub returns-in-Some-clause-next : goal.returns-in-Some-clause-next
returns-in-Some-clause-next c = λ top is. next_child c.args.link c.args.rows.now top c.args.visit.now is c.in-Some.window c.requires (sym c.in-Some.ensures)

pub returns-in-Some-clause-within : goal.returns-in-Some-clause-within
returns-in-Some-clause-within c = λ top is. record {
  rising = is.rising;
  live = found_live (is_past c.args.link c.args.visit.now.window.number.0 0) 0 c.args.rows.now c.in-Some.window is.rising (sym c.in-Some.ensures);
  deep = omega (arith, c.if-visit-gt1.true);
  within = omega (arith, is.within);
}

pub returns-clause-next : goal.returns-clause-next
returns-clause-next c = λ top is. elim c.if-visit-gt1.branch [
  | then-visit-gt1+in_default w ↦ next_alone c.args.link c.args.rows.now top c.args.visit.now is c.requires (sym w.in_default.ensures)
  | else-visit-gt1 w ↦ next_shallow c.args.link c.args.rows.now top c.args.visit.now is c.requires w.if-visit-gt1.false
]
