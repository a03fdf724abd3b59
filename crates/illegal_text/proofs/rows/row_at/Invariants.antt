use Rattle.std.proofs.Common.{◌≡◌, ◌-◌}
use Rattle.illegal_text.specs.Texts.{row_at}
use Rattle.illegal_text.proofs.rows.row_at.Given as goal

abbrev pub invariant-loop : goal.invariant-loop
invariant-loop l = row_at l.width (l.row - l.counter) l.rest ≡ row_at l.width l.row l.colours
