use Rattle.std.proofs.Common.{arith}
use Rattle.std.specs.Prelude.{◌-ℤ◌}
use Rattle.std.proofs.lemmas.Int.{ints}
use Rattle.screen_state.proofs.Shifts.{far_before, far_behind}
use Rattle.screen_state.proofs.carry.distance.Goals as goal

pub returns-then-d-limit : goal.returns-then-d-limit
returns-then-d-limit c = far_before (c.args.new -ℤ c.args.old) c.args.edge (omega (arith, ints, c.from.ensures, c.from-2.ensures, c.from-limit.ensures, c.if-d-limit.true))

pub returns-then-limit-d : goal.returns-then-limit-d
returns-then-limit-d c = far_behind (c.args.new -ℤ c.args.old) c.args.edge (omega (arith, ints, c.from.ensures, c.from-2.ensures, c.from-limit.ensures, c.if-limit-d.true))

pub returns : goal.returns
returns c = record {
  low = omega (arith, ints, c.from.ensures, c.from-2.ensures, c.from-limit.ensures, c.if-d-limit.false, c.if-limit-d.false);
  high = omega (arith, ints, c.from.ensures, c.from-2.ensures, c.from-limit.ensures, c.if-d-limit.false, c.if-limit-d.false);
  far = omega (arith, ints, c.from.ensures, c.from-2.ensures, c.from-limit.ensures, c.if-d-limit.false, c.if-limit-d.false);
}
