use Rattle.std.proofs.Common.{◌≡◌, ◌∙◌, false, ap, sym, to_z, of_z, w32, arith}
use Rattle.std.specs.Prelude.{◌-ℤ◌}
use Rattle.std.proofs.lemmas.Int.{ints}
use Rattle.screen_state.specs.Carrying.{is_near}
use Rattle.screen_state.proofs.Shifts.{last_far}
use Rattle.screen_state.proofs.carry.shift_between.Goals as goal

pub returns-in-None-distance : goal.returns-in-None-distance
returns-in-None-distance c =
    let new : to_z w32 (of_z w32 c.args.new.y) ≡ c.args.new.y = omega (arith, ints) in
    let old : to_z w32 (of_z w32 c.args.old.y) ≡ c.args.old.y = omega (arith, ints) in
    let far : is_near (c.args.new.y -ℤ c.args.old.y) c.args.setup.height ≡ false =
    ap (λ z. is_near (z -ℤ c.args.old.y) c.args.setup.height) (sym new) ∙ (ap (λ z. is_near (to_z w32 (of_z w32 c.args.new.y) -ℤ z) c.args.setup.height) (sym old) ∙ c.in-None-distance.ensures) in
    last_far (is_near (c.args.new.x -ℤ c.args.old.x) c.args.setup.width) (is_near (c.args.new.y -ℤ c.args.old.y) c.args.setup.height) far
