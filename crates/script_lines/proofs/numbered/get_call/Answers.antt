use Rattle.std.proofs.Common.{arith, rules}
use Rattle.std.proofs.lemmas.Grind.{common_steps}
use Rattle.script_lines.proofs.Numbers.{get_told}
use Rattle.script_lines.proofs.numbered.get_call.Goals as goal

pub returns : goal.returns
returns c = get_told c.args.numbers.now c.in_ok-window.window c.in_ok-min.min c.in_ok-max.max (search rules) (search rules) (search rules) (grind (arith, common_steps))
