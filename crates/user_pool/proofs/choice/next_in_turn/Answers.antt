use Rattle.std.proofs.Common.{◌≡◌, None, arith, ap, sym, ◌∙◌}
use Rattle.user_pool.specs.Runs.{first_above, last_thread}
use Rattle.user_pool.proofs.Choices.{turn_below}
use Rattle.user_pool.proofs.choice.next_in_turn.Goals as goal

pub returns : goal.returns
returns g c =
    let s = c.args.script.now in
    let past = g.M.Machine.past c.args.machine.now in
    let none : first_above s past (last_thread past) ≡ None = ap (first_above s past) (sym c.requires.last) ∙ sym c.first_above.ensures ∙ c.in_default.is in
    c.first_between.ensures ∙ sym (turn_below s past c.min-high.result none (omega arith) (λ le. omega (arith, le, c.requires.last)))
