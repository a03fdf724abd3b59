use Rattle.std.proofs.Common.{arith, ap, ◌∙◌, ◌≡◌}
use Rattle.std.specs.Prelude.{ℕ, Option, Some}
use Rattle.user_pool.proofs.Turns.{chosen_can_move, chosen_free}
use Rattle.user_pool.proofs.run.turn.Goals as goal

pub move_thread-requires-clause-can : goal.move_thread-requires-clause-can
move_thread-requires-clause-can g c = chosen_can_move c.args.script.now (g.M.Machine.past c.args.machine.now) c.args.actor c.requires.chosen (omega arith)

pub move_clock-requires-clause-free : goal.move_clock-requires-clause-free
move_clock-requires-clause-free g c =
    let s = c.args.script.now in
    let past = g.M.Machine.past c.args.machine.now in
    let zeroth : c.args.actor ≡ 0 = omega arith in
    chosen_free s past 0 (c.requires.chosen ∙ ap (λ (n : ℕ). let o : Option ℕ = Some n in o) zeroth)
