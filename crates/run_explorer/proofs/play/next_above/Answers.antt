use Rattle.std.proofs.Common.{ℕ, ◌<◌, ◌≤◌, Option, Some, ap, sym, ◌∙◌, arith}
use Rattle.user_pool.specs.Runs.{last_thread}
use Rattle.run_explorer.proofs.Moves.{held_next, held_none, free_next}
use Rattle.run_explorer.proofs.play.next_above.Goals as goal

pub returns-then-low-position : goal.returns-then-low-position
returns-then-low-position g c =
    let s = c.args.script.now in
    let past = g.M.Machine.past c.args.machine.now in
    let above : c.args.low < last_thread past = omega (arith, c.requires.position.last) in
    sym (held_next s c.args.bound past c.args.low (sym c.is_held.ensures ∙ c.if-is_held.true) above ∙ ap (λ (k : ℕ). let o : Option ℕ = Some k in o) (sym c.requires.position.last))

pub returns-else-low-position : goal.returns-else-low-position
returns-else-low-position g c =
    let s = c.args.script.now in
    let past = g.M.Machine.past c.args.machine.now in
    let le : last_thread past ≤ c.args.low = omega (arith, c.requires.position.last) in
    sym (held_none s c.args.bound past c.args.low (sym c.is_held.ensures ∙ c.if-is_held.true) le)

pub returns : goal.returns
returns g c = c.first_above.ensures ∙ free_next c.args.script.now c.args.bound (g.M.Machine.past c.args.machine.now) c.args.low (sym c.is_held.ensures ∙ c.if-is_held.false)
