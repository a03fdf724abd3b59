use Rattle.std.proofs.Common.{rules, ◌≡◌, ℕ, true, false, not, sym, ap, ◌∙◌, arith}
use Rattle.std.specs.Prelude.{◌&&◌, nat_lt}
use Rattle.user_model.specs.Idle.{is_barred}
use Rattle.log_text.specs.Ends.{used}
use Rattle.user_pool.proofs.Choices.{runs_is, seat_used}
use Rattle.user_pool.proofs.choice.runnable.Goals as goal

pub returns-then-not-barred : goal.returns-then-not-barred
returns-then-not-barred g c =
    let s = c.args.script.now in
    let past = g.M.Machine.past c.args.machine.now in
    let t = c.args.number in
    let free : is_barred (g.M.Machine.setup c.args.machine.now) past t ≡ false = search (rules, c.barred.ensures, c.if-not-barred.true) in
    let few : used past t ≡ c.used.result = sym (c.used.ensures.used ∙ seat_used s past c.args.seats.now t c.index-seats-number.result c.requires.seats (omega arith) (omega arith)) in
    sym (runs_is s past (g.M.Machine.setup c.args.machine.now) t c.requires.setup (omega arith) (omega (arith, c.requires.seats.count))
    ∙ ap (λ b. not b && nat_lt (used past t) s.budget) free ∙ ap (λ (n : ℕ). nat_lt n s.budget) few ∙ ap (λ (n : ℕ). nat_lt c.used.result n) (sym c.budget.ensures))

pub returns-else-not-barred : goal.returns-else-not-barred
returns-else-not-barred g c =
    let s = c.args.script.now in
    let past = g.M.Machine.past c.args.machine.now in
    let t = c.args.number in
    let bars : c.barred.result ≡ true = search (rules, c.if-not-barred.false) in
    let barred : is_barred (g.M.Machine.setup c.args.machine.now) past t ≡ true = sym c.barred.ensures ∙ bars in
    ap not bars ∙ sym (runs_is s past (g.M.Machine.setup c.args.machine.now) t c.requires.setup (omega arith) (omega (arith, c.requires.seats.count))
    ∙ ap (λ b. not b && nat_lt (used past t) s.budget) barred)
