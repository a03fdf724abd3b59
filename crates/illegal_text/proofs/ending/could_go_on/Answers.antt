use Rattle.std.proofs.Common.{rules, ◌≡◌, ℕ, true, false, not, sym, ap, ◌∙◌}
use Rattle.std.specs.Prelude.{◌&&◌, ◌==◌}
use Rattle.user_model.specs.Idle.{is_barred}
use Rattle.log_text.specs.Ends.{used}
use Rattle.illegal_text.proofs.Endings.{goes_is, used_told}
use Rattle.illegal_text.proofs.ending.could_go_on.Goals as goal

pub returns-then-not-barred : goal.returns-then-not-barred
returns-then-not-barred g c =
    let s = c.args.script.now in
    let past = g.M.Machine.past c.args.machine.now in
    let t = c.args.thread in
    let free : is_barred (g.M.Machine.setup c.args.machine.now) past t ≡ false = search (rules, c.barred.ensures, c.if-not-barred.true) in
    let few : used past t ≡ c.used.result = used_told past c.history.result.now t c.used.result c.history.ensures c.used.ensures.count in
    sym (goes_is s past (g.M.Machine.setup c.args.machine.now) t c.requires.setup c.requires.some
    ∙ ap (λ b. not b && not (used past t == s.budget)) free ∙ ap (λ (n : ℕ). not (n == s.budget)) few ∙ ap (λ (n : ℕ). not (c.used.result == n)) (sym c.budget.ensures))

pub returns-else-not-barred : goal.returns-else-not-barred
returns-else-not-barred g c =
    let s = c.args.script.now in
    let past = g.M.Machine.past c.args.machine.now in
    let t = c.args.thread in
    let bars : c.barred.result ≡ true = search (rules, c.if-not-barred.false) in
    let barred : is_barred (g.M.Machine.setup c.args.machine.now) past t ≡ true = sym c.barred.ensures ∙ bars in
    ap not bars ∙ sym (goes_is s past (g.M.Machine.setup c.args.machine.now) t c.requires.setup c.requires.some ∙ ap (λ b. not b && not (used past t == s.budget)) barred)
