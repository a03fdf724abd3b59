use Rattle.std.proofs.Common.{rules, ◌≡◌, ◌+◌, ℕ, Bool, true, false, not, length, sym, ap, ◌∙◌, arith}
use Rattle.user_model.specs.Idle.{is_idle, is_barred}
use Rattle.user_model.proofs.Lowest.{lowest_found, lowest_here, lowest_none}
use Rattle.log_text.specs.Ends.{setup_of}
use Rattle.illegal_text.proofs.Endings.{idle_told}
use Rattle.illegal_text.proofs.ending.first_busy.Goals as goal

pub returns-then-not-barred : goal.returns-then-not-barred
returns-then-not-barred g c =
    let s = c.args.script.now in
    let past = g.M.Machine.past c.args.machine.now in
    let setup = g.M.Machine.setup c.args.machine.now in
    let t = c.loop-thread.thread in
    let test : ℕ → Bool = λ u. not (is_idle (setup_of s) past u) in
    let free : is_barred setup past (t + 1) ≡ false = search (rules, c.barred.ensures, c.if-not-barred.true) in
    sym (lowest_found test (length s.threads) (t + 1) (lowest_here test t c.loop-thread.invariant (ap not (idle_told s past setup (t + 1) false c.requires.setup (omega arith) free))) (omega arith))

pub loop-thread-preserved : goal.loop-thread-preserved
loop-thread-preserved g c =
    let s = c.args.script.now in
    let past = g.M.Machine.past c.args.machine.now in
    let setup = g.M.Machine.setup c.args.machine.now in
    let t = c.loop-thread.thread in
    let test : ℕ → Bool = λ u. not (is_idle (setup_of s) past u) in
    let bars : c.barred.result ≡ true = search (rules, c.if-not-barred.false) in
    lowest_none test t c.loop-thread.invariant (ap not (idle_told s past setup (t + 1) true c.requires.setup (omega arith) (sym c.barred.ensures ∙ bars)))
