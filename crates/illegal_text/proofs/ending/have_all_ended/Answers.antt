use Rattle.std.proofs.Common.{rules, ◌≡◌, ◌+◌, ℕ, Bool, true, false, not, length, sym, ap, ◌∙◌, arith}
use Rattle.std.specs.Prelude.{is_none}
use Rattle.user_model.specs.Places.{has_ended}
use Rattle.user_model.proofs.Lowest.{lowest_found, lowest_here}
use Rattle.illegal_text.proofs.Endings.{ended_told}
use Rattle.illegal_text.proofs.ending.have_all_ended.Goals as goal

pub returns-then-not-has_ended : goal.returns-then-not-has_ended
returns-then-not-has_ended g c =
    let past = g.M.Machine.past c.args.machine.now in
    let t = c.loop-thread.thread in
    let test : ℕ → Bool = λ u. not (has_ended past u) in
    let lives : c.has_ended.result ≡ false = search (rules, c.if-not-has_ended.true) in
    sym (ap is_none (lowest_found test (length c.args.script.now.threads) (t + 1) (lowest_here test t c.loop-thread.invariant (ap not (ended_told past c.history-history.result.now (t + 1) c.has_ended.result c.history-history.ensures c.has_ended.ensures ∙ lives))) (omega arith)))
