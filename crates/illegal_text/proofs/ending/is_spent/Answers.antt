use Rattle.std.proofs.Common.{◌≡◌, ◌+◌, ℕ, Bool, true, false, not, length, sym, ap, ◌∙◌, arith}
use Rattle.std.specs.Prelude.{is_none, ◌&&◌}
use Rattle.user_model.specs.Idle.{is_quiet}
use Rattle.user_model.proofs.Lowest.{lowest_found, lowest_here, lowest_none}
use Rattle.log_text.specs.Ends.{setup_of, could_go_on}
use Rattle.illegal_text.proofs.Endings.{and_false}
use Rattle.illegal_text.proofs.ending.is_spent.Goals as goal

pub returns-then-could_go_on : goal.returns-then-could_go_on
returns-then-could_go_on g c =
    let s = c.args.script.now in
    let past = g.M.Machine.past c.args.machine.now in
    let t = c.loop-thread.thread in
    let test : ℕ → Bool = could_go_on s past in
    let found = lowest_found test (length s.threads) (t + 1) (lowest_here test t c.loop-thread.invariant (sym c.could_go_on.ensures ∙ c.if-could_go_on.true)) (omega arith) in
    sym (ap (λ o. not (is_quiet (setup_of s) past) && is_none o) found ∙ and_false (not (is_quiet (setup_of s) past)))

pub loop-thread-preserved : goal.loop-thread-preserved
loop-thread-preserved g c =
    let past = g.M.Machine.past c.args.machine.now in
    lowest_none (could_go_on c.args.script.now past) c.loop-thread.thread c.loop-thread.invariant (sym c.could_go_on.ensures ∙ c.if-could_go_on.false)
