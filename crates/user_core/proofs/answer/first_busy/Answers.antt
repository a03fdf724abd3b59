use Rattle.std.proofs.Common.{ℕ, Bool, arith, sym, ap, ◌∙◌, not}
use Rattle.user_model.specs.Idle.{is_idle}
use Rattle.user_model.proofs.Lowest.{lowest_found, lowest_here, lowest_none}
use Rattle.user_core.proofs.answer.first_busy.Goals as goal

pub returns-then-not-is_idle : goal.returns-then-not-is_idle
returns-then-not-is_idle c =
    let test : ℕ → Bool = λ t. not (is_idle c.args.state.now.setup c.args.state.now.past t) in
    sym (lowest_found test c.args.state.now.setup.threads _ (lowest_here test c.loop-thread.thread c.loop-thread.invariant (ap not (sym c.is_idle.ensures ∙ c.if-not-is_idle.true))) (omega arith))

pub loop-thread-preserved : goal.loop-thread-preserved
loop-thread-preserved c =
    let test : ℕ → Bool = λ t. not (is_idle c.args.state.now.setup c.args.state.now.past t) in
    lowest_none test c.loop-thread.thread c.loop-thread.invariant (ap not (sym c.is_idle.ensures ∙ c.if-not-is_idle.false))
