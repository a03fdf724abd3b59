use Rattle.std.proofs.Common.{ℕ, Bool, arith, sym, ap, ◌∙◌, not}
use Rattle.std.specs.Prelude.{is_none}
use Rattle.user_model.specs.Places.{has_ended}
use Rattle.user_model.proofs.Lowest.{lowest_found, lowest_here}
use Rattle.user_core.proofs.answer.have_all_ended.Goals as goal

pub returns-then-not-has_ended : goal.returns-then-not-has_ended
returns-then-not-has_ended c =
    let test : ℕ → Bool = λ t. not (has_ended c.args.state.now.past t) in
    sym (ap is_none (lowest_found test c.args.state.now.setup.threads _ (lowest_here test c.loop-thread.thread c.loop-thread.invariant (ap not (sym c.has_ended.ensures ∙ c.if-not-has_ended.true))) (omega arith)))
