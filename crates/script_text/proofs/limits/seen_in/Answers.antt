use Rattle.std.proofs.Common.{sym, ◌∙◌}
use Rattle.script_text.proofs.LimitLemmas.{unseen_part}
use Rattle.script_text.proofs.limits.seen_in.Goals as goal

pub returns-in_err-seen : goal.returns-in_err-seen
returns-in_err-seen c = c.from_residual.ensures ∙ sym (unseen_part c.args.count c.args.parts.now c.loop-part.part-index _ c.loop-part.seen _ c.loop-part-test.true (sym c.seen_with_part.ensures ∙ c.in_err-seen.was) c.loop-part.invariant)
