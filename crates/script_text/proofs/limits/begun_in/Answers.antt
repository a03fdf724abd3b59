use Rattle.std.proofs.Common.{sym, ◌∙◌}
use Rattle.script_text.proofs.LimitLemmas.{unbegun_part}
use Rattle.script_text.proofs.limits.begun_in.Goals as goal

pub returns-in_err-begun : goal.returns-in_err-begun
returns-in_err-begun c = c.from_residual.ensures ∙ sym (unbegun_part c.args.count c.args.parts.now c.loop-part.part-index _ c.loop-part.begun _ c.loop-part-test.true (sym c.begun_with_part.ensures ∙ c.in_err-begun.was) c.loop-part.invariant)
