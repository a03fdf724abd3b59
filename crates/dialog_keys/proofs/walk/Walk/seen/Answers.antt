use Rattle.std.proofs.Common.{sym, true, ◌∙◌}
use Rattle.dialog_keys.specs.Traces.{tells_open}
use Rattle.dialog_keys.proofs.WalkSteps.{seen_sums}
use Rattle.dialog_keys.proofs.walk.Walk.seen.Goals as goal

pub returns-then-tells_open : goal.returns-then-tells_open
returns-then-tells_open c k forwards ws w s =
    seen_sums c.with_open.result k forwards ws w (tells_open c.args.answer.now) true (sym c.tells_open.ensures ∙ c.if-tells_open.true) (c.with_open.ensures k forwards ws w s)
