use Rattle.std.proofs.Common.{◌-◌, sym, ◌∙◌}
use Rattle.screen_state.proofs.Walking.{found_below, left_before}
use Rattle.screen_state.proofs.walk.+first_below.Goals as goal

pub returns-then-is_some : goal.returns-then-is_some
returns-then-is_some t c setup past seen order =
    found_below setup past c.args.asked.thread.0 c.args.asked.filter (c.args.depth - 1) c.siblings-siblings.result.now c.loop-i.i (record { 0 = 0 }) c.loop-i-test.true c.loop-i.auto.i (sym (c.wants_paint.ensures setup past seen) ∙ c.if-wants_paint.false) c.first_below-below.result (sym c.is_some.ensures ∙ c.if-is_some.true) (c.first_below-below.ensures setup past seen order)
    ∙ c.loop-i.invariant setup past seen order

pub loop-i-preserved : goal.loop-i-preserved
loop-i-preserved t c setup past seen order =
    left_before setup past c.args.asked.thread.0 c.args.asked.filter (c.args.depth - 1) c.siblings-siblings.result.now c.loop-i.i (record { 0 = 0 }) c.loop-i-test.true c.loop-i.auto.i (sym (c.wants_paint.ensures setup past seen) ∙ c.if-wants_paint.false) c.first_below-below.result (sym c.is_some.ensures ∙ c.if-is_some.false) (c.first_below-below.ensures setup past seen order)
    ∙ c.loop-i.invariant setup past seen order
