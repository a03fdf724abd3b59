use Rattle.std.proofs.Common.{rules, ap, ◌∙◌}
use Rattle.timer_source.specs.Settings.{first_due}
use Rattle.timer_source.specs.declared.timer.Timer.{Timer}
use Rattle.thread_state.specs.Passing.{passes_window_in}
use Rattle.timer_state.proofs.Reading.{due_found, none_due, out_of_range, within_range}
use Rattle.timer_state.proofs.finding.due_timer.Goals as goal

pub returns-then-not-passes_number : goal.returns-then-not-passes_number
returns-then-not-passes_number c = λ past at kept now. none_due past c.args.thread.0 c.args.filter (out_of_range c.passes_number.result _ c.passes_number.ensures c.if-not-passes_number.true)

pub returns : goal.returns
returns c = λ past at kept now.
    c.first_due.ensures.value (λ (x : Timer). passes_window_in c.args.tree.now.live c.args.filter.hwnd x.hwnd.0) (λ x b k. search rules)
    ∙ ap (λ l. first_due c.args.thread (λ (x : Timer). passes_window_in c.args.tree.now.live c.args.filter.hwnd x.hwnd.0) c.args.time l) kept
    ∙ due_found past c.args.tree.now c.args.thread c.args.filter c.args.time at now (within_range c.passes_number.result _ c.passes_number.ensures c.if-not-passes_number.false)
