use Rattle.std.proofs.Common.{sym, ◌∙◌}
use Rattle.timer_source.proofs.SettingLemmas.{anew-true, anew-false, restarted-step}
use Rattle.timer_source.proofs.timers.begin_anew.Goals as goal
use Rattle.timer_source.proofs.timers.begin_anew.Goals.{then-is_timer, else-is_timer}

pub loop-setting-preserved : goal.loop-setting-preserved
loop-setting-preserved c =
    elim c.if-is_timer.branch [
      | then-is_timer w ↦ w.settings-is ∙ restarted-step c.args.w c.args.id c.args.clock _ _ _ _ _ c.loop-setting-test.true c.loop-setting.invariant (anew-true c.args.w c.args.id c.args.clock _ (sym c.is_timer.ensures ∙ w.if-is_timer.true))
      | else-is_timer w ↦ w.settings-is ∙ restarted-step c.args.w c.args.id c.args.clock _ _ _ _ _ c.loop-setting-test.true c.loop-setting.invariant (anew-false c.args.w c.args.id c.args.clock _ (sym c.is_timer.ensures ∙ w.if-is_timer.false))
    ]
