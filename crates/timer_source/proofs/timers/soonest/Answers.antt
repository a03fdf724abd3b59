use Rattle.std.proofs.Common.{sym, ◌∙◌}
use Rattle.timer_source.proofs.SettingLemmas.{own_step, other_step}
use Rattle.timer_source.proofs.timers.soonest.Goals as goal
use Rattle.timer_source.proofs.timers.soonest.Goals.{then-eq, else-eq}

pub loop-setting-preserved : goal.loop-setting-preserved
loop-setting-preserved g c =
    elim c.if-eq.branch [
      | then-eq w ↦ (
        λ test ok. own_step c.args.t test _ _ _ _ _ c.loop-setting-test.true (sym c.eq.ensures ∙ w.if-eq.true) (c.loop-setting.invariant.0 test ok) (w.best-is ∙ w.sooner-best.ensures.value test ok),
        rw w.best-is (w.sooner-best.ensures.passed c.loop-setting.invariant.1),
      )
      | else-eq w ↦ (
        λ test ok. w.best-is ∙ other_step c.args.t test _ _ _ _ c.loop-setting-test.true (sym c.eq.ensures ∙ w.if-eq.false) (c.loop-setting.invariant.0 test ok),
        rw w.best-is c.loop-setting.invariant.1,
      )
    ]
