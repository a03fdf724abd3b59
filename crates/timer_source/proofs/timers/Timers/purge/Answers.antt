use Rattle.timer_source.proofs.SettingLemmas.{early_without_window}
use Rattle.timer_source.proofs.timers.Timers.purge.Goals as goal

pub invariant_of-self : goal.invariant_of-self
invariant_of-self c = early_without_window c.args.w _ _ c.take_out_all.ensures c.self.invariant
