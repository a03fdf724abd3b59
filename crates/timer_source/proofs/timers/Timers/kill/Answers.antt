use Rattle.timer_source.proofs.SettingLemmas.{early_without}
use Rattle.timer_source.proofs.timers.Timers.kill.Goals as goal

pub invariant_of-self : goal.invariant_of-self
invariant_of-self c = early_without c.args.w c.args.id _ _ c.take_out.ensures.items c.self.invariant
