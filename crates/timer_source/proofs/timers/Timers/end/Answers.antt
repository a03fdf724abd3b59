use Rattle.std.proofs.Common.{◌==◌, not}
use Rattle.timer_source.proofs.SettingLemmas.{early_kept}
use Rattle.timer_source.proofs.timers.Timers.end.Goals as goal

pub invariant_of-self : goal.invariant_of-self
invariant_of-self c = early_kept (λ s. not (s.thread.0 == c.args.t.0)) _ _ c.take_those_of.ensures c.self.invariant
