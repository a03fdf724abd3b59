use Rattle.std.proofs.Common.{◌≡◌, drop}
use Rattle.timer_source.specs.Settings.{has_due}
use Rattle.timer_source.proofs.timers.any_due.Given as goal

abbrev pub invariant-loop-setting : goal.invariant-loop-setting
invariant-loop-setting l = has_due l.t l.after l.clock (drop l.setting-index l.settings) ≡ has_due l.t l.after l.clock l.settings
