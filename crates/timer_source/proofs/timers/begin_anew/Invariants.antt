use Rattle.std.proofs.Common.{◌≡◌, ◌++◌, take, drop}
use Rattle.timer_source.specs.Settings.{restarted}
use Rattle.timer_source.proofs.timers.begin_anew.Given as goal

abbrev pub invariant-loop-setting : goal.invariant-loop-setting
invariant-loop-setting l = l.settings ≡ restarted l.w l.id l.clock (take l.setting-index l.initial.settings) ++ drop l.setting-index l.initial.settings
