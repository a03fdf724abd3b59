use Rattle.std.proofs.Common.{◌≡◌, Bool, true, IfSome, take}
use Rattle.std.specs.Fn.{FnReturnsAt}
use Rattle.timer_source.specs.declared.timer.Timer.{Timer}
use Rattle.timer_source.specs.Settings.{first_passing, Computes}
use Rattle.timer_source.proofs.timers.soonest.Given as goal

abbrev pub invariant-loop-setting : goal.invariant-loop-setting
invariant-loop-setting g l =
    ((test : Timer → Bool) → Computes g.F.Fn test l.pass → l.best ≡ first_passing l.t test (take l.setting-index l.settings))
    × IfSome l.best (λ x. FnReturnsAt g.F.Fn l.pass x true)
