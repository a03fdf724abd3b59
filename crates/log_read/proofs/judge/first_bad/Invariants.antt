use Rattle.std.proofs.Common.{take}
use Rattle.std.specs.Prelude.{map}
use Rattle.log_read.proofs.Rests.{IsRead}
use Rattle.log_read.proofs.judge.first_bad.Given as goal

abbrev pub invariant-loop-before : goal.invariant-loop-before
invariant-loop-before l = IsRead l.words.script.now (map (λ w. w.now) (take l.before l.texts)) l.phase
