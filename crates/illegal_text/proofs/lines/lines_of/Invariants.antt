use Rattle.std.proofs.Common.{◌≡◌, ◌∷◌, take, map}
use Rattle.log_read.specs.declared.log.Extra.{Extra}
use Rattle.illegal_text.specs.declared.lines.EndingLine.TheVariants.{Ends, Tells}
use Rattle.illegal_text.proofs.lines.lines_of.Given as goal

abbrev pub invariant-loop-extra : goal.invariant-loop-extra
invariant-loop-extra l = l.lines.items ≡ Ends l.fn.end ∷ map (λ (x : Extra). Tells x) (take l.extra-index l.extras)
