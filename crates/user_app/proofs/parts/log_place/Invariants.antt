use Rattle.user_app.proofs.InputParts.{Passed}
use Rattle.user_app.proofs.parts.log_place.Given as goal

abbrev pub invariant-loop-place : goal.invariant-loop-place
invariant-loop-place l = Passed l.text l.place l.starts
