use Rattle.std.proofs.Common.{◌≡◌, ◌+◌, drop}
use Rattle.std.specs.Prelude.{map}
use Rattle.log_read.specs.Reasons.{is_told, fields_pass}
use Rattle.log_read.proofs.forms.all_are_told.Given as goal

abbrev pub invariant-loop-index : goal.invariant-loop-index
invariant-loop-index l = fields_pass (is_told l.words.script.now) (drop l.index l.fields) (map (λ w. w.now) l.line) (l.at + l.index) ≡ fields_pass (is_told l.words.script.now) l.fields (map (λ w. w.now) l.line) l.at
