use Rattle.std.proofs.Common.{◌≡◌, ◌+◌, drop}
use Rattle.std.specs.Prelude.{map}
use Rattle.log_read.specs.Reasons.{has_form, fields_pass}
use Rattle.log_read.proofs.forms.all_have_fields.Given as goal

abbrev pub invariant-loop-index : goal.invariant-loop-index
invariant-loop-index l = fields_pass has_form (drop l.index l.fields) (map (λ w. w.now) l.line) (l.at + l.index) ≡ fields_pass has_form l.fields (map (λ w. w.now) l.line) l.at
