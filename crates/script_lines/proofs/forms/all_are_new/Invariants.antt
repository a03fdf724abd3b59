use Rattle.std.proofs.Common.{◌≡◌, ◌+◌, drop}
use Rattle.std.specs.Prelude.{map}
use Rattle.script_lines.specs.Forms.{is_new, all_pass}
use Rattle.script_lines.proofs.forms.all_are_new.Given as goal

abbrev pub invariant-loop-index : goal.invariant-loop-index
invariant-loop-index l = all_pass (is_new l.known) (drop l.index l.places) (map (λ w. w.now) l.words) (l.index + 1) ≡ all_pass (is_new l.known) l.places (map (λ w. w.now) l.words) 1
