use Rattle.std.proofs.Common.{◌≡◌, drop}
use Rattle.std.specs.Prelude.{map}
use Rattle.std.specs.List.{list_all}
use Rattle.script_text.specs.Reasons.{is_head_form}
use Rattle.script_text.proofs.head.all_head_forms.Given as goal

abbrev pub invariant-loop-word : goal.invariant-loop-word
invariant-loop-word l = list_all (is_head_form l.line) (map (λ w. w.now) (drop l.word-index l.words)) ≡ list_all (is_head_form l.line) (map (λ w. w.now) l.words)
