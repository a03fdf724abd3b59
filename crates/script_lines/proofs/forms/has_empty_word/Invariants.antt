use Rattle.std.proofs.Common.{◌≡◌, drop}
use Rattle.std.specs.Prelude.{map}
use Rattle.std.specs.List.{list_any}
use Rattle.script_lines.specs.Forms.{is_empty_word}
use Rattle.script_lines.proofs.forms.has_empty_word.Given as goal

abbrev pub invariant-loop-word : goal.invariant-loop-word
invariant-loop-word l = list_any is_empty_word (map (λ w. w.now) (drop l.word-index l.words)) ≡ list_any is_empty_word (map (λ w. w.now) l.words)
