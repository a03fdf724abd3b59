-- Pieces put one behind the other.
use Rattle.std.proofs.Common.{◌≡◌, ℕ, List, [], ◌∷◌, ◌++◌, ap, sym, ◌∙◌, append_assoc}
use Rattle.std.specs.Prelude.{map}
use Rattle.std.specs.List.{flat_map}
use Rattle.std.proofs.lemmas.List.Folds.{flat_map-map}
use Rattle.user_io.specs.Text.{Adds}
use Rattle.statement_table.specs.declared.part.Part.{Part}
use Rattle.script_lines.specs.Known.{Known}
use Rattle.script_lines.specs.LineTexts.{blank_word, line_text}
use Rattle.script_lines.specs.Words.{part_word}

pub adds_along : (o n a b : List ℕ) → a ≡ b → Adds o n a → Adds o n b
adds_along o n a b e h = record { is = h.is ∙ ap (λ (l : List ℕ). o ++ l) e }

pub words_text : (command : List ℕ) (known : Known) (parts : List Part) → command ++ (flat_map (λ p. blank_word (part_word known p)) parts ++ 10 ∷ []) ≡ line_text (command ∷ map (part_word known) parts)
words_text command known parts =
    ap (λ (l : List ℕ). command ++ (l ++ 10 ∷ [])) (sym (flat_map-map blank_word (part_word known) parts))
    ∙ sym (append_assoc command (flat_map blank_word (map (part_word known) parts)) (10 ∷ []))
