use Rattle.std.proofs.Common.{◌++◌, List, ℕ, ap, sym, ◌∙◌}
use Rattle.std.specs.List.{flat_map}
use Rattle.std.proofs.lemmas.List.Folds.{flat_map-map}
use Rattle.script_lines.specs.LineTexts.{blank_word}
use Rattle.script_lines.specs.Rows.{command_word}
use Rattle.script_lines.specs.Words.{part_word}
use Rattle.script_lines.proofs.known_writer.known_text.Goals as goal

pub returns : goal.returns
returns c =
    let words : List ℕ = flat_map (λ p. blank_word (part_word c.args.known.now p)) c.args.parts.now in
    c.in_ok-put_known_parts.ensures.is
    ∙ ap (λ (l : List ℕ). l ++ words) (c.in_ok-put_text.ensures.is ∙ ap (λ (l : List ℕ). l ++ c.command_word.result.now) c.new-out.ensures.items ∙ c.command_word.ensures)
    ∙ ap (λ (l : List ℕ). command_word c.args.command ++ l) (sym (flat_map-map blank_word (part_word c.args.known.now) c.args.parts.now))
