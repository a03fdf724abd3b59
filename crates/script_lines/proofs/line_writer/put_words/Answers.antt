use Rattle.std.proofs.Common.{◌++◌, ◌∷◌, [], ap, List, ℕ, ◌∙◌}
use Rattle.std.specs.List.{flat_map}
use Rattle.user_io.proofs.Texts.{two}
use Rattle.script_lines.specs.Known.{known_of}
use Rattle.script_lines.specs.LineTexts.{blank_word}
use Rattle.script_lines.specs.Rows.{command_word}
use Rattle.script_lines.specs.Words.{part_word}
use Rattle.script_lines.proofs.Puts.{adds_along, words_text}
use Rattle.script_lines.proofs.line_writer.put_words.Goals as goal

pub returns : goal.returns
returns c =
    adds_along _ _ _ _ (ap (λ (l : List ℕ). l ++ (flat_map (λ p. blank_word (part_word (known_of c.args.script.now) p)) c.args.parts.now ++ 10 ∷ [])) c.command_word.ensures ∙ words_text (command_word c.args.command) (known_of c.args.script.now) c.args.parts.now)
    (two c.in_ok-put_text.ensures (two c.in_ok-put_parts.ensures (record { is = c.in_ok-push.ensures.items })))
