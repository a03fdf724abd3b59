use Rattle.std.proofs.Common.{◌++◌, ℕ, List, ap, ◌∙◌}
use Rattle.std.specs.Prelude.{map}
use Rattle.std.specs.List.{flat_map}
use Rattle.script_lines.specs.Known.{known_of}
use Rattle.script_lines.specs.LineTexts.{line_text}
use Rattle.script_lines.specs.Words.{line_words}
use Rattle.script_text.specs.Lines.{thread_lines}
use Rattle.script_text.specs.Spelling.{procedure_words, head_text}
use Rattle.script_text.proofs.PartsAgain.{written}
use Rattle.script_text.proofs.writer.write_with.Goals as goal

pub returns : goal.returns
returns c =
    let s = c.args.script.now in
    let procedures : List ℕ = flat_map line_text (flat_map (procedure_words (known_of s)) s.procedures) in
    let threads : List ℕ = flat_map line_text (map (line_words (known_of s)) (flat_map thread_lines s.threads)) in
    written s c.put_threads.new.out.items
    (c.in_ok-put_threads.ensures.is ∙ ap (λ (l : List ℕ). l ++ threads) (c.in_ok-put_procedures.ensures.is ∙ ap (λ (l : List ℕ). l ++ procedures) (c.in_ok-put_head.ensures.is ∙ ap (λ (l : List ℕ). l ++ head_text s) c.new-out.ensures.items)))
