-- The one text of a script: lines of words.
use Rattle.std.specs.Prelude.{ℕ, List, [], ◌∷◌, ◌++◌, map, codes, decimal}
use Rattle.std.specs.List.{flat_map}
use Rattle.script_tree.specs.Tree.{ProcedureTree, Tree}
use Rattle.script_lines.specs.declared.line.Line.TheVariants as lines
use Rattle.script_lines.specs.Known.{Known, known_of}
use Rattle.script_lines.specs.LineTexts.{blank_word, line_text}
use Rattle.script_lines.specs.Words.{line_words}
use Rattle.script_text.specs.Lines.{body_lines, script_lines}

-- the lines before the procedures and threads
abbrev pub head_words : Tree → List (List (List ℕ))
head_words s =
    (codes "user" ∷ codes "1" ∷ []) ∷
    (codes "screen" ∷ decimal s.width ∷ decimal s.height ∷ []) ∷
    (codes "budget" ∷ decimal s.budget ∷ []) ∷
    (codes "order" ∷ map decimal s.order) ∷ []

-- all lines
abbrev pub script_words : Tree → List (List (List ℕ))
script_words s = head_words s ++ map (line_words (known_of s)) (script_lines s)

-- the text of a script
unfoldable pub spelling : Tree → List ℕ
spelling s = flat_map line_text (script_words s)

-- the text of the lines before the procedures and threads
abbrev pub head_text : Tree → List ℕ
head_text s = codes "user 1\nscreen" ++ (blank_word (decimal s.width) ++ (blank_word (decimal s.height) ++ (codes "\nbudget" ++ (blank_word (decimal s.budget) ++ (codes "\norder" ++ (flat_map blank_word (map decimal s.order) ++ 10 ∷ []))))))

-- the lines of a procedure, which have its name
abbrev pub procedure_words : Known → ProcedureTree → List (List (List ℕ))
procedure_words known p = (codes "proc" ∷ p.name ∷ []) ∷ map (line_words known) (body_lines p.body ++ lines.End ∷ [])
