-- The text of a line.
use Rattle.std.specs.Prelude.{ℕ, List, [], ◌∷◌, ◌++◌}
use Rattle.std.specs.List.{flat_map}

-- a blank and a word
abbrev pub blank_word : List ℕ → List ℕ
blank_word word = 32 ∷ word

-- words with a blank between each two
abbrev pub joined : List (List ℕ) → List ℕ
joined [] = []
joined (word ∷ words) = word ++ flat_map blank_word words

-- words as a line
abbrev pub line_text : List (List ℕ) → List ℕ
line_text words = joined words ++ 10 ∷ []
