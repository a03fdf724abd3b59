-- Taking the head of a text apart, loosely, as its lines are.
use Rattle.std.specs.Prelude.{ℕ, min, List, map, drop}
use Rattle.script_lines.specs.LineReading.{number_at, split_at, word_at}

abbrev pub small_number_at : ℕ → List ℕ → ℕ
small_number_at most word = min (number_at word) most

-- the words of the line at a place
abbrev pub words_at : List (List ℕ) → ℕ → List (List ℕ)
words_at texts k = split_at 32 (word_at texts k)

unfoldable pub width_at : List (List ℕ) → ℕ
width_at texts = small_number_at 65535 (word_at (words_at texts 1) 1)

unfoldable pub height_at : List (List ℕ) → ℕ
height_at texts = small_number_at 65535 (word_at (words_at texts 1) 2)

unfoldable pub budget_at : List (List ℕ) → ℕ
budget_at texts = small_number_at 4294967295 (word_at (words_at texts 2) 1)

unfoldable pub order_at : List (List ℕ) → List ℕ
order_at texts = map (small_number_at 255) (drop 1 (words_at texts 3))
