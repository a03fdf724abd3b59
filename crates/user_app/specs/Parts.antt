-- The two parts of the input of a check.
use Rattle.std.specs.Prelude.{ℕ, ◌==◌, ◌||◌, ◌&&◌, if◌then◌else◌, Bool, true, List, [], ◌∷◌, take, drop, codes}
use Rattle.std.specs.Str.{bytes_eq}

-- whether a word ends here: at a blank, at the end of a line, or at the end of the text
abbrev pub is_word_end : List ℕ → Bool
is_word_end [] = true
is_word_end (c ∷ rest) = (c == 32) || (c == 10)

-- whether a text begins with the word `log`
abbrev pub begins_log : List ℕ → Bool
begins_log text = bytes_eq (take 3 text) (codes "log") && is_word_end (drop 3 text)

-- what stands before the first line that begins with the word `log`, where a line begins here or not
abbrev pub before_log : Bool → List ℕ → List ℕ
before_log starts [] = []
before_log starts (c ∷ text) = if starts && begins_log (c ∷ text) then [] else c ∷ before_log (c == 10) text

-- what stands from there on
abbrev pub from_log : Bool → List ℕ → List ℕ
from_log starts [] = []
from_log starts (c ∷ text) = if starts && begins_log (c ∷ text) then c ∷ text else from_log (c == 10) text

-- the script of an input
abbrev pub script_part : List ℕ → List ℕ
script_part text = before_log true text

-- the log of an input
abbrev pub log_part : List ℕ → List ℕ
log_part text = from_log true text
