-- The forms of words, for telling what is wrong with a line.
use Rattle.std.specs.Prelude.{ℕ, ◌+◌, Bool, true, false, not, ◌&&◌, ◌||◌, ◌==◌, nat_le, if◌then◌else◌, List, [], ◌∷◌}
use Rattle.std.specs.Option.{is_some}
use Rattle.std.specs.List.{list_all}
use Rattle.std.specs.Char.{is_ascii_digit}
use Rattle.statement_table.specs.declared.part.Place.{Place}
use Rattle.statement_table.specs.declared.part.Place.TheVariants as places
use Rattle.script_lines.specs.Known.{Known}
use Rattle.script_lines.specs.LineReading.{word_at, letter_at, variable_at, operator_at, comparison_at, operand_at, procedure_at}
use Rattle.script_lines.specs.NameLimits.{is_name}

abbrev pub is_empty_word : List ℕ → Bool
is_empty_word [] = true
is_empty_word (c ∷ cs) = false

-- a byte that a line may have
abbrev pub is_printable_byte : ℕ → Bool
is_printable_byte c = nat_le 32 c && nat_le c 126

abbrev pub is_printable : List ℕ → Bool
is_printable text = list_all is_printable_byte text

-- a decimal number without leading zeros, of any size
abbrev pub is_decimal : List ℕ → Bool
is_decimal [] = false
is_decimal (c ∷ cs) = is_ascii_digit c && (list_all is_ascii_digit cs && (not (c == 48) || is_empty_word cs))

-- such a number, or `-` and such a number
abbrev pub is_number : List ℕ → Bool
is_number [] = false
is_number (c ∷ cs) = if c == 45 then is_decimal cs else is_decimal (c ∷ cs)

abbrev pub is_upper_letter : ℕ → Bool
is_upper_letter c = nat_le 65 c && nat_le c 90

abbrev pub is_upper_byte : ℕ → Bool
is_upper_byte c = is_upper_letter c || ((nat_le 48 c && nat_le c 57) || (c == 95))

-- an upper-case letter, and upper-case letters, digits and `_`
abbrev pub is_upper_name : List ℕ → Bool
is_upper_name [] = false
is_upper_name (c ∷ cs) = is_upper_letter c && list_all is_upper_byte cs

-- a word has the form of what stands in a place: a number whatever its size, and an upper-case name whether it is known or not
abbrev pub has_form : Place → List ℕ → Bool
has_form places.Letter word = is_some (letter_at word)
has_form places.Operand word = is_number word || (is_upper_name word || is_some (variable_at word))
has_form places.Operator word = is_some (operator_at word)
has_form places.Comparison word = is_some (comparison_at word)
has_form places.Name word = is_name word
has_form places.Beginning word = is_name word
has_form places.Procedure word = is_name word

-- a word names nothing unknown: an upper-case name is that of a message or a constant, and a procedure has begun
abbrev pub is_told : Known → Place → List ℕ → Bool
is_told known places.Operand word = not (is_upper_name word) || is_some (operand_at word)
is_told known places.Procedure word = is_some (procedure_at known word)
is_told known p word = true

-- a word is no procedure's name that begins a second time
abbrev pub is_new : Known → Place → List ℕ → Bool
is_new known places.Beginning word = not (is_some (procedure_at known word))
is_new known p word = true

-- the words from one on pass a test, each in its place
abbrev pub all_pass : (Place → List ℕ → Bool) → List Place → List (List ℕ) → ℕ → Bool
all_pass test [] words k = true
all_pass test (place ∷ more) words k = test place (word_at words k) && all_pass test more words (k + 1)
