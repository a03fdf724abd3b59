-- Taking the words of a log apart, loosely: a number may have leading zeros, or be too large. Whether the
-- text is that of what was found is seen by writing it again.
use Rattle.std.specs.Prelude.{ℕ, ℤ, pos, negsuc, ◌+◌, ◌-◌, ◌^◌, min, ◌==◌, if◌then◌else◌, ◌&&◌, ◌||◌, int_le, nat_le, List, [], ◌∷◌, codes, find, Option, Some, None, option_map, Bool, false, not}
use Rattle.std.specs.List.{position_from, list_all}
use Rattle.std.specs.Str.{bytes_eq}
use Rattle.win_num.specs.declared.code.Code.{Code}
use Rattle.win_num.specs.declared.code.Code.TheVariants as codes_of
use Rattle.win_num.specs.declared.message.Thread.{Thread}
use Rattle.win_num.specs.declared.send.Cause.{Cause}
use Rattle.win_num.specs.declared.send.Cause.TheVariants as causes
use Rattle.name_table.specs.Rows.{number_in}
use Rattle.name_table.specs.Messages.{message_rows}
use Rattle.user_model.specs.declared.entry.Answer.{Answer}
use Rattle.user_model.specs.declared.entry.Origin.{Origin}
use Rattle.user_model.specs.declared.entry.Origin.TheVariants as origins
use Rattle.call_fields.specs.declared.form.Field.{Field}
use Rattle.call_fields.specs.declared.form.Field.TheVariants as fields
use Rattle.call_fields.specs.declared.value.Value.{Value}
use Rattle.call_fields.specs.declared.value.Value.TheVariants as values
use Rattle.call_fields.specs.Words.{source_word, cause_word}
use Rattle.script_tree.specs.Tree.{Tree}
use Rattle.script_lines.specs.LineReading.{◌>>=◌, number_at, word_at}
use Rattle.log_text.specs.declared.end.End.{End}
use Rattle.log_text.specs.declared.end.End.TheVariants.{Done, Stuck, Spent, Cut}
use Rattle.log_text.specs.Endings.{end_word}
use Rattle.log_read.specs.Limits.{keeps_frame}

-- a number, or the greatest of so many bits where it is too large
abbrev pub small_at : ℕ → List ℕ → ℕ
small_at bits word = min (number_at word) (2 ^ bits - 1)

-- a number with its sign
unfoldable pub signed_at : List ℕ → ℤ
signed_at [] = pos 0
signed_at (c ∷ cs) = if c == 45 then negsuc (min (number_at cs - 1) (2 ^ 63 - 1)) else pos (min (number_at (c ∷ cs)) (2 ^ 63 - 1))

-- a place on the screen
unfoldable pub pixel_at : List ℕ → Option ℤ
pixel_at word = if int_le (negsuc 2147483647) (signed_at word) && int_le (signed_at word) (pos 2147483647) then Some (signed_at word) else None

abbrev pub number_or : ℕ → Option ℕ → ℕ
number_or n None = n
number_or n (Some m) = m

-- a message by its name, or its number
abbrev pub message_at : List ℕ → ℕ
message_at word = number_or (number_at word) (number_in message_rows word)

-- the same of 32 bits
abbrev pub short_message_at : List ℕ → ℕ
short_message_at word = min (message_at word) (2 ^ 32 - 1)

abbrev pub all_sources : List Origin
all_sources = origins.Posted ∷ origins.Quit ∷ origins.Input ∷ origins.Paint ∷ origins.Timer ∷ []

unfoldable pub source_at : List ℕ → Option Origin
source_at word = find (λ o. bytes_eq (source_word o) word) all_sources

abbrev pub all_causes : List Cause
all_causes = causes.Proc ∷ causes.Reply ∷ causes.Loss ∷ causes.Timeout ∷ causes.Hung ∷ []

unfoldable pub cause_at : List ℕ → Option Cause
cause_at word = find (λ c. bytes_eq (cause_word c) word) all_causes

-- a code by its word, or its number
unfoldable pub code_at : List ℕ → Code
code_at word = if bytes_eq word (codes "full") then codes_of.Full else if bytes_eq word (codes "not_now") then codes_of.NotNow else if bytes_eq word (codes "no_target") then codes_of.NoTarget else codes_of.Win (small_at 16 word)

-- the place of a name
unfoldable pub name_at : Tree → List ℕ → Option ℕ
name_at s word = position_from (λ name. bytes_eq name word) 0 s.names

-- the place of a procedure
unfoldable pub procedure_at : Tree → List ℕ → Option ℕ
procedure_at s word = position_from (λ p. bytes_eq p.name word) 0 s.procedures

-- an actor, 0 to 15
unfoldable pub actor_at : List ℕ → Option Thread
actor_at word = if nat_le (number_at word) 15 then Some (record { 0 = number_at word }) else None

-- the value that a word is in a field of this kind
abbrev pub value_at : Tree → Field → List ℕ → Option Value
value_at s fields.Number word = Some (values.Number (number_at word))
value_at s fields.Message word = Some (values.Message (message_at word))
value_at s fields.Signed word = Some (values.Signed (signed_at word))
value_at s fields.Name word = option_map (λ n. values.Name n) (name_at s word)
value_at s fields.Procedure word = option_map (λ n. values.Procedure n) (procedure_at s word)
value_at s fields.Window word = Some (values.Window (record { 0 = small_at 32 word }))
value_at s fields.Send word = Some (values.Send (record { 0 = small_at 32 word }))
value_at s fields.Thread word = Some (values.Thread (record { 0 = small_at 8 word }))
value_at s fields.Count word = Some (values.Count (small_at 32 word))
value_at s fields.ShortMessage word = Some (values.ShortMessage (short_message_at word))
value_at s fields.Pixel word = option_map (λ x. values.Pixel x) (pixel_at word)
value_at s fields.Byte word = Some (values.Byte (small_at 8 word))
value_at s fields.Source word = option_map (λ o. values.Source o) (source_at word)
value_at s fields.Cause word = option_map (λ c. values.Cause c) (cause_at word)
value_at s fields.Code word = Some (values.Code (code_at word))

-- the values that the words from a place on are in fields of these kinds
unfoldable pub values_from : Tree → List Field → List (List ℕ) → ℕ → Option (List Value)
values_from s [] words k = Some []
values_from s (field ∷ more) words k = value_at s field (word_at words k) >>= λ v. values_from s more words (k + 1) >>= λ vs. Some (v ∷ vs)

abbrev pub all_ends : List End
all_ends = Done ∷ Stuck ∷ Spent ∷ Cut ∷ []

-- how a run ended
unfoldable pub end_at : List ℕ → Option End
end_at word = find (λ e. bytes_eq (end_word e) word) all_ends

-- whether a line that is no row of a frame is no entry's: it begins with an e
abbrev pub is_end_line : List ℕ → Bool
is_end_line [] = false
is_end_line (c ∷ cs) = c == 101

-- how many lines an entry has that was answered so: its own, and where it kept a frame the rows of the screen
abbrev pub line_count : Tree → Answer → ℕ
line_count s a = if keeps_frame a then s.height + 1 else 1

-- the colour of a digit, 0 to 9 and a to f; another letter is read as colour 0
abbrev pub colour_at : ℕ → ℕ
colour_at c = if nat_le 48 c && nat_le c 57 then c - 48 else if nat_le 97 c && nat_le c 102 then c - 87 else 0

-- whether all bytes are digits of colours
abbrev pub is_colour_digit : ℕ → Bool
is_colour_digit c = (nat_le 48 c && nat_le c 57) || (nat_le 97 c && nat_le c 102)

abbrev pub are_colours : List ℕ → Bool
are_colours text = list_all is_colour_digit text
