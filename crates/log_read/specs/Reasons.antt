-- What is wrong with a bad line of a log: the first of these that applies.
use Rattle.std.specs.Prelude.{ℕ, ◌+◌, Bool, true, false, not, ◌&&◌, ◌||◌, ◌==◌, nat_le, nat_lt, if◌then◌else◌, List, [], ◌∷◌, length, codes, Option, Some, None}
use Rattle.std.specs.Option.{is_some}
use Rattle.std.specs.List.{list_all, list_any}
use Rattle.std.specs.Char.{is_ascii_digit}
use Rattle.std.specs.Str.{bytes_eq}
use Rattle.name_table.specs.Rows.{number_in, name_in}
use Rattle.name_table.specs.Messages.{message_rows}
use Rattle.call_fields.specs.declared.form.Field.{Field}
use Rattle.call_fields.specs.declared.form.Field.TheVariants as fields
use Rattle.call_table.specs.declared.calls.CallName.{CallName}
use Rattle.call_table.specs.Calls.{call_row, call_named}
use Rattle.answer_table.specs.declared.answers.AnswerName.{AnswerName}
use Rattle.answer_table.specs.Answers.{answer_row, answer_named}
use Rattle.script_tree.specs.Tree.{Tree}
use Rattle.script_lines.specs.Forms.{is_empty_word, is_printable, is_decimal, is_upper_name}
use Rattle.script_lines.specs.LineReading.{split_at, word_at, number_at}
use Rattle.script_lines.specs.NameLimits.{is_name}
use Rattle.script_text.specs.declared.fault.Reason.{Reason}
use Rattle.script_text.specs.declared.fault.Reason.TheVariants as reasons
use Rattle.log_text.specs.declared.end.End.{End}
use Rattle.log_text.specs.declared.end.End.TheVariants as ends
use Rattle.log_read.specs.declared.phase.Phase.{Phase}
use Rattle.log_read.specs.declared.phase.Phase.TheVariants as phases
use Rattle.log_read.specs.Reading.{source_at, cause_at, name_at, procedure_at}

-- ---- the forms of words

-- a decimal number, or `-` and such a number other than 0
abbrev pub is_signed : List ℕ → Bool
is_signed [] = false
is_signed (c ∷ cs) = if c == 45 then is_decimal cs && not (bytes_eq cs (codes "0")) else is_decimal (c ∷ cs)

-- whether a message with this number has a name, by which it is written
abbrev pub has_name : ℕ → Bool
has_name n = nat_le n 65535 && is_some (name_in message_rows n)

-- an upper-case name, known or not, or a number of a message that has no name
abbrev pub is_message_word : List ℕ → Bool
is_message_word word = is_upper_name word || (is_decimal word && not (has_name (number_at word)))

-- one of the words for a refusal, or a number
abbrev pub is_code_word : List ℕ → Bool
is_code_word word = bytes_eq word (codes "full") || (bytes_eq word (codes "not_now") || (bytes_eq word (codes "no_target") || is_decimal word))

-- a word has the form of what stands in such a field: a number whatever its size, and a name whether it is known or not
abbrev pub has_form : Field → List ℕ → Bool
has_form fields.Number word = is_decimal word
has_form fields.Message word = is_message_word word
has_form fields.Signed word = is_signed word
has_form fields.Name word = is_name word
has_form fields.Procedure word = is_name word
has_form fields.Window word = is_decimal word
has_form fields.Send word = is_decimal word
has_form fields.Thread word = is_decimal word
has_form fields.Count word = is_decimal word
has_form fields.ShortMessage word = is_message_word word
has_form fields.Pixel word = is_signed word
has_form fields.Byte word = is_decimal word
has_form fields.Source word = is_some (source_at word)
has_form fields.Cause word = is_some (cause_at word)
has_form fields.Code word = is_code_word word

-- a word names nothing unknown: an upper-case name is that of a message, another name is one of the script
abbrev pub is_told : Tree → Field → List ℕ → Bool
is_told s fields.Message word = not (is_upper_name word) || is_some (number_in message_rows word)
is_told s fields.ShortMessage word = not (is_upper_name word) || is_some (number_in message_rows word)
is_told s fields.Name word = is_some (name_at s word)
is_told s fields.Procedure word = is_some (procedure_at s word)
is_told s field word = true

-- the words from a place on pass a test, each in its field
abbrev pub fields_pass : (Field → List ℕ → Bool) → List Field → List (List ℕ) → ℕ → Bool
fields_pass test [] words k = true
fields_pass test (field ∷ more) words k = test field (word_at words k) && fields_pass test more words (k + 1)

-- a word has the wrong form; a name isn't known; else a number is beyond its limit
abbrev pub form_reason : Bool → Bool → Reason
form_reason formed told = if formed then (if told then reasons.Limit else reasons.Name) else reasons.Operand

-- ---- entries, and the line of the end

-- the number of the actor, the fields of the call, `=` and the fields of the answer
unfoldable pub is_entry_form : List Field → List Field → List (List ℕ) → Bool
is_entry_form called answered words =
    is_decimal (word_at words 0) && (fields_pass has_form called words 2 && (bytes_eq (word_at words (length called + 2)) (codes "=") && fields_pass has_form answered words (length called + 4)))

unfoldable pub is_entry_told : Tree → List Field → List Field → List (List ℕ) → Bool
is_entry_told s called answered words = fields_pass (is_told s) called words 2 && fields_pass (is_told s) answered words (length called + 4)

-- behind a call with these fields
abbrev pub answer_reason : Tree → List Field → List (List ℕ) → Option AnswerName → Reason
answer_reason s called words None = reasons.Operand
answer_reason s called words (Some answer) =
    if length words == length called + length (answer_row answer).fields + 4 then form_reason (is_entry_form called (answer_row answer).fields words) (is_entry_told s called (answer_row answer).fields words) else reasons.Words

abbrev pub call_reason : Tree → List (List ℕ) → Option CallName → Reason
call_reason s words None = reasons.Operand
call_reason s words (Some call) =
    if nat_lt (length words) (length (call_row call).fields + 4) then reasons.Words else answer_reason s (call_row call).fields words (answer_named (word_at words (length (call_row call).fields + 3)))

-- where the call isn't known nothing else of the line is looked at
abbrev pub entry_reason : Tree → List (List ℕ) → Reason
entry_reason s words = if nat_lt (length words) 4 then reasons.Words else call_reason s words (call_named (word_at words 1))

abbrev pub end_reason : List (List ℕ) → Reason
end_reason words = if length words == 2 then reasons.Operand else reasons.Words

-- an entry begins with a number, with leading zeros or not
abbrev pub are_digits : List ℕ → Bool
are_digits word = list_all is_ascii_digit word && not (is_empty_word word)

abbrev pub entries_reason : Tree → List (List ℕ) → Reason
entries_reason s words = if bytes_eq (word_at words 0) (codes "end") then end_reason words else (if are_digits (word_at words 0) then entry_reason s words else reasons.Words)

-- ---- extra lines, and the counts of sends

abbrev pub waits_call_reason : Tree → List (List ℕ) → Option CallName → Reason
waits_call_reason s words None = reasons.Operand
waits_call_reason s words (Some call) =
    if length words == length (call_row call).fields + 3
    then form_reason (is_decimal (word_at words 1) && fields_pass has_form (call_row call).fields words 3) (fields_pass (is_told s) (call_row call).fields words 3)
    else reasons.Words

abbrev pub waits_reason : Tree → List (List ℕ) → Reason
waits_reason s words = if nat_lt (length words) 3 then reasons.Words else waits_call_reason s words (call_named (word_at words 2))

abbrev pub spent_reason : List (List ℕ) → Reason
spent_reason words = if length words == 2 then form_reason (is_decimal (word_at words 1)) true else reasons.Words

-- a word and a number behind it
abbrev pub is_count : List (List ℕ) → ℕ → List ℕ → Bool
is_count words k name = bytes_eq (word_at words k) name && is_decimal (word_at words (k + 1))

unfoldable pub are_counts : List (List ℕ) → Bool
are_counts words =
    is_count words 1 (codes "begun") && (is_count words 3 (codes "entered") && (is_count words 5 (codes "proc") && (is_count words 7 (codes "reply")
    && (is_count words 9 (codes "loss") && (is_count words 11 (codes "timeout") && is_count words 13 (codes "open"))))))

abbrev pub counts_reason : List (List ℕ) → Reason
counts_reason words = if bytes_eq (word_at words 0) (codes "sends") && (length words == 15) then form_reason (are_counts words) true else reasons.Words

abbrev pub extras_reason : Tree → End → List (List ℕ) → Reason
extras_reason s ends.Stuck words = if bytes_eq (word_at words 0) (codes "waits") then waits_reason s words else counts_reason words
extras_reason s ends.Spent words = if bytes_eq (word_at words 0) (codes "spent") then spent_reason words else counts_reason words
extras_reason s end words = counts_reason words

-- ---- any line

abbrev pub first_reason : List (List ℕ) → Reason
first_reason words = if bytes_eq (word_at words 0) (codes "log") && (length words == 2) then reasons.Operand else reasons.Words

abbrev pub row_reason : List (List ℕ) → Reason
row_reason words = if length words == 1 then reasons.Operand else reasons.Words

-- the first word can't stand there, or the number of words is wrong; else one of the above
abbrev pub words_reason : Tree → Phase → List (List ℕ) → Reason
words_reason s phases.First words = first_reason words
words_reason s phases.Entries words = entries_reason s words
words_reason s (phases.Rows more) words = row_reason words
words_reason s (phases.Extras end) words = extras_reason s end words
words_reason s phases.Over words = reasons.Words

-- a byte isn't allowed, or the blanks are wrong; else what is wrong with its words
abbrev pub line_reason : Tree → Phase → List ℕ → Reason
line_reason s phase text = if is_printable text then (if list_any is_empty_word (split_at 32 text) then reasons.Words else words_reason s phase (split_at 32 text)) else reasons.Bytes
