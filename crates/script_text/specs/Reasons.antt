-- What is wrong with a bad line: the first of these that applies.
use Rattle.std.specs.Prelude.{ℕ, ◌+◌, Bool, true, false, not, ◌&&◌, ◌||◌, ◌==◌, nat_le, if◌then◌else◌, List, [], ◌∷◌, length, drop, codes, slice_get, Option, Some, None}
use Rattle.std.specs.Option.{is_some}
use Rattle.std.specs.List.{list_all, list_any}
use Rattle.std.specs.Str.{bytes_eq}
use Rattle.statement_table.specs.declared.part.Place.{Place}
use Rattle.script_lines.specs.declared.line.Command.{Command}
use Rattle.script_lines.specs.declared.line.Command.TheVariants as commands
use Rattle.script_lines.specs.Forms.{is_empty_word, is_printable, is_decimal, has_form, is_told, is_new, all_pass}
use Rattle.script_lines.specs.Known.{Known}
use Rattle.script_lines.specs.LineParts.{made_line}
use Rattle.script_lines.specs.LineReading.{split_at, word_at}
use Rattle.script_lines.specs.Rows.{command_at, command_places}
use Rattle.script_text.specs.declared.fault.Reason.{Reason}
use Rattle.script_text.specs.declared.fault.Reason.TheVariants as reasons
use Rattle.script_text.specs.declared.head.HeadLine.{HeadLine}
use Rattle.script_text.specs.declared.head.HeadLine.TheVariants as heads
use Rattle.script_text.specs.Grammar.{head_word, all_heads}
use Rattle.script_text.specs.Nesting.{Kind, InIf, Nest, is_procedure, none_open}

-- ---- lines before the procedures and threads

-- so many words such a line has, the first one counted
abbrev pub is_head_length : HeadLine → ℕ → Bool
is_head_length heads.User n = n == 2
is_head_length heads.Screen n = n == 3
is_head_length heads.Budget n = n == 2
is_head_length heads.Order n = nat_le 1 n

-- the form of its further words
abbrev pub is_head_form : HeadLine → List ℕ → Bool
is_head_form heads.User word = bytes_eq word (codes "1")
is_head_form h word = is_decimal word

-- the first word, the number of words or the blanks are wrong; a word has the wrong form; else a number or a count is beyond its limit
abbrev pub head_reason : HeadLine → List (List ℕ) → Reason
head_reason h words =
    if list_any is_empty_word words || (not (bytes_eq (word_at words 0) (head_word h)) || not (is_head_length h (length words))) then reasons.Words
    else (if list_all (is_head_form h) (drop 1 words) then reasons.Limit else reasons.Operand)

-- ---- lines of procedures and threads

abbrev pub is_if_open : List Kind → Bool
is_if_open (InIf ∷ ks) = true
is_if_open ks = false

-- whether such a line can stand there, but for limits
abbrev pub stands : Nest → Command → Bool
stands n commands.Procedure = none_open n.kinds && (n.threads == 0)
stands n commands.Thread = none_open n.kinds
stands n commands.Else = is_if_open n.kinds
stands n commands.Return = list_any is_procedure n.kinds
stands n commands.Default = list_any is_procedure n.kinds
stands n c = not (none_open n.kinds)

-- whether there is such a line: not each call has a statement
abbrev pub has_line : Command → Bool
has_line c = is_some (made_line c [])

-- a word has the wrong form; a name isn't known; a procedure begins a second time; else a number or a count is beyond its limit
abbrev pub form_reason : Known → List Place → List (List ℕ) → Reason
form_reason known places words =
    if all_pass has_form places words 1 then (if all_pass (is_told known) places words 1 then (if all_pass (is_new known) places words 1 then reasons.Limit else reasons.Repeated) else reasons.Name)
    else reasons.Operand

abbrev pub command_reason : Known → Nest → List (List ℕ) → Option Command → Reason
command_reason known nest words (Some c) =
    if has_line c && (stands nest c && (length words == length (command_places c) + 1)) then form_reason known (command_places c) words else reasons.Words
command_reason known nest words None = reasons.Words

-- behind lines with these names and with this that stands open
abbrev pub code_reason : Known → Nest → List (List ℕ) → Reason
code_reason known nest words = if list_any is_empty_word words then reasons.Words else command_reason known nest words (command_at (word_at words 0) (length words))

-- ---- any line

abbrev pub words_reason : Option HeadLine → Known → Nest → List (List ℕ) → Reason
words_reason (Some h) known nest words = head_reason h words
words_reason None known nest words = code_reason known nest words

-- the line behind so many others
abbrev pub line_reason : ℕ → Known → Nest → List ℕ → Reason
line_reason before known nest text = if is_printable text then words_reason (slice_get all_heads before) known nest (split_at 32 text) else reasons.Bytes
