-- The text of an entry.
use Rattle.std.specs.Prelude.{ℕ, ℤ, List, [], ◌∷◌, ◌++◌, codes, decimal, unwrap_or, slice_get, Option, option_map}
use Rattle.std.specs.Fmt.{signed_decimal}
use Rattle.std.specs.List.{flat_map}
use Rattle.win_num.specs.declared.code.Code.{Code}
use Rattle.win_num.specs.Codes.{number_of}
use Rattle.name_table.specs.Rows.{name_in}
use Rattle.name_table.specs.Messages.{message_rows}
use Rattle.user_model.specs.declared.call.Call.{Call}
use Rattle.user_model.specs.declared.entry.Answer.{Answer}
use Rattle.user_model.specs.declared.entry.Entry.{Entry}
use Rattle.user_model.specs.Past.{Past}
use Rattle.call_fields.specs.declared.value.Value.{Value}
use Rattle.call_fields.specs.declared.value.Value.TheVariants as values
use Rattle.call_table.specs.Calls.{call_row, call_name, call_parts}
use Rattle.answer_table.specs.Answers.{answer_row, answer_name, answer_parts}
use Rattle.call_fields.specs.Words.{source_word, cause_word, code_word}
use Rattle.user_io.specs.Text.{operand}
use Rattle.script_tree.specs.Tree.{Tree, ProcedureTree}
use Rattle.log_text.specs.Ends.{setup_of}
use Rattle.log_text.specs.Frames.{shown, frame_lines}

-- a blank and a message, by its name where it has one
abbrev pub message_text : ℕ → List ℕ
message_text n = 32 ∷ unwrap_or (name_in message_rows n) (decimal n)

-- a blank and a name of the script, by its text where the list of names has it
abbrev pub name_text : Tree → ℕ → List ℕ
name_text s n = 32 ∷ unwrap_or (slice_get s.names n) (decimal n)

-- the name of a procedure, if it is there
abbrev pub procedure_name : Option ProcedureTree → Option (List ℕ)
procedure_name p = option_map (λ (q : ProcedureTree). q.name) p

-- a blank and a procedure, by its name where the list of procedures has it
abbrev pub procedure_text : Tree → ℕ → List ℕ
procedure_text s n = 32 ∷ unwrap_or (procedure_name (slice_get s.procedures n)) (decimal n)

-- a blank and a number with its sign
abbrev pub signed_text : ℤ → List ℕ
signed_text x = 32 ∷ signed_decimal x

-- a word and a number
abbrev pub counted : List ℕ → ℕ → List ℕ
counted word n = word ++ operand n

-- a blank and the code of a refusal, by its word where it has one
abbrev pub code_text : Code → List ℕ
code_text c = 32 ∷ unwrap_or (code_word c) (decimal (number_of c))

-- a blank and the value of a field, by its kind
abbrev pub value_text : Tree → Value → List ℕ
value_text s (values.Number n) = operand n
value_text s (values.Message m) = message_text m
value_text s (values.Signed x) = signed_text x
value_text s (values.Name n) = name_text s n
value_text s (values.Procedure n) = procedure_text s n
value_text s (values.Window w) = operand w.0
value_text s (values.Send n) = operand n.0
value_text s (values.Thread t) = operand t.0
value_text s (values.Count k) = operand k
value_text s (values.ShortMessage m) = message_text m
value_text s (values.Pixel x) = signed_text x
value_text s (values.Byte n) = operand n
value_text s (values.Source o) = 32 ∷ source_word o
value_text s (values.Cause c) = 32 ∷ cause_word c
value_text s (values.Code c) = code_text c

-- a call: its word and the values of its fields
abbrev pub call_text : Tree → Call → List ℕ
call_text s c = (call_row (call_name c)).word ++ flat_map (value_text s) (call_parts c)

-- an answer: its word and the values of its fields
abbrev pub answer_text : Tree → Answer → List ℕ
answer_text s a = (answer_row (answer_name a)).word ++ flat_map (value_text s) (answer_parts a)

-- who called, the call and its answer
abbrev pub entry_line : Tree → Entry → List ℕ
entry_line s e = decimal e.who.0 ++ (codes " " ++ (call_text s e.call ++ (codes " = " ++ (answer_text s e.answer ++ codes "\n"))))

-- an entry after the past before it: its line, and the frame that it kept
abbrev pub entry_text : Tree → Past → Entry → List ℕ
entry_text s past e = entry_line s e ++ frame_lines s (shown (setup_of s) past e.answer)

-- the entries of a past, from the oldest on, each after the past before it
abbrev pub entries_text : Tree → Past → List ℕ
entries_text s [] = []
entries_text s (e ∷ past) = entries_text s past ++ entry_text s past e
