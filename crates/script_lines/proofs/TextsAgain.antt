-- A text falls apart into its lines, and a line into its words.
use Rattle.std.proofs.Common.{◌≡◌, ℕ, zero, suc, ◌^◌, ◌≤◌, ◌<◌, Bool, true, false, not, List, [], ◌∷◌, ◌++◌, length, refl, ap, ◌∙◌, append-nil, append_assoc, get_or, arith}
use Rattle.std.specs.Prelude.{decimal, unwrap_or, map, nat_lt, nat_le, ◌==◌, ◌&&◌, ◌||◌}
use Rattle.std.specs.List.{list_all, flat_map, onto_first, AllByRecursion}
use Rattle.std.specs.Int.{IsInRange}
use Rattle.std.specs.Str.Parse.{AllDigits}
use Rattle.std.proofs.lemmas.Bool.{false≢true, and_parts, and_from}
use Rattle.std.proofs.lemmas.Bool.Decides.{nat_tests}
use Rattle.std.proofs.lemmas.Str.Parse.{digit_from_value}
use Rattle.std.proofs.lemmas.Fmt.{decimal_is_IsNumeral}
use Rattle.name_table.specs.Rows.{name_in}
use Rattle.name_table.specs.Messages.{message_rows}
use Rattle.name_table.specs.Constants.{constant_rows}
use Rattle.script_tree.specs.declared.operand.Letter.{Letter}
use Rattle.script_tree.specs.declared.operand.Letter.TheVariants as letters
use Rattle.script_tree.specs.declared.operand.Variable.{Variable}
use Rattle.script_tree.specs.declared.operand.Variable.TheVariants as variables
use Rattle.script_tree.specs.declared.operand.Operand.{Operand}
use Rattle.script_tree.specs.declared.operand.Operand.TheVariants as operands
use Rattle.script_tree.specs.declared.operand.Operator.{Operator}
use Rattle.script_tree.specs.declared.operand.Operator.TheVariants as operators
use Rattle.script_tree.specs.declared.operand.Comparison.{Comparison}
use Rattle.script_tree.specs.declared.operand.Comparison.TheVariants as comparisons
use Rattle.call_table.specs.declared.calls.CallName.{CallName}
use Rattle.call_table.specs.Calls.{call_row}
use Rattle.call_table.proofs.CallLaws.{each_call_word}
use Rattle.statement_table.specs.declared.compounds.CompoundName.{CompoundName}
use Rattle.statement_table.specs.declared.compounds.CompoundName.TheVariants as compounds
use Rattle.statement_table.specs.Compounds.{compound_word}
use Rattle.script_lines.specs.declared.line.Command.{Command}
use Rattle.script_lines.specs.declared.line.Command.TheVariants as commands
use Rattle.script_lines.specs.declared.line.Line.{Line}
use Rattle.statement_table.specs.declared.part.Part.{Part}
use Rattle.statement_table.specs.declared.part.Part.TheVariants as parts
use Rattle.script_lines.specs.Known.{Known}
use Rattle.script_lines.specs.LineLimits.{IsOperand, IsPart, IsLine}
use Rattle.script_lines.specs.LineReading.{split_at}
use Rattle.script_lines.specs.LineTexts.{blank_word, joined, line_text}
use Rattle.script_lines.specs.NameLimits.{is_small_letter, is_name_byte, is_name, AreKnown}
use Rattle.script_lines.specs.LineParts.{line_command, line_parts}
use Rattle.script_lines.specs.Rows.{command_word}
use Rattle.script_lines.specs.Words.{letter_word, variable_word, operator_word, comparison_word, operand_word, part_word, line_words}
use Rattle.script_lines.proofs.WordsAgain.{name_passes, some_word}

-- ---- words have neither blanks nor line feeds

abbrev pub is_word : List ℕ → Bool
is_word word = list_all (λ c. nat_lt 32 c) word

visible : (c : ℕ) → 32 < c → nat_lt 32 c ≡ true
visible c h = grind (arith, nat_tests)

word_append : (a b : List ℕ) → is_word a ≡ true → is_word b ≡ true → is_word (a ++ b) ≡ true
word_append [] b p q = q
word_append (c ∷ a) b p q = let parts = and_parts (nat_lt 32 c) (is_word a) p in and_from _ _ parts.0 (word_append a b parts.1 q)

digits_word : (ds : List ℕ) → AllDigits 10 ds → is_word ds ≡ true
digits_word [] all = refl
digits_word (d ∷ ds) all = let range : IsInRange 48 57 d = digit_from_value d all.0 in and_from _ _ (visible d (omega (arith, range.0))) (digits_word ds all.1)

pub decimal_word : (n : ℕ) → n < 2 ^ 64 → is_word (decimal n) ≡ true
decimal_word n small = digits_word (decimal n) (decimal_is_IsNumeral n small).0.1

letter_is_word : (v : Letter) → is_word (letter_word v) ≡ true
letter_is_word letters.A = refl
letter_is_word letters.B = refl
letter_is_word letters.C = refl
letter_is_word letters.D = refl
letter_is_word letters.E = refl
letter_is_word letters.F = refl
letter_is_word letters.G = refl
letter_is_word letters.H = refl

variable_is_word : (v : Variable) → is_word (variable_word v) ≡ true
variable_is_word (variables.Letter letters.A) = refl
variable_is_word (variables.Letter letters.B) = refl
variable_is_word (variables.Letter letters.C) = refl
variable_is_word (variables.Letter letters.D) = refl
variable_is_word (variables.Letter letters.E) = refl
variable_is_word (variables.Letter letters.F) = refl
variable_is_word (variables.Letter letters.G) = refl
variable_is_word (variables.Letter letters.H) = refl
variable_is_word variables.Result = refl
variable_is_word variables.Error = refl
variable_is_word variables.GotWindow = refl
variable_is_word variables.GotMessage = refl
variable_is_word variables.GotWparam = refl
variable_is_word variables.GotLparam = refl
variable_is_word variables.GotTime = refl
variable_is_word variables.Window = refl
variable_is_word variables.Message = refl
variable_is_word variables.Wparam = refl
variable_is_word variables.Lparam = refl

operator_is_word : (v : Operator) → is_word (operator_word v) ≡ true
operator_is_word operators.Plus = refl
operator_is_word operators.Minus = refl
operator_is_word operators.And = refl
operator_is_word operators.Or = refl

comparison_is_word : (v : Comparison) → is_word (comparison_word v) ≡ true
comparison_is_word comparisons.Equal = refl
comparison_is_word comparisons.Different = refl
comparison_is_word comparisons.Below = refl

call_is_word : (n : CallName) → is_word (call_row n).word ≡ true
call_is_word = each_call_word is_word refl

compound_is_word : (n : CompoundName) → is_word (compound_word n) ≡ true
compound_is_word compounds.ShowWindow = refl
compound_is_word n = refl

command_is_word : (v : Command) → is_word (command_word v) ≡ true
command_is_word commands.Procedure = refl
command_is_word commands.Thread = refl
command_is_word commands.Let = refl
command_is_word commands.Compute = refl
command_is_word commands.If = refl
command_is_word commands.Else = refl
command_is_word commands.While = refl
command_is_word commands.End = refl
command_is_word commands.Return = refl
command_is_word (commands.Call n) = call_is_word n
command_is_word commands.Sleep = refl
command_is_word commands.Create = refl
command_is_word commands.Destroy = refl
command_is_word (commands.Compound n) = compound_is_word n
command_is_word commands.Default = refl

operand_is_word : (a : Operand) → IsOperand a → is_word (operand_word a) ≡ true
operand_is_word (operands.Number n) fits = decimal_word n fits
operand_is_word (operands.Minus n) fits = decimal_word n (omega (arith, fits.1))
operand_is_word (operands.Message m) fits = name_passes is_word message_rows m (unwrap_or (name_in message_rows m) []) refl (some_word (name_in message_rows m) fits)
operand_is_word (operands.Constant k) fits = name_passes is_word constant_rows k (unwrap_or (name_in constant_rows k) []) refl (some_word (name_in constant_rows k) fits)
operand_is_word (operands.Variable v) fits = variable_is_word v

small_letter_visible : (c : ℕ) → is_small_letter c ≡ true → nat_lt 32 c ≡ true
small_letter_visible c h = let two = and_parts (nat_le 97 c) (nat_le c 122) h in let a = two.0 in grind (arith, nat_tests)

le_told : (a b : ℕ) → nat_le a b ≡ true → a ≤ b
le_told a b h = grind (arith, nat_tests, h)

eq_told : (a b : ℕ) → (a == b) ≡ true → a ≡ b
eq_told a b h = grind (arith, nat_tests, h)

or_visible : (a b : Bool) (c : ℕ) → (a ≡ true → 32 < c) → (b ≡ true → 32 < c) → (a || b) ≡ true → 32 < c
or_visible true b c p q h = p refl
or_visible false b c p q h = q h

name_byte_visible : (c : ℕ) → is_name_byte c ≡ true → nat_lt 32 c ≡ true
name_byte_visible c h =
    visible c (or_visible (is_small_letter c) ((nat_le 48 c && nat_le c 57) || (c == 95)) c
    (λ p. omega (arith, le_told 97 c (and_parts (nat_le 97 c) (nat_le c 122) p).0))
    (λ q. or_visible (nat_le 48 c && nat_le c 57) (c == 95) c (λ p. omega (arith, le_told 48 c (and_parts (nat_le 48 c) (nat_le c 57) p).0)) (λ p. omega (arith, eq_told c 95 p)) q)
    h)

name_bytes_word : (cs : List ℕ) → list_all is_name_byte cs ≡ true → is_word cs ≡ true
name_bytes_word [] h = refl
name_bytes_word (c ∷ cs) h = let two = and_parts (is_name_byte c) (list_all is_name_byte cs) h in and_from _ _ (name_byte_visible c two.0) (name_bytes_word cs two.1)

pub name_is_word : (name : List ℕ) → is_name name ≡ true → is_word name ≡ true
name_is_word [] h = refl
name_is_word (c ∷ cs) h =
    let two = and_parts (is_small_letter c) (list_all is_name_byte cs && nat_le (length cs) 31) h in
    let more = and_parts (list_all is_name_byte cs) (nat_le (length cs) 31) two.1 in
    and_from _ _ (visible c (omega (arith, le_told 97 c (and_parts (nat_le 97 c) (nat_le c 122) two.0).0))) (name_bytes_word cs more.0)

name_at_is_word : (names : List (List ℕ)) (k : ℕ) → list_all is_name names ≡ true → is_word (get_or names k []) ≡ true
name_at_is_word [] k h = refl
name_at_is_word (x ∷ names) zero h = name_is_word x (and_parts (is_name x) (list_all is_name names) h).0
name_at_is_word (x ∷ names) (suc k) h = name_at_is_word names k (and_parts (is_name x) (list_all is_name names) h).1

part_is_word : (known : Known) (p : Part) → IsPart p → AreKnown known → is_word (part_word known p) ≡ true
part_is_word known (parts.Letter v) fits h = letter_is_word v
part_is_word known (parts.Operand a) fits h = operand_is_word a fits
part_is_word known (parts.Operator op) fits h = operator_is_word op
part_is_word known (parts.Comparison c) fits h = comparison_is_word c
part_is_word known (parts.Name n) fits h = name_at_is_word known.names n h.names.spelled
part_is_word known (parts.Beginning k) fits h = name_at_is_word known.procedures k h.procedures.spelled
part_is_word known (parts.Procedure k) fits h = name_at_is_word known.procedures k h.procedures.spelled

parts_are_words : (known : Known) (ps : List Part) → AllByRecursion IsPart ps → AreKnown known → list_all is_word (map (part_word known) ps) ≡ true
parts_are_words known [] fits h = refl
parts_are_words known (p ∷ ps) fits h = and_from _ _ (part_is_word known p fits.0 h) (parts_are_words known ps fits.1 h)

-- a list of words that is a line
abbrev pub is_line_of_words : List (List ℕ) → Bool
is_line_of_words [] = false
is_line_of_words (word ∷ words) = is_word word && list_all is_word words

pub line_is_words : (known : Known) (l : Line) → IsLine l → AreKnown known → is_line_of_words (line_words known l) ≡ true
line_is_words known l fits h = and_from _ _ (command_is_word (line_command l)) (parts_are_words known (line_parts l) fits h)

pub lines_are_words : (known : Known) (ls : List Line) → AllByRecursion IsLine ls → AreKnown known → list_all is_line_of_words (map (line_words known) ls) ≡ true
lines_are_words known [] fits h = refl
lines_are_words known (l ∷ ls) fits h = and_from _ _ (line_is_words known l fits.0 h) (lines_are_words known ls fits.1 h)

-- ---- splitting

other : (byte c : ℕ) → byte ≤ 32 → nat_lt 32 c ≡ true → (c == byte) ≡ false
other byte c small h = grind (arith, nat_tests, h)

pub split_here : (byte : ℕ) (word rest : List ℕ) → byte ≤ 32 → is_word word ≡ true → split_at byte (word ++ byte ∷ rest) ≡ word ∷ split_at byte rest
split_here byte [] rest small h = let hit : (byte == byte) ≡ true = grind (arith, nat_tests) in rw hit refl
split_here byte (c ∷ word) rest small h =
    let two = and_parts (nat_lt 32 c) (is_word word) h in
    let miss : (c == byte) ≡ false = other byte c small two.0 in
    rw miss (ap (onto_first c) (split_here byte word rest small two.1))

split_last : (byte : ℕ) (word : List ℕ) → byte ≤ 32 → is_word word ≡ true → split_at byte word ≡ word ∷ []
split_last byte [] small h = refl
split_last byte (c ∷ word) small h =
    let two = and_parts (nat_lt 32 c) (is_word word) h in
    let miss : (c == byte) ≡ false = other byte c small two.0 in
    rw miss (ap (onto_first c) (split_last byte word small two.1))

-- the words of a line
pub words_again : (word : List ℕ) (words : List (List ℕ)) → is_word word ≡ true → list_all is_word words ≡ true → split_at 32 (joined (word ∷ words)) ≡ word ∷ words
words_again word [] h all = ap (split_at 32) (append-nil word) ∙ split_last 32 word (omega arith) h
words_again word (next ∷ words) h all =
    let two = and_parts (is_word next) (list_all is_word words) all in
    split_here 32 word (next ++ flat_map blank_word words) (omega arith) h ∙ ap (λ (l : List (List ℕ)). word ∷ l) (words_again next words two.0 two.1)

pub line_split : (words : List (List ℕ)) → is_line_of_words words ≡ true → split_at 32 (joined words) ≡ words
line_split [] h = absurd (false≢true h)
line_split (word ∷ words) h = let two = and_parts (is_word word) (list_all is_word words) h in words_again word words two.0 two.1

-- no line feed stands in a line
abbrev has_no_feed : List ℕ → Bool
has_no_feed text = list_all (λ c. not (c == 10)) text

feedless_append : (a b : List ℕ) → has_no_feed a ≡ true → has_no_feed b ≡ true → has_no_feed (a ++ b) ≡ true
feedless_append [] b p q = q
feedless_append (c ∷ a) b p q = let two = and_parts (not (c == 10)) (has_no_feed a) p in and_from _ _ two.0 (feedless_append a b two.1 q)

word_feedless : (word : List ℕ) → is_word word ≡ true → has_no_feed word ≡ true
word_feedless [] h = refl
word_feedless (c ∷ word) h =
    let two = and_parts (nat_lt 32 c) (is_word word) h in
    let miss : (c == 10) ≡ false = other 10 c (omega arith) two.0 in
    and_from _ _ (ap not miss) (word_feedless word two.1)

words_feedless : (words : List (List ℕ)) → list_all is_word words ≡ true → has_no_feed (flat_map blank_word words) ≡ true
words_feedless [] h = refl
words_feedless (word ∷ words) h = let two = and_parts (is_word word) (list_all is_word words) h in feedless_append word (flat_map blank_word words) (word_feedless word two.0) (words_feedless words two.1)

joined_feedless : (words : List (List ℕ)) → is_line_of_words words ≡ true → has_no_feed (joined words) ≡ true
joined_feedless [] h = refl
joined_feedless (word ∷ words) h = let two = and_parts (is_word word) (list_all is_word words) h in feedless_append word (flat_map blank_word words) (word_feedless word two.0) (words_feedless words two.1)

not_true : (b : Bool) → not b ≡ true → b ≡ false
not_true true e = absurd (false≢true e)
not_true false e = refl

split_feed : (text rest : List ℕ) → has_no_feed text ≡ true → split_at 10 (text ++ 10 ∷ rest) ≡ text ∷ split_at 10 rest
split_feed [] rest h = refl
split_feed (c ∷ text) rest h =
    let two = and_parts (not (c == 10)) (has_no_feed text) h in
    let miss : (c == 10) ≡ false = not_true (c == 10) two.0 in
    rw miss (ap (onto_first c) (split_feed text rest two.1))

-- the lines of a text, and the nothing behind the last
pub texts_again : (ls : List (List (List ℕ))) → list_all is_line_of_words ls ≡ true → split_at 10 (flat_map line_text ls) ≡ map joined ls ++ [] ∷ []
texts_again [] h = refl
texts_again (words ∷ ls) h =
    let two = and_parts (is_line_of_words words) (list_all is_line_of_words ls) h in
    ap (split_at 10) (append_assoc (joined words) (10 ∷ []) (flat_map line_text ls))
    ∙ split_feed (joined words) (flat_map line_text ls) (joined_feedless words two.0)
    ∙ ap (λ (l : List (List ℕ)). joined words ∷ l) (texts_again ls two.1)
