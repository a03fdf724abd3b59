-- The text of a log is that of its lines of words, and falls apart into them.
use Rattle.std.proofs.Common.{◌≡◌, ℕ, zero, suc, ◌^◌, ◌<◌, true, false, List, [], ◌∷◌, ◌++◌, length, Option, Some, None, refl, ap, sym, ◌∙◌, append_assoc, append-nil, arith}
use Rattle.std.specs.Prelude.{ℤ, pos, negsuc, codes, decimal, unwrap_or, map, slice_get, option_map, nat_lt, FitsSigned}
use Rattle.std.specs.Fmt.{signed_decimal}
use Rattle.std.specs.Int.{w64}
use Rattle.std.specs.List.{flat_map, list_all, AllByRecursion}
use Rattle.std.proofs.lemmas.Bool.{and_parts, and_from}
use Rattle.std.proofs.lemmas.Bool.Decides.{nat_tests}
use Rattle.std.proofs.lemmas.Grind.{flat_map-append}
use Rattle.win_num.specs.Codes.{number_of}
use Rattle.win_num.specs.declared.code.Code.{Code}
use Rattle.win_num.specs.declared.code.Code.TheVariants as codes_of
use Rattle.win_num.specs.declared.send.Cause.{Cause}
use Rattle.win_num.specs.declared.send.Cause.TheVariants as causes
use Rattle.name_table.specs.Rows.{name_in}
use Rattle.name_table.specs.Messages.{message_rows}
use Rattle.user_model.specs.declared.call.Call.{Call}
use Rattle.user_model.specs.declared.entry.Answer.{Answer}
use Rattle.user_model.specs.declared.entry.Entry.{Entry}
use Rattle.user_model.specs.declared.entry.Origin.{Origin}
use Rattle.user_model.specs.declared.entry.Origin.TheVariants as origins
use Rattle.user_model.specs.declared.entry.SendCount.{SendCount}
use Rattle.answer_table.specs.declared.answers.AnswerName.{AnswerName}
use Rattle.call_table.specs.declared.calls.CallName.{CallName}
use Rattle.call_fields.specs.declared.value.Value.{Value}
use Rattle.call_fields.specs.declared.value.Value.TheVariants as values
use Rattle.answer_table.specs.Answers.{answer_row, answer_name, answer_parts}
use Rattle.call_table.specs.Calls.{call_row, call_name, call_parts}
use Rattle.call_table.proofs.CallLaws.{each_call_word}
use Rattle.answer_table.proofs.AnswerLaws.{each_answer_word}
use Rattle.call_fields.specs.Words.{source_word, cause_word, code_word}
use Rattle.user_io.specs.Text.{Adds}
use Rattle.script_tree.specs.Tree.{Tree, ProcedureTree}
use Rattle.script_lines.specs.Known.{known_of}
use Rattle.script_lines.specs.LineReading.{split_at}
use Rattle.script_lines.specs.LineTexts.{blank_word, joined, line_text}
use Rattle.script_lines.specs.NameLimits.{AreKnown, is_name}
use Rattle.script_lines.proofs.TextsAgain.{is_word, is_line_of_words, decimal_word, name_is_word, texts_again}
use Rattle.script_lines.proofs.WordsAgain.{name_passes}
use Rattle.log_text.specs.declared.end.End.{End}
use Rattle.log_text.specs.declared.end.End.TheVariants as ends
use Rattle.log_text.specs.Endings.{end_line, counts_line}
use Rattle.log_text.specs.Entries.{value_text, call_text, entry_line}
use Rattle.log_text.specs.Frames.{digit, row_line, rows, frame_lines}
use Rattle.log_read.specs.declared.log.Extra.{Extra}
use Rattle.log_read.specs.declared.log.Extra.TheVariants as extras
use Rattle.log_read.specs.Limits.{IsCode, IsValue, IsCall, IsAnswer, IsEntry, IsLogEntry, IsExtra, AreCounts, IsLog}
use Rattle.log_read.specs.Logs.{LogEntryTree, LogTree, log_entry_text, extra_line, spelling}
use Rattle.log_read.specs.Words.{value_word, call_words, answer_words, entry_words, row_words, frame_words, log_entry_words, entries_words, end_words, extra_words, counts_words, inner_words, log_words}
use Rattle.log_read.proofs.ValuesAgain.{at_place, wider}

-- ---- the text as lines

abbrev pub Words : Type 0
Words = List (List ℕ)

value_written : (s : Tree) (v : Value) → value_text s v ≡ blank_word (value_word s v)
value_written s (values.Number n) = refl
value_written s (values.Message m) = refl
value_written s (values.Signed x) = refl
value_written s (values.Name n) = refl
value_written s (values.Procedure n) = refl
value_written s (values.Window w) = refl
value_written s (values.Send n) = refl
value_written s (values.Thread t) = refl
value_written s (values.Count k) = refl
value_written s (values.ShortMessage m) = refl
value_written s (values.Pixel x) = refl
value_written s (values.Byte n) = refl
value_written s (values.Source o) = refl
value_written s (values.Cause c) = refl
value_written s (values.Code (codes_of.Win n)) = refl
value_written s (values.Code codes_of.Full) = refl
value_written s (values.Code codes_of.NotNow) = refl
value_written s (values.Code codes_of.NoTarget) = refl

values_written : (s : Tree) (vs : List Value) → flat_map (value_text s) vs ≡ flat_map blank_word (map (value_word s) vs)
values_written s [] = refl
values_written s (v ∷ vs) = ap (λ (l : List ℕ). l ++ flat_map (value_text s) vs) (value_written s v) ∙ ap (λ (l : List ℕ). blank_word (value_word s v) ++ l) (values_written s vs)

-- a row and its values, and what stands behind them
row_written : (s : Tree) (word : List ℕ) (vs : List Value) (more : Words) (rest : List ℕ) → (word ++ flat_map (value_text s) vs) ++ (flat_map blank_word more ++ rest) ≡ word ++ (flat_map blank_word (map (value_word s) vs ++ more) ++ rest)
row_written s word vs more rest =
    ap (λ (l : List ℕ). (word ++ l) ++ (flat_map blank_word more ++ rest)) (values_written s vs)
    ∙ append_assoc word (flat_map blank_word (map (value_word s) vs)) (flat_map blank_word more ++ rest)
    ∙ ap (λ (l : List ℕ). word ++ l) (sym (append_assoc (flat_map blank_word (map (value_word s) vs)) (flat_map blank_word more) rest))
    ∙ ap (λ (l : List ℕ). word ++ (l ++ rest)) (sym (flat_map-append blank_word (map (value_word s) vs) more))

last_written : (s : Tree) (word : List ℕ) (vs : List Value) (rest : List ℕ) → (word ++ flat_map (value_text s) vs) ++ rest ≡ word ++ (flat_map blank_word (map (value_word s) vs) ++ rest)
last_written s word vs rest =
    ap (λ (l : List ℕ). (word ++ l) ++ rest) (values_written s vs) ∙ append_assoc word (flat_map blank_word (map (value_word s) vs)) rest

two_words : (a b c rest : List ℕ) → a ++ (32 ∷ (b ++ (c ++ rest))) ≡ (a ++ (32 ∷ (b ++ c))) ++ rest
two_words a b c rest = ap (λ (l : List ℕ). a ++ (32 ∷ l)) (sym (append_assoc b c rest)) ∙ sym (append_assoc a (32 ∷ (b ++ c)) rest)

pub entry_written : (s : Tree) (e : Entry) → entry_line s e ≡ line_text (entry_words s e)
entry_written s e =
    let who : List ℕ = decimal e.who.0 in
    let word : List ℕ = (call_row (call_name e.call)).word in
    let answer : List ℕ = (answer_row (answer_name e.answer)).word in
    let last : Words = map (value_word s) (answer_parts e.answer) in
    ap (λ (l : List ℕ). who ++ (32 ∷ (call_text s e.call ++ (32 ∷ 61 ∷ 32 ∷ l)))) (last_written s answer (answer_parts e.answer) (10 ∷ []))
    ∙ ap (λ (l : List ℕ). who ++ (32 ∷ (call_text s e.call ++ (32 ∷ 61 ∷ 32 ∷ l)))) (sym (append_assoc answer (flat_map blank_word last) (10 ∷ [])))
    ∙ ap (λ (l : List ℕ). who ++ (32 ∷ l)) (row_written s word (call_parts e.call) (codes "=" ∷ answer ∷ last) (10 ∷ []))
    ∙ two_words who word (flat_map blank_word (map (value_word s) (call_parts e.call) ++ (codes "=" ∷ answer ∷ last))) (10 ∷ [])

pub end_written : (end : End) → end_line end ≡ line_text (end_words end)
end_written ends.Done = refl
end_written ends.Stuck = refl
end_written ends.Spent = refl
end_written ends.Cut = refl

pub extra_written : (s : Tree) (x : Extra) → extra_line s x ≡ line_text (extra_words s x)
extra_written s (extras.Waits t call) =
    let n : List ℕ = decimal t.0 in
    let word : List ℕ = (call_row (call_name call)).word in
    let parts : Words = map (value_word s) (call_parts call) in
    ap (λ (l : List ℕ). codes "waits " ++ (n ++ (32 ∷ l))) (last_written s word (call_parts call) (10 ∷ []))
    ∙ ap (λ (l : List ℕ). codes "waits " ++ l) (two_words n word (flat_map blank_word parts) (10 ∷ []))
    ∙ ap (λ (l : Words). codes "waits " ++ ((n ++ (32 ∷ (word ++ flat_map blank_word l))) ++ 10 ∷ [])) (sym (append-nil parts))
extra_written s (extras.Spent t) = ap (λ (l : List ℕ). codes "spent " ++ (l ++ 10 ∷ [])) (sym (append-nil (decimal t.0)))

-- numbers with what stands between them
nested : (b e p r l t u E P R L T O n : List ℕ) → b ++ (E ++ (e ++ ((P ++ (p ++ (R ++ (r ++ (L ++ (l ++ (T ++ t))))))) ++ (O ++ (u ++ n))))) ≡ (b ++ (E ++ (e ++ (P ++ (p ++ (R ++ (r ++ (L ++ (l ++ (T ++ (t ++ (O ++ u)))))))))))) ++ n
nested b e p r l t u E P R L T O n = simp append_assoc refl

pub counts_written : (c : SendCount) → counts_line c ≡ line_text (counts_words c)
counts_written c =
    ap (λ (x : List ℕ). codes "sends begun " ++ x)
    (nested (decimal c.begun) (decimal c.entered) (decimal c.by_proc) (decimal c.by_reply) (decimal c.by_loss) (decimal c.by_timeout) (decimal c.unfinished)
    (codes " entered ") (codes " proc ") (codes " reply ") (codes " loss ") (codes " timeout ") (codes " open ") (10 ∷ [])
    ∙ ap (λ (l : List ℕ). (decimal c.begun ++ (codes " entered " ++ (decimal c.entered ++ (codes " proc " ++ (decimal c.by_proc ++ (codes " reply " ++ (decimal c.by_reply ++ (codes " loss " ++ (decimal c.by_loss ++ (codes " timeout " ++ (decimal c.by_timeout ++ (codes " open " ++ l)))))))))))) ++ 10 ∷ []) (sym (append-nil (decimal c.unfinished))))

module _ {A : Type 0} (line : A → List ℕ) (words : A → Words) (written : (x : A) → line x ≡ line_text (words x)) where
  pub all_written : (xs : List A) → flat_map line xs ≡ flat_map line_text (map words xs)
  all_written [] = refl
  all_written (x ∷ xs) = ap (λ (l : List ℕ). l ++ flat_map line xs) (written x) ∙ ap (λ (l : List ℕ). line_text (words x) ++ l) (all_written xs)

frame_row_written : (row : List ℕ) → row_line row ≡ line_text (row_words row)
frame_row_written row = ap (λ (l : List ℕ). l ++ 10 ∷ []) (sym (append-nil (map digit row)))

frame_written : (s : Tree) (frame : Option (List ℕ)) → frame_lines s frame ≡ flat_map line_text (frame_words s frame)
frame_written s None = refl
frame_written s (Some colours) = all_written row_line row_words frame_row_written (rows s.width s.height colours)

log_entry_written : (s : Tree) (e : LogEntryTree) → log_entry_text s e ≡ flat_map line_text (log_entry_words s e)
log_entry_written s e =
    ap (λ (l : List ℕ). l ++ frame_lines s e.frame) (entry_written s e.entry)
    ∙ ap (λ (l : List ℕ). line_text (entry_words s e.entry) ++ l) (frame_written s e.frame)

entries_written : (s : Tree) (es : List LogEntryTree) → flat_map (log_entry_text s) es ≡ flat_map line_text (entries_words s es)
entries_written s [] = refl
entries_written s (e ∷ es) =
    ap (λ (l : List ℕ). l ++ flat_map (log_entry_text s) es) (log_entry_written s e)
    ∙ ap (λ (l : List ℕ). flat_map line_text (log_entry_words s e) ++ l) (entries_written s es)
    ∙ sym (flat_map-append line_text (log_entry_words s e) (entries_words s es))

inner_written : (s : Tree) (l : LogTree) → flat_map line_text (inner_words s l) ≡ flat_map (log_entry_text s) l.entries ++ (end_line l.end ++ flat_map (extra_line s) l.extras)
inner_written s l =
    flat_map-append line_text (entries_words s l.entries) (end_words l.end ∷ map (extra_words s) l.extras)
    ∙ ap (λ (x : List ℕ). x ++ (line_text (end_words l.end) ++ flat_map line_text (map (extra_words s) l.extras))) (sym (entries_written s l.entries))
    ∙ ap (λ (x : List ℕ). flat_map (log_entry_text s) l.entries ++ (x ++ flat_map line_text (map (extra_words s) l.extras))) (sym (end_written l.end))
    ∙ ap (λ (x : List ℕ). flat_map (log_entry_text s) l.entries ++ (end_line l.end ++ x)) (sym (all_written (extra_line s) (extra_words s) (extra_written s) l.extras))

regroup : (a b c d : List ℕ) → a ++ (b ++ (c ++ d)) ≡ (a ++ (b ++ c)) ++ d
regroup a b c d = ap (λ (l : List ℕ). a ++ l) (sym (append_assoc b c d)) ∙ sym (append_assoc a (b ++ c) d)

pub log_written : (s : Tree) (l : LogTree) → spelling s l ≡ flat_map line_text (log_words s l)
unfolding spelling
log_written s l =
    ap (λ (x : List ℕ). codes "log 1\n" ++ x)
    (regroup (flat_map (log_entry_text s) l.entries) (end_line l.end) (flat_map (extra_line s) l.extras) (counts_line l.sends)
    ∙ ap (λ (x : List ℕ). x ++ counts_line l.sends) (sym (inner_written s l))
    ∙ ap (λ (x : List ℕ). flat_map line_text (inner_words s l) ++ x) (counts_written l.sends ∙ sym (append-nil (line_text (counts_words l.sends))))
    ∙ sym (flat_map-append line_text (inner_words s l) (counts_words l.sends ∷ [])))

-- what was added to nothing
pub from_nothing : (old new text whole : List ℕ) → Adds old new text → old ≡ [] → text ≡ whole → new ≡ whole
from_nothing old new text whole added e same = added.is ∙ ap (λ (l : List ℕ). l ++ text) e ∙ same

-- the text of a log from its parts
pub of_parts : (s : Tree) (l : LogTree) (es : List LogEntryTree) (end : End) (xs : List Extra) (sends : SendCount) → es ≡ l.entries → end ≡ l.end → xs ≡ l.extras → sends ≡ l.sends
    → codes "log 1\n" ++ (flat_map (log_entry_text s) es ++ (end_line end ++ (flat_map (extra_line s) xs ++ counts_line sends))) ≡ spelling s l
unfolding spelling
of_parts s l es end xs sends e1 e2 e3 e4 =
    ap (λ (x : List LogEntryTree). codes "log 1\n" ++ (flat_map (log_entry_text s) x ++ (end_line end ++ (flat_map (extra_line s) xs ++ counts_line sends)))) e1
    ∙ ap (λ (x : End). codes "log 1\n" ++ (flat_map (log_entry_text s) l.entries ++ (end_line x ++ (flat_map (extra_line s) xs ++ counts_line sends)))) e2
    ∙ ap (λ (x : List Extra). codes "log 1\n" ++ (flat_map (log_entry_text s) l.entries ++ (end_line l.end ++ (flat_map (extra_line s) x ++ counts_line sends)))) e3
    ∙ ap (λ (x : SendCount). codes "log 1\n" ++ (flat_map (log_entry_text s) l.entries ++ (end_line l.end ++ (flat_map (extra_line s) l.extras ++ counts_line x)))) e4

-- ---- all words are words

message_is_word : (m : ℕ) (o : Option (List ℕ)) → m < 2 ^ 64 → name_in message_rows m ≡ o → is_word (unwrap_or o (decimal m)) ≡ true
message_is_word m None small e = decimal_word m small
message_is_word m (Some word) small e = name_passes is_word message_rows m word refl e

signed_is_word : (x : ℤ) → FitsSigned w64 x → is_word (signed_decimal x) ≡ true
signed_is_word (pos n) fits = let small : n < 2 ^ 63 = fits.sfits in decimal_word n (omega (arith, small))
signed_is_word (negsuc n) fits = let small : n < 2 ^ 63 = fits.sfits in decimal_word (suc n) (omega (arith, small))

at_is_word : {A : Type 0} (name_of : A → List ℕ) (xs : List A) (k : ℕ) (x : A) → slice_get xs k ≡ Some x → list_all is_name (map name_of xs) ≡ true → is_word (name_of x) ≡ true
at_is_word name_of [] k x at all = absurd (cc at)
at_is_word name_of (y ∷ xs) zero x at all =
    let same : y ≡ x = cc at in
    ap (λ z. is_word (name_of z)) (sym same) ∙ name_is_word (name_of y) (and_parts (is_name (name_of y)) (list_all is_name (map name_of xs)) all).0
at_is_word name_of (y ∷ xs) (suc k) x at all = at_is_word name_of xs k x at (and_parts (is_name (name_of y)) (list_all is_name (map name_of xs)) all).1

map_same : (xs : Words) → map (λ (x : List ℕ). x) xs ≡ xs
map_same [] = refl
map_same (x ∷ xs) = ap (λ (l : Words). x ∷ l) (map_same xs)

name_at_is_word : (s : Tree) (n : ℕ) → AreKnown (known_of s) → n < length s.names → is_word (value_word s (values.Name n)) ≡ true
name_at_is_word s n h lt =
    let found = at_place (λ (x : List ℕ). x) s.names n lt in
    ap (λ (o : Option (List ℕ)). is_word (unwrap_or o (decimal n))) found.1
    ∙ at_is_word (λ (x : List ℕ). x) s.names n found.0 found.1 (ap (list_all is_name) (map_same s.names) ∙ h.names.spelled)

procedure_at_is_word : (s : Tree) (n : ℕ) → AreKnown (known_of s) → n < length s.procedures → is_word (value_word s (values.Procedure n)) ≡ true
procedure_at_is_word s n h lt =
    let found = at_place (λ (p : ProcedureTree). p.name) s.procedures n lt in
    ap (λ (o : Option ProcedureTree). is_word (unwrap_or (option_map (λ (q : ProcedureTree). q.name) o) (decimal n))) found.1
    ∙ at_is_word (λ (p : ProcedureTree). p.name) s.procedures n found.0 found.1 h.procedures.spelled

source_is_word : (o : Origin) → is_word (source_word o) ≡ true
source_is_word origins.Posted = refl
source_is_word origins.Quit = refl
source_is_word origins.Input = refl
source_is_word origins.Paint = refl
source_is_word origins.Timer = refl

cause_is_word : (c : Cause) → is_word (cause_word c) ≡ true
cause_is_word causes.Proc = refl
cause_is_word causes.Reply = refl
cause_is_word causes.Loss = refl
cause_is_word causes.Timeout = refl
cause_is_word causes.Hung = refl

code_is_word : (c : Code) → IsCode c → is_word (unwrap_or (code_word c) (decimal (number_of c))) ≡ true
code_is_word (codes_of.Win n) fits = decimal_word n (omega (arith, fits))
code_is_word codes_of.Full fits = refl
code_is_word codes_of.NotNow fits = refl
code_is_word codes_of.NoTarget fits = refl

value_is_word : (s : Tree) (v : Value) → AreKnown (known_of s) → IsValue s v → is_word (value_word s v) ≡ true
value_is_word s (values.Number n) h fits = decimal_word n fits
value_is_word s (values.Message m) h fits = message_is_word m (name_in message_rows m) fits refl
value_is_word s (values.Signed x) h fits = signed_is_word x fits
value_is_word s (values.Name n) h fits = name_at_is_word s n h fits
value_is_word s (values.Procedure n) h fits = procedure_at_is_word s n h fits
value_is_word s (values.Window w) h fits = decimal_word w.0 (omega (arith, fits))
value_is_word s (values.Send n) h fits = decimal_word n.0 (omega (arith, fits))
value_is_word s (values.Thread t) h fits = decimal_word t.0 (omega (arith, fits))
value_is_word s (values.Count k) h fits = decimal_word k (omega (arith, fits))
value_is_word s (values.ShortMessage m) h fits = message_is_word m (name_in message_rows m) (omega (arith, fits)) refl
value_is_word s (values.Pixel x) h fits = signed_is_word x (wider x fits)
value_is_word s (values.Byte n) h fits = decimal_word n (omega (arith, fits))
value_is_word s (values.Source o) h fits = source_is_word o
value_is_word s (values.Cause c) h fits = cause_is_word c
value_is_word s (values.Code c) h fits = code_is_word c fits

values_are_words : (s : Tree) (vs : List Value) (rest : Words) → AreKnown (known_of s) → AllByRecursion (IsValue s) vs → list_all is_word rest ≡ true → list_all is_word (map (value_word s) vs ++ rest) ≡ true
values_are_words s [] rest h fits all = all
values_are_words s (v ∷ vs) rest h fits all = and_from _ _ (value_is_word s v h fits.0) (values_are_words s vs rest h fits.1 all)

call_is_word : (n : CallName) → is_word (call_row n).word ≡ true
call_is_word = each_call_word is_word refl

answer_is_word : (n : AnswerName) → is_word (answer_row n).word ≡ true
answer_is_word = each_answer_word is_word refl

call_are_words : (s : Tree) (c : Call) (rest : Words) → AreKnown (known_of s) → IsCall s c → list_all is_word rest ≡ true → list_all is_word (call_words s c rest) ≡ true
call_are_words s c rest h fits all = and_from _ _ (call_is_word (call_name c)) (values_are_words s (call_parts c) rest h fits all)

answer_are_words : (s : Tree) (a : Answer) → AreKnown (known_of s) → IsAnswer s a → list_all is_word (answer_words s a) ≡ true
answer_are_words s a h fits =
    and_from _ _ (answer_is_word (answer_name a)) (ap (list_all is_word) (sym (append-nil (map (value_word s) (answer_parts a)))) ∙ values_are_words s (answer_parts a) [] h fits refl)

pub entry_is_words : (s : Tree) (e : Entry) → AreKnown (known_of s) → IsEntry s e → is_line_of_words (entry_words s e) ≡ true
entry_is_words s e h fits =
    and_from _ _ (decimal_word e.who.0 (omega (arith, fits.who))) (call_are_words s e.call (codes "=" ∷ answer_words s e.answer) h fits.call (answer_are_words s e.answer h fits.answer))

pub end_is_words : (end : End) → is_line_of_words (end_words end) ≡ true
end_is_words ends.Done = refl
end_is_words ends.Stuck = refl
end_is_words ends.Spent = refl
end_is_words ends.Cut = refl

pub extra_is_words : (s : Tree) (end : End) (x : Extra) → AreKnown (known_of s) → IsExtra s end x → is_line_of_words (extra_words s x) ≡ true
extra_is_words s end (extras.Waits t call) h fits = and_from _ _ (decimal_word t.0 (omega (arith, fits.1.0))) (call_are_words s call [] h fits.1.1 refl)
extra_is_words s end (extras.Spent t) h fits = and_from _ _ (decimal_word t.0 (omega (arith, fits.1))) refl

number_and : (n : ℕ) (more : Words) → n < 2 ^ 32 → list_all is_word more ≡ true → list_all is_word (decimal n ∷ more) ≡ true
number_and n more small all = and_from _ _ (decimal_word n (omega (arith, small))) all

pub counts_are_words : (c : SendCount) → AreCounts c → is_line_of_words (counts_words c) ≡ true
counts_are_words c fits =
    let u : Words = codes "open" ∷ decimal c.unfinished ∷ [] in
    let t : Words = codes "timeout" ∷ decimal c.by_timeout ∷ u in
    let l : Words = codes "loss" ∷ decimal c.by_loss ∷ t in
    let r : Words = codes "reply" ∷ decimal c.by_reply ∷ l in
    let p : Words = codes "proc" ∷ decimal c.by_proc ∷ r in
    let e : Words = codes "entered" ∷ decimal c.entered ∷ p in
    number_and c.begun e fits.begun (number_and c.entered p fits.entered (number_and c.by_proc r fits.by_proc (number_and c.by_reply l fits.by_reply
    (number_and c.by_loss t fits.by_loss (number_and c.by_timeout u fits.by_timeout (number_and c.unfinished [] fits.unfinished refl))))))

module _ {A : Type 0} (words : A → Words) (Fits : A → Type 0) (are : (x : A) → Fits x → is_line_of_words (words x) ≡ true) where
  all_are_words : (xs : List A) (rest : List Words) → AllByRecursion Fits xs → list_all is_line_of_words rest ≡ true → list_all is_line_of_words (map words xs ++ rest) ≡ true
  all_are_words [] rest fits all = all
  all_are_words (x ∷ xs) rest fits all = and_from _ _ (are x fits.0) (all_are_words xs rest fits.1 all)

append_are_words : (a b : List Words) → list_all is_line_of_words a ≡ true → list_all is_line_of_words b ≡ true → list_all is_line_of_words (a ++ b) ≡ true
append_are_words [] b p q = q
append_are_words (x ∷ a) b p q = let two = and_parts (is_line_of_words x) (list_all is_line_of_words a) p in and_from _ _ two.0 (append_are_words a b two.1 q)

digit_visible : (colour : ℕ) → nat_lt 32 (digit colour) ≡ true
digit_visible colour = grind (arith, nat_tests)

digits_are_word : (row : List ℕ) → is_word (map digit row) ≡ true
digits_are_word [] = refl
digits_are_word (colour ∷ row) = and_from _ _ (digit_visible colour) (digits_are_word row)

rows_are_words : (rs : List (List ℕ)) → list_all is_line_of_words (map row_words rs) ≡ true
rows_are_words [] = refl
rows_are_words (row ∷ rs) = and_from (is_line_of_words (row_words row)) _ (and_from _ _ (digits_are_word row) refl) (rows_are_words rs)

frame_are_words : (s : Tree) (frame : Option (List ℕ)) → list_all is_line_of_words (frame_words s frame) ≡ true
frame_are_words s None = refl
frame_are_words s (Some colours) = rows_are_words (rows s.width s.height colours)

entries_are_words : (s : Tree) (es : List LogEntryTree) → AreKnown (known_of s) → AllByRecursion (IsLogEntry s) es → list_all is_line_of_words (entries_words s es) ≡ true
entries_are_words s [] h fits = refl
entries_are_words s (e ∷ es) h fits =
    append_are_words (log_entry_words s e) (entries_words s es)
    (and_from (is_line_of_words (entry_words s e.entry)) _ (entry_is_words s e.entry h fits.0.entry) (frame_are_words s e.frame))
    (entries_are_words s es h fits.1)

inner_are_words : (s : Tree) (l : LogTree) → AreKnown (known_of s) → IsLog s l → list_all is_line_of_words (inner_words s l) ≡ true
inner_are_words s l h fits =
    append_are_words (entries_words s l.entries) (end_words l.end ∷ map (extra_words s) l.extras) (entries_are_words s l.entries h fits.entries)
    (and_from _ _ (end_is_words l.end)
    (ap (list_all is_line_of_words) (sym (append-nil (map (extra_words s) l.extras)))
    ∙ all_are_words (extra_words s) (IsExtra s l.end) (λ x f. extra_is_words s l.end x h f) l.extras [] fits.extras refl))

pub log_are_words : (s : Tree) (l : LogTree) → AreKnown (known_of s) → IsLog s l → list_all is_line_of_words (log_words s l) ≡ true
log_are_words s l h fits = and_from (is_line_of_words (codes "log" ∷ codes "1" ∷ [])) _ refl (append_are_words (inner_words s l) (counts_words l.sends ∷ []) (inner_are_words s l h fits) (and_from _ _ (counts_are_words l.sends fits.sends) refl))

-- the lines of a log's text, and the nothing behind the last
pub log_split : (s : Tree) (l : LogTree) → AreKnown (known_of s) → IsLog s l → split_at 10 (spelling s l) ≡ map joined (log_words s l) ++ [] ∷ []
log_split s l h fits = ap (split_at 10) (log_written s l) ∙ texts_again (log_words s l) (log_are_words s l h fits)
