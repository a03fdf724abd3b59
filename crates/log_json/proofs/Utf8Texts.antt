-- The texts of calls and answers are UTF-8, where the names of the script are.
use Rattle.std.proofs.Common.{◌≡◌, ℕ, zero, suc, ◌+◌, ◌/◌, ◌%◌, ◌<◌, Bool, true, false, List, [], ◌∷◌, ◌++◌, Option, Some, None, refl, ap, sym, subst, ◌∙◌, inl, inr, arith, IsUtf8, codes, decimal}
use Rattle.std.specs.Prelude.{ℤ, pos, negsuc, unwrap_or, slice_get, nat_lt, ◌==◌, if◌then◌else◌}
use Rattle.std.specs.Fmt.{signed_decimal, digits, digits_onto, digit_glyph}
use Rattle.std.specs.List.{flat_map, list_all, AllByRecursion}
use Rattle.std.proofs.lemmas.Bool.{and_parts, cases_Bool}
use Rattle.std.proofs.lemmas.Bool.Decides.{nat_tests}
use Rattle.std.proofs.lemmas.Str.{IsUtf8-append, IsUtf8-nil, IsUtf8-from_ascii}
use Rattle.std.proofs.lemmas.Str.Ascii.{IsAscii-nil, IsAscii-cons}
use Rattle.win_num.specs.declared.code.Code.{Code}
use Rattle.win_num.specs.declared.code.Code.TheVariants as codes_of
use Rattle.win_num.specs.declared.send.Cause.{Cause}
use Rattle.win_num.specs.declared.send.Cause.TheVariants as causes
use Rattle.name_table.specs.Rows.{Named, name_in}
use Rattle.name_table.specs.Messages.{message_rows}
use Rattle.user_io.specs.Text.{Adds}
use Rattle.user_model.specs.declared.call.Call.{Call}
use Rattle.user_model.specs.declared.entry.Answer.{Answer}
use Rattle.user_model.specs.declared.entry.Origin.{Origin}
use Rattle.user_model.specs.declared.entry.Origin.TheVariants as origins
use Rattle.answer_table.specs.declared.answers.AnswerName.{AnswerName}
use Rattle.call_table.specs.declared.calls.CallName.{CallName}
use Rattle.call_fields.specs.declared.value.Value.{Value}
use Rattle.call_fields.specs.declared.value.Value.TheVariants as values
use Rattle.answer_table.specs.Answers.{answer_row, answer_name, answer_parts}
use Rattle.call_table.specs.Calls.{call_row, call_name, call_parts}
use Rattle.call_table.proofs.CallLaws.{each_call_word}
use Rattle.answer_table.proofs.AnswerLaws.{each_answer_word}
use Rattle.call_fields.specs.Words.{source_word, cause_word}
use Rattle.script_tree.specs.Tree.{Tree, ProcedureTree}
use Rattle.log_text.specs.Entries.{procedure_name, code_text, value_text, call_text, answer_text}
use Rattle.log_json.specs.Texts.{IsText, AreTexts}

-- ---- words and numbers

-- all bytes are ASCII, as a test
abbrev pub is_plain : List ℕ → Bool
is_plain = list_all (λ c. nat_lt c 128)

below : (c : ℕ) → nat_lt c 128 ≡ true → c < 128
below c h = grind (arith, nat_tests, h)

byte_utf8 : (c : ℕ) → nat_lt c 128 ≡ true → IsUtf8 (c ∷ [])
byte_utf8 c h = IsUtf8-from_ascii (c ∷ []) (IsAscii-cons c [] (below c h) IsAscii-nil)

pub plain : (bs : List ℕ) → is_plain bs ≡ true → IsUtf8 bs
plain [] h = IsUtf8-nil
plain (c ∷ cs) h = let two = and_parts (nat_lt c 128) (is_plain cs) h in IsUtf8-append (c ∷ []) cs (byte_utf8 c two.0) (plain cs two.1)

-- one digit of ten
glyph_small : (d : ℕ) → d < 10 → digit_glyph false d < 128
glyph_small d small = by (nat_lt d 10)
  where
    by : (b : Bool) → (if b then 48 + d else 87 + d) < 128
    by true = omega arith
    by false = omega arith

either : (b : Bool) (xs ys : List ℕ) → IsUtf8 xs → IsUtf8 ys → IsUtf8 (if b then xs else ys)
either true xs ys p q = p
either false xs ys p q = q

onto_utf8 : (k n : ℕ) (later : List ℕ) → IsUtf8 later → IsUtf8 (digits_onto k 10 false n later)
onto_utf8 zero n later h = h
onto_utf8 (suc k) n later h =
    let digit : ℕ = digit_glyph false (n % 10) in
    let more : IsUtf8 (digit ∷ later) = IsUtf8-append (digit ∷ []) later (IsUtf8-from_ascii (digit ∷ []) (IsAscii-cons digit [] (glyph_small (n % 10) (omega arith)) IsAscii-nil)) h in
    either (n / 10 == 0) (digit ∷ later) (digits_onto k 10 false (n / 10) (digit ∷ later)) more (onto_utf8 k (n / 10) (digit ∷ later) more)

pub number_utf8 : (n : ℕ) → IsUtf8 (decimal n)
unfolding digits
number_utf8 n = onto_utf8 64 n [] IsUtf8-nil

signed_utf8 : (x : ℤ) → IsUtf8 (signed_decimal x)
signed_utf8 (pos n) = number_utf8 n
signed_utf8 (negsuc n) = IsUtf8-append (45 ∷ []) (decimal (suc n)) (plain (45 ∷ []) refl) (number_utf8 (suc n))

pub blank_utf8 : (bs : List ℕ) → IsUtf8 bs → IsUtf8 (32 ∷ bs)
blank_utf8 bs h = IsUtf8-append (32 ∷ []) bs (plain (32 ∷ []) refl) h

-- ---- names

found_utf8 : (o : Option (List ℕ)) (n : ℕ) → ((name : List ℕ) → o ≡ Some name → IsUtf8 name) → IsUtf8 (unwrap_or o (decimal n))
found_utf8 None n h = number_utf8 n
found_utf8 (Some name) n h = h name refl

rows_utf8 : (rows : List Named) (n : ℕ) (name : List ℕ) → list_all (λ r. is_plain r.name) rows ≡ true → name_in rows n ≡ Some name → IsUtf8 name
rows_utf8 [] n name all e = absurd (cc e)
rows_utf8 (r ∷ rows) n name all e =
    let parts = and_parts (is_plain r.name) (list_all (λ x. is_plain x.name) rows) all in
    elim (cases_Bool (r.number == n)) [
      | inl hit ↦ let f : name_in (r ∷ rows) n ≡ Some r.name = rw hit refl in let same : r.name ≡ name = cc (e, f) in subst IsUtf8 same (plain r.name parts.0)
      | inr miss ↦ let f : name_in (r ∷ rows) n ≡ name_in rows n = rw miss refl in rows_utf8 rows n name parts.1 (sym f ∙ e)
    ]

message_utf8 : (n : ℕ) → IsUtf8 (unwrap_or (name_in message_rows n) (decimal n))
message_utf8 n = found_utf8 (name_in message_rows n) n (λ name e. rows_utf8 message_rows n name refl e)

name_utf8 : (names : List (List ℕ)) (k n : ℕ) → AllByRecursion IsUtf8 names → IsUtf8 (unwrap_or (slice_get names k) (decimal n))
name_utf8 [] k n h = number_utf8 n
name_utf8 (x ∷ names) zero n h = h.0
name_utf8 (x ∷ names) (suc k) n h = name_utf8 names k n h.1

procedure_utf8 : (procedures : List ProcedureTree) (k n : ℕ) → AllByRecursion IsText procedures → IsUtf8 (unwrap_or (procedure_name (slice_get procedures k)) (decimal n))
procedure_utf8 [] k n h = number_utf8 n
procedure_utf8 (p ∷ procedures) zero n h = h.0
procedure_utf8 (p ∷ procedures) (suc k) n h = procedure_utf8 procedures k n h.1

-- ---- values of fields

source_utf8 : (o : Origin) → IsUtf8 (source_word o)
source_utf8 origins.Posted = plain (codes "posted") refl
source_utf8 origins.Quit = plain (codes "quit") refl
source_utf8 origins.Input = plain (codes "input") refl
source_utf8 origins.Paint = plain (codes "paint") refl
source_utf8 origins.Timer = plain (codes "timer") refl

cause_utf8 : (c : Cause) → IsUtf8 (cause_word c)
cause_utf8 causes.Proc = plain (codes "proc") refl
cause_utf8 causes.Reply = plain (codes "reply") refl
cause_utf8 causes.Loss = plain (codes "loss") refl
cause_utf8 causes.Timeout = plain (codes "timeout") refl
cause_utf8 causes.Hung = plain (codes "hung") refl

code_utf8 : (c : Code) → IsUtf8 (code_text c)
code_utf8 (codes_of.Win n) = blank_utf8 (decimal n) (number_utf8 n)
code_utf8 codes_of.Full = plain (codes " full") refl
code_utf8 codes_of.NotNow = plain (codes " not_now") refl
code_utf8 codes_of.NoTarget = plain (codes " no_target") refl

value_utf8 : (s : Tree) → AreTexts s → (v : Value) → IsUtf8 (value_text s v)
value_utf8 s h (values.Number n) = blank_utf8 (decimal n) (number_utf8 n)
value_utf8 s h (values.Message m) = blank_utf8 _ (message_utf8 m)
value_utf8 s h (values.Signed x) = blank_utf8 _ (signed_utf8 x)
value_utf8 s h (values.Name n) = blank_utf8 _ (name_utf8 s.names n n h.names)
value_utf8 s h (values.Procedure n) = blank_utf8 _ (procedure_utf8 s.procedures n n h.procedures)
value_utf8 s h (values.Window w) = blank_utf8 (decimal w.0) (number_utf8 w.0)
value_utf8 s h (values.Send n) = blank_utf8 (decimal n.0) (number_utf8 n.0)
value_utf8 s h (values.Thread t) = blank_utf8 (decimal t.0) (number_utf8 t.0)
value_utf8 s h (values.Count k) = blank_utf8 (decimal k) (number_utf8 k)
value_utf8 s h (values.ShortMessage m) = blank_utf8 _ (message_utf8 m)
value_utf8 s h (values.Pixel x) = blank_utf8 _ (signed_utf8 x)
value_utf8 s h (values.Byte n) = blank_utf8 (decimal n) (number_utf8 n)
value_utf8 s h (values.Source o) = blank_utf8 _ (source_utf8 o)
value_utf8 s h (values.Cause c) = blank_utf8 _ (cause_utf8 c)
value_utf8 s h (values.Code c) = code_utf8 c

values_utf8 : (s : Tree) → AreTexts s → (vs : List Value) → IsUtf8 (flat_map (value_text s) vs)
values_utf8 s h [] = IsUtf8-nil
values_utf8 s h (v ∷ vs) = IsUtf8-append (value_text s v) (flat_map (value_text s) vs) (value_utf8 s h v) (values_utf8 s h vs)

-- ---- calls and answers

call_plain : (n : CallName) → is_plain (call_row n).word ≡ true
call_plain = each_call_word is_plain refl

answer_plain : (n : AnswerName) → is_plain (answer_row n).word ≡ true
answer_plain = each_answer_word is_plain refl

pub call_utf8 : (s : Tree) → AreTexts s → (c : Call) → IsUtf8 (call_text s c)
call_utf8 s h c = IsUtf8-append (call_row (call_name c)).word (flat_map (value_text s) (call_parts c)) (plain _ (call_plain (call_name c))) (values_utf8 s h (call_parts c))

pub answer_utf8 : (s : Tree) → AreTexts s → (a : Answer) → IsUtf8 (answer_text s a)
answer_utf8 s h a = IsUtf8-append (answer_row (answer_name a)).word (flat_map (value_text s) (answer_parts a)) (plain _ (answer_plain (answer_name a))) (values_utf8 s h (answer_parts a))

-- ---- what was added to nothing

from_nothing : (old new piece : List ℕ) → old ≡ [] → Adds old new piece → piece ≡ new
from_nothing old new piece e added = sym (added.is ∙ ap (λ (l : List ℕ). l ++ piece) e)

pub added_call : (s : Tree) → AreTexts s → (c : Call) (old new : List ℕ) → old ≡ [] → Adds old new (call_text s c) → IsUtf8 new
added_call s h c old new e added = subst IsUtf8 (from_nothing old new (call_text s c) e added) (call_utf8 s h c)

pub added_answer : (s : Tree) → AreTexts s → (a : Answer) (old new : List ℕ) → old ≡ [] → Adds old new (answer_text s a) → IsUtf8 new
added_answer s h a old new e added = subst IsUtf8 (from_nothing old new (answer_text s a) e added) (answer_utf8 s h a)

pub added_waits : (s : Tree) → AreTexts s → (t : ℕ) (c : Call) (a b d e : List ℕ) → a ≡ [] → Adds a b (decimal t) → Adds b d (codes " ") → Adds d e (call_text s c) → IsUtf8 e
added_waits s h t c a b d e none first second third =
    let front : d ≡ decimal t ++ codes " " = second.is ∙ ap (λ (l : List ℕ). l ++ codes " ") (first.is ∙ ap (λ (l : List ℕ). l ++ decimal t) none) in
    let whole : e ≡ (decimal t ++ codes " ") ++ call_text s c = third.is ∙ ap (λ (l : List ℕ). l ++ call_text s c) front in
    subst IsUtf8 (sym whole) (IsUtf8-append (decimal t ++ codes " ") (call_text s c) (IsUtf8-append (decimal t) (codes " ") (number_utf8 t) (plain (codes " ") refl)) (call_utf8 s h c))
