-- A value that was written is read again.
use Rattle.std.proofs.Common.{◌≡◌, ℕ, zero, suc, ◌+◌, ◌-◌, ◌^◌, ◌≤◌, ◌<◌, true, false, not, List, [], ◌∷◌, ◌++◌, length, Option, Some, None, refl, ap, sym, ◌∙◌, arith, append_assoc}
use Rattle.std.specs.Prelude.{ℤ, pos, negsuc, min, decimal, unwrap_or, map, slice_get, option_map, nat_le, int_le, ◌==◌, ◌&&◌, if◌then◌else◌, FitsSigned}
use Rattle.std.specs.Fmt.{signed_decimal}
use Rattle.std.specs.List.{AllByRecursion, list_any, position_from}
use Rattle.std.specs.Char.{is_ascii_digit}
use Rattle.std.specs.Int.{IsInRange, w32, w64}
use Rattle.std.specs.Str.{bytes_eq}
use Rattle.std.specs.Str.Parse.{AllDigits}
use Rattle.std.proofs.lemmas.Bool.{false≢true, and_parts, or_parts, not-true}
use Rattle.std.proofs.lemmas.Bool.Decides.{nat_tests}
use Rattle.std.proofs.lemmas.Fmt.{decimal_is_IsNumeral}
use Rattle.std.proofs.lemmas.List.{length-append}
use Rattle.std.proofs.lemmas.Slice.Eq.{bytes_eq-Decides}
use Rattle.std.proofs.lemmas.Str.Parse.{digit_from_value}
use Rattle.win_num.specs.Codes.{number_of}
use Rattle.win_num.specs.declared.code.Code.{Code}
use Rattle.win_num.specs.declared.code.Code.TheVariants as codes_of
use Rattle.win_num.specs.declared.message.Thread.{Thread}
use Rattle.win_num.specs.declared.send.Cause.{Cause}
use Rattle.win_num.specs.declared.send.Cause.TheVariants as causes
use Rattle.name_table.specs.Rows.{number_in, name_in}
use Rattle.name_table.specs.Messages.{message_rows}
use Rattle.name_table.proofs.RowsLemmas.{number_in-name_in}
use Rattle.user_model.specs.declared.entry.Origin.{Origin}
use Rattle.user_model.specs.declared.entry.Origin.TheVariants as origins
use Rattle.call_fields.specs.declared.value.Value.{Value}
use Rattle.call_fields.specs.declared.value.Value.TheVariants as values
use Rattle.call_fields.specs.Values.{field_of}
use Rattle.call_fields.specs.Words.{source_word, cause_word, code_word}
use Rattle.script_tree.specs.Tree.{Tree, ProcedureTree}
use Rattle.script_lines.specs.Known.{known_of}
use Rattle.script_lines.specs.LineReading.{◌>>=◌, number_at, word_at}
use Rattle.script_lines.specs.NameLimits.{AreKnown, is_distinct}
use Rattle.script_lines.proofs.WordsAgain.{number_again, name_passes, starts_name}
use Rattle.log_text.specs.declared.end.End.{End}
use Rattle.log_text.specs.declared.end.End.TheVariants as ends
use Rattle.log_read.specs.Limits.{IsCode, IsValue}
use Rattle.log_read.specs.Reading.{small_at, signed_at, pixel_at, number_or, message_at, source_at, cause_at, code_at, name_at, procedure_at, value_at, values_from, end_at, actor_at}
use Rattle.log_text.specs.Endings.{end_word}
use Rattle.log_read.specs.Words.{message_word, value_word}

-- ---- numbers

small_again : (bits n m : ℕ) → m ≡ n → n < 2 ^ bits → min m (2 ^ bits - 1) ≡ n
small_again bits n m e h = omega (arith, e, h)

pub small_number : (bits n : ℕ) → n < 2 ^ 64 → n < 2 ^ bits → small_at bits (decimal n) ≡ n
small_number bits n wide h = small_again bits n (number_at (decimal n)) (number_again n wide) h

not_minus : (c : ℕ) → IsInRange 48 57 c → (c == 45) ≡ false
not_minus c range = grind (arith, nat_tests, range)

digits_signed : (ds : List ℕ) → AllDigits 10 ds → 0 < length ds → signed_at ds ≡ pos (min (number_at ds) (2 ^ 63 - 1))
unfolding signed_at
digits_signed [] all some = absurd (omega arith)
digits_signed (c ∷ cs) all some =
    let miss : (c == 45) ≡ false = not_minus c (digit_from_value c all.0) in
    rw miss refl

less_one : (n m : ℕ) → m ≡ suc n → n < 2 ^ 63 → min (m - 1) (2 ^ 63 - 1) ≡ n
less_one n m e h = omega (arith, e, h)

pub signed_again : (x : ℤ) → FitsSigned w64 x → signed_at (signed_decimal x) ≡ x
unfolding signed_at
signed_again (pos n) fits =
    let small : n < 2 ^ 63 = fits.sfits in
    let numeral = decimal_is_IsNumeral n (omega (arith, small)) in
    digits_signed (decimal n) numeral.0.1 numeral.0.0 ∙ ap pos (small_again 63 n (number_at (decimal n)) (number_again n (omega (arith, small))) small)
signed_again (negsuc n) fits =
    let small : n < 2 ^ 63 = fits.sfits in
    ap negsuc (less_one n (number_at (decimal (suc n))) (number_again (suc n) (omega (arith, small))) small)

abbrev pixel_of : ℤ → Option ℤ
pixel_of x = if int_le (negsuc 2147483647) x && int_le x (pos 2147483647) then Some x else None

pixel_within : (x : ℤ) → FitsSigned w32 x → pixel_of x ≡ Some x
pixel_within (pos n) fits =
    let small : n < 2 ^ 31 = fits.sfits in
    let hit : int_le (pos n) (pos 2147483647) ≡ true = grind (arith, nat_tests, small) in
    rw hit refl
pixel_within (negsuc n) fits =
    let small : n < 2 ^ 31 = fits.sfits in
    let hit : int_le (negsuc 2147483647) (negsuc n) ≡ true = grind (arith, nat_tests, small) in
    rw hit refl

pub wider : (x : ℤ) → FitsSigned w32 x → FitsSigned w64 x
wider (pos n) fits = let small : n < 2 ^ 31 = fits.sfits in record { sfits = omega (arith, small) }
wider (negsuc n) fits = let small : n < 2 ^ 31 = fits.sfits in record { sfits = omega (arith, small) }

pub pixel_again : (x : ℤ) → FitsSigned w32 x → pixel_at (signed_decimal x) ≡ Some x
unfolding pixel_at
pixel_again x fits = ap pixel_of (signed_again x (wider x fits)) ∙ pixel_within x fits

-- ---- messages

digits_no_name : (ds : List ℕ) → AllDigits 10 ds → 0 < length ds → starts_name ds ≡ false
digits_no_name [] all some = refl
digits_no_name (c ∷ cs) all some =
    let range = digit_from_value c all.0 in
    let hit : is_ascii_digit c ≡ true = grind (arith, nat_tests, range) in
    let miss : (c == 45) ≡ false = not_minus c range in
    rw (miss, hit) refl

no_digits : (o : Option ℕ) (word : List ℕ) → number_in message_rows word ≡ o → starts_name word ≡ false → o ≡ None
no_digits None word e starts = refl
no_digits (Some m) word e starts =
    let named : name_in message_rows m ≡ Some word = (number_in-name_in message_rows word m refl).0 e in
    absurd (false≢true (sym starts ∙ name_passes starts_name message_rows m word refl named))

message_named : (m : ℕ) (o : Option (List ℕ)) → m < 2 ^ 64 → name_in message_rows m ≡ o → message_at (unwrap_or o (decimal m)) ≡ m
message_named m None small e =
    let numeral = decimal_is_IsNumeral m small in
    ap (number_or (number_at (decimal m))) (no_digits (number_in message_rows (decimal m)) (decimal m) refl (digits_no_name (decimal m) numeral.0.1 numeral.0.0)) ∙ number_again m small
message_named m (Some word) small e = ap (number_or (number_at word)) ((number_in-name_in message_rows word m refl).1 e)

pub message_again : (m : ℕ) → m < 2 ^ 64 → message_at (message_word m) ≡ m
message_again m small = message_named m (name_in message_rows m) small refl

-- ---- words

pub source_again : (o : Origin) → source_at (source_word o) ≡ Some o
unfolding source_at
source_again origins.Posted = refl
source_again origins.Quit = refl
source_again origins.Input = refl
source_again origins.Paint = refl
source_again origins.Timer = refl

pub cause_again : (c : Cause) → cause_at (cause_word c) ≡ Some c
unfolding cause_at
cause_again causes.Proc = refl
cause_again causes.Reply = refl
cause_again causes.Loss = refl
cause_again causes.Timeout = refl
cause_again causes.Hung = refl

pub end_again : (e : End) → end_at (end_word e) ≡ Some e
unfolding end_at
end_again ends.Done = refl
end_again ends.Stuck = refl
end_again ends.Spent = refl
end_again ends.Cut = refl

no_letter : (c d : ℕ) → IsInRange 48 57 c → 57 < d → (c == d) ≡ false
no_letter c d range above = grind (arith, nat_tests, range, above)

digits_code : (ds : List ℕ) → AllDigits 10 ds → 0 < length ds → code_at ds ≡ codes_of.Win (small_at 16 ds)
unfolding code_at
digits_code [] all some = absurd (omega arith)
digits_code (c ∷ cs) all some =
    let range = digit_from_value c all.0 in
    let f : (c == 102) ≡ false = no_letter c 102 range (omega arith) in
    let n : (c == 110) ≡ false = no_letter c 110 range (omega arith) in
    rw (f, n) refl

pub code_again : (c : Code) → IsCode c → code_at (unwrap_or (code_word c) (decimal (number_of c))) ≡ c
unfolding code_at
code_again (codes_of.Win n) fits =
    let numeral = decimal_is_IsNumeral n (omega (arith, fits)) in
    digits_code (decimal n) numeral.0.1 numeral.0.0 ∙ ap codes_of.Win (small_number 16 n (omega (arith, fits)) fits)
code_again codes_of.Full fits = refl
code_again codes_of.NotNow fits = refl
code_again codes_of.NoTarget fits = refl

-- ---- names

same_bytes : (a : List ℕ) → bytes_eq a a ≡ true
same_bytes a = (bytes_eq-Decides a a).1 refl

module _ {A : Type 0} (name_of : A → List ℕ) where
  different : (w : List ℕ) (xs : List A) (k : ℕ) (x : A) → slice_get xs k ≡ Some x → list_any (bytes_eq w) (map name_of xs) ≡ false → bytes_eq w (name_of x) ≡ false
  different w [] k x at none = absurd (cc at)
  different w (y ∷ xs) zero x at none = let same : y ≡ x = cc at in ap (λ z. bytes_eq w (name_of z)) (sym same) ∙ (or_parts (bytes_eq w (name_of y)) (list_any (bytes_eq w) (map name_of xs)) none).0
  different w (y ∷ xs) (suc k) x at none = different w xs k x at (or_parts (bytes_eq w (name_of y)) (list_any (bytes_eq w) (map name_of xs)) none).1

  pub found_place : (xs : List A) (k i : ℕ) (x : A) → slice_get xs k ≡ Some x → is_distinct (map name_of xs) ≡ true → position_from (λ a. bytes_eq (name_of a) (name_of x)) i xs ≡ Some (i + k)
  found_place [] k i x at distinct = absurd (cc at)
  found_place (y ∷ xs) zero i x at distinct =
      let same : y ≡ x = cc at in
      let hit : bytes_eq (name_of y) (name_of x) ≡ true = ap (λ z. bytes_eq (name_of z) (name_of x)) same ∙ same_bytes (name_of x) in
      let e : i ≡ i + 0 = omega arith in
      rw hit (ap (λ (j : ℕ). let o : Option ℕ = Some j in o) e)
  found_place (y ∷ xs) (suc k) i x at distinct =
      let two = and_parts (not (list_any (bytes_eq (name_of y)) (map name_of xs))) (is_distinct (map name_of xs)) distinct in
      let miss : bytes_eq (name_of y) (name_of x) ≡ false = different (name_of y) xs k x at (not-true _ two.0) in
      let e : (i + 1) + k ≡ i + suc k = omega arith in
      rw miss (found_place xs k (i + 1) x at two.1 ∙ ap (λ (j : ℕ). let o : Option ℕ = Some j in o) e)

  pub at_place : (xs : List A) (k : ℕ) → k < length xs → (x : A) × (slice_get xs k ≡ Some x)
  at_place [] k lt = absurd (omega arith)
  at_place (y ∷ xs) zero lt = (y, refl)
  at_place (y ∷ xs) (suc k) lt = at_place xs k (omega arith)

map_same : (xs : List (List ℕ)) → map (λ (x : List ℕ). x) xs ≡ xs
map_same [] = refl
map_same (x ∷ xs) = ap (λ (l : List (List ℕ)). x ∷ l) (map_same xs)

pub from_nothing : (n : ℕ) → (let o : Option ℕ = Some (0 + n) in o) ≡ Some n
from_nothing n = let e : 0 + n ≡ n = omega arith in ap (λ (j : ℕ). let o : Option ℕ = Some j in o) e

pub name_again : (s : Tree) (n : ℕ) → AreKnown (known_of s) → n < length s.names → name_at s (value_word s (values.Name n)) ≡ Some n
unfolding name_at
name_again s n h lt =
    let found = at_place (λ (x : List ℕ). x) s.names n lt in
    ap (λ (o : Option (List ℕ)). name_at s (unwrap_or o (decimal n))) found.1
    ∙ found_place (λ (x : List ℕ). x) s.names n 0 found.0 found.1 (ap is_distinct (map_same s.names) ∙ h.names.distinct)
    ∙ from_nothing n

pub procedure_again : (s : Tree) (n : ℕ) → AreKnown (known_of s) → n < length s.procedures → procedure_at s (value_word s (values.Procedure n)) ≡ Some n
unfolding procedure_at
procedure_again s n h lt =
    let found = at_place (λ (p : ProcedureTree). p.name) s.procedures n lt in
    ap (λ (o : Option ProcedureTree). procedure_at s (unwrap_or (option_map (λ (q : ProcedureTree). q.name) o) (decimal n))) found.1
    ∙ found_place (λ (p : ProcedureTree). p.name) s.procedures n 0 found.0 found.1 h.procedures.distinct
    ∙ from_nothing n

-- ---- values

abbrev some : Value → Option Value
some v = Some v

pub value_again : (s : Tree) (v : Value) → AreKnown (known_of s) → IsValue s v → value_at s (field_of v) (value_word s v) ≡ Some v
value_again s (values.Number n) h fits = ap (λ x. some (values.Number x)) (number_again n fits)
value_again s (values.Message m) h fits = ap (λ x. some (values.Message x)) (message_again m fits)
value_again s (values.Signed x) h fits = ap (λ y. some (values.Signed y)) (signed_again x fits)
value_again s (values.Name n) h fits = ap (option_map (λ x. values.Name x)) (name_again s n h fits)
value_again s (values.Procedure n) h fits = ap (option_map (λ x. values.Procedure x)) (procedure_again s n h fits)
value_again s (values.Window w) h fits = ap (λ x. some (values.Window (record { 0 = x }))) (small_number 32 w.0 (omega (arith, fits)) fits)
value_again s (values.Send n) h fits = ap (λ x. some (values.Send (record { 0 = x }))) (small_number 32 n.0 (omega (arith, fits)) fits)
value_again s (values.Thread t) h fits = ap (λ x. some (values.Thread (record { 0 = x }))) (small_number 8 t.0 (omega (arith, fits)) fits)
value_again s (values.Count k) h fits = ap (λ x. some (values.Count x)) (small_number 32 k (omega (arith, fits)) fits)
value_again s (values.ShortMessage m) h fits = ap (λ x. some (values.ShortMessage x)) (small_again 32 m (message_at (message_word m)) (message_again m (omega (arith, fits))) fits)
value_again s (values.Pixel x) h fits = ap (option_map (λ y. values.Pixel y)) (pixel_again x fits)
value_again s (values.Byte n) h fits = ap (λ x. some (values.Byte x)) (small_number 8 n (omega (arith, fits)) fits)
value_again s (values.Source o) h fits = ap (option_map (λ y. values.Source y)) (source_again o)
value_again s (values.Cause c) h fits = ap (option_map (λ y. values.Cause y)) (cause_again c)
value_again s (values.Code c) h fits = ap (λ y. some (values.Code y)) (code_again c fits)

abbrev actor_of : ℕ → Option Thread
actor_of n = if nat_le n 15 then Some (record { 0 = n }) else None

small_actor : (n : ℕ) → n ≤ 15 → actor_of n ≡ Some (record { 0 = n })
small_actor n h = let hit : nat_le n 15 ≡ true = grind (arith, nat_tests, h) in rw hit refl

pub actor_again : (t : Thread) → t.0 ≤ 15 → actor_at (decimal t.0) ≡ Some t
unfolding actor_at
actor_again t h = ap actor_of (number_again t.0 (omega (arith, h))) ∙ small_actor t.0 h

-- ---- words in a row

here : (front more : List (List ℕ)) (w : List ℕ) → word_at (front ++ w ∷ more) (length front) ≡ w
here [] more w = refl
here (x ∷ front) more w = here front more w

pub word_here : (words front more : List (List ℕ)) (w : List ℕ) (k : ℕ) → words ≡ front ++ w ∷ more → k ≡ length front → word_at words k ≡ w
word_here words front more w k e n = ap (λ (l : List (List ℕ)). word_at l k) e ∙ ap (word_at (front ++ w ∷ more)) n ∙ here front more w

pub one_further : (words front more : List (List ℕ)) (w : List ℕ) (k : ℕ) → words ≡ front ++ w ∷ more → k ≡ length front → (words ≡ (front ++ w ∷ []) ++ more) × (k + 1 ≡ length (front ++ w ∷ []))
one_further words front more w k e n = (e ∙ sym (append_assoc front (w ∷ []) more), omega (arith, n, length-append front (w ∷ [])))

pub values_again : (s : Tree) (vs : List Value) (words front rest : List (List ℕ)) (k : ℕ) → AreKnown (known_of s) → AllByRecursion (IsValue s) vs → words ≡ front ++ (map (value_word s) vs ++ rest) → k ≡ length front → values_from s (map field_of vs) words k ≡ Some vs
unfolding values_from
values_again s [] words front rest k h fits e n = refl
values_again s (v ∷ vs) words front rest k h fits e n =
    let more : List (List ℕ) = map (value_word s) vs ++ rest in
    let next = one_further words front more (value_word s v) k e n in
    let here : word_at words k ≡ value_word s v = word_here words front more (value_word s v) k e n in
    let read : value_at s (field_of v) (word_at words k) ≡ Some v = ap (value_at s (field_of v)) here ∙ value_again s v h fits.0 in
    ap (λ (o : Option Value). o >>= λ x. values_from s (map field_of vs) words (k + 1) >>= λ xs. let r : Option (List Value) = Some (x ∷ xs) in r) read
    ∙ ap (λ (o : Option (List Value)). o >>= λ xs. let r : Option (List Value) = Some (v ∷ xs) in r) (values_again s vs words (front ++ value_word s v ∷ []) rest (k + 1) h fits.1 next.0 next.1)
