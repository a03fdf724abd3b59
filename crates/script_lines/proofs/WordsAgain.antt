-- A word that was written is read again.
use Rattle.std.proofs.Common.{◌≡◌, ℕ, ◌+◌, ◌*◌, ◌^◌, ◌≤◌, ◌<◌, Bool, true, false, not, List, [], ◌∷◌, length, Option, Some, None, refl, ap, sym, ◌∙◌, arith}
use Rattle.std.specs.Prelude.{decimal, unwrap_or, nat_le, ◌==◌, ◌&&◌, if◌then◌else◌, IsSome}
use Rattle.std.specs.List.{list_all}
use Rattle.std.specs.Char.{is_ascii_digit, digit_value}
use Rattle.std.specs.Int.{IsInRange}
use Rattle.std.specs.Str.Parse.{AllDigits, digits_value_after}
use Rattle.std.proofs.lemmas.Bool.{false≢true, and_parts, and_from, cases_Bool}
use Rattle.std.proofs.Common.{inl, inr}
use Rattle.std.proofs.lemmas.Bool.Decides.{nat_tests}
use Rattle.std.proofs.lemmas.Str.{digit_value_digit}
use Rattle.std.proofs.lemmas.Str.Parse.{digit_from_value}
use Rattle.std.proofs.lemmas.Fmt.{decimal_is_IsNumeral}
use Rattle.name_table.specs.Rows.{Named, number_in, name_in}
use Rattle.name_table.specs.Messages.{message_rows}
use Rattle.name_table.specs.Constants.{constant_rows}
use Rattle.name_table.proofs.RowsLemmas.{number_in-name_in}
use Rattle.script_tree.specs.declared.operand.Letter.{Letter}
use Rattle.script_tree.specs.declared.operand.Letter.TheVariants as letters
use Rattle.script_tree.specs.declared.operand.Variable.{Variable}
use Rattle.script_tree.specs.declared.operand.Variable.TheVariants as variables
use Rattle.script_tree.specs.declared.operand.Operand.{Operand}
use Rattle.script_tree.specs.declared.operand.Operand.TheVariants as operands
use Rattle.script_tree.specs.declared.operand.Operator.{Operator}
use Rattle.script_tree.specs.declared.operand.Operator.TheVariants as operators
use Rattle.script_tree.specs.declared.operand.Comparison.{Comparison}
use Rattle.script_tree.specs.declared.operand.Comparison.TheVariants as comparisons
use Rattle.script_lines.specs.LineLimits.{IsOperand}
use Rattle.script_lines.specs.LineReading.{next_value, digits_at, number_at, letter_at, variable_at, operator_at, comparison_at, minus_at, message_operand, constant_operand, named_at, operand_at}
use Rattle.script_lines.specs.Words.{letter_word, variable_word, operator_word, comparison_word, operand_word}

pub letter_again : (v : Letter) → letter_at (letter_word v) ≡ Some v
unfolding letter_at
letter_again letters.A = refl
letter_again letters.B = refl
letter_again letters.C = refl
letter_again letters.D = refl
letter_again letters.E = refl
letter_again letters.F = refl
letter_again letters.G = refl
letter_again letters.H = refl

pub variable_again : (v : Variable) → variable_at (variable_word v) ≡ Some v
unfolding variable_at
variable_again (variables.Letter letters.A) = refl
variable_again (variables.Letter letters.B) = refl
variable_again (variables.Letter letters.C) = refl
variable_again (variables.Letter letters.D) = refl
variable_again (variables.Letter letters.E) = refl
variable_again (variables.Letter letters.F) = refl
variable_again (variables.Letter letters.G) = refl
variable_again (variables.Letter letters.H) = refl
variable_again variables.Result = refl
variable_again variables.Error = refl
variable_again variables.GotWindow = refl
variable_again variables.GotMessage = refl
variable_again variables.GotWparam = refl
variable_again variables.GotLparam = refl
variable_again variables.GotTime = refl
variable_again variables.Window = refl
variable_again variables.Message = refl
variable_again variables.Wparam = refl
variable_again variables.Lparam = refl

pub operator_again : (v : Operator) → operator_at (operator_word v) ≡ Some v
unfolding operator_at
operator_again operators.Plus = refl
operator_again operators.Minus = refl
operator_again operators.And = refl
operator_again operators.Or = refl

pub comparison_again : (v : Comparison) → comparison_at (comparison_word v) ≡ Some v
unfolding comparison_at
comparison_again comparisons.Equal = refl
comparison_again comparisons.Different = refl
comparison_again comparisons.Below = refl

-- ---- numbers

grows : (v : ℕ) (ds : List ℕ) → v ≤ digits_value_after 10 v ds
grows v [] = omega arith
grows v (d ∷ ds) = omega (arith, grows (v * 10 + digit_value d) ds)

same_value : (v d : ℕ) → IsInRange 48 57 d → v * 10 + digit_value d < 2 ^ 64 → next_value v d ≡ v * 10 + digit_value d
same_value v d range small = let value : digit_value d + 48 ≡ d = digit_value_digit d range in omega (arith, value)

is_digit_of : (d : ℕ) → IsInRange 48 57 d → is_ascii_digit d ≡ true
is_digit_of d range = grind (arith, nat_tests, range)

digits_run : (v : ℕ) (ds : List ℕ) → AllDigits 10 ds → digits_value_after 10 v ds < 2 ^ 64 → digits_at v ds ≡ digits_value_after 10 v ds
digits_run v [] all small = refl
digits_run v (d ∷ ds) all small =
    let range = digit_from_value d all.0 in
    let hit : is_ascii_digit d ≡ true = is_digit_of d range in
    let value : next_value v d ≡ v * 10 + digit_value d = same_value v d range (omega (arith, grows (v * 10 + digit_value d) ds)) in
    rw hit (ap (λ (x : ℕ). digits_at x ds) value ∙ digits_run (v * 10 + digit_value d) ds all.1 small)

pub number_again : (n : ℕ) → n < 2 ^ 64 → number_at (decimal n) ≡ n
unfolding number_at
number_again n small =
    let numeral = decimal_is_IsNumeral n small in
    digits_run 0 (decimal n) numeral.0.1 (omega (arith, numeral.1)) ∙ numeral.1

-- ---- operands

not_minus : (c : ℕ) → IsInRange 48 57 c → (c == 45) ≡ false
not_minus c range = grind (arith, nat_tests, range)

digits_operand : (ds : List ℕ) → AllDigits 10 ds → 0 < length ds → operand_at ds ≡ Some (operands.Number (number_at ds))
unfolding operand_at
digits_operand [] all some = absurd (omega arith)
digits_operand (c ∷ cs) all some =
    let range = digit_from_value c all.0 in
    let a : (c == 45) ≡ false = not_minus c range in
    let b : is_ascii_digit c ≡ true = is_digit_of c range in
    rw (a, b) refl

number_operand : (n : ℕ) → n < 2 ^ 64 → operand_at (decimal n) ≡ Some (operands.Number n)
number_operand n small =
    let numeral = decimal_is_IsNumeral n small in
    digits_operand (decimal n) numeral.0.1 numeral.0.0 ∙ ap (λ (x : ℕ). let o : Option Operand = Some (operands.Number x) in o) (number_again n small)

in_minus : (n : ℕ) → 0 < n → n ≤ 2 ^ 63 → (nat_le 1 n && nat_le n (2 ^ 63)) ≡ true
in_minus n some small =
    let a : nat_le 1 n ≡ true = grind (arith, nat_tests) in
    let c : nat_le n (2 ^ 63) ≡ true = grind (arith, nat_tests) in
    and_from (nat_le 1 n) (nat_le n (2 ^ 63)) a c

abbrev minus_of : ℕ → Option Operand
minus_of n = if nat_le 1 n && nat_le n (2 ^ 63) then Some (operands.Minus n) else None

minus_operand : (n : ℕ) → 0 < n → n ≤ 2 ^ 63 → minus_at (decimal n) ≡ Some (operands.Minus n)
unfolding minus_at
minus_operand n some small =
    ap minus_of (number_again n (omega arith)) ∙ ap (λ (b : Bool). let o : Option Operand = if b then Some (operands.Minus n) else None in o) (in_minus n some small)

-- a test that all names of a table pass
pub name_passes : (p : List ℕ → Bool) (rows : List Named) (n : ℕ) (word : List ℕ) → list_all (λ r. p r.name) rows ≡ true → name_in rows n ≡ Some word → p word ≡ true
name_passes p [] n word all e = absurd (cc e)
name_passes p (r ∷ rows) n word all e =
    let parts = and_parts (p r.name) (list_all (λ x. p x.name) rows) all in
    elim (cases_Bool (r.number == n)) [
      | inl hit ↦ let f : name_in (r ∷ rows) n ≡ Some r.name = rw hit refl in let same : r.name ≡ word = cc (e, f) in rw (← same) parts.0
      | inr miss ↦ let f : name_in (r ∷ rows) n ≡ name_in rows n = rw miss refl in name_passes p rows n word parts.1 (sym f ∙ e)
    ]

pub some_word : (o : Option (List ℕ)) → IsSome o → o ≡ Some (unwrap_or o [])
some_word None h = absurd (false≢true h)
some_word (Some x) h = refl

-- the first byte is none of a number's
abbrev pub starts_name : List ℕ → Bool
starts_name [] = false
starts_name (c ∷ cs) = not (c == 45) && not (is_ascii_digit c)

not_true : (b : Bool) → not b ≡ true → b ≡ false
not_true true e = absurd (false≢true e)
not_true false e = refl

named_word : (word : List ℕ) → starts_name word ≡ true → operand_at word ≡ named_at word
unfolding operand_at
named_word [] e = absurd (false≢true e)
named_word (c ∷ cs) e =
    let parts = and_parts (not (c == 45)) (not (is_ascii_digit c)) e in
    let a : (c == 45) ≡ false = not_true (c == 45) parts.0 in
    let b : is_ascii_digit c ≡ false = not_true (is_ascii_digit c) parts.1 in
    rw (a, b) refl

abbrev is_nothing : Option ℕ → Bool
is_nothing None = true
is_nothing (Some n) = false

nothing_of : (o : Option ℕ) → is_nothing o ≡ true → o ≡ None
nothing_of None e = refl
nothing_of (Some n) e = absurd (false≢true e)

message_again : (m : ℕ) (word : List ℕ) → name_in message_rows m ≡ Some word → operand_at word ≡ Some (operands.Message m)
unfolding named_at
message_again m word at =
    let found : number_in message_rows word ≡ Some m = (number_in-name_in message_rows word m refl).1 at in
    named_word word (name_passes starts_name message_rows m word refl at)
    ∙ ap (λ (o : Option ℕ). message_operand o (number_in constant_rows word) (variable_at word)) found

constant_again : (k : ℕ) (word : List ℕ) → name_in constant_rows k ≡ Some word → operand_at word ≡ Some (operands.Constant k)
unfolding named_at
constant_again k word at =
    let found : number_in constant_rows word ≡ Some k = (number_in-name_in constant_rows word k refl).1 at in
    let other : number_in message_rows word ≡ None = nothing_of _ (name_passes (λ w. is_nothing (number_in message_rows w)) constant_rows k word refl at) in
    named_word word (name_passes starts_name constant_rows k word refl at)
    ∙ ap (λ (o : Option ℕ). message_operand o (number_in constant_rows word) (variable_at word)) other
    ∙ ap (λ (o : Option ℕ). constant_operand o (variable_at word)) found

pub variable_operand_again : (v : Variable) → operand_at (variable_word v) ≡ Some (operands.Variable v)
unfolding operand_at named_at variable_at
variable_operand_again (variables.Letter letters.A) = refl
variable_operand_again (variables.Letter letters.B) = refl
variable_operand_again (variables.Letter letters.C) = refl
variable_operand_again (variables.Letter letters.D) = refl
variable_operand_again (variables.Letter letters.E) = refl
variable_operand_again (variables.Letter letters.F) = refl
variable_operand_again (variables.Letter letters.G) = refl
variable_operand_again (variables.Letter letters.H) = refl
variable_operand_again variables.Result = refl
variable_operand_again variables.Error = refl
variable_operand_again variables.GotWindow = refl
variable_operand_again variables.GotMessage = refl
variable_operand_again variables.GotWparam = refl
variable_operand_again variables.GotLparam = refl
variable_operand_again variables.GotTime = refl
variable_operand_again variables.Window = refl
variable_operand_again variables.Message = refl
variable_operand_again variables.Wparam = refl
variable_operand_again variables.Lparam = refl

pub operand_again : (a : Operand) → IsOperand a → operand_at (operand_word a) ≡ Some a
unfolding operand_at
operand_again (operands.Number n) fits = number_operand n fits
operand_again (operands.Minus n) fits = minus_operand n fits.0 fits.1
operand_again (operands.Message m) fits = message_again m (unwrap_or (name_in message_rows m) []) (some_word (name_in message_rows m) fits)
operand_again (operands.Constant k) fits = constant_again k (unwrap_or (name_in constant_rows k) []) (some_word (name_in constant_rows k) fits)
operand_again (operands.Variable v) fits = variable_operand_again v
