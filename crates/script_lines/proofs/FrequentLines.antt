-- Lines of statements that name nothing.
use Rattle.std.proofs.Common.{◌≡◌, ℕ, ◌+◌, ◌*◌, ◌-◌, ◌^◌, ◌≤◌, ◌<◌, Bool, true, false, List, [], ◌∷◌, length, take, Option, Some, None, refl, ap, sym, ◌∙◌, arith, inl, inr, get_or, rules}
use Rattle.std.specs.Prelude.{decimal, find, slice_get, IfSome, ◌==◌, ◌&&◌, nat_lt}
use Rattle.std.specs.List.{onto_first}
use Rattle.std.specs.Char.{is_ascii_digit}
use Rattle.std.specs.Str.{bytes_eq, all_ascii_digits}
use Rattle.std.proofs.lemmas.Bool.{and_parts, cases_Bool}
use Rattle.std.proofs.lemmas.Bool.Decides.{nat_tests}
use Rattle.std.proofs.lemmas.Fmt.{decimal-digits_value}
use Rattle.std.proofs.lemmas.List.{take_all}
use Rattle.std.proofs.lemmas.Option.{same_Some}
use Rattle.std.proofs.lemmas.Slice.Eq.{bytes_eq-Decides}
use Rattle.std.proofs.lemmas.Str.Parse.{IsNumeralModel, numerals_by_fold, digits_value_short}
use Rattle.script_tree.specs.declared.operand.Variable.{Variable}
use Rattle.script_lines.specs.declared.line.Line.{Line}
use Rattle.script_lines.specs.Frequent.{IsFrequent}
use Rattle.script_lines.specs.Known.{Known}
use Rattle.script_lines.specs.LineReading.{next_value, digits_at, number_at, variable_at, all_variables, split_at, line_at}
use Rattle.script_lines.specs.LineTexts.{joined}
use Rattle.script_lines.specs.NameLimits.{AreKnown}
use Rattle.script_lines.specs.Words.{variable_word}
use Rattle.script_lines.proofs.LinesAgain.{taken, read_again}

-- ---- numbers

-- the value of digits, without a greatest
abbrev pub value_from : ℕ → List ℕ → ℕ
value_from v [] = v
value_from v (c ∷ cs) = value_from (v * 10 + (c - 48)) cs

pub own : IsNumeralModel (λ ds. all_ascii_digits ds ≡ true) (value_from 0)
own = numerals_by_fold _ (search rules) value_from (search rules)

value_grows : (v : ℕ) (ds : List ℕ) → v ≤ value_from v ds
value_grows v [] = omega arith
value_grows v (c ∷ cs) = omega (arith, value_grows (v * 10 + (c - 48)) cs)

-- a value that isn't too large is found
pub value_found : (v : ℕ) (ds : List ℕ) → all_ascii_digits ds ≡ true → value_from v ds < 2 ^ 64 → digits_at v ds ≡ value_from v ds
value_found v [] all small = refl
value_found v (c ∷ cs) all small =
    let two = and_parts (is_ascii_digit c) (all_ascii_digits cs) all in
    let next : next_value v c ≡ v * 10 + (c - 48) = omega (arith, small, value_grows (v * 10 + (c - 48)) cs) in
    rw two.0 (ap (λ (n : ℕ). digits_at n cs) next ∙ value_found (v * 10 + (c - 48)) cs two.1 small)

pub exact_decimal : (word : List ℕ) (n : ℕ) → all_ascii_digits word ≡ true → n ≡ number_at word → 0 < length word → length word ≤ 19 → (get_or word 0 0 ≡ 48 → length word ≡ 1) → decimal n ≡ word
unfolding number_at
exact_decimal word n all is some short zero =
    let few : value_from 0 word < 10 ^ 19 = digits_value_short own word 19 all short in
    let small : value_from 0 word < 2 ^ 64 = omega (arith, few) in
    ap decimal (is ∙ value_found 0 word all small) ∙ decimal-digits_value own word all some zero small

pub exact_some : (o : Option ℕ) (word : List ℕ) (first : ℕ) → IfSome o (λ n. (all_ascii_digits word ≡ true) × (n ≡ number_at word)) → slice_get word 0 ≡ Some first → length word ≤ 19 → ((first == 48) && nat_lt 1 (length word)) ≡ false → IfSome o (λ n. decimal n ≡ word)
exact_some None word first h at short zero = h
exact_some (Some n) [] first h at short zero = absurd (cc at)
exact_some (Some n) (c ∷ cs) first h at short zero =
    let same : c ≡ first = same_Some c first at in
    exact_decimal (c ∷ cs) n h.0 h.1 (omega arith) short (λ e.
    let hit : (first == 48) ≡ true = ap (λ (j : ℕ). j == 48) (sym same ∙ e) in
    let none : nat_lt 1 (length (c ∷ cs)) ≡ false = sym (ap (λ (x : Bool). x && nat_lt 1 (length (c ∷ cs))) hit) ∙ zero in
    grind (arith, nat_tests, none))

-- ---- variables

found_word : (word : List ℕ) (all : List Variable) (v : Variable) → find (λ x. bytes_eq (variable_word x) word) all ≡ Some v → variable_word v ≡ word
found_word word [] v e = absurd (cc e)
found_word word (x ∷ all) v e = elim (cases_Bool (bytes_eq (variable_word x) word)) [
  | inl hit ↦
      let f : find (λ y. bytes_eq (variable_word y) word) (x ∷ all) ≡ Some x = rw hit refl in
      let same : x ≡ v = cc (e, f) in
      sym (ap variable_word same) ∙ (bytes_eq-Decides (variable_word x) word).0 hit
  | inr miss ↦ let f : find (λ y. bytes_eq (variable_word y) word) (x ∷ all) ≡ find (λ y. bytes_eq (variable_word y) word) all = rw miss refl in found_word word all v (sym f ∙ e)
]

pub exact_variable : (word : List ℕ) (v : Variable) → Some v ≡ variable_at word → variable_word v ≡ word
unfolding variable_at
exact_variable word v e = found_word word all_variables v (sym e)

-- ---- lines

-- such a line is read, and no name comes to be known
pub frequent_read : (known : Known) (words : List (List ℕ)) (l : Line) → IsFrequent words l → AreKnown known → line_at known words ≡ Some (l, known)
frequent_read known words l h named =
    let n : ℕ = length known.names in
    let p : ℕ = length known.procedures in
    let all : taken known n p ≡ known = ap (λ (x : List (List ℕ)). let k : Known = record { names = x; procedures = take p known.procedures } in k) (take_all n known.names (omega arith)) ∙ ap (λ (x : List (List ℕ)). let k : Known = record { names = known.names; procedures = x } in k) (take_all p known.procedures (omega arith)) in
    let again = read_again known n p n p l h.fits named (omega arith) (omega arith) (h.unnamed n (Some n)) (h.unbegun p (Some p)) in
    sym (ap (λ (k : Known). line_at k words) all)
    ∙ ap (line_at (taken known n p)) (sym (h.spelled known))
    ∙ again.0
    ∙ ap (λ (k : Known). let o : Option (Line × Known) = Some (l, k) in o) all

-- ---- words

eq_told : (a b : ℕ) → (a == b) ≡ true → a ≡ b
eq_told a b h = grind (arith, nat_tests, h)

abbrev Parts : List (List ℕ) → Type 0
Parts l = (x : List ℕ) × (xs : List (List ℕ)) × (l ≡ x ∷ xs)

onto_some : (c : ℕ) (l : List (List ℕ)) → Parts (onto_first c l)
onto_some c [] = (c ∷ [], [], refl)
onto_some c (x ∷ xs) = (c ∷ x, xs, refl)

split_some : (text : List ℕ) → Parts (split_at 32 text)
split_some [] = ([], [], refl)
split_some (c ∷ text) = elim (cases_Bool (c == 32)) [
  | inl hit ↦ ([], split_at 32 text, rw hit refl)
  | inr miss ↦
      let f : split_at 32 (c ∷ text) ≡ onto_first c (split_at 32 text) = rw miss refl in
      let s = onto_some c (split_at 32 text) in
      (s.0, s.1, f ∙ s.2)
]

-- the words of a text, with a blank between each two, are the text
pub rejoined : (text : List ℕ) → joined (split_at 32 text) ≡ text
rejoined [] = refl
rejoined (c ∷ text) =
    let s = split_some text in
    let rest : joined (s.0 ∷ s.1) ≡ text = sym (ap joined s.2) ∙ rejoined text in
    elim (cases_Bool (c == 32)) [
      | inl hit ↦
          let f : split_at 32 (c ∷ text) ≡ [] ∷ split_at 32 text = rw hit refl in
          let e : 32 ≡ c = sym (eq_told c 32 hit) in
          ap joined f ∙ ap (λ (l : List (List ℕ)). joined ([] ∷ l)) s.2 ∙ ap (λ (l : List ℕ). 32 ∷ l) rest ∙ ap (λ (j : ℕ). j ∷ text) e
      | inr miss ↦
          let f : split_at 32 (c ∷ text) ≡ onto_first c (split_at 32 text) = rw miss refl in
          ap joined f ∙ ap (λ (l : List (List ℕ)). joined (onto_first c l)) s.2 ∙ ap (λ (l : List ℕ). c ∷ l) rest
    ]
