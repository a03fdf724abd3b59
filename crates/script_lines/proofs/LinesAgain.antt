-- A line that was written is read again.
use Rattle.std.proofs.Common.{◌≡◌, ℕ, zero, suc, ◌+◌, ◌≤◌, ◌<◌, Bool, true, false, not, List, [], ◌∷◌, ◌++◌, length, Option, Some, None, refl, ap, sym, ◌∙◌, take, get_or, arith, length-take, inl, inr, ◌⊎◌}
use Rattle.std.specs.Prelude.{map, nat_lt, ◌==◌, ◌&&◌, if◌then◌else◌}
use Rattle.std.specs.List.{list_all, list_any, position_from, AllByRecursion}
use Rattle.std.specs.Str.{bytes_eq}
use Rattle.std.proofs.lemmas.Bool.{false≢true, and_parts, and_from, or_parts, not-true, cases_Bool}
use Rattle.std.proofs.lemmas.Bool.Decides.{nat_tests}
use Rattle.std.proofs.lemmas.List.{take_more, take_all}
use Rattle.std.proofs.lemmas.Slice.Eq.{bytes_eq-Decides}
use Rattle.script_lines.specs.declared.line.Line.{Line}
use Rattle.script_lines.specs.declared.line.Command.{Command}
use Rattle.statement_table.specs.declared.part.Part.{Part}
use Rattle.statement_table.specs.declared.part.Part.TheVariants as parts
use Rattle.statement_table.specs.declared.part.Place.{Place}
use Rattle.script_lines.specs.Known.{Known}
use Rattle.script_lines.specs.LineLimits.{IsPart, IsLine}
use Rattle.script_lines.specs.LineParts.{line_command, line_parts, made_line}
use Rattle.script_lines.specs.LineReading.{◌>>=◌, Names, split_at, word_at, place_in, new_place, place_or_new, name_at, with_names, absent_or_none, with_procedures, begun_at, procedure_at, part_at, parts_from, line_at, lines_at}
use Rattle.script_lines.specs.LineTexts.{joined}
use Rattle.script_lines.specs.NameLimits.{AreNames, AreKnown, is_name, is_distinct, seen_with, seen_with_part, seen_after, seen_all, begun_with_part, begun_after, begun_all, all_seen}
use Rattle.statement_table.specs.Parts.{place_of_part}
use Rattle.script_lines.specs.Rows.{command_places}
use Rattle.script_lines.specs.Words.{part_word, line_words}
use Rattle.script_lines.proofs.WordsAgain.{letter_again, operator_again, comparison_again, operand_again}
use Rattle.script_lines.proofs.TextsAgain.{line_is_words, line_split}
use Rattle.script_lines.proofs.LineLoops.{one_step}
use Rattle.script_lines.proofs.RowsAgain.{command_again, line_fits, line_again}

-- ---- names in a list

same_bytes : (a : List ℕ) → bytes_eq a a ≡ true
same_bytes a = (bytes_eq-Decides a a).1 refl

different : (x : List ℕ) (xs : List (List ℕ)) (k : ℕ) → k < length xs → list_any (bytes_eq x) xs ≡ false → bytes_eq x (get_or xs k []) ≡ false
different x [] k lt none = absurd (omega arith)
different x (y ∷ xs) zero lt none = (or_parts (bytes_eq x y) (list_any (bytes_eq x) xs) none).0
different x (y ∷ xs) (suc k) lt none = different x xs k (omega arith) (or_parts (bytes_eq x y) (list_any (bytes_eq x) xs) none).1

found_place : (names : Names) (n k i : ℕ) → is_distinct names ≡ true → k < n → n ≤ length names → position_from (λ name. bytes_eq name (get_or names k [])) i (take n names) ≡ Some (i + k)
found_place names zero k i distinct lt within = absurd (omega arith)
found_place [] (suc n) k i distinct lt within = absurd (omega arith)
found_place (x ∷ names) (suc n) zero i distinct lt within =
    let e : i ≡ i + 0 = omega arith in
    rw (same_bytes x) (ap (λ (j : ℕ). let o : Option ℕ = Some j in o) e)
found_place (x ∷ names) (suc n) (suc k) i distinct lt within =
    let two = and_parts (not (list_any (bytes_eq x) names)) (is_distinct names) distinct in
    let miss : bytes_eq x (get_or names k []) ≡ false = different x names k (omega arith) (not-true _ two.0) in
    let e : (i + 1) + k ≡ i + suc k = omega arith in
    rw miss (found_place names n k (i + 1) two.1 (omega arith) (omega arith) ∙ ap (λ (j : ℕ). let o : Option ℕ = Some j in o) e)

no_place : (names : Names) (n i : ℕ) → is_distinct names ≡ true → n < length names → position_from (λ name. bytes_eq name (get_or names n [])) i (take n names) ≡ None
no_place names zero i distinct lt = refl
no_place [] (suc n) i distinct lt = absurd (omega arith)
no_place (x ∷ names) (suc n) i distinct lt =
    let two = and_parts (not (list_any (bytes_eq x) names)) (is_distinct names) distinct in
    let miss : bytes_eq x (get_or names n []) ≡ false = different x names n (omega arith) (not-true _ two.0) in
    rw miss (no_place names n (i + 1) two.1 (omega arith))

name_at_spelled : (names : Names) (k : ℕ) → k < length names → list_all is_name names ≡ true → is_name (get_or names k []) ≡ true
name_at_spelled [] k lt h = absurd (omega arith)
name_at_spelled (x ∷ names) zero lt h = (and_parts (is_name x) (list_all is_name names) h).0
name_at_spelled (x ∷ names) (suc k) lt h = name_at_spelled names k (omega arith) (and_parts (is_name x) (list_all is_name names) h).1

old_place : (limit : ℕ) (names : Names) (n k : ℕ) → AreNames limit names → k < n → n ≤ length names → place_in (take n names) (get_or names k []) ≡ Some k
old_place limit names n k h lt within =
    let e : 0 + k ≡ k = omega arith in
    found_place names n k 0 h.distinct lt within ∙ ap (λ (j : ℕ). let o : Option ℕ = Some j in o) e

next_place : (limit : ℕ) (names : Names) (n : ℕ) → AreNames limit names → n < length names → new_place limit (take n names) (get_or names n []) ≡ Some (n, take (n + 1) names)
unfolding new_place
next_place limit names n h lt =
    let len : length (take n names) ≡ n = omega (arith, length-take n names) in
    let few : nat_lt (length (take n names)) limit ≡ true = let small : length (take n names) < limit = omega (arith, len, h.few) in grind (arith, nat_tests) in
    let ok : (is_name (get_or names n []) && nat_lt (length (take n names)) limit) ≡ true = and_from _ _ (name_at_spelled names n lt h.spelled) few in
    let grown : take (n + 1) names ≡ take n names ++ get_or names n [] ∷ [] = take_more names n [] lt in
    ap (λ (b : Bool). let o : Option (ℕ × Names) = if b then Some (length (take n names), take n names ++ get_or names n [] ∷ []) else None in o) ok
    ∙ ap (λ (j : ℕ). let o : Option (ℕ × Names) = Some (j, take n names ++ get_or names n [] ∷ []) in o) len
    ∙ ap (λ (l : Names). let o : Option (ℕ × Names) = Some (n, l) in o) (sym grown)

-- ---- names of a script

-- so many names, and so many procedures
abbrev pub taken : Known → ℕ → ℕ → Known
taken known n p = record { names = take n known.names; procedures = take p known.procedures }

pub lt_told : (a b : ℕ) → nat_lt a b ≡ true → a < b
lt_told a b h = grind (arith, nat_tests, h)

pub eq_told : (a b : ℕ) → (a == b) ≡ true → a ≡ b
eq_told a b h = grind (arith, nat_tests, h)

-- what one more name makes
abbrev pub Seen : ℕ → ℕ → ℕ → ℕ → Type 0
Seen count n m k = ((k < n) × (m ≡ n)) ⊎ ((k ≡ n) × (m ≡ n + 1) × (n < count))

pub seen_cases : (count n m k : ℕ) → seen_with count (Some n) k ≡ Some m → Seen count n m k
seen_cases count n m k e = elim (cases_Bool (nat_lt k n)) [
  | inl old ↦ let f : seen_with count (Some n) k ≡ Some n = rw old refl in inl (lt_told k n old, cc (e, f))
  | inr miss ↦ elim (cases_Bool ((k == n) && nat_lt n count)) [
    | inl next ↦
        let f : seen_with count (Some n) k ≡ Some (n + 1) = rw (miss, next) refl in
        let two = and_parts (k == n) (nat_lt n count) next in
        inr (eq_told k n two.0, cc (e, f), lt_told n count two.1)
    | inr other ↦ let f : seen_with count (Some n) k ≡ None = rw (miss, other) refl in absurd (cc (e, f))
  ]
]

abbrev FoundName : Known → ℕ → ℕ → ℕ → ℕ → Type 0
FoundName known n p m k = (name_at (taken known n p) (get_or known.names k []) ≡ Some (k, taken known m p)) × (m ≤ length known.names)

name_again : (known : Known) (n p m k : ℕ) → AreKnown known → n ≤ length known.names → seen_with (length known.names) (Some n) k ≡ Some m → FoundName known n p m k
unfolding name_at
name_again known n p m k h within e = elim (seen_cases (length known.names) n m k e) [
  | inl old ↦
      let at = old_place 1024 known.names n k h.names old.0 within in (
        ap (λ (o : Option ℕ). with_names (taken known n p) (place_or_new o (take n known.names) (get_or known.names k []))) at
            ∙ ap (λ (j : ℕ). let o : Option (ℕ × Known) = Some (k, taken known j p) in o) (sym old.1),
        omega (arith, old.1),
      )
  | inr new ↦
      let none = no_place known.names n 0 h.names.distinct new.2 in
      let same : n ≡ k = sym new.0 in (
        ap (λ (j : ℕ). name_at (taken known n p) (get_or known.names j [])) new.0
            ∙ ap (λ (o : Option ℕ). with_names (taken known n p) (place_or_new o (take n known.names) (get_or known.names n []))) none
            ∙ ap (with_names (taken known n p)) (next_place 1024 known.names n h.names new.2)
            ∙ ap (λ (j : ℕ). let o : Option (ℕ × Known) = Some (j, taken known (n + 1) p) in o) same
            ∙ ap (λ (j : ℕ). let o : Option (ℕ × Known) = Some (k, taken known j p) in o) (sym new.1),
        omega (arith, new.1, new.2),
      )
]

procedure_again : (known : Known) (n p k : ℕ) → AreKnown known → p ≤ length known.procedures → k < p → procedure_at (taken known n p) (get_or known.procedures k []) ≡ Some k
unfolding procedure_at
procedure_again known n p k h within lt = old_place 64 known.procedures p k h.procedures lt within

begun_again : (known : Known) (n p : ℕ) → AreKnown known → p < length known.procedures → begun_at (taken known n p) (get_or known.procedures p []) ≡ Some (p, taken known n (p + 1))
unfolding begun_at
begun_again known n p h lt =
    ap (λ (o : Option ℕ). with_procedures (taken known n p) (absent_or_none o (take p known.procedures) (get_or known.procedures p []))) (no_place known.procedures p 0 h.procedures.distinct lt)
    ∙ ap (with_procedures (taken known n p)) (next_place 64 known.procedures p h.procedures lt)

-- ---- one part

-- the part is read, and so many names and procedures have been seen after it
PartAgain : Known → ℕ → ℕ → ℕ → ℕ → Part → Type 0
PartAgain known n p m q part = (part_at (taken known n p) (place_of_part part) (part_word known part) ≡ Some (part, taken known m q)) × (m ≤ length known.names) × (q ≤ length known.procedures)

abbrev part_found : Part → Known → Option (Part × Known)
part_found part known = Some (part, known)

-- the part names nothing
plain_part : (known : Known) (n p m q : ℕ) (part : Part) → n ≤ length known.names → p ≤ length known.procedures → Some n ≡ Some m → Some p ≡ Some q → part_at (taken known n p) (place_of_part part) (part_word known part) ≡ Some (part, taken known n p) → PartAgain known n p m q part
unfolding PartAgain
plain_part known n p m q part wn wp e1 e2 read =
    let names : n ≡ m = cc e1 in
    let procedures : p ≡ q = cc e2 in
    (read ∙ ap (λ (j : ℕ). part_found part (taken known j p)) names ∙ ap (λ (j : ℕ). part_found part (taken known m j)) procedures, omega (arith, names), omega (arith, procedures))

-- a procedure that is named has begun
pub begun_told : (p q k : ℕ) → (if nat_lt k p then Some p else None) ≡ Some q → (k < p) × (Some p ≡ Some q)
begun_told p q k e = elim (cases_Bool (nat_lt k p)) [
  | inl hit ↦ let f : (if nat_lt k p then Some p else None) ≡ Some p = rw hit refl in (lt_told k p hit, sym f ∙ e)
  | inr miss ↦ let f : (if nat_lt k p then Some p else None) ≡ None = rw miss refl in absurd (cc (e, f))
]

-- a procedure that begins is the next
pub next_told : (count p q k : ℕ) → (if (k == p) && nat_lt p count then Some (p + 1) else None) ≡ Some q → (k ≡ p) × (p < count) × (q ≡ p + 1)
next_told count p q k e = elim (cases_Bool ((k == p) && nat_lt p count)) [
  | inl hit ↦
      let two = and_parts (k == p) (nat_lt p count) hit in
      let f : (if (k == p) && nat_lt p count then Some (p + 1) else None) ≡ Some (p + 1) = rw hit refl in
      (eq_told k p two.0, lt_told p count two.1, cc (e, f))
  | inr miss ↦ let f : (if (k == p) && nat_lt p count then Some (p + 1) else None) ≡ None = rw miss refl in absurd (cc (e, f))
]

name_part : (known : Known) (n p m q k : ℕ) → AreKnown known → n ≤ length known.names → p ≤ length known.procedures → seen_with (length known.names) (Some n) k ≡ Some m → Some p ≡ Some q → PartAgain known n p m q (parts.Name k)
unfolding PartAgain
name_part known n p m q k h wn wp e1 e2 =
    let same : p ≡ q = cc e2 in
    let name = name_again known n p m k h wn e1 in
    (ap (λ (o : Option (ℕ × Known)). o >>= λ x. part_found (parts.Name x.0) x.1) name.0 ∙ ap (λ (j : ℕ). part_found (parts.Name k) (taken known m j)) same, name.1, omega (arith, same))

procedure_part : (known : Known) (n p m q k : ℕ) → AreKnown known → n ≤ length known.names → p ≤ length known.procedures → Some n ≡ Some m → (if nat_lt k p then Some p else None) ≡ Some q → PartAgain known n p m q (parts.Procedure k)
procedure_part known n p m q k h wn wp e1 e2 =
    let told = begun_told p q k e2 in
    plain_part known n p m q (parts.Procedure k) wn wp e1 told.1 (ap (λ (o : Option ℕ). o >>= λ j. part_found (parts.Procedure j) (taken known n p)) (procedure_again known n p k h wp told.0))

beginning_part : (known : Known) (n p m q k : ℕ) → AreKnown known → n ≤ length known.names → Some n ≡ Some m → (if (k == p) && nat_lt p (length known.procedures) then Some (p + 1) else None) ≡ Some q → PartAgain known n p m q (parts.Beginning k)
unfolding PartAgain
beginning_part known n p m q k h wn e1 e2 =
    let told = next_told (length known.procedures) p q k e2 in
    let same : n ≡ m = cc e1 in
    let back : p ≡ k = sym told.0 in (
      ap (λ (j : ℕ). begun_at (taken known n p) (get_or known.procedures j []) >>= λ x. part_found (parts.Beginning x.0) x.1) told.0
          ∙ ap (λ (o : Option (ℕ × Known)). o >>= λ x. part_found (parts.Beginning x.0) x.1) (begun_again known n p h told.1)
          ∙ ap (λ (j : ℕ). part_found (parts.Beginning j) (taken known n (p + 1))) back
          ∙ ap (λ (j : ℕ). part_found (parts.Beginning k) (taken known j (p + 1))) same
          ∙ ap (λ (j : ℕ). part_found (parts.Beginning k) (taken known m j)) (sym told.2),
      omega (arith, same),
      omega (arith, told.1, told.2),
    )

part_again : (known : Known) (n p m q : ℕ) (part : Part) → IsPart part → AreKnown known → n ≤ length known.names → p ≤ length known.procedures → seen_with_part (length known.names) (Some n) part ≡ Some m → begun_with_part (length known.procedures) (Some p) part ≡ Some q → PartAgain known n p m q part
part_again known n p m q (parts.Letter v) fits h wn wp e1 e2 = plain_part known n p m q (parts.Letter v) wn wp e1 e2 (rw (letter_again v) refl)
part_again known n p m q (parts.Operand a) fits h wn wp e1 e2 = plain_part known n p m q (parts.Operand a) wn wp e1 e2 (rw (operand_again a fits) refl)
part_again known n p m q (parts.Operator op) fits h wn wp e1 e2 = plain_part known n p m q (parts.Operator op) wn wp e1 e2 (rw (operator_again op) refl)
part_again known n p m q (parts.Comparison c) fits h wn wp e1 e2 = plain_part known n p m q (parts.Comparison c) wn wp e1 e2 (rw (comparison_again c) refl)
part_again known n p m q (parts.Name k) fits h wn wp e1 e2 = name_part known n p m q k h wn wp e1 e2
part_again known n p m q (parts.Beginning k) fits h wn wp e1 e2 = beginning_part known n p m q k h wn e1 e2
part_again known n p m q (parts.Procedure k) fits h wn wp e1 e2 = procedure_part known n p m q k h wn wp e1 e2

-- ---- the parts of a line

no_part_seen : (count : ℕ) (part : Part) → seen_with_part count None part ≡ None
no_part_seen count (parts.Letter v) = refl
no_part_seen count (parts.Operand a) = refl
no_part_seen count (parts.Operator op) = refl
no_part_seen count (parts.Comparison c) = refl
no_part_seen count (parts.Name k) = refl
no_part_seen count (parts.Beginning k) = refl
no_part_seen count (parts.Procedure k) = refl

pub none_after : (count : ℕ) (ps : List Part) → seen_after count None ps ≡ None
none_after count [] = refl
none_after count (part ∷ ps) = ap (λ (o : Option ℕ). seen_after count o ps) (no_part_seen count part) ∙ none_after count ps

no_part_begun : (count : ℕ) (part : Part) → begun_with_part count None part ≡ None
no_part_begun count (parts.Letter v) = refl
no_part_begun count (parts.Operand a) = refl
no_part_begun count (parts.Operator op) = refl
no_part_begun count (parts.Comparison c) = refl
no_part_begun count (parts.Name k) = refl
no_part_begun count (parts.Beginning k) = refl
no_part_begun count (parts.Procedure k) = refl

pub none_begun_after : (count : ℕ) (ps : List Part) → begun_after count None ps ≡ None
none_begun_after count [] = refl
none_begun_after count (part ∷ ps) = ap (λ (o : Option ℕ). begun_after count o ps) (no_part_begun count part) ∙ none_begun_after count ps

-- where so many are seen after several parts, so many were seen after the first
pub first_part_seen : (count m : ℕ) (o : Option ℕ) (ps : List Part) → seen_after count o ps ≡ Some m → (i : ℕ) × (o ≡ Some i)
first_part_seen count m None ps e = absurd (cc (sym (none_after count ps) ∙ e))
first_part_seen count m (Some i) ps e = (i, refl)

pub first_part_begun : (count m : ℕ) (o : Option ℕ) (ps : List Part) → begun_after count o ps ≡ Some m → (i : ℕ) × (o ≡ Some i)
first_part_begun count m None ps e = absurd (cc (sym (none_begun_after count ps) ∙ e))
first_part_begun count m (Some i) ps e = (i, refl)

-- the parts are read, and so many names and procedures have been seen after them
PartsAgain : Known → ℕ → ℕ → ℕ → ℕ → List Part → List (List ℕ) → ℕ → Type 0
PartsAgain known n p m q ps words k = (parts_from (taken known n p) (map place_of_part ps) words k ≡ Some (ps, taken known m q)) × (m ≤ length known.names) × (q ≤ length known.procedures)

parts_again : (known : Known) (n p m q : ℕ) (ps : List Part) (words : List (List ℕ)) (k : ℕ) → AllByRecursion IsPart ps → AreKnown known → n ≤ length known.names → p ≤ length known.procedures
    → seen_after (length known.names) (Some n) ps ≡ Some m → begun_after (length known.procedures) (Some p) ps ≡ Some q
    → ((j : ℕ) → word_at words (k + j) ≡ word_at (map (part_word known) ps) j) → PartsAgain known n p m q ps words k
unfolding parts_from PartsAgain PartAgain
parts_again known n p m q [] words k fits h wn wp e1 e2 at =
    let names : n ≡ m = cc e1 in
    let procedures : p ≡ q = cc e2 in
    (ap (λ (j : ℕ). let o : Option (List Part × Known) = Some ([], taken known j p) in o) names ∙ ap (λ (j : ℕ). let o : Option (List Part × Known) = Some ([], taken known m j) in o) procedures, omega (arith, names), omega (arith, procedures))
parts_again known n p m q (part ∷ ps) words k fits h wn wp e1 e2 at =
    let seen = first_part_seen (length known.names) m (seen_with_part (length known.names) (Some n) part) ps e1 in
    let begun = first_part_begun (length known.procedures) q (begun_with_part (length known.procedures) (Some p) part) ps e2 in
    let i = seen.0 in
    let j = begun.0 in
    let first = part_again known n p i j part fits.0 h wn wp seen.1 begun.1 in
    let rest =
    parts_again known i j m q ps words (k + 1) fits.1 h first.1 first.2
    (ap (λ (o : Option ℕ). seen_after (length known.names) o ps) (sym seen.1) ∙ e1)
    (ap (λ (o : Option ℕ). begun_after (length known.procedures) o ps) (sym begun.1) ∙ e2)
    (λ x. ap (word_at words) (let e : (k + 1) + x ≡ k + suc x = omega arith in e) ∙ at (suc x)) in
    let here : word_at words k ≡ part_word known part = ap (word_at words) (let e : k ≡ k + 0 = omega arith in e) ∙ at 0 in
    let read : part_at (taken known n p) (place_of_part part) (word_at words k) ≡ Some (part, taken known i j) = ap (part_at (taken known n p) (place_of_part part)) here ∙ first.0 in (
      ap (λ (o : Option (Part × Known)). o >>= λ x. parts_from x.1 (map place_of_part ps) words (k + 1) >>= λ others. Some (x.0 ∷ others.0, others.1)) read
          ∙ ap (λ (o : Option (List Part × Known)). o >>= λ others. Some (part ∷ others.0, others.1)) rest.0,
      rest.1,
      rest.2,
    )

-- ---- one line

-- the line is read, and so many names and procedures have been seen after it
abbrev pub Again : Known → ℕ → ℕ → ℕ → ℕ → Line → Type 0
Again known n p m q l = (line_at (taken known n p) (line_words known l) ≡ Some (l, taken known m q)) × (m ≤ length known.names) × (q ≤ length known.procedures)

-- what parts make with names
abbrev made_with : Command → Option (List Part × Known) → Option (Line × Known)
made_with command o = o >>= λ x. made_line command x.0 >>= λ l. Some (l, x.1)

abbrev read_by : Known → List (List ℕ) → Option Command → Option (Line × Known)
read_by known words o = o >>= λ command. made_with command (parts_from known (command_places command) words 1)

pub read_again : (known : Known) (n p m q : ℕ) (l : Line) → IsLine l → AreKnown known → n ≤ length known.names → p ≤ length known.procedures → seen_after (length known.names) (Some n) (line_parts l) ≡ Some m → begun_after (length known.procedures) (Some p) (line_parts l) ≡ Some q → Again known n p m q l
unfolding line_at PartsAgain
read_again known n p m q l fits h wn wp e1 e2 =
    let words : List (List ℕ) = line_words known l in
    let parts = parts_again known n p m q (line_parts l) words 1 fits h wn wp e1 e2 (λ j. ap (word_at words) (let e : 1 + j ≡ suc j = omega arith in e)) in (
      ap (read_by (taken known n p) words) (command_again known l)
          ∙ ap (λ (fs : List Place). made_with (line_command l) (parts_from (taken known n p) fs words 1)) (line_fits l)
          ∙ ap (made_with (line_command l)) parts.0
          ∙ ap (λ (o : Option Line). o >>= λ x. let r : Option (Line × Known) = Some (x, taken known m q) in r) (line_again l),
      parts.1,
      parts.2,
    )

-- ---- all lines

pub none_seen : (count : ℕ) (ls : List Line) → seen_all count None ls ≡ None
none_seen count [] = refl
none_seen count (l ∷ ls) = ap (λ (o : Option ℕ). seen_all count o ls) (none_after count (line_parts l)) ∙ none_seen count ls

pub none_begun : (count : ℕ) (ls : List Line) → begun_all count None ls ≡ None
none_begun count [] = refl
none_begun count (l ∷ ls) = ap (λ (o : Option ℕ). begun_all count o ls) (none_begun_after count (line_parts l)) ∙ none_begun count ls

-- where all names are seen at the end, so many were seen after the first line
first_seen : (count : ℕ) (o : Option ℕ) (ls : List Line) → all_seen count (seen_all count o ls) ≡ true → (m : ℕ) × (o ≡ Some m)
first_seen count None ls e = absurd (false≢true (sym (ap (all_seen count) (none_seen count ls)) ∙ e))
first_seen count (Some m) ls e = (m, refl)

first_begun : (count : ℕ) (o : Option ℕ) (ls : List Line) → all_seen count (begun_all count o ls) ≡ true → (q : ℕ) × (o ≡ Some q)
first_begun count None ls e = absurd (false≢true (sym (ap (all_seen count) (none_begun count ls)) ∙ e))
first_begun count (Some q) ls e = (q, refl)

pub lines_again : (known : Known) (n p : ℕ) (ls : List Line) → AllByRecursion IsLine ls → AreKnown known → n ≤ length known.names → p ≤ length known.procedures
    → all_seen (length known.names) (seen_all (length known.names) (Some n) ls) ≡ true
    → all_seen (length known.procedures) (begun_all (length known.procedures) (Some p) ls) ≡ true
    → lines_at (taken known n p) (map joined (map (line_words known) ls)) ≡ Some (ls, known)
unfolding lines_at
lines_again known n p [] fits h wn wp e1 e2 =
    let past : length known.names ≤ n = omega (arith, eq_told n (length known.names) e1) in
    let begun : length known.procedures ≤ p = omega (arith, eq_told p (length known.procedures) e2) in
    ap (λ (names : Names). let o : Option (List Line × Known) = Some ([], record { names = names; procedures = take p known.procedures }) in o) (take_all n known.names past)
    ∙ ap (λ (procedures : Names). let o : Option (List Line × Known) = Some ([], record { names = known.names; procedures = procedures }) in o) (take_all p known.procedures begun)
lines_again known n p (l ∷ ls) fits h wn wp e1 e2 =
    let seen = first_seen (length known.names) (seen_after (length known.names) (Some n) (line_parts l)) ls e1 in
    let begun = first_begun (length known.procedures) (begun_after (length known.procedures) (Some p) (line_parts l)) ls e2 in
    let m = seen.0 in
    let q = begun.0 in
    let again = read_again known n p m q l fits.0 h wn wp seen.1 begun.1 in
    let more : List (List ℕ) = map joined (map (line_words known) ls) in
    let read : line_at (taken known n p) (split_at 32 (joined (line_words known l))) ≡ Some (l, taken known m q) = ap (line_at (taken known n p)) (line_split (line_words known l) (line_is_words known l fits.0 h)) ∙ again.0 in
    let rest =
    lines_again known m q ls fits.1 h again.1 again.2
    (ap (λ (o : Option ℕ). all_seen (length known.names) (seen_all (length known.names) o ls)) (sym seen.1) ∙ e1)
    (ap (λ (o : Option ℕ). all_seen (length known.procedures) (begun_all (length known.procedures) o ls)) (sym begun.1) ∙ e2) in
    one_step (taken known n p) (joined (line_words known l)) more (Some (l, taken known m q)) read
    ∙ ap (λ (o : Option (List Line × Known)). o >>= λ others. Some (l ∷ others.0, others.1)) rest
