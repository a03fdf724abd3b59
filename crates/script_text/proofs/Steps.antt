-- A line that can stand behind others stands there, and where a script goes on with a line, the line can stand there.
use Rattle.std.proofs.Common.{◌≡◌, ℕ, ◌+◌, ◌≤◌, true, List, [], ◌∷◌, ◌++◌, length, Option, Some, None, refl, ap, sym, ◌∙◌, take, arith, length-take, subst}
use Rattle.std.specs.Prelude.{map, ◌==◌}
use Rattle.std.specs.List.{AllByRecursion}
use Rattle.std.proofs.lemmas.Bool.{false≢true}
use Rattle.std.proofs.lemmas.Bool.Decides.{nat_tests}
use Rattle.std.proofs.lemmas.List.{map-append}
use Rattle.std.proofs.lemmas.Option.{same_Some}
use Rattle.script_lines.specs.declared.line.Line.{Line}
use Rattle.script_lines.specs.Known.{Known, nothing_known}
use Rattle.script_lines.specs.LineLimits.{IsLine}
use Rattle.script_lines.specs.LineParts.{line_parts}
use Rattle.script_lines.specs.LineReading.{split_at, line_at, lines_at}
use Rattle.script_lines.specs.LineTexts.{joined}
use Rattle.script_lines.specs.NameLimits.{AreKnown, all_seen, seen_after, seen_all, begun_after, begun_all}
use Rattle.script_lines.specs.Words.{line_words}
use Rattle.script_lines.proofs.LineLoops.{all_push}
use Rattle.script_lines.proofs.TextsAgain.{line_is_words, line_split}
use Rattle.script_lines.proofs.LinesAgain.{taken, read_again, lines_again}
use Rattle.script_lines.proofs.NamesStay.{line_same, lines_same, below_after, below_all, recount_all, begun_recount_all, recount_after, begun_recount_after, first_line_seen, first_line_begun, seen_append, begun_append, front_again, Extends, line_extends, agree_longer, agree_taken, longer}
use Rattle.script_text.specs.Grammar.{Stood, IsCode, thread_of, thread_count}
use Rattle.script_text.specs.Nesting.{Nest, nested, nested_on, nested_all, start}
use Rattle.script_text.specs.Steps.{IsStep}
use Rattle.script_text.proofs.BuildLemmas.{stays_none}

eq_told : (a b : ℕ) → (a == b) ≡ true → a ≡ b
eq_told a b h = grind (arith, nat_tests, h)

eq_same : (a : ℕ) → (a == a) ≡ true
eq_same a = grind (arith, nat_tests)

-- all are seen at the end: so many
pub all_told : (count : ℕ) (o : Option ℕ) → all_seen count o ≡ true → o ≡ Some count
all_told count None e = absurd (false≢true e)
all_told count (Some n) e = ap (λ (j : ℕ). let o : Option ℕ = Some j in o) (eq_told n count e)

pub all_from : (count : ℕ) (o : Option ℕ) → o ≡ Some count → all_seen count o ≡ true
all_from count o e = ap (all_seen count) e ∙ eq_same count

pub nested_append : (o : Option Nest) (a b : List Line) → nested_all o (a ++ b) ≡ nested_all (nested_all o a) b
nested_append o [] b = refl
nested_append o (l ∷ a) b = nested_append (nested_on o l) a b

pub count_append : (a b : List Line) → thread_count (a ++ b) ≡ thread_count a + thread_count b
count_append [] b = omega arith
count_append (l ∷ a) b = omega (arith, count_append a b)

abbrev pub Texts : Known → List Line → List (List ℕ)
Texts known ls = map joined (map (line_words known) ls)

texts_append : (known : Known) (a b : List Line) → Texts known (a ++ b) ≡ Texts known a ++ Texts known b
texts_append known a b = ap (map joined) (map-append (line_words known) a b) ∙ map-append joined (map (line_words known) a) (map (line_words known) b)

-- ---- a line more

-- lines stand as they are spelled with names that come later
pub spelled_later : (texts : List (List ℕ)) (known after : Known) (nest : Nest) (threads : ℕ) (h : Stood texts known nest threads) → Extends known after → texts ≡ Texts after h.said
spelled_later texts known after nest threads h grown =
    let seen = all_told (length known.names) (seen_all (length known.names) (Some 0) h.said) h.in_order in
    let begun = all_told (length known.procedures) (begun_all (length known.procedures) (Some 0) h.said) h.procedures_in_order in
    let below = below_all (length known.names) (length known.procedures) 0 (length known.names) 0 (length known.procedures) h.said seen begun in
    h.spelled ∙ ap (map joined) (lines_same known after (length known.names) (length known.procedures) h.said (agree_longer known.names after.names grown.names.0 grown.names.1) (agree_longer known.procedures after.procedures grown.procedures.0 grown.procedures.1) below)

pub one_more : (texts : List (List ℕ)) (text : List ℕ) (known after : Known) (nest behind : Nest) (threads begun : ℕ) → Stood texts known nest threads → IsStep known nest threads text after behind begun → AreKnown after → Stood (texts ++ text ∷ []) after behind begun
one_more texts text known after nest behind threads begun h s named =
    let grown = line_extends known after (split_at 32 text) s.line s.read in
    let names = longer known.names after.names grown.names.0 grown.names.1 in
    let procedures = longer known.procedures after.procedures grown.procedures.0 grown.procedures.1 in
    let was = recount_all (length known.names) (length after.names) 0 (length known.names) h.said (all_told (length known.names) (seen_all (length known.names) (Some 0) h.said) h.in_order) names in
    let had = begun_recount_all (length known.procedures) (length after.procedures) 0 (length known.procedures) h.said (all_told (length known.procedures) (begun_all (length known.procedures) (Some 0) h.said) h.procedures_in_order) procedures in
    let last : List Line = s.line ∷ [] in
    record {
      said = h.said ++ last;
      spelled = ap (λ (l : List (List ℕ)). l ++ text ∷ []) (spelled_later texts known after nest threads h grown) ∙ ap (λ (t : List ℕ). Texts after h.said ++ t ∷ []) (sym s.spelled) ∙ sym (texts_append after h.said last);
      fits = all_push IsLine h.said s.line h.fits s.fits;
      named = named;
      in_order = all_from (length after.names) _ (seen_append (length after.names) (Some 0) h.said last ∙ ap (λ (o : Option ℕ). seen_all (length after.names) o last) was ∙ s.in_order);
      procedures_in_order = all_from (length after.procedures) _ (begun_append (length after.procedures) (Some 0) h.said last ∙ ap (λ (o : Option ℕ). begun_all (length after.procedures) o last) had ∙ s.procedures_in_order);
      nested = nested_append (Some start) h.said last ∙ ap (λ (o : Option Nest). nested_all o last) h.nested ∙ s.nests;
      counted = omega (arith, count_append h.said last, h.counted, s.counted);
      few = s.few;
    }

-- ---- where a script goes on

-- lines of which a text is one
record Parted (known : Known) (ls : List Line) (before : List (List ℕ)) (text : List ℕ) : Type 0 where
  pub front : List Line
  pub line : Line
  pub back : List Line
  pub is : ls ≡ front ++ line ∷ back
  pub spelled : Texts known front ≡ before
  pub here : joined (line_words known line) ≡ text

first_same : (x y : List ℕ) (xs ys : List (List ℕ)) → x ∷ xs ≡ y ∷ ys → (x ≡ y) × (xs ≡ ys)
first_same x y xs ys e = (cc e, cc e)

parted : (known : Known) (ls : List Line) (before : List (List ℕ)) (text : List ℕ) (more : List (List ℕ)) → Texts known ls ≡ before ++ text ∷ more → Parted known ls before text
parted known [] [] text more e = absurd (cc e)
parted known [] (t ∷ before) text more e = absurd (cc e)
parted known (l ∷ ls) [] text more e = record { front = []; line = l; back = ls; is = refl; spelled = refl; here = (first_same (joined (line_words known l)) text (Texts known ls) more e).0 }
parted known (l ∷ ls) (t ∷ before) text more e =
    let two = first_same (joined (line_words known l)) t (Texts known ls) (before ++ text ∷ more) e in
    let rest = parted known ls before text more two.1 in
    record {
      front = l ∷ rest.front;
      line = rest.line;
      back = rest.back;
      is = ap (λ (x : List Line). l ∷ x) rest.is;
      spelled = ap (λ (x : List ℕ). x ∷ Texts known rest.front) two.0 ∙ ap (λ (x : List (List ℕ)). t ∷ x) rest.spelled;
      here = rest.here;
    }

all_front : {A : Type 0} (P : A → Type 0) (xs ys : List A) → AllByRecursion P (xs ++ ys) → AllByRecursion P xs
all_front P [] ys h = tt
all_front P (x ∷ xs) ys h = (h.0, all_front P xs ys h.1)

all_back : {A : Type 0} (P : A → Type 0) (xs ys : List A) → AllByRecursion P (xs ++ ys) → AllByRecursion P ys
all_back P [] ys h = h
all_back P (x ∷ xs) ys h = all_back P xs ys h.1

-- lines that stand are read
pub stood_read : (texts : List (List ℕ)) (known : Known) (nest : Nest) (threads : ℕ) (h : Stood texts known nest threads) → lines_at nothing_known texts ≡ Some (h.said, known)
stood_read texts known nest threads h = ap (lines_at nothing_known) h.spelled ∙ lines_again known 0 0 h.said h.fits h.named (omega arith) (omega arith) h.in_order h.procedures_in_order

pub pair_same : (a c : List Line) (b d : Known) → (let x : Option (List Line × Known) = Some (a, b) in let y : Option (List Line × Known) = Some (c, d) in x ≡ y) → (a ≡ c) × (b ≡ d)
pair_same a c b d e = let p = same_Some (a, b) (c, d) e in (ap (λ (q : List Line × Known). q.0) p, ap (λ (q : List Line × Known). q.1) p)

pub first_nest : (o : Option Nest) (ls : List Line) (n : Nest) → nested_all o ls ≡ Some n → (m : Nest) × (o ≡ Some m)
first_nest None ls n e = absurd (cc (sym (stays_none ls) ∙ e))
first_nest (Some m) ls n e = (m, refl)

-- the step to a line of a script
abbrev pub Goes : Known → Nest → ℕ → List ℕ → Type 0
Goes known nest threads text = (after : Known) × (behind : Nest) × (begun : ℕ) × IsStep known nest threads text after behind begun

pub goes_on : (before : List (List ℕ)) (text : List ℕ) (more : List (List ℕ)) (known : Known) (nest : Nest) (threads : ℕ) → Stood before known nest threads → IsCode (before ++ text ∷ more) → Goes known nest threads text
goes_on before text more known nest threads h code =
    let whole = code.stood in
    let all : Known = code.known in
    let c : ℕ = length all.names in
    let d : ℕ = length all.procedures in
    let p = parted all whole.said before text more (sym whole.spelled) in
    let rest : List Line = p.line ∷ p.back in
    let seen : seen_all c (Some 0) (p.front ++ rest) ≡ Some c = ap (seen_all c (Some 0)) (sym p.is) ∙ all_told c (seen_all c (Some 0) whole.said) whole.in_order in
    let begun : begun_all d (Some 0) (p.front ++ rest) ≡ Some d = ap (begun_all d (Some 0)) (sym p.is) ∙ all_told d (begun_all d (Some 0) whole.said) whole.procedures_in_order in
    let seen_front : seen_all c (seen_all c (Some 0) p.front) rest ≡ Some c = sym (seen_append c (Some 0) p.front rest) ∙ seen in
    let begun_front : begun_all d (begun_all d (Some 0) p.front) rest ≡ Some d = sym (begun_append d (Some 0) p.front rest) ∙ begun in
    let s = first_line_seen c c (seen_all c (Some 0) p.front) rest seen_front in
    let b = first_line_begun d d (begun_all d (Some 0) p.front) rest begun_front in
    let s2 = first_line_seen c c (seen_after c (Some s.0) (line_parts p.line)) p.back (ap (λ (o : Option ℕ). seen_all c o rest) (sym s.1) ∙ seen_front) in
    let b2 = first_line_begun d d (begun_after d (Some b.0) (line_parts p.line)) p.back (ap (λ (o : Option ℕ). begun_all d o rest) (sym b.1) ∙ begun_front) in
    let fits : AllByRecursion IsLine (p.front ++ rest) = (let P : List Line → Type 0 = AllByRecursion IsLine in subst P p.is whole.fits) in
    let here : IsLine p.line = (all_back IsLine p.front rest fits).0 in
    let front = front_again all 0 0 s.0 b.0 p.front (all_front IsLine p.front rest fits) whole.named (omega arith) (omega arith) s.1 b.1 in
    let read : lines_at nothing_known before ≡ Some (p.front, taken all s.0 b.0) = ap (lines_at nothing_known) (sym p.spelled) ∙ front.0 in
    let same = pair_same h.said p.front known (taken all s.0 b.0) (sym (stood_read before known nest threads h) ∙ read) in
    let again = read_again all s.0 b.0 s2.0 b2.0 p.line here whole.named front.1 front.2 s2.1 b2.1 in
    let after : Known = taken all s2.0 b2.0 in
    let words : split_at 32 text ≡ line_words all p.line = ap (split_at 32) (sym p.here) ∙ line_split (line_words all p.line) (line_is_words all p.line here whole.named) in
    let below = below_after c d s.0 s2.0 b.0 b2.0 (line_parts p.line) s2.1 b2.1 in
    let spelled : line_words after p.line ≡ line_words all p.line = line_same after all s2.0 b2.0 p.line (agree_taken all.names s2.0) (agree_taken all.procedures b2.0) below in
    let names : length after.names ≡ s2.0 = omega (arith, length-take s2.0 all.names, again.1) in
    let procedures : length after.procedures ≡ b2.0 = omega (arith, length-take b2.0 all.procedures, again.2) in
    let names_before : length (take s.0 all.names) ≡ s.0 = omega (arith, length-take s.0 all.names, front.1) in
    let procedures_before : length (take b.0 all.procedures) ≡ b.0 = omega (arith, length-take b.0 all.procedures, front.2) in
    let nested_front : nested_all (Some start) p.front ≡ Some nest = ap (nested_all (Some start)) (sym same.0) ∙ h.nested in
    let nested_rest : nested_all (nested nest p.line) p.back ≡ Some code.nest =
    sym (ap (λ (o : Option Nest). nested_all o rest) nested_front) ∙ sym (nested_append (Some start) p.front rest) ∙ ap (nested_all (Some start)) (sym p.is) ∙ whole.nested in
    let n = first_nest (nested nest p.line) p.back code.nest nested_rest in
    let counted : thread_count p.front ≡ threads = ap thread_count (sym same.0) ∙ h.counted in
    let total : thread_count p.front + (thread_of p.line + thread_count p.back) ≡ code.threads = sym (count_append p.front rest) ∙ ap thread_count (sym p.is) ∙ whole.counted in
    let few : threads + thread_of p.line ≤ 15 = omega (arith, counted, total, whole.few) in
    let step : IsStep (taken all s.0 b.0) nest threads text after n.0 (threads + thread_of p.line) = record {
      line = p.line;
      read = ap (line_at (taken all s.0 b.0)) words ∙ again.0;
      fits = here;
      spelled = ap joined spelled ∙ p.here;
      in_order =
          ap (λ (j : ℕ). seen_after j (Some (length (take s.0 all.names))) (line_parts p.line)) names
          ∙ ap (λ (j : ℕ). seen_after s2.0 (Some j) (line_parts p.line)) names_before
          ∙ recount_after c s2.0 s.0 s2.0 (line_parts p.line) s2.1 (omega arith)
          ∙ ap (λ (j : ℕ). let o : Option ℕ = Some j in o) (sym names);
      procedures_in_order =
          ap (λ (j : ℕ). begun_after j (Some (length (take b.0 all.procedures))) (line_parts p.line)) procedures
          ∙ ap (λ (j : ℕ). begun_after b2.0 (Some j) (line_parts p.line)) procedures_before
          ∙ begun_recount_after d b2.0 b.0 b2.0 (line_parts p.line) b2.1 (omega arith)
          ∙ ap (λ (j : ℕ). let o : Option ℕ = Some j in o) (sym procedures);
      nests = n.1;
      counted = refl;
      few = few;
    } in
    let P : Known → Type 0 = λ k. IsStep k nest threads text after n.0 (threads + thread_of p.line) in
    (after, n.0, threads + thread_of p.line, subst P (sym same.1) step)
