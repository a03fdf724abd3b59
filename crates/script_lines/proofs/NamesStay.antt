-- Names that come later change no word of a line before.
use Rattle.std.proofs.Common.{◌≡◌, ℕ, zero, suc, ◌+◌, ◌≤◌, ◌<◌, true, false, List, [], ◌∷◌, ◌++◌, length, Option, Some, None, refl, ap, sym, ◌∙◌, take, get_or, arith, length-append, append-nil, append_assoc, subst, inl, inr}
use Rattle.std.specs.Prelude.{map, nat_lt, ◌==◌, ◌&&◌, if◌then◌else◌, ⊤}
use Rattle.std.specs.List.{AllByRecursion}
use Rattle.std.proofs.lemmas.Bool.{and_from, cases_Bool}
use Rattle.std.proofs.lemmas.Bool.Decides.{nat_tests}
use Rattle.std.proofs.lemmas.Option.{same_Some}
use Rattle.script_lines.specs.declared.line.Line.{Line}
use Rattle.statement_table.specs.declared.part.Part.{Part}
use Rattle.statement_table.specs.declared.part.Part.TheVariants as parts
use Rattle.statement_table.specs.declared.part.Place.{Place}
use Rattle.statement_table.specs.declared.part.Place.TheVariants as places
use Rattle.script_lines.specs.Known.{Known}
use Rattle.script_lines.specs.LineLimits.{IsLine}
use Rattle.script_lines.specs.LineParts.{line_command, line_parts, made_line}
use Rattle.script_lines.specs.LineReading.{◌>>=◌, Names, split_at, word_at, place_in, new_place, place_or_new, name_at, with_names, absent_or_none, with_procedures, begun_at, procedure_at, letter_at, operand_at, operator_at, comparison_at, part_at, parts_from, line_at, lines_at}
use Rattle.script_lines.specs.LineTexts.{joined}
use Rattle.script_lines.specs.NameLimits.{AreKnown, is_name, seen_with, seen_with_part, seen_after, seen_all, begun_with, begun_with_part, begun_after, begun_all}
use Rattle.script_lines.specs.Rows.{command_word, command_at, command_places}
use Rattle.script_lines.specs.Words.{part_word, line_words}
use Rattle.script_lines.proofs.LineLoops.{one_step}
use Rattle.script_lines.proofs.TextsAgain.{line_is_words, line_split}
use Rattle.script_lines.proofs.LinesAgain.{taken, Seen, seen_cases, begun_told, next_told, first_part_seen, first_part_begun, read_again, none_seen, none_begun}

-- ---- the words of parts that name only what both lists have

abbrev pub AgreeBelow : ℕ → Names → Names → Type 0
AgreeBelow n a b = (k : ℕ) → k < n → get_or a k [] ≡ get_or b k []

abbrev pub IsBelow : ℕ → ℕ → Part → Type 0
IsBelow n p (parts.Letter v) = ⊤
IsBelow n p (parts.Operand a) = ⊤
IsBelow n p (parts.Operator op) = ⊤
IsBelow n p (parts.Comparison c) = ⊤
IsBelow n p (parts.Name k) = k < n
IsBelow n p (parts.Beginning k) = k < p
IsBelow n p (parts.Procedure k) = k < p

abbrev pub AreBelow : ℕ → ℕ → List Part → Type 0
AreBelow n p ps = AllByRecursion (IsBelow n p) ps

part_same : (a b : Known) (n p : ℕ) (part : Part) → AgreeBelow n a.names b.names → AgreeBelow p a.procedures b.procedures → IsBelow n p part → part_word a part ≡ part_word b part
part_same a b n p (parts.Letter v) names procedures h = refl
part_same a b n p (parts.Operand x) names procedures h = refl
part_same a b n p (parts.Operator op) names procedures h = refl
part_same a b n p (parts.Comparison c) names procedures h = refl
part_same a b n p (parts.Name k) names procedures h = names k h
part_same a b n p (parts.Beginning k) names procedures h = procedures k h
part_same a b n p (parts.Procedure k) names procedures h = procedures k h

parts_same : (a b : Known) (n p : ℕ) (ps : List Part) → AgreeBelow n a.names b.names → AgreeBelow p a.procedures b.procedures → AreBelow n p ps → map (part_word a) ps ≡ map (part_word b) ps
parts_same a b n p [] names procedures h = refl
parts_same a b n p (part ∷ ps) names procedures h =
    ap (λ (w : List ℕ). w ∷ map (part_word a) ps) (part_same a b n p part names procedures h.0)
    ∙ ap (λ (l : List (List ℕ)). part_word b part ∷ l) (parts_same a b n p ps names procedures h.1)

pub line_same : (a b : Known) (n p : ℕ) (l : Line) → AgreeBelow n a.names b.names → AgreeBelow p a.procedures b.procedures → AreBelow n p (line_parts l) → line_words a l ≡ line_words b l
line_same a b n p l names procedures h = ap (λ (ws : List (List ℕ)). command_word (line_command l) ∷ ws) (parts_same a b n p (line_parts l) names procedures h)

abbrev pub LinesBelow : ℕ → ℕ → List Line → Type 0
LinesBelow n p ls = AllByRecursion (λ l. AreBelow n p (line_parts l)) ls

pub lines_same : (a b : Known) (n p : ℕ) (ls : List Line) → AgreeBelow n a.names b.names → AgreeBelow p a.procedures b.procedures → LinesBelow n p ls → map (line_words a) ls ≡ map (line_words b) ls
lines_same a b n p [] names procedures h = refl
lines_same a b n p (l ∷ ls) names procedures h =
    ap (λ (w : List (List ℕ)). w ∷ map (line_words a) ls) (line_same a b n p l names procedures h.0)
    ∙ ap (λ (t : List (List (List ℕ))). line_words b l ∷ t) (lines_same a b n p ls names procedures h.1)

-- ---- counts grow, and hold for each count that they don't pass

lt_true : (a b : ℕ) → a < b → nat_lt a b ≡ true
lt_true a b h = grind (arith, nat_tests)

lt_false : (a b : ℕ) → b ≤ a → nat_lt a b ≡ false
lt_false a b h = grind (arith, nat_tests)

eq_true : (a b : ℕ) → a ≡ b → (a == b) ≡ true
eq_true a b h = grind (arith, nat_tests, h)

seen_from : (count n m k : ℕ) → Seen count n m k → seen_with count (Some n) k ≡ Some m
seen_from count n m k (inl old) =
    let e : nat_lt k n ≡ true = lt_true k n old.0 in
    let f : seen_with count (Some n) k ≡ Some n = rw e refl in
    f ∙ ap (λ (j : ℕ). let o : Option ℕ = Some j in o) (sym old.1)
seen_from count n m k (inr new) =
    let miss : nat_lt k n ≡ false = lt_false k n (omega (arith, new.0)) in
    let next : ((k == n) && nat_lt n count) ≡ true = and_from _ _ (eq_true k n new.0) (lt_true n count new.2) in
    let f : seen_with count (Some n) k ≡ Some (n + 1) = rw (miss, next) refl in
    f ∙ ap (λ (j : ℕ). let o : Option ℕ = Some j in o) (sym new.1)

seen_grows : (count n m k : ℕ) → Seen count n m k → n ≤ m
seen_grows count n m k (inl old) = omega (arith, old.1)
seen_grows count n m k (inr new) = omega (arith, new.1)

seen_recounted : (count more n m k : ℕ) → Seen count n m k → m ≤ more → Seen more n m k
seen_recounted count more n m k (inl old) h = inl old
seen_recounted count more n m k (inr new) h = inr (new.0, new.1, omega (arith, new.1, h))

seen_below : (count n m k : ℕ) → Seen count n m k → k < m
seen_below count n m k (inl old) = omega (arith, old.0, old.1)
seen_below count n m k (inr new) = omega (arith, new.0, new.1)

grows_with : (count n m : ℕ) (part : Part) → seen_with_part count (Some n) part ≡ Some m → n ≤ m
grows_with count n m (parts.Letter v) e = omega (arith, same_Some n m e)
grows_with count n m (parts.Operand a) e = omega (arith, same_Some n m e)
grows_with count n m (parts.Operator op) e = omega (arith, same_Some n m e)
grows_with count n m (parts.Comparison c) e = omega (arith, same_Some n m e)
grows_with count n m (parts.Name k) e = seen_grows count n m k (seen_cases count n m k e)
grows_with count n m (parts.Beginning k) e = omega (arith, same_Some n m e)
grows_with count n m (parts.Procedure k) e = omega (arith, same_Some n m e)

recount_with : (count more n m : ℕ) (part : Part) → seen_with_part count (Some n) part ≡ Some m → m ≤ more → seen_with_part more (Some n) part ≡ Some m
recount_with count more n m (parts.Letter v) e h = e
recount_with count more n m (parts.Operand a) e h = e
recount_with count more n m (parts.Operator op) e h = e
recount_with count more n m (parts.Comparison c) e h = e
recount_with count more n m (parts.Name k) e h = seen_from more n m k (seen_recounted count more n m k (seen_cases count n m k e) h)
recount_with count more n m (parts.Beginning k) e h = e
recount_with count more n m (parts.Procedure k) e h = e

pub grows_after : (count n m : ℕ) (ps : List Part) → seen_after count (Some n) ps ≡ Some m → n ≤ m
grows_after count n m [] e = omega (arith, same_Some n m e)
grows_after count n m (part ∷ ps) e =
    let first = first_part_seen count m (seen_with_part count (Some n) part) ps e in
    let rest = grows_after count first.0 m ps (ap (λ (o : Option ℕ). seen_after count o ps) (sym first.1) ∙ e) in
    omega (arith, grows_with count n first.0 part first.1, rest)

pub recount_after : (count more n m : ℕ) (ps : List Part) → seen_after count (Some n) ps ≡ Some m → m ≤ more → seen_after more (Some n) ps ≡ Some m
recount_after count more n m [] e h = e
recount_after count more n m (part ∷ ps) e h =
    let first = first_part_seen count m (seen_with_part count (Some n) part) ps e in
    let rest : seen_after count (Some first.0) ps ≡ Some m = ap (λ (o : Option ℕ). seen_after count o ps) (sym first.1) ∙ e in
    let here = recount_with count more n first.0 part first.1 (omega (arith, grows_after count first.0 m ps rest, h)) in
    ap (λ (o : Option ℕ). seen_after more o ps) here ∙ recount_after count more first.0 m ps rest h

-- the same for procedures
begun_from : (count n k : ℕ) → k ≡ n → n < count → begun_with count (Some n) k ≡ Some (n + 1)
begun_from count n k e h =
    let next : ((k == n) && nat_lt n count) ≡ true = and_from _ _ (eq_true k n e) (lt_true n count h) in
    rw next refl

begun_grows_with : (count n m : ℕ) (part : Part) → begun_with_part count (Some n) part ≡ Some m → n ≤ m
begun_grows_with count n m (parts.Letter v) e = omega (arith, same_Some n m e)
begun_grows_with count n m (parts.Operand a) e = omega (arith, same_Some n m e)
begun_grows_with count n m (parts.Operator op) e = omega (arith, same_Some n m e)
begun_grows_with count n m (parts.Comparison c) e = omega (arith, same_Some n m e)
begun_grows_with count n m (parts.Name k) e = omega (arith, same_Some n m e)
begun_grows_with count n m (parts.Beginning k) e = omega (arith, (next_told count n m k e).2)
begun_grows_with count n m (parts.Procedure k) e = omega (arith, same_Some n m (begun_told n m k e).1)

begun_recount_with : (count more n m : ℕ) (part : Part) → begun_with_part count (Some n) part ≡ Some m → m ≤ more → begun_with_part more (Some n) part ≡ Some m
begun_recount_with count more n m (parts.Letter v) e h = e
begun_recount_with count more n m (parts.Operand a) e h = e
begun_recount_with count more n m (parts.Operator op) e h = e
begun_recount_with count more n m (parts.Comparison c) e h = e
begun_recount_with count more n m (parts.Name k) e h = e
begun_recount_with count more n m (parts.Beginning k) e h =
    let told = next_told count n m k e in
    begun_from more n k told.0 (omega (arith, told.2, h)) ∙ ap (λ (j : ℕ). let o : Option ℕ = Some j in o) (sym told.2)
begun_recount_with count more n m (parts.Procedure k) e h = e

pub begun_grows_after : (count n m : ℕ) (ps : List Part) → begun_after count (Some n) ps ≡ Some m → n ≤ m
begun_grows_after count n m [] e = omega (arith, same_Some n m e)
begun_grows_after count n m (part ∷ ps) e =
    let first = first_part_begun count m (begun_with_part count (Some n) part) ps e in
    let rest = begun_grows_after count first.0 m ps (ap (λ (o : Option ℕ). begun_after count o ps) (sym first.1) ∙ e) in
    omega (arith, begun_grows_with count n first.0 part first.1, rest)

pub begun_recount_after : (count more n m : ℕ) (ps : List Part) → begun_after count (Some n) ps ≡ Some m → m ≤ more → begun_after more (Some n) ps ≡ Some m
begun_recount_after count more n m [] e h = e
begun_recount_after count more n m (part ∷ ps) e h =
    let first = first_part_begun count m (begun_with_part count (Some n) part) ps e in
    let rest : begun_after count (Some first.0) ps ≡ Some m = ap (λ (o : Option ℕ). begun_after count o ps) (sym first.1) ∙ e in
    let here = begun_recount_with count more n first.0 part first.1 (omega (arith, begun_grows_after count first.0 m ps rest, h)) in
    ap (λ (o : Option ℕ). begun_after more o ps) here ∙ begun_recount_after count more first.0 m ps rest h

-- ---- what is named is below the counts after it

below_with : (count begun n m p q : ℕ) (part : Part) → seen_with_part count (Some n) part ≡ Some m → begun_with_part begun (Some p) part ≡ Some q → IsBelow m q part
below_with count begun n m p q (parts.Letter v) e1 e2 = tt
below_with count begun n m p q (parts.Operand a) e1 e2 = tt
below_with count begun n m p q (parts.Operator op) e1 e2 = tt
below_with count begun n m p q (parts.Comparison c) e1 e2 = tt
below_with count begun n m p q (parts.Name k) e1 e2 = seen_below count n m k (seen_cases count n m k e1)
below_with count begun n m p q (parts.Beginning k) e1 e2 = let told = next_told begun p q k e2 in omega (arith, told.0, told.2)
below_with count begun n m p q (parts.Procedure k) e1 e2 = let told = begun_told p q k e2 in omega (arith, told.0, same_Some p q told.1)

further_below : (n p m q : ℕ) (part : Part) → n ≤ m → p ≤ q → IsBelow n p part → IsBelow m q part
further_below n p m q (parts.Letter v) a b h = tt
further_below n p m q (parts.Operand x) a b h = tt
further_below n p m q (parts.Operator op) a b h = tt
further_below n p m q (parts.Comparison c) a b h = tt
further_below n p m q (parts.Name k) a b h = omega (arith, a, h)
further_below n p m q (parts.Beginning k) a b h = omega (arith, b, h)
further_below n p m q (parts.Procedure k) a b h = omega (arith, b, h)

all_further_below : (n p m q : ℕ) (ps : List Part) → n ≤ m → p ≤ q → AreBelow n p ps → AreBelow m q ps
all_further_below n p m q [] a b h = tt
all_further_below n p m q (part ∷ ps) a b h = (further_below n p m q part a b h.0, all_further_below n p m q ps a b h.1)

pub below_after : (count begun n m p q : ℕ) (ps : List Part) → seen_after count (Some n) ps ≡ Some m → begun_after begun (Some p) ps ≡ Some q → AreBelow m q ps
below_after count begun n m p q [] e1 e2 = tt
below_after count begun n m p q (part ∷ ps) e1 e2 =
    let s = first_part_seen count m (seen_with_part count (Some n) part) ps e1 in
    let b = first_part_begun begun q (begun_with_part begun (Some p) part) ps e2 in
    let more : seen_after count (Some s.0) ps ≡ Some m = ap (λ (o : Option ℕ). seen_after count o ps) (sym s.1) ∙ e1 in
    let rest : begun_after begun (Some b.0) ps ≡ Some q = ap (λ (o : Option ℕ). begun_after begun o ps) (sym b.1) ∙ e2 in
    (further_below s.0 b.0 m q part (grows_after count s.0 m ps more) (begun_grows_after begun b.0 q ps rest) (below_with count begun n s.0 p b.0 part s.1 b.1), below_after count begun s.0 m b.0 q ps more rest)

-- ---- the same for lines

pub first_line_seen : (count m : ℕ) (o : Option ℕ) (ls : List Line) → seen_all count o ls ≡ Some m → (i : ℕ) × (o ≡ Some i)
first_line_seen count m None ls e = absurd (cc (sym (none_seen count ls) ∙ e))
first_line_seen count m (Some i) ls e = (i, refl)

pub first_line_begun : (count m : ℕ) (o : Option ℕ) (ls : List Line) → begun_all count o ls ≡ Some m → (i : ℕ) × (o ≡ Some i)
first_line_begun count m None ls e = absurd (cc (sym (none_begun count ls) ∙ e))
first_line_begun count m (Some i) ls e = (i, refl)

pub grows_all : (count n m : ℕ) (ls : List Line) → seen_all count (Some n) ls ≡ Some m → n ≤ m
grows_all count n m [] e = omega (arith, same_Some n m e)
grows_all count n m (l ∷ ls) e =
    let first = first_line_seen count m (seen_after count (Some n) (line_parts l)) ls e in
    let rest = grows_all count first.0 m ls (ap (λ (o : Option ℕ). seen_all count o ls) (sym first.1) ∙ e) in
    omega (arith, grows_after count n first.0 (line_parts l) first.1, rest)

pub begun_grows_all : (count n m : ℕ) (ls : List Line) → begun_all count (Some n) ls ≡ Some m → n ≤ m
begun_grows_all count n m [] e = omega (arith, same_Some n m e)
begun_grows_all count n m (l ∷ ls) e =
    let first = first_line_begun count m (begun_after count (Some n) (line_parts l)) ls e in
    let rest = begun_grows_all count first.0 m ls (ap (λ (o : Option ℕ). begun_all count o ls) (sym first.1) ∙ e) in
    omega (arith, begun_grows_after count n first.0 (line_parts l) first.1, rest)

pub recount_all : (count more n m : ℕ) (ls : List Line) → seen_all count (Some n) ls ≡ Some m → m ≤ more → seen_all more (Some n) ls ≡ Some m
recount_all count more n m [] e h = e
recount_all count more n m (l ∷ ls) e h =
    let first = first_line_seen count m (seen_after count (Some n) (line_parts l)) ls e in
    let rest : seen_all count (Some first.0) ls ≡ Some m = ap (λ (o : Option ℕ). seen_all count o ls) (sym first.1) ∙ e in
    let here = recount_after count more n first.0 (line_parts l) first.1 (omega (arith, grows_all count first.0 m ls rest, h)) in
    ap (λ (o : Option ℕ). seen_all more o ls) here ∙ recount_all count more first.0 m ls rest h

pub begun_recount_all : (count more n m : ℕ) (ls : List Line) → begun_all count (Some n) ls ≡ Some m → m ≤ more → begun_all more (Some n) ls ≡ Some m
begun_recount_all count more n m [] e h = e
begun_recount_all count more n m (l ∷ ls) e h =
    let first = first_line_begun count m (begun_after count (Some n) (line_parts l)) ls e in
    let rest : begun_all count (Some first.0) ls ≡ Some m = ap (λ (o : Option ℕ). begun_all count o ls) (sym first.1) ∙ e in
    let here = begun_recount_after count more n first.0 (line_parts l) first.1 (omega (arith, begun_grows_all count first.0 m ls rest, h)) in
    ap (λ (o : Option ℕ). begun_all more o ls) here ∙ begun_recount_all count more first.0 m ls rest h

lines_further_below : (n p m q : ℕ) (ls : List Line) → n ≤ m → p ≤ q → LinesBelow n p ls → LinesBelow m q ls
lines_further_below n p m q [] a b h = tt
lines_further_below n p m q (l ∷ ls) a b h = (all_further_below n p m q (line_parts l) a b h.0, lines_further_below n p m q ls a b h.1)

pub below_all : (count begun n m p q : ℕ) (ls : List Line) → seen_all count (Some n) ls ≡ Some m → begun_all begun (Some p) ls ≡ Some q → LinesBelow m q ls
below_all count begun n m p q [] e1 e2 = tt
below_all count begun n m p q (l ∷ ls) e1 e2 =
    let s = first_line_seen count m (seen_after count (Some n) (line_parts l)) ls e1 in
    let b = first_line_begun begun q (begun_after begun (Some p) (line_parts l)) ls e2 in
    let more : seen_all count (Some s.0) ls ≡ Some m = ap (λ (o : Option ℕ). seen_all count o ls) (sym s.1) ∙ e1 in
    let rest : begun_all begun (Some b.0) ls ≡ Some q = ap (λ (o : Option ℕ). begun_all begun o ls) (sym b.1) ∙ e2 in
    let here = below_after count begun n s.0 p b.0 (line_parts l) s.1 b.1 in
    (all_further_below s.0 b.0 m q (line_parts l) (grows_all count s.0 m ls more) (begun_grows_all begun b.0 q ls rest) here, below_all count begun s.0 m b.0 q ls more rest)

pub seen_append : (count : ℕ) (o : Option ℕ) (a b : List Line) → seen_all count o (a ++ b) ≡ seen_all count (seen_all count o a) b
seen_append count o [] b = refl
seen_append count o (l ∷ a) b = seen_append count (seen_after count o (line_parts l)) a b

pub begun_append : (count : ℕ) (o : Option ℕ) (a b : List Line) → begun_all count o (a ++ b) ≡ begun_all count (begun_all count o a) b
begun_append count o [] b = refl
begun_append count o (l ∷ a) b = begun_append count (begun_after count o (line_parts l)) a b

-- ---- the front of lines that were written is read again

pub front_again : (known : Known) (n p m q : ℕ) (ls : List Line) → AllByRecursion IsLine ls → AreKnown known → n ≤ length known.names → p ≤ length known.procedures
    → seen_all (length known.names) (Some n) ls ≡ Some m → begun_all (length known.procedures) (Some p) ls ≡ Some q
    → (lines_at (taken known n p) (map joined (map (line_words known) ls)) ≡ Some (ls, taken known m q)) × (m ≤ length known.names) × (q ≤ length known.procedures)
unfolding lines_at
front_again known n p m q [] fits h wn wp e1 e2 =
    let a : n ≡ m = same_Some n m e1 in
    let b : p ≡ q = same_Some p q e2 in
    (ap (λ (j : ℕ). let o : Option (List Line × Known) = Some ([], taken known j p) in o) a ∙ ap (λ (j : ℕ). let o : Option (List Line × Known) = Some ([], taken known m j) in o) b, omega (arith, a, wn), omega (arith, b, wp))
front_again known n p m q (l ∷ ls) fits h wn wp e1 e2 =
    let s = first_line_seen (length known.names) m (seen_after (length known.names) (Some n) (line_parts l)) ls e1 in
    let b = first_line_begun (length known.procedures) q (begun_after (length known.procedures) (Some p) (line_parts l)) ls e2 in
    let again = read_again known n p s.0 b.0 l fits.0 h wn wp s.1 b.1 in
    let more : List (List ℕ) = map joined (map (line_words known) ls) in
    let read : line_at (taken known n p) (split_at 32 (joined (line_words known l))) ≡ Some (l, taken known s.0 b.0) = ap (line_at (taken known n p)) (line_split (line_words known l) (line_is_words known l fits.0 h)) ∙ again.0 in
    let rest =
    front_again known s.0 b.0 m q ls fits.1 h again.1 again.2
    (ap (λ (o : Option ℕ). seen_all (length known.names) o ls) (sym s.1) ∙ e1)
    (ap (λ (o : Option ℕ). begun_all (length known.procedures) o ls) (sym b.1) ∙ e2) in (
      one_step (taken known n p) (joined (line_words known l)) more (Some (l, taken known s.0 b.0)) read
          ∙ ap (λ (o : Option (List Line × Known)). o >>= λ others. Some (l ∷ others.0, others.1)) rest.0,
      rest.1,
      rest.2,
    )

-- ---- a line only adds names

pub record Extends (a b : Known) : Type 0 where
  pub names : (xs : Names) × (b.names ≡ a.names ++ xs)
  pub procedures : (xs : Names) × (b.procedures ≡ a.procedures ++ xs)

unchanged : (a : Known) → Extends a a
unchanged a = record { names = ([], sym (append-nil a.names)); procedures = ([], sym (append-nil a.procedures)) }

along : (a b c : Known) → Extends a b → Extends b c → Extends a c
along a b c h k = record {
  names = (h.names.0 ++ k.names.0, k.names.1 ∙ ap (λ (l : Names). l ++ k.names.0) h.names.1 ∙ append_assoc a.names h.names.0 k.names.0);
  procedures = (h.procedures.0 ++ k.procedures.0, k.procedures.1 ∙ ap (λ (l : Names). l ++ k.procedures.0) h.procedures.1 ∙ append_assoc a.procedures h.procedures.0 k.procedures.0);
}

-- what comes of something that was found
bind_some : {A B : Type 0} (o : Option A) (f : A → Option B) (y : B) → (o >>= f) ≡ Some y → (x : A) × (o ≡ Some x) × (f x ≡ Some y)
bind_some None f y e = absurd (cc e)
bind_some (Some x) f y e = (x, refl, e)

known_told : {A : Type 0} (x y : A) (a b : Known) → (let o : Option (A × Known) = Some (x, a) in let p : Option (A × Known) = Some (y, b) in o ≡ p) → a ≡ b
known_told {A = A} x y a b e = ap (λ (z : A × Known). z.1) (same_Some (x, a) (y, b) e)

extends_to : (a b c : Known) → Extends a b → b ≡ c → Extends a c
extends_to a b c h e = let P : Known → Type 0 = Extends a in subst P e h

new_told : (limit : ℕ) (names : Names) (word : List ℕ) (k : ℕ) (after : Names) → new_place limit names word ≡ Some (k, after) → after ≡ names ++ word ∷ []
unfolding new_place
new_told limit names word k after e = elim (cases_Bool (is_name word && nat_lt (length names) limit)) [
  | inl hit ↦
      let f : (let o : Option (ℕ × Names) = if is_name word && nat_lt (length names) limit then Some (length names, names ++ word ∷ []) else None in o) ≡ Some (length names, names ++ word ∷ []) = rw hit refl in
      let same = same_Some (length names, names ++ word ∷ []) (k, after) (sym f ∙ e) in
      sym (ap (λ (z : ℕ × Names). z.1) same)
  | inr miss ↦
      let f : (let o : Option (ℕ × Names) = if is_name word && nat_lt (length names) limit then Some (length names, names ++ word ∷ []) else None in o) ≡ None = rw miss refl in
      absurd (cc (e, f))
]

names_extend : (a b : Known) (word : List ℕ) (k : ℕ) (o : Option ℕ) → with_names a (place_or_new o a.names word) ≡ Some (k, b) → Extends a b
names_extend a b word k (Some n) e = extends_to a a b (unchanged a) (known_told n k a b e)
names_extend a b word k None e = new_names a b word k (new_place 1024 a.names word) refl e
  where
    new_names : (a b : Known) (word : List ℕ) (k : ℕ) (o : Option (ℕ × Names)) → new_place 1024 a.names word ≡ o → with_names a o ≡ Some (k, b) → Extends a b
    new_names a b word k None found e = absurd (cc e)
    new_names a b word k (Some x) found e =
        let after : Known = record a { names = x.1 } in
        let grown : Extends a after = record { names = (word ∷ [], new_told 1024 a.names word x.0 x.1 found); procedures = ([], sym (append-nil a.procedures)) } in
        extends_to a after b grown (known_told x.0 k after b e)

procedures_extend : (a b : Known) (word : List ℕ) (k : ℕ) (o : Option ℕ) → with_procedures a (absent_or_none o a.procedures word) ≡ Some (k, b) → Extends a b
procedures_extend a b word k (Some n) e = absurd (cc e)
procedures_extend a b word k None e = new_procedure a b word k (new_place 64 a.procedures word) refl e
  where
    new_procedure : (a b : Known) (word : List ℕ) (k : ℕ) (o : Option (ℕ × Names)) → new_place 64 a.procedures word ≡ o → with_procedures a o ≡ Some (k, b) → Extends a b
    new_procedure a b word k None found e = absurd (cc e)
    new_procedure a b word k (Some x) found e =
        let after : Known = record a { procedures = x.1 } in
        let grown : Extends a after = record { names = ([], sym (append-nil a.names)); procedures = (word ∷ [], new_told 64 a.procedures word x.0 x.1 found) } in
        extends_to a after b grown (known_told x.0 k after b e)

name_extends : (a b : Known) (word : List ℕ) (k : ℕ) → name_at a word ≡ Some (k, b) → Extends a b
unfolding name_at
name_extends a b word k e = names_extend a b word k (place_in a.names word) e

begun_extends : (a b : Known) (word : List ℕ) (k : ℕ) → begun_at a word ≡ Some (k, b) → Extends a b
unfolding begun_at
begun_extends a b word k e = procedures_extend a b word k (place_in a.procedures word) e

part_extends : (a b : Known) (place : Place) (word : List ℕ) (part : Part) → part_at a place word ≡ Some (part, b) → Extends a b
part_extends a b places.Letter word part e = let s = bind_some (letter_at word) (λ v. let o : Option (Part × Known) = Some (parts.Letter v, a) in o) (part, b) e in extends_to a a b (unchanged a) (known_told (parts.Letter s.0) part a b s.2)
part_extends a b places.Operand word part e = let s = bind_some (operand_at word) (λ v. let o : Option (Part × Known) = Some (parts.Operand v, a) in o) (part, b) e in extends_to a a b (unchanged a) (known_told (parts.Operand s.0) part a b s.2)
part_extends a b places.Operator word part e = let s = bind_some (operator_at word) (λ v. let o : Option (Part × Known) = Some (parts.Operator v, a) in o) (part, b) e in extends_to a a b (unchanged a) (known_told (parts.Operator s.0) part a b s.2)
part_extends a b places.Comparison word part e = let s = bind_some (comparison_at word) (λ v. let o : Option (Part × Known) = Some (parts.Comparison v, a) in o) (part, b) e in extends_to a a b (unchanged a) (known_told (parts.Comparison s.0) part a b s.2)
part_extends a b places.Name word part e =
    let s = bind_some (name_at a word) (λ x. let o : Option (Part × Known) = Some (parts.Name x.0, x.1) in o) (part, b) e in
    extends_to a s.0.1 b (name_extends a s.0.1 word s.0.0 s.1) (known_told (parts.Name s.0.0) part s.0.1 b s.2)
part_extends a b places.Beginning word part e =
    let s = bind_some (begun_at a word) (λ x. let o : Option (Part × Known) = Some (parts.Beginning x.0, x.1) in o) (part, b) e in
    extends_to a s.0.1 b (begun_extends a s.0.1 word s.0.0 s.1) (known_told (parts.Beginning s.0.0) part s.0.1 b s.2)
part_extends a b places.Procedure word part e = let s = bind_some (procedure_at a word) (λ k. let o : Option (Part × Known) = Some (parts.Procedure k, a) in o) (part, b) e in extends_to a a b (unchanged a) (known_told (parts.Procedure s.0) part a b s.2)

parts_extend : (a b : Known) (all : List Place) (words : List (List ℕ)) (k : ℕ) (ps : List Part) → parts_from a all words k ≡ Some (ps, b) → Extends a b
unfolding parts_from
parts_extend a b [] words k ps e = let none : List Part = [] in extends_to a a b (unchanged a) (known_told none ps a b e)
parts_extend a b (place ∷ more) words k ps e =
    let first = bind_some (part_at a place (word_at words k)) (λ x. parts_from x.1 more words (k + 1) >>= λ others. let o : Option (List Part × Known) = Some (x.0 ∷ others.0, others.1) in o) (ps, b) e in
    let rest = bind_some (parts_from first.0.1 more words (k + 1)) (λ others. let o : Option (List Part × Known) = Some (first.0.0 ∷ others.0, others.1) in o) (ps, b) first.2 in
    let here = part_extends a first.0.1 place (word_at words k) first.0.0 first.1 in
    let behind = parts_extend first.0.1 rest.0.1 more words (k + 1) rest.0.0 rest.1 in
    extends_to a rest.0.1 b (along a first.0.1 rest.0.1 here behind) (known_told (first.0.0 ∷ rest.0.0) ps rest.0.1 b rest.2)

pub line_extends : (a b : Known) (words : List (List ℕ)) (l : Line) → line_at a words ≡ Some (l, b) → Extends a b
unfolding line_at
line_extends a b words l e =
    let c = bind_some (command_at (word_at words 0) (length words)) (λ command. parts_from a (command_places command) words 1 >>= λ x. made_line command x.0 >>= λ m. let o : Option (Line × Known) = Some (m, x.1) in o) (l, b) e in
    let ps = bind_some (parts_from a (command_places c.0) words 1) (λ x. made_line c.0 x.0 >>= λ m. let o : Option (Line × Known) = Some (m, x.1) in o) (l, b) c.2 in
    let made = bind_some (made_line c.0 ps.0.0) (λ m. let o : Option (Line × Known) = Some (m, ps.0.1) in o) (l, b) ps.2 in
    extends_to a ps.0.1 b (parts_extend a ps.0.1 (command_places c.0) words 1 ps.0.0 ps.1) (known_told made.0 l ps.0.1 b made.2)

-- ---- lists that agree

append_at : (xs ys : Names) (k : ℕ) → k < length xs → get_or xs k [] ≡ get_or (xs ++ ys) k []
append_at [] ys k h = absurd (omega arith)
append_at (x ∷ xs) ys zero h = refl
append_at (x ∷ xs) ys (suc k) h = append_at xs ys k (omega (arith, h))

pub agree_longer : (a b xs : Names) → b ≡ a ++ xs → AgreeBelow (length a) a b
agree_longer a b xs e = λ k h. append_at a xs k h ∙ ap (λ (l : Names). get_or l k []) (sym e)

take_at : (xs : Names) (n k : ℕ) → k < n → get_or (take n xs) k [] ≡ get_or xs k []
take_at xs zero k h = absurd (omega arith)
take_at [] (suc n) k h = refl
take_at (x ∷ xs) (suc n) zero h = refl
take_at (x ∷ xs) (suc n) (suc k) h = take_at xs n k (omega (arith, h))

pub agree_taken : (xs : Names) (n : ℕ) → AgreeBelow n (take n xs) xs
agree_taken xs n = λ k h. take_at xs n k h

pub longer : (a b xs : Names) → b ≡ a ++ xs → length a ≤ length b
longer a b xs e = omega (arith, ap length e, length-append a xs)
