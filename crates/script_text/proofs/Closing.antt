-- Whatever stands at the front of a script can be completed.
use Rattle.std.proofs.Common.{◌≡◌, ℕ, zero, suc, ◌+◌, ◌≤◌, Bool, true, false, not, List, [], ◌∷◌, ◌++◌, length, drop, Option, Some, None, refl, ap, sym, ◌∙◌, arith, append_assoc, append-nil, length-append, subst, inl, inr}
use Rattle.std.specs.Prelude.{map, ◌==◌, ◌&&◌, nat_lt, if◌then◌else◌}
use Rattle.std.specs.List.{AllByRecursion, list_any}
use Rattle.std.proofs.lemmas.Bool.{false≢true, and_parts, and_from, cases_Bool}
use Rattle.std.proofs.lemmas.List.{map-append}
use Rattle.std.proofs.lemmas.Option.{same_Some}
use Rattle.script_lines.specs.declared.line.Line.{Line}
use Rattle.script_lines.specs.declared.line.Line.TheVariants as lines
use Rattle.statement_table.specs.declared.part.Part.{Part}
use Rattle.script_lines.specs.Known.{Known}
use Rattle.script_lines.specs.LineLimits.{IsPart, IsLine}
use Rattle.script_lines.specs.LineParts.{line_parts}
use Rattle.script_lines.specs.LineTexts.{joined}
use Rattle.script_lines.specs.NameLimits.{seen_after, seen_all, begun_after, begun_all}
use Rattle.script_lines.specs.Words.{line_words}
use Rattle.script_lines.proofs.NamesStay.{seen_append, begun_append}
use Rattle.script_text.specs.declared.head.HeadLine.{HeadLine}
use Rattle.script_text.specs.declared.head.HeadLine.TheVariants as heads
use Rattle.script_text.specs.Grammar.{Stood, IsCode, IsText, Begins, Front, thread_count, AreHeads, all_heads, head_text, are_head_numbers}
use Rattle.script_text.specs.Nesting.{Kind, InProcedure, InThread, InIf, InElse, InWhile, Nest, is_procedure, nested, nested_all, start, with_kinds, block_entered, block_opened, top_opened, else_opened, procedure_entered, procedure_opened, closed}
use Rattle.script_text.proofs.Steps.{Texts, all_told, all_from, nested_append, count_append, first_nest}

-- ---- what stands open: blocks on one procedure or thread

abbrev is_top : Kind → Bool
is_top (InProcedure k) = true
is_top InThread = true
is_top InIf = false
is_top InElse = false
is_top InWhile = false

abbrev is_pile : List Kind → Bool
is_pile [] = true
is_pile (k ∷ []) = is_top k
is_pile (k ∷ j ∷ ks) = not (is_top k) && is_pile (j ∷ ks)

pile_along : (n m : Nest) (ks : List Kind) → is_pile ks ≡ true → with_kinds n (Some ks) ≡ Some m → is_pile m.kinds ≡ true
pile_along n m ks h e = let P : Nest → Type 0 = λ x. is_pile x.kinds ≡ true in subst P (same_Some (record n { kinds = ks }) m e) h

pile_entered : (n m : Nest) (ks : List Kind) → is_pile ks ≡ true → with_kinds n (block_entered ks) ≡ Some m → is_pile m.kinds ≡ true
pile_entered n m [] h e = absurd (cc e)
pile_entered n m (k ∷ ks) h e = pile_along n m (k ∷ ks) h e

pile_inside : (n m : Nest) → is_pile n.kinds ≡ true → with_kinds n (procedure_entered n.kinds) ≡ Some m → is_pile m.kinds ≡ true
pile_inside n m h e = elim (cases_Bool (list_any is_procedure n.kinds)) [
  | inl some ↦ pile_entered n m n.kinds h (sym (ap (λ (b : Bool). with_kinds n (if b then block_entered n.kinds else None)) some) ∙ e)
  | inr none ↦ let f : with_kinds n (procedure_entered n.kinds) ≡ None = ap (λ (b : Bool). with_kinds n (if b then block_entered n.kinds else None)) none in absurd (cc (e, f))
]

pile_opened : (n m : Nest) (kind : Kind) (ks : List Kind) → is_top kind ≡ false → is_pile ks ≡ true → with_kinds n (block_opened kind ks) ≡ Some m → is_pile m.kinds ≡ true
pile_opened n m kind [] block h e = absurd (cc e)
pile_opened n m kind (k ∷ ks) block h e = elim (cases_Bool (nat_lt (length (k ∷ ks)) 33)) [
  | inl few ↦
      let pile : is_pile (kind ∷ k ∷ ks) ≡ true = and_from _ _ (ap not block) h in
      pile_along n m (kind ∷ k ∷ ks) pile (sym (ap (λ (b : Bool). with_kinds n (if b then Some (kind ∷ k ∷ ks) else None)) few) ∙ e)
  | inr many ↦ let f : with_kinds n (block_opened kind (k ∷ ks)) ≡ None = ap (λ (b : Bool). with_kinds n (if b then Some (kind ∷ k ∷ ks) else None)) many in absurd (cc (e, f))
]

pile_top : (n m : Nest) (kind : Kind) (ks : List Kind) → is_top kind ≡ true → with_kinds n (top_opened kind ks) ≡ Some m → is_pile m.kinds ≡ true
pile_top n m kind [] top e = pile_along n m (kind ∷ []) top e
pile_top n m kind (k ∷ ks) top e = absurd (cc e)

pile_else : (n m : Nest) (ks : List Kind) → is_pile ks ≡ true → with_kinds n (else_opened ks) ≡ Some m → is_pile m.kinds ≡ true
pile_else n m [] h e = absurd (cc e)
pile_else n m (InProcedure k ∷ ks) h e = absurd (cc e)
pile_else n m (InThread ∷ ks) h e = absurd (cc e)
pile_else n m (InIf ∷ []) h e = absurd (false≢true h)
pile_else n m (InIf ∷ j ∷ ks) h e = pile_along n m (InElse ∷ j ∷ ks) h e
pile_else n m (InElse ∷ ks) h e = absurd (cc e)
pile_else n m (InWhile ∷ ks) h e = absurd (cc e)

pile_procedure : (n m : Nest) (k : ℕ) → with_kinds n (procedure_opened k n) ≡ Some m → is_pile m.kinds ≡ true
pile_procedure n m k e = elim (cases_Bool ((n.threads == 0) && (k == n.procedures))) [
  | inl fits ↦ pile_top n m (InProcedure k) n.kinds refl (sym (ap (λ (b : Bool). with_kinds n (if b then top_opened (InProcedure k) n.kinds else None)) fits) ∙ e)
  | inr fails ↦ let f : with_kinds n (procedure_opened k n) ≡ None = ap (λ (b : Bool). with_kinds n (if b then top_opened (InProcedure k) n.kinds else None)) fails in absurd (cc (e, f))
]

pile_ended : (m x : Nest) → x.kinds ≡ [] → (let o : Option Nest = Some x in let p : Option Nest = Some m in o ≡ p) → is_pile m.kinds ≡ true
pile_ended m x none e = let P : Nest → Type 0 = λ y. is_pile y.kinds ≡ true in subst P (same_Some x m e) (ap is_pile none)

pile_block : (n m : Nest) (k : Kind) (ks : List Kind) → is_top k ≡ false → is_pile (k ∷ ks) ≡ true → with_kinds n (block_entered ks) ≡ Some m → is_pile m.kinds ≡ true
pile_block n m k [] block h e = absurd (cc e)
pile_block n m k (j ∷ ks) block h e = pile_along n m (j ∷ ks) (and_parts (not (is_top k)) (is_pile (j ∷ ks)) h).1 e

pile_closed : (n m : Nest) (ks : List Kind) → is_pile ks ≡ true → closed n ks ≡ Some m → is_pile m.kinds ≡ true
pile_closed n m [] h e = absurd (cc e)
pile_closed n m (InProcedure k ∷ []) h e = pile_ended m (record { kinds = []; procedures = n.procedures + 1; threads = n.threads }) refl e
pile_closed n m (InProcedure k ∷ j ∷ ks) h e = absurd (cc e)
pile_closed n m (InThread ∷ []) h e = pile_ended m (record { kinds = []; procedures = n.procedures; threads = n.threads + 1 }) refl e
pile_closed n m (InThread ∷ j ∷ ks) h e = absurd (cc e)
pile_closed n m (InIf ∷ ks) h e = pile_block n m InIf ks refl h e
pile_closed n m (InElse ∷ ks) h e = pile_block n m InElse ks refl h e
pile_closed n m (InWhile ∷ ks) h e = pile_block n m InWhile ks refl h e

pile_next : (n m : Nest) (l : Line) → is_pile n.kinds ≡ true → nested n l ≡ Some m → is_pile m.kinds ≡ true
pile_next n m (lines.Procedure k) h e = pile_procedure n m k e
pile_next n m lines.Thread h e = pile_top n m InThread n.kinds refl e
pile_next n m (lines.Let v a) h e = pile_entered n m n.kinds h e
pile_next n m (lines.Compute v a op b) h e = pile_entered n m n.kinds h e
pile_next n m (lines.If t) h e = pile_opened n m InIf n.kinds refl h e
pile_next n m lines.Else h e = pile_else n m n.kinds h e
pile_next n m (lines.While t) h e = pile_opened n m InWhile n.kinds refl h e
pile_next n m lines.End h e = pile_closed n m n.kinds h e
pile_next n m (lines.Return a) h e = pile_inside n m h e
pile_next n m (lines.Call c) h e = pile_entered n m n.kinds h e
pile_next n m (lines.Sleep a) h e = pile_entered n m n.kinds h e
pile_next n m (lines.Create c) h e = pile_entered n m n.kinds h e
pile_next n m (lines.Destroy a) h e = pile_entered n m n.kinds h e
pile_next n m (lines.Compound c) h e = pile_entered n m n.kinds h e
pile_next n m lines.Default h e = pile_inside n m h e

pile_all : (n m : Nest) (ls : List Line) → is_pile n.kinds ≡ true → nested_all (Some n) ls ≡ Some m → is_pile m.kinds ≡ true
pile_all n m [] h e = let P : Nest → Type 0 = λ x. is_pile x.kinds ≡ true in subst P (same_Some n m e) h
pile_all n m (l ∷ ls) h e =
    let first = first_nest (nested n l) ls m e in
    pile_all first.0 m ls (pile_next n first.0 l h first.1) (sym (ap (λ (o : Option Nest). nested_all o ls) first.1) ∙ e)

-- ---- lines that close it

abbrev ends : List Kind → List Line
ends [] = []
ends (k ∷ ks) = lines.End ∷ ends ks

-- nothing stands open behind lines
record Closes (o : Option Nest) (ls : List Line) : Type 0 where
  pub behind : Nest
  pub nested : nested_all o ls ≡ Some behind
  pub none : behind.kinds ≡ []

abbrev nest : List Kind → ℕ → ℕ → Nest
nest ks i j = record { kinds = ks; procedures = i; threads = j }

close_pile : (ks : List Kind) (i j : ℕ) → is_pile ks ≡ true → Closes (Some (nest ks i j)) (ends ks)
close_pile [] i j h = record { behind = nest [] i j; nested = refl; none = refl }
close_pile (InProcedure k ∷ []) i j h = record { behind = nest [] (i + 1) j; nested = refl; none = refl }
close_pile (InProcedure k ∷ x ∷ ks) i j h = absurd (false≢true h)
close_pile (InThread ∷ []) i j h = record { behind = nest [] i (j + 1); nested = refl; none = refl }
close_pile (InThread ∷ x ∷ ks) i j h = absurd (false≢true h)
close_pile (InIf ∷ []) i j h = absurd (false≢true h)
close_pile (InIf ∷ x ∷ ks) i j h = let r = close_pile (x ∷ ks) i j h in record { behind = r.behind; nested = r.nested; none = r.none }
close_pile (InElse ∷ []) i j h = absurd (false≢true h)
close_pile (InElse ∷ x ∷ ks) i j h = let r = close_pile (x ∷ ks) i j h in record { behind = r.behind; nested = r.nested; none = r.none }
close_pile (InWhile ∷ []) i j h = absurd (false≢true h)
close_pile (InWhile ∷ x ∷ ks) i j h = let r = close_pile (x ∷ ks) i j h in record { behind = r.behind; nested = r.nested; none = r.none }

abbrev a_thread : List Line
a_thread = lines.Thread ∷ lines.End ∷ []

one_thread : (n : Nest) → n.kinds ≡ [] → Closes (Some n) a_thread
one_thread n e =
    let P : List Kind → Type 0 = λ ks. Closes (Some (record n { kinds = ks })) a_thread in
    subst P (sym e) (record { behind = nest [] n.procedures (n.threads + 1); nested = refl; none = refl })

-- ---- lines that name nothing

abbrev ArePlain : List Line → Type 0
ArePlain ls = AllByRecursion (λ l. line_parts l ≡ []) ls

plain_seen : (count : ℕ) (o : Option ℕ) (ls : List Line) → ArePlain ls → seen_all count o ls ≡ o
plain_seen count o [] h = refl
plain_seen count o (l ∷ ls) h = ap (λ (ps : List Part). seen_all count (seen_after count o ps) ls) h.0 ∙ plain_seen count o ls h.1

plain_begun : (count : ℕ) (o : Option ℕ) (ls : List Line) → ArePlain ls → begun_all count o ls ≡ o
plain_begun count o [] h = refl
plain_begun count o (l ∷ ls) h = ap (λ (ps : List Part). begun_all count (begun_after count o ps) ls) h.0 ∙ plain_begun count o ls h.1

plain_fits : (ls : List Line) → ArePlain ls → AllByRecursion IsLine ls
plain_fits [] h = tt
plain_fits (l ∷ ls) h = (let P : List Part → Type 0 = AllByRecursion IsPart in subst P (sym h.0) tt, plain_fits ls h.1)

all_append : {A : Type 0} (P : A → Type 0) (xs ys : List A) → AllByRecursion P xs → AllByRecursion P ys → AllByRecursion P (xs ++ ys)
all_append P [] ys h k = k
all_append P (x ∷ xs) ys h k = (h.0, all_append P xs ys h.1 k)

stood_more : (texts : List (List ℕ)) (known : Known) (nest behind : Nest) (threads : ℕ) (ls : List Line) → Stood texts known nest threads → ArePlain ls → nested_all (Some nest) ls ≡ Some behind → threads + thread_count ls ≤ 15 → Stood (texts ++ Texts known ls) known behind (threads + thread_count ls)
stood_more texts known nest behind threads ls h plain e few = record {
  said = h.said ++ ls;
  spelled = ap (λ (l : List (List ℕ)). l ++ Texts known ls) h.spelled ∙ sym (ap (map joined) (map-append (line_words known) h.said ls) ∙ map-append joined (map (line_words known) h.said) (map (line_words known) ls));
  fits = all_append IsLine h.said ls h.fits (plain_fits ls plain);
  named = h.named;
  in_order = all_from (length known.names) _ (seen_append (length known.names) (Some 0) h.said ls ∙ plain_seen (length known.names) _ ls plain ∙ all_told (length known.names) (seen_all (length known.names) (Some 0) h.said) h.in_order);
  procedures_in_order = all_from (length known.procedures) _ (begun_append (length known.procedures) (Some 0) h.said ls ∙ plain_begun (length known.procedures) _ ls plain ∙ all_told (length known.procedures) (begun_all (length known.procedures) (Some 0) h.said) h.procedures_in_order);
  nested = nested_append (Some start) h.said ls ∙ ap (λ (o : Option Nest). nested_all o ls) h.nested ∙ e;
  counted = omega (arith, count_append h.said ls, h.counted);
  few = few;
}

ends_plain : (ks : List Kind) → ArePlain (ends ks)
ends_plain [] = tt
ends_plain (k ∷ ks) = (refl, ends_plain ks)

ends_count : (ks : List Kind) → thread_count (ends ks) ≡ 0
ends_count [] = refl
ends_count (k ∷ ks) = omega (arith, ends_count ks)

-- lines that stand can be completed
pub completed : (texts : List (List ℕ)) (known : Known) (nest : Nest) (threads : ℕ) → Stood texts known nest threads → (more : List (List ℕ)) × IsCode (texts ++ more)
completed texts known n zero h =
    let pile = pile_all start n h.said refl h.nested in
    let c = close_pile n.kinds n.procedures n.threads pile in
    let t = one_thread c.behind c.none in
    let ls : List Line = ends n.kinds ++ a_thread in
    let closes : nested_all (Some n) ls ≡ Some t.behind = nested_append (Some n) (ends n.kinds) a_thread ∙ ap (λ (o : Option Nest). nested_all o a_thread) c.nested ∙ t.nested in
    let one : thread_count ls ≡ 1 = omega (arith, count_append (ends n.kinds) a_thread, ends_count n.kinds) in
    let stood = stood_more texts known n t.behind 0 ls h (all_append _ (ends n.kinds) a_thread (ends_plain n.kinds) (refl, (refl, tt))) closes (omega (arith, one)) in
    (Texts known ls, record { known = known; nest = t.behind; threads = 0 + thread_count ls; stood = stood; closed = t.none; some = omega (arith, one) })
completed texts known n (suc k) h =
    let pile = pile_all start n h.said refl h.nested in
    let c = close_pile n.kinds n.procedures n.threads pile in
    let ls : List Line = ends n.kinds in
    let none = ends_count n.kinds in
    let stood = stood_more texts known n c.behind (suc k) ls h (ends_plain n.kinds) c.nested (omega (arith, none, h.few)) in
    (Texts known ls, record { known = known; nest = c.behind; threads = suc k + thread_count ls; stood = stood; closed = c.none; some = omega arith })

-- ---- the lines before them

abbrev some_numbers : HeadLine → List ℕ
some_numbers heads.User = 1 ∷ []
some_numbers heads.Screen = 1 ∷ 1 ∷ []
some_numbers heads.Budget = 1 ∷ []
some_numbers heads.Order = []

some_fit : (h : HeadLine) → are_head_numbers h (some_numbers h) ≡ true
some_fit heads.User = refl
some_fit heads.Screen = refl
some_fit heads.Budget = refl
some_fit heads.Order = refl

abbrev some_heads : List HeadLine → List (List ℕ)
some_heads [] = []
some_heads (h ∷ hs) = head_text h (some_numbers h) ∷ some_heads hs

some_are : (hs : List HeadLine) → AreHeads hs (some_heads hs)
some_are [] = tt
some_are (h ∷ hs) = ((some_numbers h, some_fit h, refl), some_are hs)

some_length : (hs : List HeadLine) → length (some_heads hs) ≡ length hs
some_length [] = refl
some_length (h ∷ hs) = omega (arith, some_length hs)

some_over : (hs : List HeadLine) → drop (length hs) (some_heads hs) ≡ []
some_over [] = refl
some_over (h ∷ hs) = some_over hs

drop_none : (n : ℕ) → (let none : List (List ℕ) = [] in drop n none ≡ none)
drop_none zero = refl
drop_none (suc n) = refl

-- lines that are missing among those before the procedures and threads
record Filled (hs : List HeadLine) (texts : List (List ℕ)) : Type 0 where
  pub more : List (List ℕ)
  pub are : AreHeads hs (texts ++ more)
  pub long : length hs ≤ length (texts ++ more)
  pub over : drop (length hs) (texts ++ more) ≡ drop (length hs) texts

filled : (hs : List HeadLine) (texts : List (List ℕ)) → AreHeads hs texts → Filled hs texts
filled [] texts h = record { more = []; are = tt; long = omega arith; over = append-nil texts }
filled (x ∷ hs) [] h = record { more = some_heads (x ∷ hs); are = some_are (x ∷ hs); long = omega (arith, some_length (x ∷ hs)); over = some_over (x ∷ hs) ∙ sym (drop_none (length (x ∷ hs))) }
filled (x ∷ hs) (t ∷ texts) h = let r = filled hs texts h.1 in record { more = r.more; are = (h.0, r.are); long = omega (arith, r.long); over = r.over }

pub heads_longer : (hs : List HeadLine) (texts more : List (List ℕ)) → AreHeads hs texts → length hs ≤ length texts → AreHeads hs (texts ++ more)
heads_longer [] texts more h long = tt
heads_longer (x ∷ hs) [] more h long = absurd (omega (arith, long))
heads_longer (x ∷ hs) (t ∷ texts) more h long = (h.0, heads_longer hs texts more h.1 (omega (arith, long)))

pub drop_front : (n : ℕ) (xs ys : List (List ℕ)) → n ≤ length xs → drop n (xs ++ ys) ≡ drop n xs ++ ys
drop_front zero xs ys h = refl
drop_front (suc n) [] ys h = absurd (omega (arith, h))
drop_front (suc n) (x ∷ xs) ys h = drop_front n xs ys (omega (arith, h))

-- what stands at the front of a script begins one
pub begins : (texts : List (List ℕ)) (known : Known) (nest : Nest) (threads : ℕ) → Front texts known nest threads → Begins texts
begins texts known nest threads h =
    let f = filled all_heads texts h.heads in
    let c = completed (drop 4 texts) known nest threads h.stood in
    let whole : List (List ℕ) = texts ++ f.more in
    let code : drop 4 (whole ++ c.0) ≡ drop 4 texts ++ c.0 = drop_front 4 whole c.0 f.long ∙ ap (λ (l : List (List ℕ)). l ++ c.0) f.over in
    let text : IsText (whole ++ c.0) = record {
      long = omega (arith, f.long, length-append whole c.0);
      heads = heads_longer all_heads whole c.0 f.are f.long;
      code = (let P : List (List ℕ) → Type 0 = IsCode in subst P (sym code) c.1);
    } in
    let P : List (List ℕ) → Type 0 = IsText in
    (f.more ++ c.0, subst P (append_assoc texts f.more c.0) text)
