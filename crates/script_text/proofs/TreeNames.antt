-- The order of names and of procedures in lines, as the tree has them.
use Rattle.std.proofs.Common.{◌≡◌, ◌⊎◌, inl, inr, ℕ, ◌+◌, ◌<◌, ◌≤◌, Bool, true, false, cond, List, [], ◌∷◌, ◌++◌, length, Option, Some, None, refl, ap, sym, ◌∙◌, append_assoc, arith, subst}
use Rattle.std.specs.Prelude.{nat_lt, ◌==◌, ◌||◌, ◌&&◌}
use Rattle.std.specs.List.{flat_map, AllByRecursion}
use Rattle.std.proofs.lemmas.Bool.{false≢true, and_parts, eqb-true, eq-eqb}
use Rattle.std.proofs.lemmas.Bool.Decides.{nat_tests, eqb_tells}
use Rattle.std.proofs.lemmas.List.{length-map}
use Rattle.script_tree.specs.declared.statement.Statement.{Statement}
use Rattle.script_tree.specs.Tree.{ProcedureTree, Tree}
use Rattle.script_lines.specs.declared.line.Line.{Line}
use Rattle.script_lines.specs.declared.line.Line.TheVariants as lines
use Rattle.statement_table.specs.declared.part.Part.{Part}
use Rattle.statement_table.specs.declared.part.Part.TheVariants as parts
use Rattle.script_lines.specs.LineParts.{line_parts}
use Rattle.script_lines.specs.NameLimits.{seen_with, seen_with_part, seen_after, seen_all, all_seen, are_in_order, begun_with_part, begun_after, begun_all, are_procedures_in_order}
use Rattle.script_text.specs.Lines.{body_lines, thread_lines, procedure_lines, numbered_lines, bodies_of, script_lines}
use Rattle.script_text.specs.TreeLimits.{name_in, names_in, has_number, AreNumbered, procedure_in, procedures_in, NameUpToThemselves, IsNamedInOrder}

some_same : {X : Type 0} (x y : X) → Some x ≡ Some y → y ≡ x
some_same x y e = cc

all_two : {X : Type 0} (P : X → Type 0) (xs ys : List X) → AllByRecursion P xs → AllByRecursion P ys → AllByRecursion P (xs ++ ys)
all_two P [] ys h k = k
all_two P (x ∷ xs) ys h k = (h.0, all_two P xs ys h.1 k)

all_so : {X : Type 0} (P Q : X → Type 0) → ((x : X) → P x → Q x) → (xs : List X) → AllByRecursion P xs → AllByRecursion Q xs
all_so P Q f [] h = tt
all_so P Q f (x ∷ xs) h = (f x h.0, all_so P Q f xs h.1)

-- ---- names

-- how many names have been seen after several
abbrev seen_list : ℕ → Option ℕ → List ℕ → Option ℕ
seen_list count o [] = o
seen_list count o (n ∷ ns) = seen_list count (seen_with count o n) ns

seen_two : (count : ℕ) (o : Option ℕ) (xs ys : List ℕ) → seen_list count o (xs ++ ys) ≡ seen_list count (seen_list count o xs) ys
seen_two count o [] ys = refl
seen_two count o (x ∷ xs) ys = seen_two count (seen_with count o x) xs ys

seen_part : (count : ℕ) (o : Option ℕ) (p : Part) → seen_with_part count o p ≡ seen_list count o (name_in p)
seen_part count o (parts.Name n) = refl
seen_part count o (parts.Letter v) = refl
seen_part count o (parts.Operand a) = refl
seen_part count o (parts.Operator op) = refl
seen_part count o (parts.Comparison c) = refl
seen_part count o (parts.Beginning k) = refl
seen_part count o (parts.Procedure k) = refl

seen_parts : (count : ℕ) (o : Option ℕ) (ps : List Part) → seen_after count o ps ≡ seen_list count o (flat_map name_in ps)
seen_parts count o [] = refl
seen_parts count o (p ∷ ps) =
    seen_parts count (seen_with_part count o p) ps
    ∙ ap (λ x. seen_list count x (flat_map name_in ps)) (seen_part count o p) ∙ sym (seen_two count o (name_in p) (flat_map name_in ps))

seen_lines : (count : ℕ) (o : Option ℕ) (ls : List Line) → seen_all count o ls ≡ seen_list count o (names_in ls)
seen_lines count o [] = refl
seen_lines count o (l ∷ ls) =
    seen_lines count (seen_after count o (line_parts l)) ls
    ∙ ap (λ x. seen_list count x (names_in ls)) (seen_parts count o (line_parts l)) ∙ sym (seen_two count o (flat_map name_in (line_parts l)) (names_in ls))

seen_none : (count : ℕ) (ns : List ℕ) → seen_list count None ns ≡ None
seen_none count [] = refl
seen_none count (n ∷ ns) = seen_none count ns

-- numbers that go on where so many have been seen, up to this many
record GoesOn (seen last : ℕ) (ns : List ℕ) : Type 0 where
  more : seen ≤ last
  within : AllByRecursion (λ n. n < last) ns
  each : (n : ℕ) → seen ≤ n → n < last → has_number n ns ≡ true
  in_order : (front : List ℕ) (n : ℕ) (back : List ℕ) → ns ≡ front ++ n ∷ back → (m : ℕ) → m < n → (m < seen) ⊎ (has_number m front ≡ true)

or_later : (b c : Bool) → c ≡ true → (b || c) ≡ true
or_later true c e = refl
or_later false c e = e

has_first : (m n : ℕ) (ns : List ℕ) → n ≡ m → has_number m (n ∷ ns) ≡ true
has_first m n ns e = ap (λ b. b || has_number m ns) (eq-eqb n m e)

has_later : (m n : ℕ) (ns : List ℕ) → has_number m ns ≡ true → has_number m (n ∷ ns) ≡ true
has_later m n ns e = or_later (n == m) (has_number m ns) e

head_of : {x y : ℕ} {xs ys : List ℕ} → x ∷ xs ≡ y ∷ ys → x ≡ y
head_of e = cc

tail_of : {x y : ℕ} {xs ys : List ℕ} → x ∷ xs ≡ y ∷ ys → xs ≡ ys
tail_of e = cc

one_seen : (seen last n : ℕ) (ns : List ℕ) → n < seen → GoesOn seen last ns → GoesOn seen last (n ∷ ns)
one_seen seen last n ns lt r = record {
  more = r.more;
  within = (let more = r.more in omega (arith, more, lt), r.within);
  each = λ m le less. has_later m n ns (r.each m le less);
  in_order = λ front k back e m less. by front k back e m less;
}
  where
    later : (front : List ℕ) (m : ℕ) → (m < seen) ⊎ (has_number m front ≡ true) → (m < seen) ⊎ (has_number m (n ∷ front) ≡ true)
    later front m (inl below) = inl below
    later front m (inr there) = inr (has_later m n front there)

    by : (front : List ℕ) (k : ℕ) (back : List ℕ) → n ∷ ns ≡ front ++ k ∷ back → (m : ℕ) → m < k → (m < seen) ⊎ (has_number m front ≡ true)
    by [] k back e m less = let same : n ≡ k = head_of e in inl (omega (arith, less, same, lt))
    by (x ∷ front) k back e m less = let same : n ≡ x = head_of e in subst (λ y. (m < seen) ⊎ (has_number m (y ∷ front) ≡ true)) same (later front m (r.in_order front k back (tail_of e) m less))

one_new : (seen last n : ℕ) (ns : List ℕ) → n ≡ seen → GoesOn (seen + 1) last ns → GoesOn seen last (n ∷ ns)
one_new seen last n ns new r = record {
  more = (let more = r.more in omega (arith, more));
  within = (let more = r.more in omega (arith, more, new), r.within);
  each = there;
  in_order = λ front k back e m less. by front k back e m less;
}
  where
    there : (m : ℕ) → seen ≤ m → m < last → has_number m (n ∷ ns) ≡ true
    there m le less = elim (eqb_tells n m) [
      | inl x ↦ has_first m n ns x.1
      | inr x ↦ has_later m n ns (r.each m (omega (arith, le, new, x.1)) less)
    ]

    is_first : (front : List ℕ) (m : ℕ) → m < seen + 1 → (m < seen) ⊎ (has_number m (n ∷ front) ≡ true)
    is_first front m less = elim (eqb_tells n m) [
      | inl x ↦ inr (has_first m n front x.1)
      | inr x ↦ inl (omega (arith, less, new, x.1))
    ]

    later : (front : List ℕ) (m : ℕ) → (m < seen + 1) ⊎ (has_number m front ≡ true) → (m < seen) ⊎ (has_number m (n ∷ front) ≡ true)
    later front m (inl below) = is_first front m below
    later front m (inr had) = inr (has_later m n front had)

    by : (front : List ℕ) (k : ℕ) (back : List ℕ) → n ∷ ns ≡ front ++ k ∷ back → (m : ℕ) → m < k → (m < seen) ⊎ (has_number m front ≡ true)
    by [] k back e m less = let same : n ≡ k = head_of e in inl (omega (arith, less, same, new))
    by (x ∷ front) k back e m less = let same : n ≡ x = head_of e in subst (λ y. (m < seen) ⊎ (has_number m (y ∷ front) ≡ true)) same (later front m (r.in_order front k back (tail_of e) m less))

goes_on : (count seen last : ℕ) (ns : List ℕ) → seen_list count (Some seen) ns ≡ Some last → GoesOn seen last ns
goes_on count seen last [] e = record {
  more = (let same = some_same seen last e in omega (arith, same));
  within = tt;
  each = λ n le less. absurd (let same = some_same seen last e in omega (arith, same, le, less));
  in_order = λ front n back e m less. absurd (empty front n back e);
}
  where
    empty : (front : List ℕ) (n : ℕ) (back : List ℕ) → [] ≡ front ++ n ∷ back → ⊥
    empty [] n back e = absurd cc
    empty (x ∷ front) n back e = absurd cc
goes_on count seen last (n ∷ ns) e = by (nat_lt n seen) refl ((n == seen) && nat_lt seen count) refl (λ k at. goes_on count k last ns at) e
  where
    by : (b : Bool) → nat_lt n seen ≡ b → (c : Bool) → ((n == seen) && nat_lt seen count) ≡ c → ((k : ℕ) → seen_list count (Some k) ns ≡ Some last → GoesOn k last ns)
        → seen_list count (cond b (Some seen) (cond c (Some (seen + 1)) None)) ns ≡ Some last → GoesOn seen last (n ∷ ns)
    by true at c new rest e = one_seen seen last n ns (grind (arith, nat_tests, at)) (rest seen e)
    by false at true new rest e = one_new seen last n ns (eqb-true n seen (and_parts (n == seen) (nat_lt seen count) new).0) (rest (seen + 1) e)
    by false at false new rest e = absurd (let clash : None ≡ Some last = sym (seen_none count ns) ∙ e in cc)

all_of : (count : ℕ) (o : Option ℕ) → all_seen count o ≡ true → o ≡ Some count
all_of count (Some n) e = ap (λ (k : ℕ). let o : Option ℕ = Some k in o) (eqb-true n count e)
all_of count None e = absurd (false≢true e)

not_below_zero : (m : ℕ) (front : List ℕ) → (m < 0) ⊎ (has_number m front ≡ true) → has_number m front ≡ true
not_below_zero m front (inl below) = absurd (omega (arith, below))
not_below_zero m front (inr there) = there

-- names in order are numbered as they first appear
pub names_numbered : (count : ℕ) (ls : List Line) → are_in_order count ls ≡ true → AreNumbered count (names_in ls)
names_numbered count ls e =
    let r = goes_on count 0 count (names_in ls) (sym (seen_lines count (Some 0) ls) ∙ all_of count (seen_all count (Some 0) ls) e) in
    record {
      within = r.within;
      each = λ n less. r.each n (omega arith) less;
      in_order = λ front n back split m less. not_below_zero m front (r.in_order front n back split m less);
    }

-- ---- procedures

begun_two : (count : ℕ) (o : Option ℕ) (xs ys : List Line) → begun_all count o (xs ++ ys) ≡ begun_all count (begun_all count o xs) ys
begun_two count o [] ys = refl
begun_two count o (x ∷ xs) ys = begun_two count (begun_after count o (line_parts x)) xs ys

no_part : (count : ℕ) (p : Part) → begun_with_part count None p ≡ None
no_part count (parts.Name n) = refl
no_part count (parts.Letter v) = refl
no_part count (parts.Operand a) = refl
no_part count (parts.Operator op) = refl
no_part count (parts.Comparison c) = refl
no_part count (parts.Beginning k) = refl
no_part count (parts.Procedure k) = refl

none_after : (count : ℕ) (ps : List Part) → begun_after count None ps ≡ None
none_after count [] = refl
none_after count (p ∷ ps) = ap (λ o. begun_after count o ps) (no_part count p) ∙ none_after count ps

none_begun : (count : ℕ) (ls : List Line) → begun_all count None ls ≡ None
none_begun count [] = refl
none_begun count (l ∷ ls) = ap (λ o. begun_all count o ls) (none_after count (line_parts l)) ∙ none_begun count ls

-- what is named has begun by then
record Begun (begun last : ℕ) (named : List ℕ) : Type 0 where
  more : begun ≤ last
  within : AllByRecursion (λ p. p < last) named

wider : (begun middle last : ℕ) (xs ys : List ℕ) → Begun begun middle xs → Begun middle last ys → Begun begun last (xs ++ ys)
wider begun middle last xs ys a b = record {
  more = (let x = a.more in let y = b.more in omega (arith, x, y));
  within = all_two (λ p. p < last) xs ys (all_so (λ p. p < middle) (λ p. p < last) (λ p lt. let y = b.more in omega (arith, lt, y)) xs a.within) b.within;
}

stays_begun : (begun last : ℕ) → Some begun ≡ Some last → Begun begun last []
stays_begun begun last e = record { more = (let same = some_same begun last e in omega (arith, same)); within = tt }

begun_one : (b : Bool) (begun last : ℕ) → cond b (Some (begun + 1)) None ≡ Some last → Begun begun last []
begun_one true begun last e = record { more = (let same = some_same (begun + 1) last e in omega (arith, same)); within = tt }
begun_one false begun last e = absurd cc

named_one : (b : Bool) (k begun last : ℕ) → nat_lt k begun ≡ b → cond b (Some begun) None ≡ Some last → Begun begun last (k ∷ [])
named_one true k begun last at e =
    let same = some_same begun last e in
    let below : k < begun = grind (arith, nat_tests, at) in
    record { more = omega (arith, same); within = (omega (arith, same, below), tt) }
named_one false k begun last at e = absurd cc

part_begun : (count begun last : ℕ) (p : Part) → begun_with_part count (Some begun) p ≡ Some last → Begun begun last (procedure_in p)
part_begun count begun last (parts.Name n) e = stays_begun begun last e
part_begun count begun last (parts.Letter v) e = stays_begun begun last e
part_begun count begun last (parts.Operand a) e = stays_begun begun last e
part_begun count begun last (parts.Operator op) e = stays_begun begun last e
part_begun count begun last (parts.Comparison c) e = stays_begun begun last e
part_begun count begun last (parts.Beginning k) e = begun_one ((k == begun) && nat_lt begun count) begun last e
part_begun count begun last (parts.Procedure k) e = named_one (nat_lt k begun) k begun last refl e

parts_begun : (count begun last : ℕ) (ps : List Part) → begun_after count (Some begun) ps ≡ Some last → Begun begun last (flat_map procedure_in ps)
parts_begun count begun last [] e = stays_begun begun last e
parts_begun count begun last (p ∷ ps) e = by (begun_with_part count (Some begun) p) refl e (λ k at. parts_begun count k last ps at)
  where
    by : (o : Option ℕ) → begun_with_part count (Some begun) p ≡ o → begun_after count o ps ≡ Some last → ((k : ℕ) → begun_after count (Some k) ps ≡ Some last → Begun k last (flat_map procedure_in ps)) → Begun begun last (procedure_in p ++ flat_map procedure_in ps)
    by None at e rest = absurd (let clash : None ≡ Some last = sym (none_after count ps) ∙ e in cc)
    by (Some k) at e rest = wider begun k last (procedure_in p) (flat_map procedure_in ps) (part_begun count begun k p at) (rest k e)

lines_begun : (count begun last : ℕ) (ls : List Line) → begun_all count (Some begun) ls ≡ Some last → Begun begun last (procedures_in ls)
lines_begun count begun last [] e = stays_begun begun last e
lines_begun count begun last (l ∷ ls) e = by (begun_after count (Some begun) (line_parts l)) refl e (λ k at. lines_begun count k last ls at)
  where
    by : (o : Option ℕ) → begun_after count (Some begun) (line_parts l) ≡ o → begun_all count o ls ≡ Some last → ((k : ℕ) → begun_all count (Some k) ls ≡ Some last → Begun k last (procedures_in ls)) → Begun begun last (flat_map procedure_in (line_parts l) ++ procedures_in ls)
    by None at e rest = absurd (let clash : None ≡ Some last = sym (none_begun count ls) ∙ e in cc)
    by (Some k) at e rest = wider begun k last (flat_map procedure_in (line_parts l)) (procedures_in ls) (parts_begun count begun k (line_parts l) at) (rest k e)

-- lines, and then others
record Parted (count begun last : ℕ) (xs ys : List Line) : Type 0 where
  middle : ℕ
  first : Begun begun middle (procedures_in xs)
  rest : begun_all count (Some middle) ys ≡ Some last

part_at : (count begun last : ℕ) (xs ys : List Line) → begun_all count (Some begun) (xs ++ ys) ≡ Some last → Parted count begun last xs ys
part_at count begun last xs ys e = by (begun_all count (Some begun) xs) refl (sym (begun_two count (Some begun) xs ys) ∙ e)
  where
    by : (o : Option ℕ) → begun_all count (Some begun) xs ≡ o → begun_all count o ys ≡ Some last → Parted count begun last xs ys
    by None at e = absurd (let clash : None ≡ Some last = sym (none_begun count ys) ∙ e in cc)
    by (Some k) at e = record { middle = k; first = lines_begun count begun k xs at; rest = e }

-- the threads name procedures that there are
threads_named : (count begun : ℕ) (threads : List (List Statement)) → begun_all count (Some begun) (flat_map thread_lines threads) ≡ Some count → AllByRecursion (λ body. AllByRecursion (λ p. p < count) (procedures_in (body_lines body))) threads
threads_named count begun [] e = tt
threads_named count begun (body ∷ threads) e =
    let rest = flat_map thread_lines threads in
    let moved : begun_all count (Some begun) (body_lines body ++ (lines.End ∷ rest)) ≡ Some count = ap (begun_all count (Some begun)) (sym (append_assoc (body_lines body) (lines.End ∷ []) rest)) ∙ e in
    let p = part_at count begun count (body_lines body) (lines.End ∷ rest) moved in
    let after = lines_begun count p.middle count (lines.End ∷ rest) p.rest in
    (all_so (λ k. k < p.middle) (λ k. k < count) (λ k lt. let more = after.more in omega (arith, lt, more)) (procedures_in (body_lines body)) p.first.within, threads_named count p.middle threads p.rest)

begins_next : (count begun k : ℕ) (ls : List Line) (last : ℕ) (b : Bool) → ((k == begun) && nat_lt begun count) ≡ b → begun_all count (cond b (Some (begun + 1)) None) ls ≡ Some last → (k ≡ begun) × (begun_all count (Some (begun + 1)) ls ≡ Some last)
begins_next count begun k ls last true at e = (eqb-true k begun (and_parts (k == begun) (nat_lt begun count) at).0, e)
begins_next count begun k ls last false at e = absurd (let clash : None ≡ Some last = sym (none_begun count ls) ∙ e in cc)

-- the procedures name those up to themselves
record AllNamed (count k begun : ℕ) (bodies threads : List (List Statement)) : Type 0 where
  before : begun ≤ k
  procedures : NameUpToThemselves k bodies
  threads_are : AllByRecursion (λ body. AllByRecursion (λ p. p < count) (procedures_in (body_lines body))) threads

all_named : (count k begun : ℕ) (bodies threads : List (List Statement)) → k + length bodies ≡ count → begun_all count (Some begun) (numbered_lines k bodies ++ flat_map thread_lines threads) ≡ Some count → AllNamed count k begun bodies threads
all_named count k begun [] threads sum e = record {
  before = (let all = (lines_begun count begun count (flat_map thread_lines threads) e).more in omega (arith, all, sum));
  procedures = tt;
  threads_are = threads_named count begun threads e;
}
all_named count k begun (body ∷ bodies) threads sum e =
    let rest = numbered_lines (k + 1) bodies ++ flat_map thread_lines threads in
    let parted : (procedure_lines k body ++ numbered_lines (k + 1) bodies) ++ flat_map thread_lines threads ≡ lines.Procedure k ∷ (body_lines body ++ (lines.End ∷ rest)) =
    append_assoc (procedure_lines k body) (numbered_lines (k + 1) bodies) (flat_map thread_lines threads) ∙ ap (λ l. lines.Procedure k ∷ l) (append_assoc (body_lines body) (lines.End ∷ []) rest) in
    let next = begins_next count begun k (body_lines body ++ (lines.End ∷ rest)) count ((k == begun) && nat_lt begun count) refl (ap (begun_all count (Some begun)) (sym parted) ∙ e) in
    let p = part_at count (begun + 1) count (body_lines body) (lines.End ∷ rest) next.1 in
    let r = all_named count (k + 1) p.middle bodies threads (omega (arith, sum)) p.rest in
    record {
      before = (let same = next.0 in omega (arith, same));
      procedures = (all_so (λ n. n < p.middle) (λ n. n ≤ k) (λ n lt. let up = r.before in omega (arith, lt, up)) (procedures_in (body_lines body)) p.first.within, r.procedures);
      threads_are = r.threads_are;
    }

-- names and procedures of a tree whose lines have them in order
pub tree_named : (s : Tree) → are_in_order (length s.names) (script_lines s) ≡ true → are_procedures_in_order (length s.procedures) (script_lines s) ≡ true → IsNamedInOrder s
unfolding script_lines
tree_named s named begun =
    let count = length s.procedures in
    let all = all_named count 0 0 (bodies_of s.procedures) s.threads (omega (arith, length-map s.procedures (λ (p : ProcedureTree). p.body))) (all_of count (begun_all count (Some 0) (script_lines s)) begun) in
    record { names = names_numbered (length s.names) (script_lines s) named; procedures = all.procedures; threads = all.threads_are }
