-- What a list of rows that is one to one has.
use Rattle.std.proofs.Common.{◌≡◌, ◌≢◌, ◌↔◌, inl, inr, ℕ, zero, suc, ◌+◌, ◌<◌, ◌≤◌, ◌==◌, Bool, true, false, not, ◌||◌, List, [], ◌∷◌, ◌++◌, length, take, get_or, Option, Some, None, IsNone, cond, refl, ap, subst, sym, ◌∙◌, arith}
use Rattle.std.specs.Prelude.{find, position, Contains, All, slice_get, option_map}
use Rattle.std.specs.List.{list_any, position_from}
use Rattle.std.proofs.lemmas.List.{take-map, take_more, take_all, length-take, length-map, get_or-take, get_or-map, get_or_default}
use Rattle.std.proofs.lemmas.Iterator.Adapters.{position_from-zero}
use Rattle.std.specs.Str.{bytes_eq}
use Rattle.std.proofs.lemmas.Bool.{and_parts, and_from, or_parts, or_from, or_left, or_right, not-true, not_from_false, cases_Bool, eqb-true, eq-eqb, both_ways, false_from_ne_true}
use Rattle.std.proofs.lemmas.Slice.Eq.{bytes_eq-Decides}
use Rattle.std.proofs.lemmas.List.Folds.{list_any-append}
use Rattle.std.proofs.lemmas.List.Elements.{All-nil, All-cons, All-head, All-tail, All-weaker}
use Rattle.std.proofs.lemmas.List.Quantifiers.{position-Some}
use Rattle.std.proofs.lemmas.Option.{slice_get_read}
use Rattle.name_table.specs.declared.table.Row.{Row}
use Rattle.name_table.specs.Rows.{Named, row, shares, is_one_to_one, IsFirstRepeat, number_in, name_in, HasRow}
use Rattle.name_table.specs.Tables.{named, all_named}

-- an element that passes decides the test of the list
any-slice_get : (p : Named → Bool) (xs : List Named) (j : ℕ) (b : Named) → slice_get xs j ≡ Some b → list_any p xs ≡ false → p b ≡ false
any-slice_get p [] j b at none = absurd (cc at)
any-slice_get p (x ∷ xs) zero b at none = let e : x ≡ b = cc in let parts = or_parts (p x) (list_any p xs) none in rw (← e) parts.0
any-slice_get p (x ∷ xs) (suc j) b at none = any-slice_get p xs j b at (or_parts (p x) (list_any p xs) none).1

-- a list is one to one after one more row exactly where it was and the new one shares with none
pub is_one_to_one-push : (xs : List Named) (y : Named) → is_one_to_one xs ≡ true → list_any (λ a. shares a y) xs ≡ false → is_one_to_one (xs ++ y ∷ []) ≡ true
is_one_to_one-push [] y h none = refl
is_one_to_one-push (x ∷ xs) y h none =
    let was = and_parts (not (list_any (shares x) xs)) (is_one_to_one xs) h in
    let alone = or_parts (shares x y) (list_any (λ a. shares a y) xs) none in
    let joined : list_any (shares x) (xs ++ y ∷ []) ≡ false = rw (list_any-append (shares x) xs (y ∷ []), not-true _ was.0, alone.0) refl in
    and_from _ _ (not_from_false _ joined) (is_one_to_one-push xs y was.1 alone.1)

-- two rows of a list that is one to one share nothing
pub shares-at : (xs : List Named) (i j : ℕ) (a b : Named) → is_one_to_one xs ≡ true → i < j → slice_get xs i ≡ Some a → slice_get xs j ≡ Some b → shares a b ≡ false
shares-at [] i j a b h lt at_i at_j = absurd (cc at_i)
shares-at (x ∷ xs) zero zero a b h lt at_i at_j = absurd (omega arith)
shares-at (x ∷ xs) zero (suc j) a b h lt at_i at_j =
    let was = and_parts (not (list_any (shares x) xs)) (is_one_to_one xs) h in
    let e : x ≡ a = cc in
    rw (← e) (any-slice_get (shares x) xs j b at_j (not-true _ was.0))
shares-at (x ∷ xs) (suc i) zero a b h lt at_i at_j = absurd (omega arith)
shares-at (x ∷ xs) (suc i) (suc j) a b h lt at_i at_j = shares-at xs i j a b (and_parts (not (list_any (shares x) xs)) (is_one_to_one xs) h).1 (omega arith) at_i at_j

-- the first element that passes is the one found
find-head : (p : Named → Bool) (a : Named) (xs : List Named) → p a ≡ true → find p (a ∷ xs) ≡ Some a
find-head p a xs e = rw e refl

find-tail : (p : Named → Bool) (a : Named) (xs : List Named) → p a ≡ false → find p (a ∷ xs) ≡ find p xs
find-tail p a xs e = rw e refl

-- an element that passes is the one found, where no two rows pass
pub find-slice_get : (p : Named → Bool) (excludes : (a b : Named) → p a ≡ true → p b ≡ true → shares a b ≡ true) (xs : List Named) (k : ℕ) (x : Named) → is_one_to_one xs ≡ true → slice_get xs k ≡ Some x → p x ≡ true → find p xs ≡ Some x
find-slice_get p excludes [] k x h at passes = absurd (cc at)
find-slice_get p excludes (a ∷ xs) zero x h at passes = let e : a ≡ x = cc in let first : p a ≡ true = rw e passes in find-head p a xs first ∙ at
find-slice_get p excludes (a ∷ xs) (suc k) x h at passes =
    let was = and_parts (not (list_any (shares a) xs)) (is_one_to_one xs) h in
    let alone : shares a x ≡ false = any-slice_get (shares a) xs k x at (not-true _ was.0) in
    elim (cases_Bool (p a)) [
      | inl hit ↦ absurd (both_ways (shares a x) alone (excludes a x hit passes))
      | inr miss ↦ find-tail p a xs miss ∙ find-slice_get p excludes xs k x was.1 at passes
    ]

-- what is found is a row that passes
pub slice_get-find : (p : Named → Bool) (xs : List Named) (x : Named) → find p xs ≡ Some x → ((k : ℕ) × (slice_get xs k ≡ Some x)) × (p x ≡ true)
slice_get-find p [] x e = absurd (cc e)
slice_get-find p (a ∷ xs) x e = elim (cases_Bool (p a)) [
  | inl hit ↦ let same : a ≡ x = cc (e, find-head p a xs hit) in let here : slice_get (a ∷ xs) 0 ≡ Some x = ap (λ (v : Named). let o : Option Named = Some v in o) same in ((0, here), rw (← same) hit)
  | inr miss ↦ let rest = slice_get-find p xs x (sym (find-tail p a xs miss) ∙ e) in ((suc rest.0.0, rest.0.1), rest.1)
]

-- nothing is found exactly where no row passes
pub find-none : (p : Named → Bool) (xs : List Named) → All (λ x. p x ≡ false) xs → find p xs ≡ None
find-none p [] all = refl
find-none p (a ∷ xs) all = find-tail p a xs (All-head (λ x. p x ≡ false) a xs all) ∙ find-none p xs (All-tail (λ x. p x ≡ false) a xs all)

pub none-find : (p : Named → Bool) (xs : List Named) → find p xs ≡ None → All (λ x. p x ≡ false) xs
none-find p [] e = All-nil (λ x. p x ≡ false)
none-find p (a ∷ xs) e = elim (cases_Bool (p a)) [
  | inl hit ↦ absurd (cc (e, find-head p a xs hit))
  | inr miss ↦ All-cons (λ x. p x ≡ false) a xs miss (none-find p xs (sym (find-tail p a xs miss) ∙ e))
]

-- two rows of one name share it, and two of one number share that
shares-name : (name : List ℕ) (a b : Named) → bytes_eq a.name name ≡ true → bytes_eq b.name name ≡ true → shares a b ≡ true
shares-name name a b e f =
    let same : a.name ≡ b.name = (bytes_eq-Decides a.name name).0 e ∙ sym ((bytes_eq-Decides b.name name).0 f) in
    or_left _ _ ((bytes_eq-Decides a.name b.name).1 same)

shares-number : (number : ℕ) (a b : Named) → (a.number == number) ≡ true → (b.number == number) ≡ true → shares a b ≡ true
shares-number number a b e f = or_right _ _ (eq-eqb _ _ (eqb-true _ _ e ∙ sym (eqb-true _ _ f)))

-- where a row stands
place_of : (rows : List Named) (x : Named) → Contains rows x → (k : ℕ) × (slice_get rows k ≡ Some x)
place_of rows x (k, within, e) = (k, slice_get_read rows (length rows) k x refl within (sym e))

Contains-slice_get : (rows : List Named) (k : ℕ) (x : Named) → slice_get rows k ≡ Some x → Contains rows x
Contains-slice_get [] k x at = absurd (cc at)
Contains-slice_get (a ∷ rows) zero x at = let e : a ≡ x = cc in (0, omega arith, e)
Contains-slice_get (a ∷ rows) (suc k) x at = let rest = Contains-slice_get rows k x at in (suc rest.0, omega (arith, rest.1), rest.2)

-- what an answer is made of
mapped-Some : {A : Type 0} (f : Named → A) (o : Option Named) (a : A) → option_map f o ≡ Some a → (x : Named) × (o ≡ Some x) × (f x ≡ a)
mapped-Some f None a e = absurd (cc e)
mapped-Some f (Some x) a e = (x, refl, cc)

mapped-None : {A : Type 0} (f : Named → A) (o : Option Named) → IsNone (option_map f o) ↔ (o ≡ None)
mapped-None f None = (λ h. refl, λ h. refl)
mapped-None f (Some x) = (λ h. absurd (cc h), λ h. absurd (cc h))

row_at : (x : Named) (name : List ℕ) (number : ℕ) → x.name ≡ name → x.number ≡ number → x ≡ row name number
row_at x name number e f = ap (λ (s : List ℕ). row s x.number) e ∙ ap (λ (n : ℕ). row name n) f

-- the number of a name is the one that a row gives it
pub number_in-row : (rows : List Named) (name : List ℕ) (n : ℕ) → is_one_to_one rows ≡ true → (number_in rows name ≡ Some n) ↔ HasRow rows name n
number_in-row rows name n h = (
  λ e.
      let found = mapped-Some (λ r. r.number) (find (λ r. bytes_eq r.name name) rows) n e in
      let there = slice_get-find (λ r. bytes_eq r.name name) rows found.0 found.1 in
      let same : found.0 ≡ row name n = row_at found.0 name n ((bytes_eq-Decides found.0.name name).0 there.1) found.2 in
      Contains-slice_get rows there.0.0 (row name n) (there.0.1 ∙ ap (λ (v : Named). let o : Option Named = Some v in o) same),
  λ has.
      let there = place_of rows (row name n) has in
      ap (option_map (λ r. r.number)) (find-slice_get (λ r. bytes_eq r.name name) (shares-name name) rows there.0 (row name n) h there.1 ((bytes_eq-Decides name name).1 refl)),
)

-- the name of a number is the one that a row gives it
pub name_in-row : (rows : List Named) (name : List ℕ) (n : ℕ) → is_one_to_one rows ≡ true → (name_in rows n ≡ Some name) ↔ HasRow rows name n
name_in-row rows name n h = (
  λ e.
      let found = mapped-Some (λ r. r.name) (find (λ r. r.number == n) rows) name e in
      let there = slice_get-find (λ r. r.number == n) rows found.0 found.1 in
      let same : found.0 ≡ row name n = row_at found.0 name n found.2 (eqb-true found.0.number n there.1) in
      Contains-slice_get rows there.0.0 (row name n) (there.0.1 ∙ ap (λ (v : Named). let o : Option Named = Some v in o) same),
  λ has.
      let there = place_of rows (row name n) has in
      ap (option_map (λ r. r.name)) (find-slice_get (λ r. r.number == n) (shares-number n) rows there.0 (row name n) h there.1 (eq-eqb n n refl)),
)

-- both ways agree
pub number_in-name_in : (rows : List Named) (name : List ℕ) (n : ℕ) → is_one_to_one rows ≡ true → (number_in rows name ≡ Some n) ↔ (name_in rows n ≡ Some name)
number_in-name_in rows name n h = (λ e. (name_in-row rows name n h).1 ((number_in-row rows name n h).0 e), λ e. (number_in-row rows name n h).1 ((name_in-row rows name n h).0 e))

-- there is no number exactly where no row has the name
pub number_in-none : (rows : List Named) (name : List ℕ) → IsNone (number_in rows name) ↔ All (λ r. r.name ≢ name) rows
number_in-none rows name = (
  λ e.
      All-weaker (λ r. bytes_eq r.name name ≡ false) (λ r. r.name ≢ name) (λ r miss same. both_ways (bytes_eq r.name name) miss ((bytes_eq-Decides r.name name).1 same)) rows (none-find (λ r. bytes_eq r.name name) rows ((mapped-None (λ r. r.number) (find (λ r. bytes_eq r.name name) rows)).0 e)),
  λ all.
      (mapped-None (λ r. r.number) (find (λ r. bytes_eq r.name name) rows)).1 (find-none (λ r. bytes_eq r.name name) rows (All-weaker (λ r. r.name ≢ name) (λ r. bytes_eq r.name name ≡ false) (λ r other. false_from_ne_true (bytes_eq r.name name) (λ hit. other ((bytes_eq-Decides r.name name).0 hit))) rows all)),
)

-- there is no name exactly where no row has the number
pub name_in-none : (rows : List Named) (n : ℕ) → IsNone (name_in rows n) ↔ All (λ r. r.number ≢ n) rows
name_in-none rows n = (
  λ e.
      All-weaker (λ r. (r.number == n) ≡ false) (λ r. r.number ≢ n) (λ r miss same. both_ways (r.number == n) miss (eq-eqb r.number n same)) rows (none-find (λ r. r.number == n) rows ((mapped-None (λ r. r.name) (find (λ r. r.number == n) rows)).0 e)),
  λ all.
      (mapped-None (λ r. r.name) (find (λ r. r.number == n) rows)).1 (find-none (λ r. r.number == n) rows (All-weaker (λ r. r.number ≢ n) (λ r. (r.number == n) ≡ false) (λ r other. false_from_ne_true (r.number == n) (λ hit. other (eqb-true r.number n hit))) rows all)),
)

-- one test chooses alike
chosen : {A : Type 0} (f : Row → A) (g : Named → A) (b : Bool) (x : Row) (o : Option Row) (q : Option Named) → f x ≡ g (named x) → option_map f o ≡ option_map g q → option_map f (cond b (Some x) o) ≡ option_map g (cond b (Some (named x)) q)
chosen {A = A} f g true x o q here rest = ap (λ (a : A). let s : Option A = Some a in s) here
chosen f g false x o q here rest = rest

-- reading the rows of the code is reading the rows that contracts see
pub number_in-all_named : (xs : List Row) (name : List ℕ) → option_map (λ r. r.number) (find (λ r. bytes_eq r.name.now name) xs) ≡ number_in (all_named xs) name
number_in-all_named [] name = refl
number_in-all_named (x ∷ xs) name = chosen (λ r. r.number) (λ r. r.number) (bytes_eq x.name.now name) x (find (λ r. bytes_eq r.name.now name) xs) (find (λ r. bytes_eq r.name name) (all_named xs)) refl (number_in-all_named xs name)

pub name_in-all_named : (xs : List Row) (n : ℕ) → option_map (λ r. r.name.now) (find (λ r. r.number == n) xs) ≡ name_in (all_named xs) n
name_in-all_named [] n = refl
name_in-all_named (x ∷ xs) n = chosen (λ r. r.name.now) (λ r. r.name) (x.number == n) x (find (λ r. r.number == n) xs) (find (λ r. r.number == n) (all_named xs)) refl (name_in-all_named xs n)

-- the row at a place, read
named-get_or : (xs : List Row) (k : ℕ) (x : Row) → k < length xs → x ≡ get_or xs k x → slice_get (all_named xs) k ≡ Some (named x)
named-get_or [] k x within at = absurd (omega arith)
named-get_or (y ∷ xs) zero x within at = ap (λ (r : Row). let o : Option Named = Some (named r) in o) (sym at)
named-get_or (y ∷ xs) (suc k) x within at = named-get_or xs k x (omega arith) at

-- the first of some rows that shares with a row
shares-none : (xs : List Row) (first : ℕ) (p : Named → Bool) (d : Row) → ((k : ℕ) → k < first → p (named (get_or xs k d)) ≡ false) → first ≤ length xs → list_any p (take first (all_named xs)) ≡ false
shares-none [] zero p d none within = refl
shares-none [] (suc first) p d none within = absurd (omega arith)
shares-none (x ∷ xs) zero p d none within = refl
shares-none (x ∷ xs) (suc first) p d none within = or_from _ _ (none 0 (omega arith)) (shares-none xs first p d (λ k lt. none (suc k) (omega arith)) (omega arith))

-- nothing passes where no place is found
none-passes : (p : Row → Bool) (i : ℕ) (xs : List Row) → position_from p i xs ≡ None → list_any p xs ≡ false
none-passes p i [] e = refl
none-passes p i (x ∷ xs) e = elim (cases_Bool (p x)) [
  | inl hit ↦ let f : position_from p i (x ∷ xs) ≡ Some i = rw hit refl in absurd (cc (e, f))
  | inr miss ↦ let f : position_from p i (x ∷ xs) ≡ position_from p (i + 1) xs = rw miss refl in or_from _ _ miss (none-passes p (i + 1) xs (sym f ∙ e))
]

list_any-all_named : (p : Named → Bool) (xs : List Row) → list_any p (all_named xs) ≡ list_any (λ r. p (named r)) xs
list_any-all_named p [] = refl
list_any-all_named p (x ∷ xs) = ap (λ (b : Bool). p (named x) || b) (list_any-all_named p xs)

-- the repeat that the search of the earlier rows finds
pub first_repeat : (xs : List Row) (first second : ℕ) (later : Row) → second < length xs → later ≡ get_or xs second later → position (λ r. shares (named r) (named later)) (take second xs) ≡ Some first → is_one_to_one (take second (all_named xs)) ≡ true → IsFirstRepeat (all_named xs) first second
first_repeat xs first second later within at found before =
    let p : Row → Bool = λ r. shares (named r) (named later) in
    let facts = position-Some p (take second xs) first later found in
    let early : first < second = omega (arith, facts.0, length-take second xs) in
    let there : get_or (take second xs) first later ≡ get_or xs first later = get_or-take second xs first later early in
    let hit : shares (named (get_or xs first later)) (named later) ≡ true = rw (← there) facts.1 in
    record {
      earlier = named (get_or xs first later);
      later = named later;
      earlier_at = named-get_or xs first (get_or xs first later) (omega arith) (get_or_default xs first later (get_or xs first later) (omega arith));
      later_at = named-get_or xs second later within at;
      order = early;
      same = hit;
      least_second = before;
      least_first = shares-none xs first (λ a. shares a (named later)) later (λ k lt. let same : get_or (take second xs) k later ≡ get_or xs k later = get_or-take second xs k later (omega arith) in rw (← same) (facts.2 k lt)) (omega arith);
    }

-- and the rows with it are not one to one
pub repeat-shares : (rows : List Named) (first second : ℕ) → IsFirstRepeat rows first second → is_one_to_one rows ≡ true → ⊥
repeat-shares rows first second r h = both_ways _ (shares-at rows first second r.earlier r.later h r.order r.earlier_at r.later_at) r.same

-- one row more
pub one_to_one_more : (xs : List Row) (second : ℕ) (later : Row) → second < length xs → later ≡ get_or xs second later → position (λ r. shares (named r) (named later)) (take second xs) ≡ None → is_one_to_one (take second (all_named xs)) ≡ true → is_one_to_one (take (second + 1) (all_named xs)) ≡ true
one_to_one_more xs second later within at none before =
    let p : Named → Bool = λ a. shares a (named later) in
    let fresh : list_any p (all_named (take second xs)) ≡ false = list_any-all_named p (take second xs) ∙ none-passes (λ r. p (named r)) 0 (take second xs) (sym (position_from-zero (λ r. p (named r)) (take second xs)) ∙ none) in
    let grown : take (second + 1) (all_named xs) ≡ take second (all_named xs) ++ named later ∷ [] =
    take_more (all_named xs) second (named later) (rw (length-map xs named) within) ∙ ap (λ (a : Named). take second (all_named xs) ++ a ∷ []) (get_or-map named xs second later (named later) within ∙ ap named (sym at)) in
    rw grown (is_one_to_one-push (take second (all_named xs)) (named later) before (rw take-map fresh))

-- all rows are before a place that is past the end
pub whole : (xs : List Row) (n : ℕ) → length xs ≤ n → is_one_to_one (take n (all_named xs)) ≡ true → is_one_to_one (all_named xs) ≡ true
whole xs n past h = let e : take n (all_named xs) ≡ all_named xs = take_all n (all_named xs) (rw (length-map xs named) past) in subst (λ (rows : List Named). is_one_to_one rows ≡ true) e h

-- what is read of an answer is there exactly where the answer is
pub mapped-IsNone : {A B : Type 0} (f : A → B) (o : Option A) → IsNone (option_map f o) ↔ IsNone o
mapped-IsNone f None = (λ h. h, λ h. h)
mapped-IsNone f (Some x) = (λ h. h, λ h. h)
