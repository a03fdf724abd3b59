-- The lists of the homes after a change of one of them.
use Rattle.std.proofs.Common.{◌≡◌, ℕ, ◌<◌, ◌≤◌, ◌==◌, Bool, true, false, not, cond, eqb, List, [], ◌∷◌, ◌++◌, length, set, find, All, Option, Some, None, is_some, Result, Ok, Err, OnOk, OnErr, refl, ap, sym, subst, ◌∙◌, arith}
use Rattle.std.specs.Prelude.{filter}
use Rattle.std.specs.Array.{IsFromFnResult}
use Rattle.std.specs.Fn.{Called, Mut}
use Rattle.std.specs.List.{AllByRecursion}
use Rattle.std.proofs.lemmas.Bool.{eq-eqb, eqb-false, eqb-true, false≢true, ne_eqb}
use Rattle.std.proofs.lemmas.List.{append-nil, get_or-set_other, get_or-set_same, length-set, set-get_or}
use Rattle.std.proofs.lemmas.List.Elements.{All-filter, All-push, filter-append, recursion_from_All}
use Rattle.std.proofs.lemmas.List.Kept.{AllPairs-filter}
use Rattle.std.proofs.lemmas.List.Quantifiers.{all_pairs_push}
use Rattle.win_num.specs.declared.message.Thread.{Thread}
use Rattle.input_queue.specs.declared.element.Element.{Element}
use Rattle.input_queue.specs.Elements.{AreRising, without, without_home}
use Rattle.input_queue.specs.Rows.{IsKept, merged, row, with_home}
use Rattle.input_queue.proofs.Merging.{kept_as, merged_is}
use Rattle.input_queue.proofs.Sorting.{Rises, all_filtered, filter_twice, filter_whole, rises_from}

-- what is so once one list is another
pub record IsChanged (rows : List (List Element)) (w : List Element) : Type 0 where
  pub kept : IsKept rows
  pub is : merged rows ≡ w

row_changed : (rows : List (List Element)) (h : ℕ) (new : List Element) → length rows ≡ 16 → h < 16 → (w w' : List Element) → ((i : ℕ) → i < 16 → row rows i ≡ with_home i w) → new ≡ with_home h w' → ((i : ℕ) → (i ≡ h → ⊥) → with_home i w ≡ with_home i w') → (i : ℕ) → i < 16 → row (set rows h new) i ≡ with_home i w'
row_changed rows h new sixteen l w w' old this others i k = by (eqb i h) refl
  where
    by : (b : Bool) → eqb i h ≡ b → row (set rows h new) i ≡ with_home i w'
    by true e =
        let same : i ≡ h = eqb-true i h e in
        ap (row (set rows h new)) same ∙ get_or-set_same rows h new [] (omega (arith, l, sixteen)) ∙ this ∙ ap (λ j. with_home j w') (sym same)
    by false e =
        let other : i ≡ h → ⊥ = eqb-false i h e in
        get_or-set_other rows h i new [] other ∙ old i k ∙ others i other

pub changed : (rows : List (List Element)) → IsKept rows → (h : ℕ) → h < 16 → (new w : List Element) → AreRising w → All (λ x. x.home.0 < 16) w → new ≡ with_home h w → ((i : ℕ) → (i ≡ h → ⊥) → with_home i (merged rows) ≡ with_home i w) → IsChanged (set rows h new) w
changed rows kept h l new w rising homes this others =
    let sixteen : length (set rows h new) ≡ 16 = length-set rows h new ∙ kept.sixteen in
    let same : (i : ℕ) → i < 16 → row (set rows h new) i ≡ with_home i w = row_changed rows h new kept.sixteen l (merged rows) w kept.row_is this others in
    record { kept = kept_as (set rows h new) w sixteen rising homes same; is = merged_is (set rows h new) w sixteen rising homes same }

-- ---- a new element

last_home : (h : ℕ) (e : Element) → e.home.0 ≡ h → with_home h (e ∷ []) ≡ e ∷ []
last_home h e same = ap (λ b. cond b (e ∷ []) []) (eq-eqb e.home.0 h same)

other_home : (h : ℕ) (e : Element) → (h ≡ e.home.0 → ⊥) → with_home h (e ∷ []) ≡ []
other_home h e other = ap (λ b. cond b (e ∷ []) []) (ne_eqb e.home.0 h (λ same. other (sym same)))

pub pushed : (rows : List (List Element)) (e : Element) (new : List Element) → IsKept rows → All (λ x. x.number < e.number) (merged rows) → e.home.0 < 16 → new ≡ row rows e.home.0 ++ e ∷ [] → IsChanged (set rows e.home.0 new) (merged rows ++ e ∷ [])
pushed rows e new kept below l is =
    changed rows kept e.home.0 l new (merged rows ++ e ∷ [])
    (all_pairs_push (λ x y. x.number < y.number) (merged rows) e kept.rising below)
    (All-push (λ x. x.home.0 < 16) (merged rows) e kept.homes l)
    (is ∙ ap (λ m. m ++ e ∷ []) (kept.row_is e.home.0 l) ∙ sym (filter-append (λ x. x.home.0 == e.home.0) (merged rows) (e ∷ []) ∙ ap (λ m. with_home e.home.0 (merged rows) ++ m) (last_home e.home.0 e refl)))
    (λ i other. sym (filter-append (λ x. x.home.0 == i) (merged rows) (e ∷ []) ∙ ap (λ m. with_home i (merged rows) ++ m) (other_home i e other) ∙ append-nil (with_home i (merged rows))))

-- the lists after a new element was put last in one of them, or after want of memory
pub record IsPush {A E : Type 0} (rows new : List (List Element)) (e : Element) (answer : Result A E) : Type 0 where
  pub kept : IsKept new
  pub ok : OnOk answer (merged new ≡ merged rows ++ e ∷ [])
  pub err : OnErr answer (merged new ≡ merged rows)

pub push_done : {A E : Type 0} (rows : List (List Element)) (h : ℕ) (e : Element) (old new : List Element) (answer : Result A E) → IsKept rows → All (λ x. x.number < e.number) (merged rows) → h ≡ e.home.0 → e.home.0 < 16 → old ≡ row rows h → OnOk answer (new ≡ old ++ e ∷ []) → OnErr answer (new ≡ old) → IsPush rows (set rows h new) e answer
push_done {A} {E} rows h e old new answer kept below same l was ok err = subst (λ i. IsPush rows (set rows i new) e answer) (sym same) (by answer ok err)
  where
    here : old ≡ row rows e.home.0
    here = was ∙ ap (row rows) same

    by : (a : Result A E) → OnOk a (new ≡ old ++ e ∷ []) → OnErr a (new ≡ old) → IsPush rows (set rows e.home.0 new) e a
    by (Ok _) ok err =
        let done : IsChanged (set rows e.home.0 new) (merged rows ++ e ∷ []) = pushed rows e new kept below l (ok ∙ ap (λ m. m ++ e ∷ []) here) in
        record { kept = done.kept; ok = done.is; err = tt }
    by (Err _) ok err =
        let stays : set rows e.home.0 new ≡ rows = ap (set rows e.home.0) (err ∙ here) ∙ set-get_or rows e.home.0 [] in
        record { kept = subst IsKept (sym stays) kept; ok = tt; err = ap merged stays }

-- ---- without a number

-- no element of the list has the number
abbrev pub LacksNumber : ℕ → List Element → Type 0
LacksNumber n w = AllByRecursion (λ x. (x.number == n) ≡ false) w

pub lacks_above : (n m : ℕ) (w : List Element) → n ≤ m → AllByRecursion (λ x. m < x.number) w → LacksNumber n w
lacks_above n m [] l a = tt
lacks_above n m (x ∷ w) l a = (ne_eqb x.number n (λ e. omega (arith, e, l, a.0)), lacks_above n m w l a.1)

pub all_kept : (n : ℕ) (w : List Element) → LacksNumber n w → without n w ≡ w
all_kept n [] a = refl
all_kept n (x ∷ w) a = ap (λ b. cond (not b) (x ∷ without n w) (without n w)) a.0 ∙ ap (λ m. x ∷ m) (all_kept n w a.1)

none_lacks : (n : ℕ) (w : List Element) → find (λ x. x.number == n) w ≡ None → LacksNumber n w
none_lacks n [] h = tt
none_lacks n (x ∷ w) h = by (x.number == n) refl h (λ k. none_lacks n w k)
  where
    by : (b : Bool) → (x.number == n) ≡ b → cond b (Some x) (find (λ y. y.number == n) w) ≡ None → (find (λ y. y.number == n) w ≡ None → LacksNumber n w) → LacksNumber n (x ∷ w)
    by true e h more = absurd cc
    by false e h more = (e, more h)

-- a list that lacks a number stays as it is without it
pub without_none : (n : ℕ) (w : List Element) → find (λ x. x.number == n) w ≡ None → without n w ≡ w
without_none n w h = all_kept n w (none_lacks n w h)

-- what is found has the number, and stands in the list
found_number : (n : ℕ) (w : List Element) (x : Element) → find (λ y. y.number == n) w ≡ Some x → x.number ≡ n
found_number n [] x h = absurd cc
found_number n (y ∷ w) x h = by (y.number == n) refl h (λ k. found_number n w x k)
  where
    by : (b : Bool) → (y.number == n) ≡ b → cond b (Some y) (find (λ z. z.number == n) w) ≡ Some x → (find (λ z. z.number == n) w ≡ Some x → x.number ≡ n) → x.number ≡ n
    by true e h more = let same : y ≡ x = cc in ap (λ (z : Element). z.number) (sym same) ∙ eqb-true y.number n e
    by false e h more = more h

found_all : (P : Element → Type 0) (t : Element → Bool) (w : List Element) (x : Element) → AllByRecursion P w → find t w ≡ Some x → P x
found_all P t [] x a h = absurd cc
found_all P t (y ∷ w) x a h = by (t y) h (λ k. found_all P t w x a.1 k)
  where
    by : (b : Bool) → cond b (Some y) (find t w) ≡ Some x → (find t w ≡ Some x → P x) → P x
    by true h more = let same : y ≡ x = cc in subst P same a.0
    by false h more = more h

-- the number stands in the list of one home alone
record IsHolder (n h : ℕ) (w : List Element) (x : Element) : Type 0 where
  found : find (λ y. y.number == n) w ≡ Some x
  others : (i : ℕ) → (i ≡ h → ⊥) → without n (with_home i w) ≡ with_home i w

skipped : (n i : ℕ) (y : Element) (w : List Element) (b : Bool) → (y.number == n) ≡ false → without n (with_home i w) ≡ with_home i w → without n (cond b (y ∷ with_home i w) (with_home i w)) ≡ cond b (y ∷ with_home i w) (with_home i w)
skipped n i y w true e s = ap (λ c. cond (not c) (y ∷ without n (with_home i w)) (without n (with_home i w))) e ∙ ap (λ m. y ∷ m) s
skipped n i y w false e s = s

holder_is : (n h : ℕ) (w : List Element) (x : Element) → Rises w → find (λ y. y.number == n) (with_home h w) ≡ Some x → IsHolder n h w x
holder_is n h [] x r f = absurd cc
holder_is n h (y ∷ w) x r f = by (y.home.0 == h) refl f (λ k. holder_is n h w x r.1 k)
  where
    above : (i : ℕ) → AllByRecursion (λ z. y.number < z.number) (with_home i w)
    above i = all_filtered (λ z. y.number < z.number) (λ z. z.home.0 == i) w r.0

    -- y doesn't have the number
    behind : (y.number == n) ≡ false → IsHolder n h w x → IsHolder n h (y ∷ w) x
    behind e k = record {
      found = ap (λ b. cond b (Some y) (find (λ z. z.number == n) w)) e ∙ k.found;
      others = λ i other. skipped n i y w (y.home.0 == i) e (k.others i other);
    }

    here : (y.home.0 == h) ≡ true → (b : Bool) → (y.number == n) ≡ b → cond b (Some y) (find (λ z. z.number == n) (with_home h w)) ≡ Some x → (find (λ z. z.number == n) (with_home h w) ≡ Some x → IsHolder n h w x) → IsHolder n h (y ∷ w) x
    here at true e f more = record {
      found = ap (λ b. cond b (Some y) (find (λ z. z.number == n) w)) e ∙ f;
      others = λ i other.
          let over : with_home i (y ∷ w) ≡ with_home i w = ap (λ b. cond b (y ∷ with_home i w) (with_home i w)) (ne_eqb y.home.0 i (λ same. other (sym same ∙ eqb-true y.home.0 h at))) in
          ap (without n) over ∙ all_kept n (with_home i w) (lacks_above n y.number (with_home i w) (omega (arith, eqb-true y.number n e)) (above i)) ∙ sym over;
    }
    here at false e f more = behind e (more f)

    by : (b : Bool) → (y.home.0 == h) ≡ b → find (λ z. z.number == n) (cond b (y ∷ with_home h w) (with_home h w)) ≡ Some x → (find (λ z. z.number == n) (with_home h w) ≡ Some x → IsHolder n h w x) → IsHolder n h (y ∷ w) x
    by true at f more = here at (y.number == n) refl f more
    by false at f more =
        let k : IsHolder n h w x = more f in
        let over : y.number < x.number = found_all (λ z. y.number < z.number) (λ z. z.number == n) w x r.0 k.found in
        behind (ne_eqb y.number n (λ e. omega (arith, e, over, found_number n w x k.found))) k

-- the element was taken out of the list that has it
pub record IsTaken (rows : List (List Element)) (n h : ℕ) (new : List Element) (answer : Option Element) : Type 0 where
  pub kept : IsKept (set rows h new)
  pub value : answer ≡ find (λ x. x.number == n) (merged rows)
  pub left : merged (set rows h new) ≡ without n (merged rows)

taken : (rows : List (List Element)) (n h : ℕ) (new : List Element) (answer : Option Element) → IsKept rows → h < 16 → is_some (find (λ x. x.number == n) (row rows h)) ≡ true → answer ≡ find (λ x. x.number == n) (row rows h) → new ≡ without n (row rows h) → IsTaken rows n h new answer
taken rows n h new answer kept l some value left = by (find (λ x. x.number == n) (row rows h)) refl some
  where
    by : (o : Option Element) → find (λ x. x.number == n) (row rows h) ≡ o → is_some o ≡ true → IsTaken rows n h new answer
    by None f s = absurd (false≢true s)
    by (Some x) f s =
        let k : IsHolder n h (merged rows) x = holder_is n h (merged rows) x (rises_from (merged rows) kept.rising) (sym (ap (find (λ y. y.number == n)) (kept.row_is h l)) ∙ f) in
        let done : IsChanged (set rows h new) (without n (merged rows)) =
        changed rows kept h l new (without n (merged rows))
        (AllPairs-filter (λ y z. y.number < z.number) (λ y. not (y.number == n)) (merged rows) kept.rising)
        (All-filter (λ y. not (y.number == n)) (λ y. y.home.0 < 16) (merged rows) kept.homes)
        (left ∙ ap (without n) (kept.row_is h l) ∙ filter_twice (λ y. not (y.number == n)) (λ y. y.home.0 == h) (merged rows))
        (λ i other. sym (k.others i other) ∙ filter_twice (λ y. not (y.number == n)) (λ y. y.home.0 == i) (merged rows)) in
        record { kept = done.kept; value = value ∙ f ∙ sym k.found; left = done.is }

pub take_done : (rows : List (List Element)) (n h : ℕ) (old new : List Element) (answer : Option Element) → IsKept rows → h < 16 → is_some (find (λ x. x.number == n) (row rows h)) ≡ true → old ≡ row rows h → answer ≡ find (λ x. x.number == n) old → new ≡ without n old → IsTaken rows n h new answer
take_done rows n h old new answer kept l some was value left = taken rows n h new answer kept l some (value ∙ ap (find (λ x. x.number == n)) was) (left ∙ ap (without n) was)

-- the list of a home has rising numbers
pub row_rises : (rows : List (List Element)) (h : ℕ) → IsKept rows → h < 16 → AreRising (row rows h)
row_rises rows h kept l = subst AreRising (sym (kept.row_is h l)) (AllPairs-filter (λ x y. x.number < y.number) (λ x. x.home.0 == h) (merged rows) kept.rising)

-- ---- without a home

gone : (h : ℕ) (w : List Element) → with_home h (filter (λ x. not (x.home.0 == h)) w) ≡ []
gone h [] = refl
gone h (x ∷ w) = by (x.home.0 == h) refl (gone h w)
  where
    by : (b : Bool) → (x.home.0 == h) ≡ b → with_home h (filter (λ y. not (y.home.0 == h)) w) ≡ [] → with_home h (cond (not b) (x ∷ filter (λ y. not (y.home.0 == h)) w) (filter (λ y. not (y.home.0 == h)) w)) ≡ []
    by true e more = more
    by false e more = ap (λ b. cond b (x ∷ with_home h (filter (λ y. not (y.home.0 == h)) w)) (with_home h (filter (λ y. not (y.home.0 == h)) w))) e ∙ more

stays : (h i : ℕ) → (i ≡ h → ⊥) → (w : List Element) → with_home i (filter (λ x. not (x.home.0 == h)) w) ≡ with_home i w
stays h i other [] = refl
stays h i other (x ∷ w) = by (x.home.0 == h) refl (stays h i other w)
  where
    by : (b : Bool) → (x.home.0 == h) ≡ b → with_home i (filter (λ y. not (y.home.0 == h)) w) ≡ with_home i w → with_home i (cond (not b) (x ∷ filter (λ y. not (y.home.0 == h)) w) (filter (λ y. not (y.home.0 == h)) w)) ≡ with_home i (x ∷ w)
    by true e more = more ∙ sym (ap (λ b. cond b (x ∷ with_home i w) (with_home i w)) (ne_eqb x.home.0 i (λ same. other (sym same ∙ eqb-true x.home.0 h e))))
    by false e more = ap (λ m. cond (x.home.0 == i) (x ∷ m) m) more

cleared : (rows : List (List Element)) (t : Thread) (new : List Element) → IsKept rows → t.0 < 16 → new ≡ [] → IsChanged (set rows t.0 new) (without_home t (merged rows))
cleared rows t new kept l empty =
    changed rows kept t.0 l new (without_home t (merged rows))
    (AllPairs-filter (λ x y. x.number < y.number) (λ x. not (x.home.0 == t.0)) (merged rows) kept.rising)
    (All-filter (λ x. not (x.home.0 == t.0)) (λ x. x.home.0 < 16) (merged rows) kept.homes)
    (empty ∙ sym (gone t.0 (merged rows)))
    (λ i other. sym (stays t.0 i other (merged rows)))

pub clear_done : (rows : List (List Element)) (h : ℕ) (t : Thread) (new : List Element) → IsKept rows → h ≡ t.0 → h < 16 → new ≡ [] → IsChanged (set rows h new) (without_home t (merged rows))
clear_done rows h t new kept same l empty = subst (λ i. IsChanged (set rows i new) (without_home t (merged rows))) (sym same) (cleared rows t new kept (omega (arith, same, l)) empty)

high_home : (h : ℕ) → 16 ≤ h → (w : List Element) → AllByRecursion (λ x. x.home.0 < 16) w → AllByRecursion (λ x. not (x.home.0 == h) ≡ true) w
high_home h l [] a = tt
high_home h l (x ∷ w) a = (ap not (ne_eqb x.home.0 h (λ e. omega (arith, e, l, a.0))), high_home h l w a.1)

-- no thread from 16 on has an element
pub none_cleared : (rows : List (List Element)) (t : Thread) → IsKept rows → 16 ≤ t.0 → merged rows ≡ without_home t (merged rows)
none_cleared rows t kept l = sym (filter_whole (λ x. not (x.home.0 == t.0)) (merged rows) (high_home t.0 l (merged rows) (recursion_from_All (λ x. x.home.0 < 16) (merged rows) kept.homes)))

-- ---- no elements

pub all_empty : (rows : List (List Element)) → length rows ≡ 16 → ((i : ℕ) → i < 16 → row rows i ≡ []) → IsChanged rows []
all_empty rows sixteen empty =
    let rising : AreRising [] = λ i j d a b. absurd (omega (arith, b)) in
    let homes : All (λ x. x.home.0 < 16) [] = λ k d b. absurd (omega (arith, b)) in
    record { kept = kept_as rows [] sixteen rising homes empty; is = merged_is rows [] sixteen rising homes empty }

pub made_empty : {F : Type 0} (g : Mut F (ℕ × Unit {0}) (List Element)) (f : F) (rows : List (List Element)) → IsFromFnResult g f rows 16 → ((p q : F) (i : ℕ) (xs : List Element) → Called g p (i, tt) xs q → xs ≡ []) → IsChanged rows []
made_empty g f rows made each = all_empty rows made.long (λ i l. let call = made.at i [] l in each call.0 call.1 i (row rows i) call.2)
