-- What the few words over pasts say, told by single entries.
use Rattle.std.proofs.Common.{◌≡◌, ◌⊎◌, inl, inr, Bool, true, false, not, cond, List, [], ◌∷◌, ◌++◌, filter, Option, Some, None, refl, sym, ap, ◌∙◌, subst}
use Rattle.std.specs.Prelude.{◌||◌}
use Rattle.std.proofs.lemmas.Bool.{false≢true}
use Rattle.user_model.specs.declared.entry.Entry.{Entry}
use Rattle.user_model.specs.Past.{Past, is_refused, last_of, first_of, standing, each_of, ever}
use Rattle.user_model.proofs.PastLaws.{first_way, other_way, each_of-next, standing-next, ever-next}
use Rattle.user_laws.specs.Words.{Moment, IsIn, IsPartOf, nothing, stays, goes, SaysNothing, SaysNothingAfter, EndsNothingAfter, IsLastSaid, IsFirstSaid, IsAdded, IsAddedForGood, IsDone}

-- the newest entry as a moment
abbrev newest : (e : Entry) (past : Past) → is_refused e ≡ false → Moment (e ∷ past)
newest e past right = record { later = []; entry = e; before = past; splits = refl; unrefused = right }

-- a moment, where one more entry comes
abbrev one_later : (e : Entry) (past : Past) → Moment past → Moment (e ∷ past)
one_later e past m = record { later = e ∷ m.later; entry = m.entry; before = m.before; splits = ap (λ (l : Past). e ∷ l) m.splits; unrefused = m.unrefused }

both_ways : {A : Type 0} (b : Bool) → b ≡ true → b ≡ false → A
both_ways b is wrong = absurd (false≢true (sym wrong ∙ is))

-- the first value, where there is one, else the other
abbrev pick : {A : Type 0} → Option A → Option A → Option A
pick {A = A} o other = elim o as (λ x. Option A) [ Some a ↦ Some a | None ↦ other ]

none_is_some : {A X : Type 0} {a : A} → (let o : Option A = None in o) ≡ Some a → X
none_is_some is = absurd cc

-- ---- last_of

last-refused : {A : Type 0} (says : Entry → Past → Option A) (e : Entry) (past : Past) → is_refused e ≡ true → last_of says (e ∷ past) ≡ last_of says past
last-refused says e past is = first_way (is_refused e) (last_of says past) (pick (says e past) (last_of says past)) is

last-right : {A : Type 0} (says : Entry → Past → Option A) (e : Entry) (past : Past) → is_refused e ≡ false → last_of says (e ∷ past) ≡ pick (says e past) (last_of says past)
last-right says e past is = other_way (is_refused e) (last_of says past) (pick (says e past) (last_of says past)) is

last_so : {A : Type 0} (says : Entry → Past → Option A) (past : Past) (a : A) → last_of says past ≡ Some a → IsLastSaid says past a
last_so says [] a is = none_is_some is
last_so {A = A} says (e ∷ past) a is = by (last_so says past a) (is_refused e) refl (says e past) refl
  where
    by : (last_of says past ≡ Some a → IsLastSaid says past a) → (b : Bool) → is_refused e ≡ b → (o : Option A) → says e past ≡ o → IsLastSaid says (e ∷ past) a
    by rest true at o so = let r = rest (sym (last-refused says e past at) ∙ is) in record { at = one_later e past r.at; said = r.said; none_later = (λ right. both_ways (is_refused e) at right, r.none_later) }
    by rest false at (Some x) so = record { at = newest e past at; said = so ∙ (sym (last-right says e past at ∙ ap (λ o. pick o (last_of says past)) so) ∙ is); none_later = tt }
    by rest false at None so =
        let r = rest (sym (last-right says e past at ∙ ap (λ o. pick o (last_of says past)) so) ∙ is) in record { at = one_later e past r.at; said = r.said; none_later = (λ right. ap (says e) (sym r.at.splits) ∙ so, r.none_later) }

last_back : {A : Type 0} (says : Entry → Past → Option A) (a : A) (later before : Past) (e : Entry) → is_refused e ≡ false → says e before ≡ Some a → SaysNothingAfter says later (e ∷ before) → last_of says (later ++ e ∷ before) ≡ Some a
last_back says a [] before e right said none = last-right says e before right ∙ ap (λ o. pick o (last_of says before)) said
last_back says a (x ∷ later) before e right said none = by (last_back says a later before e right said none.1) (is_refused x) refl
  where
    by : last_of says (later ++ e ∷ before) ≡ Some a → (b : Bool) → is_refused x ≡ b → last_of says (x ∷ (later ++ e ∷ before)) ≡ Some a
    by rest true at = last-refused says x (later ++ e ∷ before) at ∙ rest
    by rest false at = last-right says x (later ++ e ∷ before) at ∙ ap (λ o. pick o (last_of says (later ++ e ∷ before))) (none.0 at) ∙ rest

-- the last that is said, exactly
pub last_said : {A : Type 0} (says : Entry → Past → Option A) (past : Past) (a : A) → (last_of says past ≡ Some a → IsLastSaid says past a) × (IsLastSaid says past a → last_of says past ≡ Some a)
last_said says past a = (last_so says past a, λ r. ap (last_of says) r.at.splits ∙ last_back says a r.at.later r.at.before r.at.entry r.at.unrefused r.said r.none_later)

last_none_so : {A : Type 0} (says : Entry → Past → Option A) (past : Past) → last_of says past ≡ None → SaysNothing says past
last_none_so says [] is = tt
last_none_so {A = A} says (e ∷ past) is = by (last_none_so says past) (is_refused e) refl (says e past) refl
  where
    by : (last_of says past ≡ None → SaysNothing says past) → (b : Bool) → is_refused e ≡ b → (o : Option A) → says e past ≡ o → SaysNothing says (e ∷ past)
    by rest true at o so = (λ right. both_ways (is_refused e) at right, rest (sym (last-refused says e past at) ∙ is))
    by rest false at (Some x) so = none_is_some (sym is ∙ (last-right says e past at ∙ ap (λ o. pick o (last_of says past)) so))
    by rest false at None so = (λ right. so, rest (sym (last-right says e past at ∙ ap (λ o. pick o (last_of says past)) so) ∙ is))

last_none_back : {A : Type 0} (says : Entry → Past → Option A) (past : Past) → SaysNothing says past → last_of says past ≡ None
last_none_back says [] none = refl
last_none_back says (e ∷ past) none = by (last_none_back says past none.1) (is_refused e) refl
  where
    by : last_of says past ≡ None → (b : Bool) → is_refused e ≡ b → last_of says (e ∷ past) ≡ None
    by rest true at = last-refused says e past at ∙ rest
    by rest false at = last-right says e past at ∙ ap (λ o. pick o (last_of says past)) (none.0 at) ∙ rest

-- nothing is said last, exactly where nothing is said
pub last_none : {A : Type 0} (says : Entry → Past → Option A) (past : Past) → (last_of says past ≡ None → SaysNothing says past) × (SaysNothing says past → last_of says past ≡ None)
last_none says past = (last_none_so says past, last_none_back says past)

-- ---- first_of

first-refused : {A : Type 0} (says : Entry → Past → Option A) (e : Entry) (past : Past) → is_refused e ≡ true → first_of says (e ∷ past) ≡ first_of says past
first-refused says e past is = first_way (is_refused e) (first_of says past) (pick (first_of says past) (says e past)) is

first-right : {A : Type 0} (says : Entry → Past → Option A) (e : Entry) (past : Past) → is_refused e ≡ false → first_of says (e ∷ past) ≡ pick (first_of says past) (says e past)
first-right says e past is = other_way (is_refused e) (first_of says past) (pick (first_of says past) (says e past)) is

first_none_so : {A : Type 0} (says : Entry → Past → Option A) (past : Past) → first_of says past ≡ None → SaysNothing says past
first_none_so says [] is = tt
first_none_so {A = A} says (e ∷ past) is = by (first_none_so says past) (is_refused e) refl (first_of says past) refl
  where
    by : (first_of says past ≡ None → SaysNothing says past) → (b : Bool) → is_refused e ≡ b → (o : Option A) → first_of says past ≡ o → SaysNothing says (e ∷ past)
    by rest true at o so = (λ right. both_ways (is_refused e) at right, rest (sym (first-refused says e past at) ∙ is))
    by rest false at (Some x) so = none_is_some (sym is ∙ (first-right says e past at ∙ ap (λ o. pick o (says e past)) so))
    by rest false at None so = (λ right. sym (first-right says e past at ∙ ap (λ o. pick o (says e past)) so) ∙ is, rest so)

first_none_back : {A : Type 0} (says : Entry → Past → Option A) (past : Past) → SaysNothing says past → first_of says past ≡ None
first_none_back says [] none = refl
first_none_back says (e ∷ past) none = by (first_none_back says past none.1) (is_refused e) refl
  where
    by : first_of says past ≡ None → (b : Bool) → is_refused e ≡ b → first_of says (e ∷ past) ≡ None
    by rest true at = first-refused says e past at ∙ rest
    by rest false at = first-right says e past at ∙ ap (λ o. pick o (says e past)) rest ∙ none.0 at

-- nothing is said first, exactly where nothing is said
pub first_none : {A : Type 0} (says : Entry → Past → Option A) (past : Past) → (first_of says past ≡ None → SaysNothing says past) × (SaysNothing says past → first_of says past ≡ None)
first_none says past = (first_none_so says past, first_none_back says past)

first_so : {A : Type 0} (says : Entry → Past → Option A) (past : Past) (a : A) → first_of says past ≡ Some a → IsFirstSaid says past a
first_so says [] a is = none_is_some is
first_so {A = A} says (e ∷ past) a is = by (first_so says past a) (is_refused e) refl (first_of says past) refl
  where
    by : (first_of says past ≡ Some a → IsFirstSaid says past a) → (b : Bool) → is_refused e ≡ b → (o : Option A) → first_of says past ≡ o → IsFirstSaid says (e ∷ past) a
    by rest true at o so = let r = rest (sym (first-refused says e past at) ∙ is) in record { at = one_later e past r.at; said = r.said; none_earlier = r.none_earlier }
    by rest false at (Some x) so = let r = rest (so ∙ (sym (first-right says e past at ∙ ap (λ o. pick o (says e past)) so) ∙ is)) in record { at = one_later e past r.at; said = r.said; none_earlier = r.none_earlier }
    by rest false at None so = record { at = newest e past at; said = sym (first-right says e past at ∙ ap (λ o. pick o (says e past)) so) ∙ is; none_earlier = first_none_so says past so }

first_back : {A : Type 0} (says : Entry → Past → Option A) (a : A) (later before : Past) (e : Entry) → is_refused e ≡ false → says e before ≡ Some a → SaysNothing says before → first_of says (later ++ e ∷ before) ≡ Some a
first_back says a [] before e right said none = first-right says e before right ∙ ap (λ o. pick o (says e before)) (first_none_back says before none) ∙ said
first_back says a (x ∷ later) before e right said none = by (first_back says a later before e right said none) (is_refused x) refl
  where
    by : first_of says (later ++ e ∷ before) ≡ Some a → (b : Bool) → is_refused x ≡ b → first_of says (x ∷ (later ++ e ∷ before)) ≡ Some a
    by rest true at = first-refused says x (later ++ e ∷ before) at ∙ rest
    by rest false at = first-right says x (later ++ e ∷ before) at ∙ ap (λ o. pick o (says x (later ++ e ∷ before))) rest

-- the first that is said, exactly
pub first_said : {A : Type 0} (says : Entry → Past → Option A) (past : Past) (a : A) → (first_of says past ≡ Some a → IsFirstSaid says past a) × (IsFirstSaid says past a → first_of says past ≡ Some a)
first_said says past a = (first_so says past a, λ r. ap (first_of says) r.at.splits ∙ first_back says a r.at.later r.at.before r.at.entry r.at.unrefused r.said r.none_earlier)

-- ---- values of lists

pub in_append : {A : Type 0} (a : A) (xs ys : List A) → IsIn a (xs ++ ys) → IsIn a xs ⊎ IsIn a ys
in_append a [] ys is = inr is
in_append a (x ∷ xs) ys (inl is) = inl (inl is)
in_append a (x ∷ xs) ys (inr is) = by (in_append a xs ys is)
  where
    by : IsIn a xs ⊎ IsIn a ys → IsIn a (x ∷ xs) ⊎ IsIn a ys
    by (inl there) = inl (inr there)
    by (inr there) = inr there

pub in_left : {A : Type 0} (a : A) (xs ys : List A) → IsIn a xs → IsIn a (xs ++ ys)
in_left a [] ys is = absurd is
in_left a (x ∷ xs) ys (inl is) = inl is
in_left a (x ∷ xs) ys (inr is) = inr (in_left a xs ys is)

pub in_right : {A : Type 0} (a : A) (xs ys : List A) → IsIn a ys → IsIn a (xs ++ ys)
in_right a [] ys is = is
in_right a (x ∷ xs) ys is = inr (in_right a xs ys is)

-- ---- ever

or_so : (b c : Bool) → (b || c) ≡ true → (b ≡ true) ⊎ (c ≡ true)
or_so true c is = inl refl
or_so false c is = inr is

done_so : (does : Entry → Past → Bool) (past : Past) → ever does past ≡ true → IsDone does past
done_so does [] is = absurd (false≢true is)
done_so does (e ∷ past) is = by (done_so does past) (is_refused e) refl
  where
    way : (ever does past ≡ true → IsDone does past) → is_refused e ≡ false → (ever does past ≡ true) ⊎ (does e past ≡ true) → IsDone does (e ∷ past)
    way rest at (inl was) = let r = rest was in record { at = one_later e past r.at; did = r.did }
    way rest at (inr now) = record { at = newest e past at; did = now }

    by : (ever does past ≡ true → IsDone does past) → (b : Bool) → is_refused e ≡ b → IsDone does (e ∷ past)
    by rest true at = let r = rest (sym (first_way (is_refused e) (ever does past) (elim (ever does past) as (λ y. Bool) [ true ↦ true | false ↦ does e past ]) at) ∙ is) in record { at = one_later e past r.at; did = r.did }
    by rest false at = way rest at (or_so (ever does past) (does e past) (sym (ever-next does e past at) ∙ is))

or_left : (b c : Bool) → b ≡ true → (b || c) ≡ true
or_left b c is = ap (λ x. x || c) is

or_right : (b c : Bool) → c ≡ true → (b || c) ≡ true
or_right true c is = refl
or_right false c is = is

done_back : (does : Entry → Past → Bool) (later before : Past) (e : Entry) → is_refused e ≡ false → does e before ≡ true → ever does (later ++ e ∷ before) ≡ true
done_back does [] before e right did = ever-next does e before right ∙ or_right (ever does before) (does e before) did
done_back does (x ∷ later) before e right did = by (done_back does later before e right did) (is_refused x) refl
  where
    past : Past
    past = later ++ e ∷ before

    by : ever does past ≡ true → (b : Bool) → is_refused x ≡ b → ever does (x ∷ past) ≡ true
    by rest true at = first_way (is_refused x) (ever does past) (elim (ever does past) as (λ y. Bool) [ true ↦ true | false ↦ does x past ]) at ∙ rest
    by rest false at = ever-next does x past at ∙ or_left (ever does past) (does x past) rest

-- it was ever done, exactly where some unrefused entry did it
pub ever_done : (does : Entry → Past → Bool) (past : Past) → (ever does past ≡ true → IsDone does past) × (IsDone does past → ever does past ≡ true)
ever_done does past = (done_so does past, λ d. ap (ever does) d.at.splits ∙ done_back does d.at.later d.at.before d.at.entry d.at.unrefused d.did)

-- ---- each_of

each_of-refused : {A : Type 0} (adds : Entry → Past → List A) (e : Entry) (past : Past) → is_refused e ≡ true → each_of adds (e ∷ past) ≡ each_of adds past
each_of-refused adds e past is = first_way (is_refused e) (each_of adds past) (each_of adds past ++ adds e past) is

added_so : {A : Type 0} (adds : Entry → Past → List A) (past : Past) (a : A) → IsIn a (each_of adds past) → IsAdded adds past a
added_so adds [] a is = absurd is
added_so adds (e ∷ past) a is = by (added_so adds past a) (is_refused e) refl
  where
    way : (IsIn a (each_of adds past) → IsAdded adds past a) → is_refused e ≡ false → IsIn a (each_of adds past) ⊎ IsIn a (adds e past) → IsAdded adds (e ∷ past) a
    way rest at (inl was) = let r = rest was in record { at = one_later e past r.at; added = r.added }
    way rest at (inr now) = record { at = newest e past at; added = now }

    by : (IsIn a (each_of adds past) → IsAdded adds past a) → (b : Bool) → is_refused e ≡ b → IsAdded adds (e ∷ past) a
    by rest true at = let r = rest (subst (IsIn a) (each_of-refused adds e past at) is) in record { at = one_later e past r.at; added = r.added }
    by rest false at = way rest at (in_append a (each_of adds past) (adds e past) (subst (IsIn a) (each_of-next adds e past at) is))

added_back : {A : Type 0} (adds : Entry → Past → List A) (a : A) (later before : Past) (e : Entry) → is_refused e ≡ false → IsIn a (adds e before) → IsIn a (each_of adds (later ++ e ∷ before))
added_back adds a [] before e right added = subst (IsIn a) (sym (each_of-next adds e before right)) (in_right a (each_of adds before) (adds e before) added)
added_back adds a (x ∷ later) before e right added = by (added_back adds a later before e right added) (is_refused x) refl
  where
    past : Past
    past = later ++ e ∷ before

    by : IsIn a (each_of adds past) → (b : Bool) → is_refused x ≡ b → IsIn a (each_of adds (x ∷ past))
    by rest true at = subst (IsIn a) (sym (each_of-refused adds x past at)) rest
    by rest false at = subst (IsIn a) (sym (each_of-next adds x past at)) (in_left a (each_of adds past) (adds x past) rest)

-- the values are those that some unrefused entry adds
pub each_added : {A : Type 0} (adds : Entry → Past → List A) (past : Past) (a : A) → (IsIn a (each_of adds past) → IsAdded adds past a) × (IsAdded adds past a → IsIn a (each_of adds past))
each_added adds past a = (added_so adds past a, λ r. subst (λ p. IsIn a (each_of adds p)) (sym r.at.splits) (added_back adds a r.at.later r.at.before r.at.entry r.at.unrefused r.added))

-- ---- standing

standing-refused : {A : Type 0} (adds : Entry → Past → List A) (ends : Entry → Past → A → Bool) (e : Entry) (past : Past) → is_refused e ≡ true → standing adds ends (e ∷ past) ≡ standing adds ends past
standing-refused adds ends e past is = first_way (is_refused e) (standing adds ends past) (filter (λ a. not (ends e past a)) (standing adds ends past) ++ adds e past) is

pub in_filter : {A : Type 0} (p : A → Bool) (a : A) (xs : List A) → IsIn a (filter p xs) → IsIn a xs × (p a ≡ true)
in_filter p a [] is = absurd is
in_filter p a (x ∷ xs) is = by (in_filter p a xs) (p x) refl is
  where
    later : IsIn a xs × (p a ≡ true) → IsIn a (x ∷ xs) × (p a ≡ true)
    later r = (inr r.0, r.1)

    here : (IsIn a (filter p xs) → IsIn a xs × (p a ≡ true)) → p x ≡ true → (a ≡ x) ⊎ IsIn a (filter p xs) → IsIn a (x ∷ xs) × (p a ≡ true)
    here rest passes (inl same) = (inl same, ap p same ∙ passes)
    here rest passes (inr there) = later (rest there)

    by : (IsIn a (filter p xs) → IsIn a xs × (p a ≡ true)) → (b : Bool) → p x ≡ b → IsIn a (cond b (x ∷ filter p xs) (filter p xs)) → IsIn a (x ∷ xs) × (p a ≡ true)
    by rest true passes is = here rest passes is
    by rest false passes is = later (rest is)

pub in_filter_back : {A : Type 0} (p : A → Bool) (a : A) (xs : List A) → p a ≡ true → IsIn a xs → IsIn a (filter p xs)
in_filter_back p a [] passes is = absurd is
in_filter_back p a (x ∷ xs) passes (inl same) = subst (λ b. IsIn a (cond b (x ∷ filter p xs) (filter p xs))) (sym (ap p (sym same) ∙ passes)) (inl same)
in_filter_back p a (x ∷ xs) passes (inr there) = by (in_filter_back p a xs passes there) (p x)
  where
    by : IsIn a (filter p xs) → (b : Bool) → IsIn a (cond b (x ∷ filter p xs) (filter p xs))
    by rest true = inr rest
    by rest false = rest

not_so : (b : Bool) → not b ≡ true → b ≡ false
not_so true is = absurd (false≢true is)
not_so false is = refl

stands_so : {A : Type 0} (adds : Entry → Past → List A) (ends : Entry → Past → A → Bool) (past : Past) (a : A) → IsIn a (standing adds ends past) → IsAddedForGood adds ends past a
stands_so adds ends [] a is = absurd is
stands_so {A = A} adds ends (e ∷ past) a is = by (stands_so adds ends past a) (is_refused e) refl
  where
    kept : A → Bool
    kept x = not (ends e past x)

    later : (r : IsAddedForGood adds ends past a) → (is_refused e ≡ false → ends e past a ≡ false) → IsAddedForGood adds ends (e ∷ past) a
    later r keeps = record { at = one_later e past r.at; added = r.added; not_ended = (λ right. ap (λ p. ends e p a) (sym r.at.splits) ∙ keeps right, r.not_ended) }

    way : (IsIn a (standing adds ends past) → IsAddedForGood adds ends past a) → is_refused e ≡ false → IsIn a (filter kept (standing adds ends past)) ⊎ IsIn a (adds e past) → IsAddedForGood adds ends (e ∷ past) a
    way rest at (inl was) = let both = in_filter kept a (standing adds ends past) was in later (rest both.0) (λ right. not_so (ends e past a) both.1)
    way rest at (inr now) = record { at = newest e past at; added = now; not_ended = tt }

    by : (IsIn a (standing adds ends past) → IsAddedForGood adds ends past a) → (b : Bool) → is_refused e ≡ b → IsAddedForGood adds ends (e ∷ past) a
    by rest true at = later (rest (subst (IsIn a) (standing-refused adds ends e past at) is)) (λ right. both_ways (is_refused e) at right)
    by rest false at = way rest at (in_append a (filter kept (standing adds ends past)) (adds e past) (subst (IsIn a) (standing-next adds ends e past at) is))

stands_back : {A : Type 0} (adds : Entry → Past → List A) (ends : Entry → Past → A → Bool) (a : A) (later before : Past) (e : Entry) → is_refused e ≡ false → IsIn a (adds e before) → EndsNothingAfter ends a later (e ∷ before) → IsIn a (standing adds ends (later ++ e ∷ before))
stands_back adds ends a [] before e right added kept = subst (IsIn a) (sym (standing-next adds ends e before right)) (in_right a (filter (λ x. not (ends e before x)) (standing adds ends before)) (adds e before) added)
stands_back adds ends a (x ∷ later) before e right added kept = by (stands_back adds ends a later before e right added kept.1) (is_refused x) refl
  where
    past : Past
    past = later ++ e ∷ before

    by : IsIn a (standing adds ends past) → (b : Bool) → is_refused x ≡ b → IsIn a (standing adds ends (x ∷ past))
    by rest true at = subst (IsIn a) (sym (standing-refused adds ends x past at)) rest
    by rest false at =
        subst (IsIn a) (sym (standing-next adds ends x past at)) (in_left a (filter (λ y. not (ends x past y)) (standing adds ends past)) (adds x past) (in_filter_back (λ y. not (ends x past y)) a (standing adds ends past) (ap not (kept.0 at)) rest))

-- the values are those that some unrefused entry adds and no later one ends
pub stands_exactly : {A : Type 0} (adds : Entry → Past → List A) (ends : Entry → Past → A → Bool) (past : Past) (a : A) → (IsIn a (standing adds ends past) → IsAddedForGood adds ends past a) × (IsAddedForGood adds ends past a → IsIn a (standing adds ends past))
stands_exactly adds ends past a =
    (stands_so adds ends past a, λ r. subst (λ p. IsIn a (standing adds ends p)) (sym r.at.splits) (stands_back adds ends a r.at.later r.at.before r.at.entry r.at.unrefused r.added r.not_ended))

part_self : {A : Type 0} (xs : List A) → IsPartOf xs xs
part_self [] = nothing
part_self (x ∷ xs) = stays (part_self xs)

part_append : {A : Type 0} {xs ys : List A} → IsPartOf xs ys → (zs : List A) → IsPartOf (xs ++ zs) (ys ++ zs)
part_append nothing zs = part_self zs
part_append (stays p) zs = stays (part_append p zs)
part_append (goes p) zs = goes (part_append p zs)

part_step : {A : Type 0} (b : Bool) (x : A) {xs ys : List A} → IsPartOf xs ys → IsPartOf (cond b (x ∷ xs) xs) (x ∷ ys)
part_step true x p = stays p
part_step false x p = goes p

part_filter : {A : Type 0} (test : A → Bool) {xs ys : List A} → IsPartOf xs ys → IsPartOf (filter test xs) ys
part_filter test nothing = nothing
part_filter test (stays {x = x} p) = part_step (test x) x (part_filter test p)
part_filter test (goes p) = goes (part_filter test p)

-- in the order in which they were added
pub stands_in_order : {A : Type 0} (adds : Entry → Past → List A) (ends : Entry → Past → A → Bool) (past : Past) → IsPartOf (standing adds ends past) (each_of adds past)
stands_in_order adds ends [] = nothing
stands_in_order adds ends (e ∷ past) = by (stands_in_order adds ends past) (is_refused e) refl
  where
    by : IsPartOf (standing adds ends past) (each_of adds past) → (b : Bool) → is_refused e ≡ b → IsPartOf (standing adds ends (e ∷ past)) (each_of adds (e ∷ past))
    by rest true at = subst (λ l. IsPartOf l (each_of adds (e ∷ past))) (sym (standing-refused adds ends e past at)) (subst (IsPartOf (standing adds ends past)) (sym (each_of-refused adds e past at)) rest)
    by rest false at =
        subst (λ l. IsPartOf l (each_of adds (e ∷ past))) (sym (standing-next adds ends e past at))
        (subst (IsPartOf (filter (λ a. not (ends e past a)) (standing adds ends past) ++ adds e past)) (sym (each_of-next adds e past at)) (part_append (part_filter (λ a. not (ends e past a)) rest) (adds e past)))
