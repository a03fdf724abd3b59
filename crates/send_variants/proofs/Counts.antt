-- What marks count of their lists once an entry has come or gone, or the thread has looked.
use Rattle.std.proofs.Common.{◌≡◌, ◌∙◌, ℕ, zero, suc, ◌-◌, ◌<◌, ◌≤◌, true, false, List, [], ◌∷◌, ◌++◌, length, get_or, set, drop, replicate, Some, refl, sym, ap, subst, arith}
use Rattle.std.specs.Prelude.{nat_le, slice_get}
use Rattle.std.specs.List.{AllByRecursion, list_any}
use Rattle.std.proofs.lemmas.Bool.Decides.{nat_tests}
use Rattle.std.proofs.lemmas.List.Sums.{count_by-le-length}
use Rattle.queue_status.specs.declared.count.Count.{Count}
use Rattle.queue_status.specs.Counting.{counted}
use Rattle.queue_status.specs.Counts.{MayGo, is_fresh, is_there, none_fresh, one_less, one_more}
use Rattle.queue_status.proofs.Counting.{comes, fresh_told, goes, looks, may_go, there_told}
use Rattle.send_variants.specs.declared.mark.Mark.{Mark}
use Rattle.send_variants.specs.declared.ready.Ready.{Ready}
use Rattle.send_variants.specs.Lists.{AreBelow, Entry, IsSound, IsThread, is_new}
use Rattle.send_variants.specs.Counts.{AreCounted, marks_in, no_mark}
use Rattle.send_variants.proofs.Entries.{length-total}

-- there are as many marks as lists
pub same_length : (ms : List Mark) (lists : List (List Entry)) → AreCounted ms lists → length ms ≡ length lists
same_length [] [] h = refl
same_length (m ∷ ms) (es ∷ lists) h = ap suc (same_length ms lists h.1)
same_length [] (es ∷ lists) h = absurd h
same_length (m ∷ ms) [] h = absurd h

-- a thread has a mark
pub mark_within : (ms : List Mark) (lists : List (List Entry)) (t n : ℕ) → AreCounted ms lists → IsThread lists t → n ≡ t → n - 1 < length ms
mark_within ms lists t n h is same = omega (arith, same_length ms lists h, is.0, is.1, same)

-- a mark counts the list that it stands beside
pub count_at : (ms : List Mark) (lists : List (List Entry)) (i : ℕ) → AreCounted ms lists → (get_or ms i no_mark).count ≡ counted (is_new (get_or ms i no_mark).from) (get_or lists i [])
count_at [] [] i h = refl
count_at (m ∷ ms) (es ∷ lists) zero h = h.0
count_at (m ∷ ms) (es ∷ lists) (suc i) h = count_at ms lists i h.1
count_at [] (es ∷ lists) i h = absurd h
count_at (m ∷ ms) [] i h = absurd h

-- a list is another, and its mark
pub count_set : (ms : List Mark) (lists : List (List Entry)) (i : ℕ) (m : Mark) (es : List Entry) → AreCounted ms lists → m.count ≡ counted (is_new m.from) es → AreCounted (set ms i m) (set lists i es)
count_set [] [] i m es h is = tt
count_set (n ∷ ms) (fs ∷ lists) zero m es h is = (is, h.1)
count_set (n ∷ ms) (fs ∷ lists) (suc i) m es h is = (h.0, count_set ms lists i m es h.1 is)
count_set [] (fs ∷ lists) i m es h is = absurd h
count_set (n ∷ ms) [] i m es h is = absurd h

-- empty lists
pub count_none : (n : ℕ) → AreCounted (replicate n no_mark) (replicate n [])
count_none zero = tt
count_none (suc n) = (refl, count_none n)

pub marks_none : (n : ℕ) → marks_in (replicate n no_mark) ≡ replicate n 0
marks_none zero = refl
marks_none (suc n) = ap (λ (l : List ℕ). 0 ∷ l) (marks_none n)

-- ---- the marks alone

pub marks_set : (ms : List Mark) (i n : ℕ) (c : Count) → marks_in (set ms i (record { from = n; count = c })) ≡ set (marks_in ms) i n
marks_set [] i n c = refl
marks_set (m ∷ ms) zero n c = refl
marks_set (m ∷ ms) (suc i) n c = ap (λ (l : List ℕ). m.from ∷ l) (marks_set ms i n c)

pub marks_kept : (ms : List Mark) (i : ℕ) (c : Count) → marks_in (set ms i (let was = get_or ms i no_mark in record was { count = c })) ≡ marks_in ms
marks_kept [] i c = refl
marks_kept (m ∷ ms) zero c = refl
marks_kept (m ∷ ms) (suc i) c = ap (λ (l : List ℕ). m.from ∷ l) (marks_kept ms i c)

pub mark_is : (ms : List Mark) (i : ℕ) → (get_or ms i no_mark).from ≡ get_or (marks_in ms) i 0
mark_is [] i = refl
mark_is (m ∷ ms) zero = refl
mark_is (m ∷ ms) (suc i) = mark_is ms i

-- ---- how much is counted

-- no more than all lists have
pub few_there : (ms : List Mark) (lists : List (List Entry)) (i : ℕ) → AreCounted ms lists → IsSound lists → (get_or ms i no_mark).count.there ≤ 1024
few_there ms lists i h sound = omega (arith, ap (λ (c : Count). c.there) (count_at ms lists i h), length-total lists i, sound.few)

-- no more came since than are there
pub fresh_there : (ms : List Mark) (lists : List (List Entry)) (i : ℕ) → AreCounted ms lists → (get_or ms i no_mark).count.fresh ≤ (get_or ms i no_mark).count.there
fresh_there ms lists i h = subst (λ (c : Count). c.fresh ≤ c.there) (sym (count_at ms lists i h)) (count_by-le-length (is_new (get_or ms i no_mark).from) (get_or lists i []))

-- whether something is there, and whether it came since
pub told_there : (ms : List Mark) (lists : List (List Entry)) (i : ℕ) → AreCounted ms lists → is_there (get_or ms i no_mark).count ≡ list_any (λ e. true) (get_or lists i [])
told_there ms lists i h = ap is_there (count_at ms lists i h) ∙ there_told (is_new (get_or ms i no_mark).from) (get_or lists i [])

pub told_fresh : (ms : List Mark) (lists : List (List Entry)) (i : ℕ) → AreCounted ms lists → is_fresh (get_or ms i no_mark).count ≡ list_any (is_new (get_or (marks_in ms) i 0)) (get_or lists i [])
told_fresh ms lists i h =
    ap is_fresh (count_at ms lists i h)
    ∙ fresh_told (is_new (get_or ms i no_mark).from) (get_or lists i [])
    ∙ ap (λ n. list_any (is_new n) (get_or lists i [])) (mark_is ms i)

-- ---- an entry comes

pub count_put : (ms : List Mark) (lists : List (List Entry)) (i place : ℕ) (r : Ready) → AreCounted ms lists
    → AreCounted (set ms i (let was = get_or ms i no_mark in record was { count = one_more (nat_le was.from place) was.count })) (set lists i (get_or lists i [] ++ (place, r) ∷ []))
count_put ms lists i place r h =
    let was = get_or ms i no_mark in
    count_set ms lists i (record was { count = one_more (nat_le was.from place) was.count }) (get_or lists i [] ++ (place, r) ∷ []) h
    (ap (one_more (nat_le was.from place)) (count_at ms lists i h) ∙ sym (comes (is_new was.from) (get_or lists i []) (place, r)))

-- ---- an entry goes from its place

pub may_leave : (ms : List Mark) (lists : List (List Entry)) (i : ℕ) (us vs : List Entry) (e : Entry) → AreCounted ms lists → get_or lists i [] ≡ us ++ e ∷ vs → MayGo (nat_le (get_or ms i no_mark).from e.0) (get_or ms i no_mark).count
may_leave ms lists i us vs e h parts =
    let from = (get_or ms i no_mark).from in
    subst (MayGo (nat_le from e.0)) (sym (count_at ms lists i h ∙ ap (counted (is_new from)) parts)) (may_go (is_new from) us vs e)

pub count_less : (ms : List Mark) (lists : List (List Entry)) (i : ℕ) (us vs : List Entry) (e : Entry) → AreCounted ms lists → get_or lists i [] ≡ us ++ e ∷ vs
    → AreCounted (set ms i (let was = get_or ms i no_mark in record was { count = one_less (nat_le was.from e.0) was.count })) (set lists i (us ++ vs))
count_less ms lists i us vs e h parts =
    let was = get_or ms i no_mark in
    count_set ms lists i (record was { count = one_less (nat_le was.from e.0) was.count }) (us ++ vs) h
    (ap (one_less (nat_le was.from e.0)) (count_at ms lists i h ∙ ap (counted (is_new was.from)) parts) ∙ goes (is_new was.from) us vs e)

-- the first of a list
pub first_of : (es : List Entry) (e : Entry) → slice_get es 0 ≡ Some e → es ≡ e ∷ drop 1 es
first_of [] e is = absurd (cc is)
first_of (f ∷ es) e is = let same : f ≡ e = cc in ap (λ (x : Entry). x ∷ es) same

-- ---- a look

none_above : (place : ℕ) (es : List Entry) → AreBelow place es → AllByRecursion (λ e. is_new place e ≡ false) es
none_above place [] h = tt
none_above place (e ∷ es) h = let below = h.0 in (grind (arith, nat_tests, below), none_above place es h.1)

set_same : (lists : List (List Entry)) (i : ℕ) → set lists i (get_or lists i []) ≡ lists
set_same [] i = refl
set_same (es ∷ lists) zero = refl
set_same (es ∷ lists) (suc i) = ap (λ (l : List (List Entry)). es ∷ l) (set_same lists i)

pub count_look : (ms : List Mark) (lists : List (List Entry)) (i place : ℕ) → AreCounted ms lists → AreBelow place (get_or lists i []) → AreCounted (set ms i (record { from = place; count = none_fresh (get_or ms i no_mark).count })) lists
count_look ms lists i place h below =
    let was = get_or ms i no_mark in
    subst (AreCounted (set ms i (record { from = place; count = none_fresh was.count }))) (set_same lists i)
    (count_set ms lists i (record { from = place; count = none_fresh was.count }) (get_or lists i []) h
    (ap none_fresh (count_at ms lists i h) ∙ sym (looks (is_new place) (is_new was.from) (get_or lists i []) (none_above place (get_or lists i []) below))))
