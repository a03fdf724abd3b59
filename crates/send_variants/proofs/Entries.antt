-- Ready lists stay sound.
use Rattle.std.proofs.Common.{◌≡◌, ℕ, zero, suc, ◌+◌, ◌-◌, ◌<◌, ◌≤◌, Bool, true, false, cond, List, [], ◌∷◌, ◌++◌, length, get_or, set, drop, replicate, refl, sym, subst, arith, length-append}
use Rattle.std.proofs.lemmas.List.{length-set, length-replicate}
use Rattle.std.specs.Prelude.{◌==◌}
use Rattle.std.proofs.lemmas.Map.Views.{exact_unsigned_eq}
use Rattle.send_variants.specs.declared.ready.Ready.{Ready}
use Rattle.send_variants.specs.Lists.{AreAbove, AreBelow, Entry, IsRising, IsSound, all_without, count_in, count_on, list_of, named_by, names, total, with_list, without}

-- one list is another
pub total-set : (lists : List (List Entry)) (i : ℕ) (es : List Entry) → i < length lists → total (set lists i es) + length (get_or lists i []) ≡ total lists + length es
total-set [] i es h = absurd (omega arith)
total-set (fs ∷ lists) zero es h = omega arith
total-set (fs ∷ lists) (suc i) es h =
    let rest = total-set lists i es (omega (arith, h)) in omega (arith, rest)

-- no list has more entries than all together
pub length-total : (lists : List (List Entry)) (i : ℕ) → length (get_or lists i []) ≤ total lists
length-total [] i = omega arith
length-total (fs ∷ lists) zero = omega arith
length-total (fs ∷ lists) (suc i) =
    let rest = length-total lists i in omega (arith, rest)

count-set : (s : ℕ) (lists : List (List Entry)) (i : ℕ) (es : List Entry) → i < length lists → count_on s (set lists i es) + count_in s (get_or lists i []) ≡ count_on s lists + count_in s es
count-set s [] i es h = absurd (omega arith)
count-set s (fs ∷ lists) zero es h = omega arith
count-set s (fs ∷ lists) (suc i) es h =
    let rest = count-set s lists i es (omega (arith, h)) in omega (arith, rest)

-- no list names a send more often than all together
pub count-total : (s : ℕ) (lists : List (List Entry)) (i : ℕ) → count_in s (get_or lists i []) ≤ count_on s lists
count-total s [] i = omega arith
count-total s (fs ∷ lists) zero = omega arith
count-total s (fs ∷ lists) (suc i) =
    let rest = count-total s lists i in omega (arith, rest)

count-push : (s : ℕ) (es : List Entry) (e : Entry) → count_in s (es ++ e ∷ []) ≡ count_in s es + cond (names s e) 1 0
count-push s [] e = omega arith
count-push s (x ∷ es) e =
    let rest = count-push s es e in omega (arith, rest)

above-push : (q : ℕ) (es : List Entry) (e : Entry) → AreAbove q es → q < e.0 → AreAbove q (es ++ e ∷ [])
above-push q [] e a h = (h, tt)
above-push q (x ∷ es) e a h = (a.0, above-push q es e a.1 h)

rising-push : (es : List Entry) (e : Entry) → IsRising es → AreBelow e.0 es → IsRising (es ++ e ∷ [])
rising-push [] e r b = (tt, tt)
rising-push (x ∷ es) e r b = (above-push x.0 es e r.0 b.0, rising-push es e r.1 b.1)

rising-drop : (es : List Entry) → IsRising es → IsRising (drop 1 es)
rising-drop [] r = tt
rising-drop (x ∷ es) r = r.1

rising-set : (lists : List (List Entry)) (j : ℕ) (es : List Entry) → IsRising es → ((i : ℕ) → IsRising (get_or lists i [])) → (i : ℕ) → IsRising (get_or (set lists j es) i [])
rising-set [] j es r h i = h i
rising-set (fs ∷ lists) zero es r h zero = r
rising-set (fs ∷ lists) zero es r h (suc i) = h (suc i)
rising-set (fs ∷ lists) (suc j) es r h zero = h 0
rising-set (fs ∷ lists) (suc j) es r h (suc i) = rising-set lists j es r (λ k. h (suc k)) i

-- thread 0 has no list of its own, so its place is thread 1's
by_place : (lists : List (List Entry)) → ((t : ℕ) → IsRising (list_of lists t)) → (i : ℕ) → IsRising (get_or lists i [])
by_place lists h i =
    let same : suc i - 1 ≡ i = omega arith in
    subst (λ n. IsRising (get_or lists n [])) same (h (suc i))

-- an entry more
pub sound-put : (lists : List (List Entry)) (t place : ℕ) (r : Ready) → IsSound lists → 1 ≤ t → t ≤ length lists → AreBelow place (list_of lists t) → total lists < 1024 → count_on (named_by r) lists ≡ 0
    → IsSound (with_list lists t (list_of lists t ++ (place, r) ∷ []))
sound-put lists t place r s low high below room none = record {
  threads = subst (λ n. (1 ≤ n) × (n ≤ 15)) (sym (length-set lists (t - 1) (list_of lists t ++ (place, r) ∷ []))) s.threads;
  rising = λ u. rising-set lists (t - 1) (list_of lists t ++ (place, r) ∷ []) (rising-push (list_of lists t) (place, r) (s.rising t) below) (by_place lists s.rising) (u - 1);
  once = λ q.
      let changed = count-set q lists (t - 1) (list_of lists t ++ (place, r) ∷ []) (omega (arith, low, high)) in
      let more = count-push q (list_of lists t) (place, r) in
      named q (named_by r == q) refl (omega (arith, changed, more));
  few =
      let changed = total-set lists (t - 1) (list_of lists t ++ (place, r) ∷ []) (omega (arith, low, high)) in
      let more = length-append (list_of lists t) ((place, r) ∷ []) in
      omega (arith, changed, more, room);
} where
  named : (q : ℕ) (b : Bool) → (named_by r == q) ≡ b → count_on q (set lists (t - 1) (list_of lists t ++ (place, r) ∷ [])) ≡ count_on q lists + cond (named_by r == q) 1 0
      → count_on q (set lists (t - 1) (list_of lists t ++ (place, r) ∷ [])) ≤ 1
  named q true e c =
      let c' = subst (λ b. count_on q (set lists (t - 1) (list_of lists t ++ (place, r) ∷ [])) ≡ count_on q lists + cond b 1 0) e c in
      let zero : count_on q lists ≡ 0 = subst (λ n. count_on n lists ≡ 0) (exact_unsigned_eq (named_by r) q e) none in
      omega (arith, c', zero)
  named q false e c =
      let c' = subst (λ b. count_on q (set lists (t - 1) (list_of lists t ++ (place, r) ∷ [])) ≡ count_on q lists + cond b 1 0) e c in
      omega (arith, c', s.once q)

count-drop : (s : ℕ) (es : List Entry) → count_in s (drop 1 es) ≤ count_in s es
count-drop s [] = omega arith
count-drop s (e ∷ es) = omega arith

length-drop_one : (es : List Entry) → length (drop 1 es) ≤ length es
length-drop_one [] = omega arith
length-drop_one (e ∷ es) = omega arith

-- the first entry less
pub sound-take : (lists : List (List Entry)) (t : ℕ) → IsSound lists → 1 ≤ t → t ≤ length lists → IsSound (with_list lists t (drop 1 (list_of lists t)))
sound-take lists t s low high = record {
  threads = subst (λ n. (1 ≤ n) × (n ≤ 15)) (sym (length-set lists (t - 1) (drop 1 (list_of lists t)))) s.threads;
  rising = λ u. rising-set lists (t - 1) (drop 1 (list_of lists t)) (rising-drop (list_of lists t) (s.rising t)) (by_place lists s.rising) (u - 1);
  once = λ q.
      let changed = count-set q lists (t - 1) (drop 1 (list_of lists t)) (omega (arith, low, high)) in
      omega (arith, changed, count-drop q (list_of lists t), s.once q);
  few =
      let changed = total-set lists (t - 1) (drop 1 (list_of lists t)) (omega (arith, low, high)) in
      omega (arith, changed, length-drop_one (list_of lists t), s.few);
}

above-without : (q s : ℕ) (es : List Entry) → AreAbove q es → AreAbove q (without s es)
above-without q s [] a = tt
above-without q s (e ∷ es) a = go (names s e) (above-without q s es a.1) where
  go : (b : Bool) → AreAbove q (without s es) → AreAbove q (cond b (without s es) (e ∷ without s es))
  go true r = r
  go false r = (a.0, r)

rising-without : (s : ℕ) (es : List Entry) → IsRising es → IsRising (without s es)
rising-without s [] r = tt
rising-without s (e ∷ es) r = go (names s e) (rising-without s es r.1) where
  go : (b : Bool) → IsRising (without s es) → IsRising (cond b (without s es) (e ∷ without s es))
  go true x = x
  go false x = (above-without e.0 s es r.0, x)

count-without : (q s : ℕ) (es : List Entry) → count_in q (without s es) ≤ count_in q es
count-without q s [] = omega arith
count-without q s (e ∷ es) = go (names s e) (count-without q s es) where
  go : (b : Bool) → count_in q (without s es) ≤ count_in q es → count_in q (cond b (without s es) (e ∷ without s es)) ≤ count_in q (e ∷ es)
  go true h = omega (arith, h)
  go false h = omega (arith, h)

length-without : (s : ℕ) (es : List Entry) → length (without s es) ≤ length es
length-without s [] = omega arith
length-without s (e ∷ es) = go (names s e) (length-without s es) where
  go : (b : Bool) → length (without s es) ≤ length es → length (cond b (without s es) (e ∷ without s es)) ≤ length (e ∷ es)
  go true h = omega (arith, h)
  go false h = omega (arith, h)

pub length-all : (s : ℕ) (lists : List (List Entry)) → length (all_without s lists) ≡ length lists
length-all s [] = refl
length-all s (es ∷ lists) = omega (arith, length-all s lists)

rising-all : (s : ℕ) (lists : List (List Entry)) → ((i : ℕ) → IsRising (get_or lists i [])) → (i : ℕ) → IsRising (get_or (all_without s lists) i [])
rising-all s [] h i = h i
rising-all s (es ∷ lists) h zero = rising-without s es (h 0)
rising-all s (es ∷ lists) h (suc i) = rising-all s lists (λ k. h (suc k)) i

count-all : (q s : ℕ) (lists : List (List Entry)) → count_on q (all_without s lists) ≤ count_on q lists
count-all q s [] = omega arith
count-all q s (es ∷ lists) = omega (arith, count-without q s es, count-all q s lists)

total-all : (s : ℕ) (lists : List (List Entry)) → total (all_without s lists) ≤ total lists
total-all s [] = omega arith
total-all s (es ∷ lists) = omega (arith, length-without s es, total-all s lists)

-- a send less
pub sound-withdraw : (lists : List (List Entry)) (s : ℕ) → IsSound lists → IsSound (all_without s lists)
sound-withdraw lists s a = record {
  threads = subst (λ n. (1 ≤ n) × (n ≤ 15)) (sym (length-all s lists)) a.threads;
  rising = λ u. rising-all s lists (by_place lists a.rising) (u - 1);
  once = λ q. omega (arith, count-all q s lists, a.once q);
  few = omega (arith, total-all s lists, a.few);
}

rising-empty : (n i : ℕ) → IsRising (get_or (replicate n (let es : List Entry = [] in es)) i [])
rising-empty zero i = tt
rising-empty (suc n) zero = tt
rising-empty (suc n) (suc i) = rising-empty n i

count-empty : (s n : ℕ) → count_on s (replicate n []) ≡ 0
count-empty s zero = refl
count-empty s (suc n) = omega (arith, count-empty s n)

pub total-empty : (n : ℕ) → total (replicate n []) ≡ 0
total-empty zero = refl
total-empty (suc n) = omega (arith, total-empty n)

-- at first
pub sound-new : (threads : ℕ) → 1 ≤ threads → threads ≤ 15 → IsSound (replicate threads [])
sound-new threads low high = record {
  threads = subst (λ n. (1 ≤ n) × (n ≤ 15)) (sym (length-replicate threads [])) (low, high);
  rising = λ u. rising-empty threads (u - 1);
  once = λ q. omega (arith, count-empty q threads);
  few = omega (arith, total-empty threads);
}
