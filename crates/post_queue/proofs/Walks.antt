-- Walks along the links.
use Rattle.std.proofs.Common.{◌≡◌, ◌∙◌, ℕ, ◌+◌, ◌<◌, ◌≤◌, suc, List, [], ◌∷◌, ◌++◌, length, take, cond, filter, Bool, true, false, eqb, Option, Some, None, append_assoc, append-nil, refl, sym, ap, subst, arith}
use Rattle.std.specs.Prelude.{slice_get, All, count_by}
use Rattle.std.specs.List.{AllByRecursion}
use Rattle.std.proofs.lemmas.Bool.{eq-eqb, ne_eqb}
use Rattle.std.proofs.lemmas.List.{length-append}
use Rattle.std.proofs.lemmas.List.Elements.{All-from_recursion, filter-append}
use Rattle.std.proofs.lemmas.List.Sums.{length-filter, count_by-le-length}
use Rattle.std.proofs.Math.Seq.{take-append_seam}
use Rattle.win_num.specs.declared.message.Msg.{Msg}
use Rattle.post_queue.specs.declared.slot.Slot.{Slot}
use Rattle.post_queue.specs.Queue.{Posted, IsFirst}
use Rattle.post_queue.specs.Chains.{posted_of, posted_at, first_key, above_all, left_from, Linked}
use Rattle.post_queue.proofs.Chains.{split_linked, posted_here, posted_append, posted_length, one_slot}

some_same : {A : Type 0} (a c : A) → Some a ≡ Some c → a ≡ c
some_same a c e = cc e

-- how far a walk has come: these were passed, and the next is the first of those
pub record IsWalk (slot : ℕ → Option Slot) (es : List (ℕ × ℕ)) (at : Option ℕ) : Type 0 where
  pub done : List (ℕ × ℕ)
  pub todo : List (ℕ × ℕ)
  pub parts : es ≡ done ++ todo
  pub here : at ≡ first_key todo None

-- one step of it
pub record IsStep (slot : ℕ → Option Slot) (es : List (ℕ × ℕ)) (key : ℕ) (z : Slot) (done todo : List (ℕ × ℕ)) : Type 0 where
  pub later : List (ℕ × ℕ)
  pub is : todo ≡ (z.number, key) ∷ later
  pub next : z.after ≡ first_key later None
  pub more : es ≡ (done ++ (z.number, key) ∷ []) ++ later
  pub whole : es ≡ done ++ (z.number, key) ∷ later

module _ (g : ℕ → Option Slot) (es : List (ℕ × ℕ)) (linked : Linked g None 0 es None) where
  pub step : (at : Option ℕ) (key : ℕ) (walk : IsWalk g es at) → at ≡ Some key → (z : Slot) → g key ≡ Some z → IsStep g es key z walk.done walk.todo
  step at key walk is z there = pick walk.todo refl
    where
      pick : (ds : List (ℕ × ℕ)) → walk.todo ≡ ds → IsStep g es key z walk.done walk.todo
      pick [] e = absurd (cc (sym is ∙ walk.here ∙ ap (λ (ds : List (ℕ × ℕ)). first_key ds None) e))
      pick (d ∷ ds) e =
          let key_is : d.1 ≡ key = some_same d.1 key (sym (sym is ∙ walk.here ∙ ap (λ (cs : List (ℕ × ℕ)). first_key cs None) e)) in
          let parts : es ≡ walk.done ++ d ∷ ds = walk.parts ∙ ap (λ (cs : List (ℕ × ℕ)). walk.done ++ cs) e in
          let held = (split_linked g None 0 walk.done (d ∷ ds) None (subst (λ (cs : List (ℕ × ℕ)). Linked g None 0 cs None) parts linked)).1.0 in
          let same : held.held ≡ z = one_slot g d.1 key held.held z held.here there key_is in
          let number : d.0 ≡ z.number = sym held.number ∙ ap (λ (y : Slot). y.number) same in
          let entry : d ≡ (z.number, key) = ap (λ m. let c : ℕ × ℕ = (m, d.1) in c) number ∙ ap (λ k. let c : ℕ × ℕ = (z.number, k) in c) key_is in
          let whole : es ≡ walk.done ++ (z.number, key) ∷ ds = parts ∙ ap (λ (c : ℕ × ℕ). walk.done ++ c ∷ ds) entry in
          record {
            later = ds;
            is = e ∙ ap (λ (c : ℕ × ℕ). c ∷ ds) entry;
            next = ap (λ (y : Slot). y.after) (sym same) ∙ held.after;
            more = whole ∙ sym (append_assoc walk.done ((z.number, key) ∷ []) ds);
            whole = whole;
          }

  -- there is a slot
  pub there_is : (at : Option ℕ) (key : ℕ) (walk : IsWalk g es at) → at ≡ Some key → (z : Slot) × (g key ≡ Some z)
  there_is at key walk is = pick walk.todo refl
    where
      pick : (ds : List (ℕ × ℕ)) → walk.todo ≡ ds → (z : Slot) × (g key ≡ Some z)
      pick [] e = absurd (cc (sym is ∙ walk.here ∙ ap (λ (ds : List (ℕ × ℕ)). first_key ds None) e))
      pick (d ∷ ds) e =
          let key_is : d.1 ≡ key = some_same d.1 key (sym (sym is ∙ walk.here ∙ ap (λ (cs : List (ℕ × ℕ)). first_key cs None) e)) in
          let parts : es ≡ walk.done ++ d ∷ ds = walk.parts ∙ ap (λ (cs : List (ℕ × ℕ)). walk.done ++ cs) e in
          let held = (split_linked g None 0 walk.done (d ∷ ds) None (subst (λ (cs : List (ℕ × ℕ)). Linked g None 0 cs None) parts linked)).1.0 in
          (held.held, ap g (sym key_is) ∙ held.here)

  -- the end of it
  pub ended : (at : Option ℕ) (walk : IsWalk g es at) → at ≡ None → es ≡ walk.done
  ended at walk is = pick walk.todo refl
    where
      pick : (ds : List (ℕ × ℕ)) → walk.todo ≡ ds → es ≡ walk.done
      pick [] e = walk.parts ∙ ap (λ (cs : List (ℕ × ℕ)). walk.done ++ cs) e ∙ append-nil walk.done
      pick (d ∷ ds) e = absurd (cc (sym is ∙ walk.here ∙ ap (λ (cs : List (ℕ × ℕ)). first_key cs None) e))

-- its begin
abbrev pub begun : (g : ℕ → Option Slot) (es : List (ℕ × ℕ)) (at : Option ℕ) → at ≡ first_key es None → IsWalk g es at
begun g es at is = record { done = []; todo = es; parts = refl; here = is }

-- a step more was passed
abbrev pub stepped : (g : ℕ → Option Slot) (es : List (ℕ × ℕ)) (key : ℕ) (z : Slot) (done todo : List (ℕ × ℕ)) → IsStep g es key z done todo → IsWalk g es z.after
stepped g es key z done todo s = record { done = done ++ (z.number, key) ∷ []; todo = s.later; parts = s.more; here = s.next }

pub posted_more : (g : ℕ → Option Slot) (done : List (ℕ × ℕ)) (key : ℕ) (z : Slot) → g key ≡ Some z → posted_at g (done ++ (z.number, key) ∷ []) ≡ posted_at g done ++ posted_of z ∷ []
posted_more g done key z there = posted_append g done ((z.number, key) ∷ []) ∙ ap (λ (ps : List Posted). posted_at g done ++ ps) (posted_here g (z.number, key) [] z there)

-- how many are left
left_append : (g : ℕ → Option Slot) (prev : Option ℕ) (from : ℕ) (us vs : List (ℕ × ℕ)) (at : Option ℕ) → Linked g prev from (us ++ vs) None → at ≡ first_key vs None → left_from at (us ++ vs) ≡ length vs
left_append g prev from us vs None h is = none us vs is
  where
    left_none : (ds : List (ℕ × ℕ)) → left_from None ds ≡ 0
    left_none [] = refl
    left_none (d ∷ ds) = refl

    none : (us vs : List (ℕ × ℕ)) → None ≡ first_key vs None → left_from None (us ++ vs) ≡ length vs
    none us [] e = left_none (us ++ [])
    none us (d ∷ ds) e = absurd (cc e)
left_append g prev from [] [] (Some k) h is = absurd (cc is)
left_append g prev from [] (e ∷ vs) (Some k) h is = ap (λ b. cond b (suc (length vs)) (left_from (Some k) vs)) (eq-eqb e.1 k (sym (some_same k e.1 is)))
left_append g prev from (e ∷ us) [] (Some k) h is = absurd (cc is)
left_append g prev from (e ∷ us) (f ∷ vs) (Some k) h is =
    let tail = (split_linked g (Some e.1) (suc e.0) us (f ∷ vs) None h.1).1.0 in
    let above = above_us us (Some e.1) (suc e.0) h.1 in
    let differs : eqb e.1 k ≡ false = ne_eqb e.1 k (λ same. omega (arith, h.0.number, tail.number, tail.rises, above, ap (λ (y : Slot). y.number) (one_slot g e.1 f.1 h.0.held tail.held h.0.here tail.here (same ∙ some_same k f.1 is)))) in
    ap (λ b. cond b (suc (length (us ++ f ∷ vs))) (left_from (Some k) (us ++ f ∷ vs))) differs ∙ left_append g (Some e.1) (suc e.0) us (f ∷ vs) (Some k) h.1 is
  where
    above_us : (ds : List (ℕ × ℕ)) (p : Option ℕ) (m : ℕ) → Linked g p m (ds ++ f ∷ vs) None → m ≤ above_all m ds
    above_us [] p m h = omega arith
    above_us (d ∷ ds) p m h = omega (arith, h.0.rises, above_us ds (Some d.1) (suc d.0) h.1)

pub left_is : (g : ℕ → Option Slot) (es : List (ℕ × ℕ)) (at : Option ℕ) → Linked g None 0 es None → (walk : IsWalk g es at) → left_from at es ≡ length walk.todo
left_is g es at h walk = ap (left_from at) walk.parts ∙ left_append g None 0 walk.done walk.todo at (subst (λ (ds : List (ℕ × ℕ)). Linked g None 0 ds None) walk.parts h) walk.here

-- fewer are left after a step
pub fewer_left : (g : ℕ → Option Slot) (es : List (ℕ × ℕ)) (at : Option ℕ) (key : ℕ) (z : Slot) → Linked g None 0 es None → (walk : IsWalk g es at) → (s : IsStep g es key z walk.done walk.todo) → left_from z.after es < left_from at es
fewer_left g es at key z h walk s = omega (arith, left_is g es at h walk, left_is g es z.after h (stepped g es key z walk.done walk.todo s), ap length s.is)

-- what was passed, and what is there
module _ (g : ℕ → Option Slot) (es : List (ℕ × ℕ)) (linked : Linked g None 0 es None) (at : Option ℕ) (walk : IsWalk g es at) where
  pub done_length : length (posted_at g walk.done) ≡ length walk.done
  done_length = posted_length g None 0 walk.done (first_key walk.todo None) (split_linked g None 0 walk.done walk.todo None (subst (λ (ds : List (ℕ × ℕ)). Linked g None 0 ds None) walk.parts linked)).0

  pub posted_parts : (key : ℕ) (z : Slot) → g key ≡ Some z → (s : IsStep g es key z walk.done walk.todo) → posted_at g es ≡ posted_at g walk.done ++ posted_of z ∷ posted_at g s.later
  posted_parts key z there s =
      ap (posted_at g) s.whole
      ∙ posted_append g walk.done ((z.number, key) ∷ s.later)
      ∙ ap (λ (ps : List Posted). posted_at g walk.done ++ ps) (posted_here g (z.number, key) s.later z there)

pub all_push : (P : Posted → Type 0) (ps : List Posted) (p : Posted) → AllByRecursion P ps → P p → AllByRecursion P (ps ++ p ∷ [])
all_push P [] p all here = (here, tt)
all_push P (q ∷ ps) p all here = (all.0, all_push P ps p all.1 here)

slice_at : (as1 bs1 : List Posted) (p : Posted) → slice_get (as1 ++ p ∷ bs1) (length as1) ≡ Some p
slice_at [] bs1 p = refl
slice_at (q ∷ as1) bs1 p = slice_at as1 bs1 p

-- the first that passes
pub is_first : (R : Msg → Bool → Type 0) (before later ps : List Posted) (p : Posted) → ps ≡ before ++ p ∷ later → R p.msg true → AllByRecursion (λ q. R q.msg false) before → IsFirst R ps (length before) p
is_first R before later ps p parts passes earlier = record {
  here = ap (λ (qs : List Posted). slice_get qs (length before)) parts ∙ slice_at before later p;
  passing = passes;
  earlier = subst (λ (qs : List Posted). All (λ q. R q.msg false) qs) (sym (ap (take (length before)) parts ∙ take-append_seam before (p ∷ later))) (All-from_recursion (λ q. R q.msg false) before earlier);
}

-- counts of what was passed
count_append : (p : Posted → Bool) (xs ys : List Posted) → count_by p (xs ++ ys) ≡ count_by p xs + count_by p ys
count_append p xs ys = omega (arith, length-filter p (xs ++ ys), length-filter p xs, length-filter p ys, ap length (filter-append p xs ys), length-append (filter p xs) (filter p ys))

pub count_more : (p : Posted → Bool) (xs ys : List Posted) (x : Posted) (n more : ℕ) → ys ≡ xs ++ x ∷ [] → n ≡ count_by p xs → more ≡ count_by p (x ∷ []) → n + more ≡ count_by p ys
count_more p xs ys x n more is so one = omega (arith, so, one, ap (count_by p) is, count_append p xs (x ∷ []))

pub count_fits : (p : Posted → Bool) (xs later all : List Posted) (x : Posted) (n more : ℕ) → all ≡ xs ++ x ∷ later → n ≡ count_by p xs → more ≡ count_by p (x ∷ []) → n + more ≤ length all
count_fits p xs later all x n more is so one = omega (arith, so, one, ap length is, length-append xs (x ∷ later), count_by-le-length p xs, count_by-le-length p (x ∷ []))
