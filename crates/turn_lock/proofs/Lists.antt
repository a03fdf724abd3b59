-- Beginnings of lists, the entries of one number, and how many seats have a ticket.
use Rattle.std.proofs.Common.{◌≡◌, ◌≢◌, ◌⊎◌, ℕ, zero, suc, ◌+◌, ◌<◌, ◌≤◌, eqb, cond, List, [], ◌∷◌, ◌++◌, length, set, sym, refl, ap, ◌∙◌, ⊎_elim, inl, inr, arith, eq-eqb, ne_eqb, All}
use Rattle.std.proofs.lemmas.List.{append-nil, append_assoc}
use Rattle.std.proofs.lemmas.List.Elements.{filter-append, All-head, All-tail}
use mathlib.Core.Option.{some, some-injective, some-ne-none}
use lib.ListN.{get_elem?}
use Rattle.atomic_table.proofs.Lists.{set_here}
use Rattle.turn_lock.specs.Histories.{Begins, calls_of}
use Rattle.turn_lock.specs.Rule.{tickets_of, tickets_out}
use Rattle.turn_lock.specs.declared.view.View.{View}
use Rattle.turn_lock.specs.declared.view.Stage.{Stage}
use Rattle.turn_lock.specs.declared.view.Stage.TheVariants.{Away, Waiting, Served, Spent}

module _ {E : Type 0} where
  pub begins_all : (xs : List E) → Begins xs xs
  begins_all xs = ([], append-nil xs)

  pub begins_chain : (a b c : List E) → Begins a b → Begins b c → Begins a c
  begins_chain a b c p q = (p.0 ++ q.0, sym (append_assoc a p.0 q.0) ∙ (ap (λ l. l ++ q.0) p.1 ∙ q.1))

  pub at_below : (l : List E) (i : ℕ) (a : E) → get_elem? l i ≡ some a → i < length l
  at_below [] i a e = absurd (some-ne-none a (sym e))
  at_below (x ∷ xs) zero a e = omega arith
  at_below (x ∷ xs) (suc i) a e = let h = at_below xs i a e in omega arith

  pub put_there : (l : List E) (i : ℕ) (a b : E) → get_elem? l i ≡ some a → get_elem? (set l i b) i ≡ some b
  put_there l i a b e = set_here l i b (at_below l i a e)

  pub at_end : (l : List E) (a b : E) (j : ℕ) → get_elem? (l ++ a ∷ []) j ≡ some b → (get_elem? l j ≡ some b) ⊎ ((j ≡ length l) × (a ≡ b))
  at_end [] a b zero e = inr (refl, some-injective a b e)
  at_end [] a b (suc j) e = absurd (some-ne-none b (sym e))
  at_end (x ∷ xs) a b zero e = inl e
  at_end (x ∷ xs) a b (suc j) e = ⊎_elim inl (λ t. inr (ap suc t.0, t.1)) (at_end xs a b j e)

module _ {C A : Type 0} (number : C → ℕ) where
  pub calls_more : (k : ℕ) (xs ys : List (C × A)) → calls_of number k (xs ++ ys) ≡ calls_of number k xs ++ calls_of number k ys
  calls_more k xs ys = filter-append (λ (e : C × A). eqb (number e.0) k) xs ys

  pub calls_one : (k : ℕ) (e : C × A) → number e.0 ≡ k → calls_of number k (e ∷ []) ≡ e ∷ []
  calls_one k e is = ap (λ b. cond b (e ∷ []) []) (eq-eqb (number e.0) k is)

  pub calls_other : (k : ℕ) (e : C × A) → number e.0 ≢ k → calls_of number k (e ∷ []) ≡ []
  calls_other k e not = ap (λ b. cond b (e ∷ []) []) (ne_eqb (number e.0) k not)

  pub calls_none : (n k : ℕ) (log : List (C × A)) → All (λ e. number e.0 < n) log → n ≤ k → calls_of number k log ≡ []
  calls_none n k [] all le = refl
  calls_none n k (e ∷ es) all le = let low = All-head (λ (x : C × A). number x.0 < n) e es all in
      ap (λ b. cond b (e ∷ calls_of number k es) (calls_of number k es)) (ne_eqb (number e.0) k (λ q. omega arith)) ∙ calls_none n k es (All-tail (λ (x : C × A). number x.0 < n) e es all) le

one_at_most : (s : Stage) → tickets_of s ≤ 1
one_at_most Away = omega arith
one_at_most (Waiting t) = omega arith
one_at_most (Served b) = omega arith
one_at_most Spent = omega arith

module _ {S C A : Type 0} where
  pub tickets_set : (vs : List (View S C A)) (j : ℕ) (v w : View S C A) → get_elem? vs j ≡ some v → tickets_out (set vs j w) + tickets_of v.stage ≡ tickets_out vs + tickets_of w.stage
  tickets_set [] j v w e = absurd (some-ne-none v (sym e))
  tickets_set (x ∷ xs) zero v w e = let same : tickets_of x.stage ≡ tickets_of v.stage = ap (λ (u : View S C A). tickets_of u.stage) (some-injective x v e) in omega arith
  tickets_set (x ∷ xs) (suc j) v w e = let h = tickets_set xs j v w e in omega arith

  pub tickets_append : (vs : List (View S C A)) (w : View S C A) → tickets_out (vs ++ w ∷ []) ≡ tickets_out vs + tickets_of w.stage
  tickets_append [] w = omega arith
  tickets_append (x ∷ xs) w = let h = tickets_append xs w in omega arith

  pub tickets_few : (vs : List (View S C A)) → tickets_out vs ≤ length vs
  tickets_few [] = omega arith
  tickets_few (x ∷ xs) = let h = tickets_few xs in let one = one_at_most x.stage in omega arith
