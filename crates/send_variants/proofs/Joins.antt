-- The ends of a list once an entry has come or gone.
use Rattle.std.proofs.Common.{◌≡◌, ◌∙◌, ℕ, ◌≤◌, suc, List, [], ◌∷◌, ◌++◌, Option, Some, None, append-nil, refl, sym, ap, subst, arith}
use Rattle.send_variants.specs.declared.slot.Slot.{Slot}
use Rattle.send_variants.specs.Lists.{AreBelow}
use Rattle.send_variants.specs.Tables.{entries_at, first_key, last_key, above_all, end_left, Linked}
use Rattle.send_variants.proofs.Chains.{entries_here, some_same}

-- the last of two parts
pub last_append : (prev : Option ℕ) (us vs : List (ℕ × ℕ)) → last_key prev (us ++ vs) ≡ last_key (last_key prev us) vs
last_append prev [] vs = refl
last_append prev (e ∷ us) vs = last_append (Some e.1) us vs

pub last_some : (c : ℕ) (us : List (ℕ × ℕ)) → last_key (Some c) us ≡ None → ⊥
last_some c [] h = cc h
last_some c (e ∷ us) h = last_some e.1 us h

end_some : (beside end other : Option ℕ) → (beside ≡ None → ⊥) → end_left beside end other ≡ end
end_some None end other h = absurd (h refl)
end_some (Some c) end other h = refl

-- the ends once one in the middle has gone
module _ (us vs : List (ℕ × ℕ)) (e : ℕ × ℕ) (before after : Option ℕ) (is_before : before ≡ last_key None us) (is_after : after ≡ first_key vs None) where
  pub first_left : (first : Option ℕ) → first ≡ first_key (us ++ e ∷ vs) None → end_left before first after ≡ first_key (us ++ vs) None
  first_left first is = pick us is_before is
    where
      pick : (ds : List (ℕ × ℕ)) → before ≡ last_key None ds → first ≡ first_key (ds ++ e ∷ vs) None → end_left before first after ≡ first_key (ds ++ vs) None
      pick [] b f = ap (λ (o : Option ℕ). end_left o first after) b ∙ is_after
      pick (d ∷ ds) b f = end_some before first after (λ none. last_some d.1 ds (sym b ∙ none)) ∙ f

  pub last_left : (last : Option ℕ) → last ≡ last_key None (us ++ e ∷ vs) → end_left after last before ≡ last_key None (us ++ vs)
  last_left last is = pick vs is_after is
    where
      pick : (ds : List (ℕ × ℕ)) → after ≡ first_key ds None → last ≡ last_key None (us ++ e ∷ ds) → end_left after last before ≡ last_key None (us ++ ds)
      pick [] a l = ap (λ (o : Option ℕ). end_left o last before) a ∙ is_before ∙ ap (last_key None) (sym (append-nil us))
      pick (d ∷ ds) a l = end_some after last before (λ none. absurd (cc (sym a ∙ none))) ∙ l ∙ last_append None us (e ∷ d ∷ ds) ∙ sym (last_append None us (d ∷ ds))

-- the ends once one was put last
pub first_more : (es : List (ℕ × ℕ)) (n k : ℕ) (first last : Option ℕ) → first ≡ first_key es None → last ≡ last_key None es → end_left last first (Some k) ≡ first_key (es ++ (n, k) ∷ []) None
first_more [] n k first last is end = ap (λ (o : Option ℕ). end_left o first (Some k)) end
first_more (e ∷ es) n k first last is end = end_some last first (Some k) (λ none. last_some e.1 es (sym end ∙ none)) ∙ is

pub last_more : (es : List (ℕ × ℕ)) (n k : ℕ) → Some k ≡ last_key None (es ++ (n, k) ∷ [])
last_more es n k = sym (last_append None es ((n, k) ∷ []))

-- all places are below this one
all_below : (g : ℕ → Option Slot) (n : ℕ) (prev : Option ℕ) (from : ℕ) (es : List (ℕ × ℕ)) (next : Option ℕ) → Linked g prev from es next → from ≤ n → AreBelow n (entries_at g es) → above_all from es ≤ n
all_below g n prev from [] next h le all = le
all_below g n prev from (e ∷ es) next h le all =
    let both = subst (AreBelow n) (entries_here g e es h.0.held h.0.here) all in
    all_below g n (Some e.1) (suc e.0) es next h.1 (omega (arith, both.0, h.0.place)) both.1

pub below_all : (g : ℕ → Option Slot) (n : ℕ) (es : List (ℕ × ℕ)) → Linked g None 0 es None → AreBelow n (entries_at g es) → above_all 0 es ≤ n
below_all g n es h all = all_below g n None 0 es None h (omega arith) all

-- the first of a list
pub first_parts : (es : List (ℕ × ℕ)) (k : ℕ) → first_key es None ≡ Some k → (p : ℕ) × (vs : List (ℕ × ℕ)) × (es ≡ (p, k) ∷ vs)
first_parts [] k is = absurd (cc is)
first_parts (e ∷ es) k is = (e.0, es, ap (λ c. let ds : List (ℕ × ℕ) = (e.0, c) ∷ es in ds) (some_same e.1 k is))
