-- The last message has the greatest number.
use Rattle.std.proofs.Common.{◌≡◌, ◌∙◌, ℕ, ◌<◌, ◌≤◌, suc, Bool, true, false, List, [], ◌∷◌, Option, Some, None, refl, sym, ap, arith}
use Rattle.std.specs.Prelude.{nat_lt, ◌||◌}
use Rattle.std.specs.List.{list_any}
use Rattle.std.proofs.lemmas.Bool.Decides.{nat_tests}
use Rattle.post_queue.specs.declared.slot.Slot.{Slot}
use Rattle.post_queue.specs.Queue.{Posted}
use Rattle.post_queue.specs.Chains.{posted_of, posted_at, last_key, Linked}
use Rattle.post_queue.proofs.Chains.{posted_here, some_same}

-- whether the last number is above this
abbrev above_last : ℕ → List (ℕ × ℕ) → Bool
above_last n [] = false
above_last n (e ∷ []) = nat_lt n e.0
above_last n (e ∷ f ∷ es) = above_last n (f ∷ es)

or_none : (b : Bool) → (b || false) ≡ b
or_none true = refl
or_none false = refl

abbrev any_in : ℕ → List Posted → Bool
any_in n ps = list_any (λ (p : Posted). nat_lt n p.number) ps

first_in : (g : ℕ → Option Slot) (n : ℕ) (prev : Option ℕ) (from : ℕ) (e : ℕ × ℕ) (es : List (ℕ × ℕ)) (next : Option ℕ) → (h : Linked g prev from (e ∷ es) next) → any_in n (posted_at g (e ∷ es)) ≡ (nat_lt n e.0 || any_in n (posted_at g es))
first_in g n prev from e es next h = ap (any_in n) (posted_here g e es h.0.held h.0.here) ∙ ap (λ m. nat_lt n m || any_in n (posted_at g es)) h.0.number

above_is : (g : ℕ → Option Slot) (n : ℕ) (prev : Option ℕ) (from : ℕ) (es : List (ℕ × ℕ)) (next : Option ℕ) → Linked g prev from es next → any_in n (posted_at g es) ≡ above_last n es
above_is g n prev from [] next h = refl
above_is g n prev from (e ∷ []) next h = first_in g n prev from e [] next h ∙ or_none (nat_lt n e.0)
above_is g n prev from (e ∷ f ∷ es) next h = first_in g n prev from e (f ∷ es) next h ∙ by (nat_lt n e.0) refl (above_is g n (Some e.1) (suc e.0) (f ∷ es) next h.1)
  where
    later : nat_lt n e.0 ≡ true → nat_lt n f.0 ≡ true
    later k = let rises = h.1.0.rises in grind (arith, nat_tests, rises, k)

    by : (b : Bool) → nat_lt n e.0 ≡ b → any_in n (posted_at g (f ∷ es)) ≡ above_last n (f ∷ es) → (b || any_in n (posted_at g (f ∷ es))) ≡ above_last n (f ∷ es)
    by false k rest = rest
    by true k rest = sym (first_in g n (Some e.1) (suc e.0) f es next h.1 ∙ ap (λ b. b || any_in n (posted_at g es)) (later k)) ∙ rest

last_is : (g : ℕ → Option Slot) (n : ℕ) (prev : Option ℕ) (from : ℕ) (es : List (ℕ × ℕ)) (next : Option ℕ) → Linked g prev from es next → (c : ℕ) → last_key None es ≡ Some c → (z : Slot) × (g c ≡ Some z) × (above_last n es ≡ nat_lt n z.number)
last_is g n prev from [] next h c last = absurd (cc last)
last_is g n prev from (e ∷ []) next h c last = (h.0.held, ap g (sym (some_same e.1 c last)) ∙ h.0.here, ap (nat_lt n) (sym h.0.number))
last_is g n prev from (e ∷ f ∷ es) next h c last = last_is g n (Some e.1) (suc e.0) (f ∷ es) next h.1 c last

some_last : (c : ℕ) (es : List (ℕ × ℕ)) → last_key (Some c) es ≡ None → ⊥
some_last c [] h = absurd (cc h)
some_last c (e ∷ es) h = some_last e.1 es h

-- with no last there is none
pub none_above : (g : ℕ → Option Slot) (n : ℕ) (es : List (ℕ × ℕ)) → last_key None es ≡ None → list_any (λ (p : Posted). nat_lt n p.number) (posted_at g es) ≡ false
none_above g n [] h = refl
none_above g n (e ∷ es) h = absurd (some_last e.1 es h)

-- the last tells whether there is one
pub last_tells : (g : ℕ → Option Slot) (n : ℕ) (prev : Option ℕ) (from : ℕ) (es : List (ℕ × ℕ)) (next : Option ℕ) → Linked g prev from es next → (c : ℕ) → last_key None es ≡ Some c → (z : Slot) × (g c ≡ Some z) × (list_any (λ (p : Posted). nat_lt n p.number) (posted_at g es) ≡ nat_lt n z.number)
last_tells g n prev from es next h c last = let found = last_is g n prev from es next h c last in (found.0, found.1, above_is g n prev from es next h ∙ found.2)
