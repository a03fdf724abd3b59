-- The first key above a number is the least.
use Rattle.std.specs.Prelude.{T}
use Rattle.std.proofs.Common.{◌≡◌, ◌≢◌, ℕ, ◌<◌, ◌≤◌, Bool, true, false, cond, ◌&&◌, List, [], ◌∷◌, map as each, Option, Some, None, nat_lt, refl, sym, ap, subst, ◌∙◌, arith, rules}
use Rattle.std.specs.Prelude.{IsSome}
use Rattle.std.specs.Ordering.{nat_cmp, is_lt, is_eq}
use Rattle.std.specs.declared.cmp.Ordering.TheVariants.{Less, Equal, Greater}
use Rattle.std.specs.Cmp.{nat_cmp_is}
use Rattle.std.specs.List.{find as find_first}
use Rattle.std.specs.FinMap as map
use Rattle.std.specs.FinMap.{FinMap, find, is_sorted, entries, entries_sorted, get-entries}
use Rattle.std.specs.FinMap.Entries.{below_all}
use borrow.Author.Tests.{ltb-true, ltb-false}
use Rattle.std.proofs.lemmas.Map.Lookups.{exact_unsigned}
use Rattle.std.proofs.lemmas.Map.Views.{tells_apart}
use Rattle.send_frames.specs.Book.{IsNextAbove, KnownSend}
use Rattle.send_frames.proofs.Maps.{below_agrees}

abbrev Entries : Type 0
Entries = List (ℕ × KnownSend)

-- two numbers that differ aren't equal by their order
apart : (a b : ℕ) → (a < b) → is_eq (nat_cmp a b) ≡ false
apart a b h = ap is_eq (sym (nat_cmp_is a b Less h))

apart_back : (a b : ℕ) → (b < a) → is_eq (nat_cmp a b) ≡ false
apart_back a b h = ap is_eq (sym (nat_cmp_is a b Greater h))

itself : (a : ℕ) → is_eq (nat_cmp a a) ≡ true
itself a = ap is_eq (sym (nat_cmp_is a a Equal refl))

head_of : (b c : Bool) → T (b && c) → (b ≡ true) × T c
head_of true c h = (refl, h)
head_of false c h = absurd h

is_below : (a b : ℕ) → is_lt (nat_cmp a b) ≡ true → a < b
is_below a b h = ltb-true a b (sym (below_agrees a b) ∙ h)

-- a key below all isn't there
below_none : (k j : ℕ) (es : Entries) → j ≤ k → T (below_all nat_cmp k es) → find nat_cmp j es ≡ None
below_none k j [] h b = refl
below_none k j (e ∷ es) h b =
    let parts = head_of (is_lt (nat_cmp k e.0)) (below_all nat_cmp k es) b in
    let below : k < e.0 = is_below k e.0 parts.0 in
    let low : j < e.0 = omega (arith, below, h) in
    ap (λ c. cond c (Some e.1) (find nat_cmp j es)) (apart j e.0 low) ∙ below_none k j es h parts.1

-- what is so of the first key above a number
abbrev Next : Entries → ℕ → Option ℕ → Type 0
Next es n None = (j : ℕ) → n < j → find nat_cmp j es ≡ None
Next es n (Some s) = (n < s) × IsSome (find nat_cmp s es) × ((j : ℕ) → n < j → j < s → find nat_cmp j es ≡ None)

past_head : (e : ℕ × KnownSend) (es : Entries) (n : ℕ) (o : Option ℕ) → e.0 ≤ n → Next es n o → Next (e ∷ es) n o
past_head e es n None low h = λ j above.
    let high : e.0 < j = omega (arith, low, above) in
    ap (λ c. cond c (Some e.1) (find nat_cmp j es)) (apart_back j e.0 high) ∙ h j above
past_head e es n (Some s) low h =
    let high : e.0 < s = omega (arith, low, h.0) in (
      h.0,
      subst IsSome (sym (ap (λ c. cond c (Some e.1) (find nat_cmp s es)) (apart_back s e.0 high))) h.1,
      λ j above under. let over : e.0 < j = omega (arith, low, above) in ap (λ c. cond c (Some e.1) (find nat_cmp j es)) (apart_back j e.0 over) ∙ h.2 j above under,
    )

some_is : (v : KnownSend) → IsSome (Some v)
some_is v = search rules

next_of : (es : Entries) (n : ℕ) → T (is_sorted nat_cmp es) → Next es n (find_first (λ k. nat_lt n k) (each (λ (e : ℕ × KnownSend). e.0) es))
next_of [] n h = λ j above. refl
next_of (e ∷ es) n h = go (head_of (below_all nat_cmp e.0 es) (is_sorted nat_cmp es) h).0 (next_of es n (head_of (below_all nat_cmp e.0 es) (is_sorted nat_cmp es) h).1) (nat_lt n e.0) refl where
  go : below_all nat_cmp e.0 es ≡ true → Next es n (find_first (λ k. nat_lt n k) (each (λ (e : ℕ × KnownSend). e.0) es)) → (b : Bool) → nat_lt n e.0 ≡ b → Next (e ∷ es) n (cond b (Some e.0) (find_first (λ k. nat_lt n k) (each (λ (e : ℕ × KnownSend). e.0) es)))
  go all rest true above = (
    ltb-true n e.0 above,
    subst IsSome (sym (ap (λ c. cond c (Some e.1) (find nat_cmp e.0 es)) (itself e.0))) (some_is e.1),
    λ j over under. ap (λ c. cond c (Some e.1) (find nat_cmp j es)) (apart j e.0 under) ∙ below_none e.0 j es (omega (arith, under)) (subst T (sym all) tt),
  )
  go all rest false above = past_head e es n (find_first (λ k. nat_lt n k) (each (λ (e : ℕ × KnownSend). e.0) es)) (omega (arith, ltb-false n e.0 above)) rest

as_map : (m : FinMap nat_cmp KnownSend) (n : ℕ) (o : Option ℕ) → Next (entries m) n o → IsNextAbove m n o
as_map m n None h = λ j above. get-entries m j ∙ h j above
as_map m n (Some s) h = (h.0, subst IsSome (sym (get-entries m s)) h.1, λ j above under. get-entries m j ∙ h.2 j above under)

-- the first key above a number is the least
pub next-above : (m : FinMap nat_cmp KnownSend) (n : ℕ) → IsNextAbove m n (find_first (λ k. nat_lt n k) (map.keys m))
next-above m n = as_map m n (find_first (λ k. nat_lt n k) (map.keys m)) (next_of (entries m) n (entries_sorted m))
