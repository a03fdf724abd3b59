-- A table of entries in the order of their keys, read as a finite map.
use Rattle.std.specs.Prelude.{T}
use Rattle.std.proofs.Common.{◌≡◌, ℕ, Bool, true, false, cond, ◌&&◌, List, [], ◌∷◌, length, Option, Some, None, nat_lt, refl, sym, ap, ◌∙◌, arith}
use Rattle.std.specs.Ordering.{nat_cmp, is_lt, is_eq}
use Rattle.std.specs.declared.cmp.Ordering.TheVariants.{Less, Equal, Greater}
use Rattle.std.specs.Cmp.{nat_cmp_total, nat_cmp_is, eq_by_cmp_equiv}
use Rattle.std.specs.List.{find as find_first}
use Rattle.std.specs.BTreeMap.Range.{entries_between}
use Rattle.std.specs.declared.ops.Bound.TheVariants.{Excluded, Unbounded}
use borrow.Author.Tests.{ltb-true, ltb-false}
use Rattle.std.specs.List.{AllByRecursion}
use Rattle.std.specs.List.Sorted.{IsStrictlySortedBy}
use Rattle.std.specs.Map.{keys_of, lookup}
use Rattle.std.specs.BTreeMap.{is_at}
use Rattle.std.specs.FinMap as map
use Rattle.std.specs.FinMap.{find, is_sorted, entries, from_entries, get-from_entries, get-insert, get-remove, len-entries, len-empty, entries-insert, same_map, nat_cmp-IsAntisymmetric}
use Rattle.std.specs.FinMap.Entries.{put, below_all, by_order}
use Rattle.std.proofs.lemmas.Map.Keys.{sorted_head, sorted_tail}

-- a look-up among the entries finds what the map has
pub get_by_lookup : {X : Type 0} (es : List (ℕ × X)) (q : ℕ) → map.get (from_entries {R = nat_cmp} es) q ≡ lookup (is_at (nat_cmp q)) es
get_by_lookup es q = get-from_entries nat_cmp_total es q ∙ same_find es q where
  same_find : {X : Type 0} (es : List (ℕ × X)) (q : ℕ) → find nat_cmp q es ≡ lookup (is_at (nat_cmp q)) es
  same_find [] q = refl
  same_find (e ∷ es) q = ap (cond (is_eq (nat_cmp q e.0)) (Some e.1)) (same_find es q)

-- both ends of a comparison
turned : (k q : ℕ) → is_eq (nat_cmp k q) ≡ is_eq (nat_cmp q k)
turned k q = (eq_by_cmp_equiv nat_cmp_total).symm k q

-- a written entry
pub written : {X : Type 0} (es fs : List (ℕ × X)) (k : ℕ) (v : X)
    → ((q : ℕ) → lookup (is_at (nat_cmp q)) fs ≡ cond (is_at (nat_cmp k) q) (Some v) (lookup (is_at (nat_cmp q)) es))
    → from_entries {R = nat_cmp} fs ≡ map.insert (from_entries {R = nat_cmp} es) k v
written es fs k v u =
    same_map nat_cmp_total nat_cmp-IsAntisymmetric _ _ (λ q. get_by_lookup fs q ∙ u q
    ∙ ap (λ b. cond b (Some v) (lookup (is_at (nat_cmp q)) es)) (turned k q)
    ∙ ap (λ o. cond (is_eq (nat_cmp q k)) (Some v) o) (sym (get_by_lookup es q))
    ∙ sym (get-insert nat_cmp_total _ k v q))

-- an entry taken out
pub taken_out : {X : Type 0} (es fs : List (ℕ × X)) (k : ℕ)
    → ((q : ℕ) → lookup (is_at (nat_cmp q)) fs ≡ cond (is_at (nat_cmp k) q) None (lookup (is_at (nat_cmp q)) es))
    → from_entries {R = nat_cmp} fs ≡ map.remove (from_entries {R = nat_cmp} es) k
taken_out es fs k u =
    same_map nat_cmp_total nat_cmp-IsAntisymmetric _ _ (λ q. get_by_lookup fs q ∙ u q
    ∙ ap (λ b. cond b None (lookup (is_at (nat_cmp q)) es)) (turned k q)
    ∙ ap (λ o. cond (is_eq (nat_cmp q k)) None o) (sym (get_by_lookup es q))
    ∙ sym (get-remove nat_cmp_total _ k q))

-- a key below all goes to the front
put_front : {X : Type 0} (k : ℕ) (v : X) (es : List (ℕ × X)) → T (below_all nat_cmp k es) → put nat_cmp k v es ≡ (k, v) ∷ es
put_front k v [] h = refl
put_front k v (e ∷ es) h =
    elim (nat_cmp k e.0) as (λ r. T (is_lt r && below_all nat_cmp k es) → by_order r ((k, v) ∷ e ∷ es) ((e.0, v) ∷ es) (e ∷ put nat_cmp k v es) ≡ (k, v) ∷ e ∷ es) [
      | Less ↦ λ t. refl
      | Equal ↦ λ t. absurd t
      | Greater ↦ λ t. absurd t
    ] h

after_head : (b c : Bool) → T (b && c) → T c
after_head true c h = h
after_head false c h = absurd h

at_head : (b c : Bool) → T (b && c) → T b
at_head true c h = tt
at_head false c h = absurd h

-- entries in order are those of their map
pub entries_in_order : {X : Type 0} (es : List (ℕ × X)) → T (is_sorted nat_cmp es) → entries (from_entries {R = nat_cmp} es) ≡ es
entries_in_order [] h = none_at_all _ (sym (len-entries (map.empty {R = nat_cmp})) ∙ len-empty nat_cmp _) where
  none_at_all : {A : Type 0} (xs : List A) → length xs ≡ 0 → xs ≡ []
  none_at_all [] e = refl
  none_at_all (x ∷ xs) e = absurd (omega arith)
entries_in_order (e ∷ es) h =
    entries-insert nat_cmp_total _ e.0 e.1
    ∙ ap (put nat_cmp e.0 e.1) (entries_in_order es (after_head _ _ h))
    ∙ put_front e.0 e.1 es (at_head _ _ h)

below_from_sorted : {X : Type 0} (k : ℕ) (es : List (ℕ × X)) → AllByRecursion (λ y. nat_cmp k y ≡ Less) (keys_of es) → T (below_all nat_cmp k es)
below_from_sorted k [] h = tt
below_from_sorted k (e ∷ es) h = rw h.0 (below_from_sorted k es h.1)

-- the entries of a tree are in order
pub in_order : {X : Type 0} (es : List (ℕ × X)) → IsStrictlySortedBy nat_cmp (keys_of es) → T (is_sorted nat_cmp es)
in_order [] h = tt
in_order (e ∷ es) h =
    joined _ _ (below_from_sorted e.0 es (sorted_head nat_cmp e.0 (keys_of es) h)) (in_order es (sorted_tail nat_cmp e.0 (keys_of es) h)) where
      joined : (b c : Bool) → T b → T c → T (b && c)
      joined true c p q = q
      joined false c p q = absurd p

-- a map has as many entries as its tree
pub length_of_tree : {X : Type 0} (es : List (ℕ × X)) → IsStrictlySortedBy nat_cmp (keys_of es) → map.len (from_entries {R = nat_cmp} es) ≡ length es
length_of_tree es o = len-entries _ ∙ ap length (entries_in_order es (in_order es o))

-- the order of numbers and their test agree
pub below_agrees : (a b : ℕ) → is_lt (nat_cmp a b) ≡ nat_lt a b
below_agrees a b = go (nat_lt a b) refl where
  above : (c : Bool) → nat_lt b a ≡ c → nat_lt a b ≡ false → is_lt (nat_cmp a b) ≡ false
  above true h g = ap is_lt (sym (nat_cmp_is a b Greater (ltb-true b a h)))
  above false h g = let same : a ≡ b = omega (arith, ltb-false b a h, ltb-false a b g) in ap is_lt (sym (nat_cmp_is a b Equal same))

  go : (c : Bool) → nat_lt a b ≡ c → is_lt (nat_cmp a b) ≡ c
  go true h = ap is_lt (sym (nat_cmp_is a b Less (ltb-true a b h)))
  go false h = above (nat_lt b a) refl h

-- the key of the first entry
abbrev pub first_key : {X : Type 0} → List (ℕ × X) → Option ℕ
first_key [] = None
first_key (e ∷ es) = Some e.0

-- the key of the first entry above a number is the first key above it
pub first_above : {X : Type 0} (n : ℕ) (es : List (ℕ × X)) → first_key (entries_between nat_cmp (Excluded n) Unbounded es) ≡ find_first (λ k. nat_lt n k) (keys_of es)
first_above n [] = refl
first_above n (e ∷ es) =
    ap (λ b. first_key (cond (b && true) (e ∷ entries_between nat_cmp (Excluded n) Unbounded es) (entries_between nat_cmp (Excluded n) Unbounded es))) (below_agrees n e.0)
    ∙ elim (nat_lt n e.0) as (λ b. first_key (cond (b && true) (e ∷ entries_between nat_cmp (Excluded n) Unbounded es) (entries_between nat_cmp (Excluded n) Unbounded es)) ≡ cond b (Some e.0) (find_first (λ k. nat_lt n k) (keys_of es))) [
      | true ↦ refl
      | false ↦ first_above n es
    ]

-- the keys of a tree are those of its map
pub keys_of_tree : {X : Type 0} (es : List (ℕ × X)) → IsStrictlySortedBy nat_cmp (keys_of es) → map.keys (from_entries {R = nat_cmp} es) ≡ keys_of es
keys_of_tree es o = ap keys_of (entries_in_order es (in_order es o))

-- what a range finds first
pub found_above : {X : Type 0} (n : ℕ) (es fs : List (ℕ × X)) (m : map.FinMap nat_cmp X) → IsStrictlySortedBy nat_cmp (keys_of es) → from_entries {R = nat_cmp} es ≡ m → fs ≡ entries_between nat_cmp (Excluded n) Unbounded es → first_key fs ≡ find_first (λ k. nat_lt n k) (map.keys m)
found_above n es fs m o is e = ap first_key e ∙ first_above n es ∙ ap (find_first (λ k. nat_lt n k)) (sym (keys_of_tree es o) ∙ ap map.keys is)
