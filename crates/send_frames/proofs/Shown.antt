-- The known sends that a table shows.
use Rattle.std.specs.Prelude.{T}
use Rattle.std.proofs.Common.{◌≡◌, ℕ, Bool, true, false, cond, ◌&&◌, List, [], ◌∷◌, map as each, length, Option, Some, None, refl, sym, ap, ◌∙◌, subst, arith}
use Rattle.std.specs.Ordering.{nat_cmp, is_lt, is_eq, eq_by_cmp}
use Rattle.std.specs.Cmp.{nat_cmp_total}
use Rattle.std.specs.Option.{option_map}
use Rattle.std.specs.FinMap as map
use Rattle.std.specs.FinMap.{FinMap, find, is_sorted, entries, get-from_entries, get-insert, get-remove, get-empty, get-entries, len-entries, entries_sorted, same_map, nat_cmp-IsAntisymmetric}
use Rattle.std.specs.FinMap.Entries.{below_all}
use Rattle.send_frames.specs.declared.table.Item.{Item}
use Rattle.send_frames.specs.Book.{KnownSend, is_wanted, names, count_on}
use Rattle.send_frames.specs.Items.{Items, known_in, known_of, changed, is_kept}
use Rattle.send_frames.proofs.Maps.{entries_in_order}
use Rattle.std.proofs.lemmas.Map.Lookups.{exact_unsigned}
use Rattle.std.proofs.lemmas.Map.Views.{tells_apart}
use Rattle.win_num.specs.declared.send.Frame.{Frame}

find-each : (es : List (ℕ × Item)) (q : ℕ) → find nat_cmp q (each (λ e. (e.0, known_of e.1)) es) ≡ option_map known_of (find nat_cmp q es)
find-each [] q = refl
find-each (e ∷ es) q =
    elim (is_eq (nat_cmp q e.0)) as (λ b. cond b (Some (known_of e.1)) (find nat_cmp q (each (λ d. (d.0, known_of d.1)) es)) ≡ option_map known_of (cond b (Some e.1) (find nat_cmp q es))) [
      | true ↦ refl
      | false ↦ find-each es q
    ]

-- what it shows of one send
pub get-known_in : (m : Items) (q : ℕ) → map.get (known_in m) q ≡ option_map known_of (map.get m q)
get-known_in m q = get-from_entries nat_cmp_total _ q ∙ find-each (entries m) q ∙ ap (option_map known_of) (sym (get-entries m q))

below-each : (k : ℕ) (es : List (ℕ × Item)) → below_all nat_cmp k (each (λ e. (e.0, known_of e.1)) es) ≡ below_all nat_cmp k es
below-each k [] = refl
below-each k (e ∷ es) = ap (λ b. is_lt (nat_cmp k e.0) && b) (below-each k es)

sorted-each : (es : List (ℕ × Item)) → is_sorted nat_cmp (each (λ e. (e.0, known_of e.1)) es) ≡ is_sorted nat_cmp es
sorted-each [] = refl
sorted-each (e ∷ es) = ap (λ b. b && is_sorted nat_cmp (each (λ d. (d.0, known_of d.1)) es)) (below-each e.0 es) ∙ ap (λ b. below_all nat_cmp e.0 es && b) (sorted-each es)

length-each : (es : List (ℕ × Item)) → length {A = ℕ × KnownSend} (each (λ e. (e.0, known_of e.1)) es) ≡ length es
length-each [] = refl
length-each (e ∷ es) = omega (arith, length-each es)

-- it shows as many
pub len-known_in : (m : Items) → map.len (known_in m) ≡ map.len m
len-known_in m =
    len-entries _
    ∙ ap length (entries_in_order _ (subst T (sym (sorted-each (entries m))) (entries_sorted m)))
    ∙ length-each (entries m)
    ∙ sym (len-entries m)

-- it shows what is inserted
pub known_in-insert : (m : Items) (s : ℕ) (i : Item) → known_in (map.insert m s i) ≡ map.insert (known_in m) s (known_of i)
known_in-insert m s i =
    same_map nat_cmp_total nat_cmp-IsAntisymmetric _ _ (λ q. get-known_in _ q
    ∙ ap (option_map known_of) (get-insert nat_cmp_total m s i q)
    ∙ through (eq_by_cmp nat_cmp q s) (map.get m q)
    ∙ ap (cond (eq_by_cmp nat_cmp q s) (Some (known_of i))) (sym (get-known_in m q))
    ∙ sym (get-insert nat_cmp_total (known_in m) s (known_of i) q)) where
      through : (b : Bool) (o : Option Item) → option_map known_of (cond b (Some i) o) ≡ cond b (Some (known_of i)) (option_map known_of o)
      through true o = refl
      through false o = refl

-- it shows what is left
pub known_in-remove : (m : Items) (s : ℕ) → known_in (map.remove m s) ≡ map.remove (known_in m) s
known_in-remove m s =
    same_map nat_cmp_total nat_cmp-IsAntisymmetric _ _ (λ q. get-known_in _ q
    ∙ ap (option_map known_of) (get-remove nat_cmp_total m s q)
    ∙ through (eq_by_cmp nat_cmp q s) (map.get m q)
    ∙ ap (cond (eq_by_cmp nat_cmp q s) None) (sym (get-known_in m q))
    ∙ sym (get-remove nat_cmp_total (known_in m) s q)) where
      through : (b : Bool) (o : Option Item) → option_map known_of (cond b None o) ≡ cond b None (option_map known_of o)
      through true o = refl
      through false o = refl

-- it shows nothing of no send
pub known_in-empty : known_in map.empty ≡ map.empty
known_in-empty =
    same_map nat_cmp_total nat_cmp-IsAntisymmetric _ _ (λ q. get-known_in _ q ∙ ap (option_map known_of) (get-empty nat_cmp q) ∙ sym (get-empty nat_cmp q))

-- an item that counts its frames is kept exactly where its send is wanted
pub kept-wanted : (stacks : List (List Frame)) (s : ℕ) (i : Item) → i.frames ≡ count_on (names s) stacks → is_kept i ≡ is_wanted stacks s (known_of i)
kept-wanted stacks s i e = rw e refl

-- it shows a change
pub known_in-changed : (stacks : List (List Frame)) (m : Items) (s : ℕ) (i : Item) → i.frames ≡ count_on (names s) stacks
    → known_in (changed m s i) ≡ cond (is_wanted stacks s (known_of i)) (map.insert (known_in m) s (known_of i)) (map.remove (known_in m) s)
known_in-changed stacks m s i e = through (is_kept i) ∙ ap (λ b. cond b (map.insert (known_in m) s (known_of i)) (map.remove (known_in m) s)) (kept-wanted stacks s i e) where
  through : (b : Bool) → known_in (cond b (map.insert m s i) (map.remove m s)) ≡ cond b (map.insert (known_in m) s (known_of i)) (map.remove (known_in m) s)
  through true = known_in-insert m s i
  through false = known_in-remove m s

-- to insert what stands there changes nothing
pub insert_same : {X : Type 0} (m : FinMap nat_cmp X) (s : ℕ) (v : X) → map.get m s ≡ Some v → map.insert m s v ≡ m
insert_same m s v e = same_map nat_cmp_total nat_cmp-IsAntisymmetric _ _ (λ q. get-insert nat_cmp_total m s v q ∙ here q (eq_by_cmp nat_cmp q s) refl) where
  here : (q : ℕ) (b : Bool) → eq_by_cmp nat_cmp q s ≡ b → cond b (Some v) (map.get m q) ≡ map.get m q
  here q true h = sym e ∙ ap (map.get m) (sym (tells_apart exact_unsigned q s h))
  here q false h = refl

-- it shows the same numbers, in the same order
keys-each : (es : List (ℕ × Item)) → each (λ (e : ℕ × KnownSend). e.0) (each (λ e. (e.0, known_of e.1)) es) ≡ each (λ e. e.0) es
keys-each [] = refl
keys-each (e ∷ es) = ap (λ ks. e.0 ∷ ks) (keys-each es)

pub keys-known_in : (m : Items) → map.keys (known_in m) ≡ map.keys m
keys-known_in m =
    ap (each (λ e. e.0)) (entries_in_order _ (subst T (sym (sorted-each (entries m))) (entries_sorted m)))
    ∙ keys-each (entries m)
