-- The windows that stand as the code keeps them, and as contracts see them.
use Rattle.std.proofs.Common.{◌≡◌, ◌∙◌, ◌⊎◌, inl, inr, ℕ, suc, ◌<◌, ◌≤◌, List, [], ◌∷◌, ◌++◌, length, map, reverse, Bool, true, false, not, ◌&&◌, ◌||◌, eqb, nat_eq, Option, Some, None, Result, Ok, Err, OnOk, OnErr, refl, sym, ap, subst, arith, append-nil}
use Rattle.std.specs.List.{filter, IsDistinct, AllByRecursion}
use Rattle.std.specs.Map.{lookup, keys_of}
use Rattle.std.proofs.lemmas.Bool.{cond-true, cond-false, eqb-true, eqb-false, eq-eqb, ne_eqb, not-true}
use Rattle.std.proofs.lemmas.List.{reverse-append}
use Rattle.std.proofs.lemmas.List.Elements.{filter-append}
use Rattle.std.proofs.lemmas.Map.Keys.{IsDistinct-head, IsDistinct-tail}
use Rattle.indexmap.specs.IndexMap.{insert_entry, shift_remove_entry}
use Rattle.win_num.specs.declared.message.Hwnd.{Hwnd}
use Rattle.win_order.specs.declared.standings.Known.{Known}
use Rattle.win_order.specs.Entries.{known, known_of, newest_first, standing}
use Rattle.win_order.specs.Kept.{AllCameNew, is_child}
use Rattle.win_order.specs.Standing.{Standing}
use Rattle.win_order.specs.Standings.{flagged, is_topmost, nobody, owner_of, parent_of}
use Rattle.win_order.proofs.Booleans.{and_right, or_rest, or_first, or_second, or_left_false, or_right_false, filter_over, keep_first, skip_first}
use Rattle.win_order.proofs.StandingLaws.{CameNew, among, apart, child_among, topmost_first, topmost_next}

-- What is known of a window.

known_first : (s : Standing) (ss : List Standing) (w : ℕ) → eqb s.window.0 w ≡ true → known_of (s ∷ ss) w ≡ Some (known s)
known_first s ss w e = rw (e, known_of) refl

known_next : (s : Standing) (ss : List Standing) (w : ℕ) → eqb s.window.0 w ≡ false → known_of (s ∷ ss) w ≡ known_of ss w
known_next s ss w e = rw (e, known_of) refl

known_end_miss : (xs : List Standing) (s : Standing) (w : ℕ) → eqb s.window.0 w ≡ false → known_of (xs ++ s ∷ []) w ≡ known_of xs w
known_end_miss [] s w is = known_next s [] w is
known_end_miss (x ∷ xs) s w is = by (eqb x.window.0 w) refl (known_end_miss xs s w is)
  where
    by : (b : Bool) → eqb x.window.0 w ≡ b → known_of (xs ++ s ∷ []) w ≡ known_of xs w → known_of (x ∷ (xs ++ s ∷ [])) w ≡ known_of (x ∷ xs) w
    by true e ih = known_first x (xs ++ s ∷ []) w e ∙ sym (known_first x xs w e)
    by false e ih = known_next x (xs ++ s ∷ []) w e ∙ (ih ∙ sym (known_next x xs w e))

known_end_hit : (xs : List Standing) (s : Standing) (w : ℕ) → known_of xs w ≡ None → eqb s.window.0 w ≡ true → known_of (xs ++ s ∷ []) w ≡ Some (known s)
known_end_hit [] s w none is = known_first s [] w is
known_end_hit (x ∷ xs) s w none is = by (eqb x.window.0 w) refl (λ n. known_end_hit xs s w n is)
  where
    by : (b : Bool) → eqb x.window.0 w ≡ b → (known_of xs w ≡ None → known_of (xs ++ s ∷ []) w ≡ Some (known s)) → known_of (x ∷ (xs ++ s ∷ [])) w ≡ Some (known s)
    by true e ih = let never : Some (known x) ≡ None = sym (known_first x xs w e) ∙ none in cc
    by false e ih = known_next x (xs ++ s ∷ []) w e ∙ ih (sym (known_next x xs w e) ∙ none)

pub newest_cons : (e : ℕ × Known) (es : List (ℕ × Known)) → newest_first (e ∷ es) ≡ newest_first es ++ standing e ∷ []
newest_cons e es = reverse-append (standing e ∷ []) (map standing es)

map_end : (es : List (ℕ × Known)) (e : ℕ × Known) → map standing (es ++ e ∷ []) ≡ map standing es ++ standing e ∷ []
map_end [] e = refl
map_end (x ∷ es) e = ap (λ (l : List Standing). standing x ∷ l) (map_end es e)

-- an entry that goes last is the newest
pub newest_push : (es : List (ℕ × Known)) (e : ℕ × Known) → newest_first (es ++ e ∷ []) ≡ standing e ∷ newest_first es
newest_push es e = ap reverse (map_end es e) ∙ reverse-append (map standing es) (standing e ∷ [])

lookup_absent : (es : List (ℕ × Known)) (w : ℕ) → AllByRecursion (λ k. nat_eq w k ≡ false) (keys_of es) → lookup (nat_eq w) es ≡ None
lookup_absent [] w far = refl
lookup_absent (e ∷ es) w far = cond-false (nat_eq w e.0) (Some e.1) (lookup (nat_eq w) es) far.0 ∙ lookup_absent es w far.1

same_test : (a b : ℕ) (t : Bool) → eqb a b ≡ t → eqb b a ≡ t
same_test a b true e = eq-eqb b a (sym (eqb-true a b e))
same_test a b false e = ne_eqb b a (λ s. eqb-false a b e (sym s))

-- what the map finds is known of the window
pub known_lookup : (es : List (ℕ × Known)) → IsDistinct nat_eq (keys_of es) → (w : ℕ) → lookup (nat_eq w) es ≡ known_of (newest_first es) w
known_lookup [] d w = refl
known_lookup (e ∷ es) d w = by (nat_eq w e.0) refl (known_lookup es (IsDistinct-tail nat_eq e.0 (keys_of es) d) w)
  where
    by : (b : Bool) → nat_eq w e.0 ≡ b → lookup (nat_eq w) es ≡ known_of (newest_first es) w → lookup (nat_eq w) (e ∷ es) ≡ known_of (newest_first (e ∷ es)) w
    by true hit ih =
        let far : AllByRecursion (λ k. nat_eq w k ≡ false) (keys_of es) = subst (λ (n : ℕ). AllByRecursion (λ k. nat_eq n k ≡ false) (keys_of es)) (sym (eqb-true w e.0 hit)) (IsDistinct-head nat_eq e.0 (keys_of es) d) in
        let none : known_of (newest_first es) w ≡ None = sym ih ∙ lookup_absent es w far in
        cond-true (nat_eq w e.0) (Some e.1) (lookup (nat_eq w) es) hit ∙ sym (ap (λ l. known_of l w) (newest_cons e es) ∙ known_end_hit (newest_first es) (standing e) w none (same_test w e.0 true hit))
    by false miss ih =
        cond-false (nat_eq w e.0) (Some e.1) (lookup (nat_eq w) es) miss ∙ (ih ∙ sym (ap (λ l. known_of l w) (newest_cons e es) ∙ known_end_miss (newest_first es) (standing e) w (same_test w e.0 false miss)))

pub known_absent : (ss : List Standing) (w : ℕ) → among w ss ≡ false → known_of ss w ≡ None
known_absent [] w far = refl
known_absent (s ∷ ss) w far = known_next s ss w (or_left_false (eqb s.window.0 w) (among w ss) far) ∙ known_absent ss w (or_right_false (eqb s.window.0 w) (among w ss) far)

module _ (P : Option Known → List Standing → ℕ → Type 0)
    (none : (w : ℕ) → P None [] w)
    (first : (s : Standing) (ss : List Standing) (w : ℕ) → eqb s.window.0 w ≡ true → P (Some (known s)) (s ∷ ss) w)
    (next : (s : Standing) (ss : List Standing) (w : ℕ) (o : Option Known) → eqb s.window.0 w ≡ false → P o ss w → P o (s ∷ ss) w) where
  by_known : (ss : List Standing) (w : ℕ) → P (known_of ss w) ss w
  by_known [] w = none w
  by_known (s ∷ ss) w = by (eqb s.window.0 w) refl (by_known ss w)
    where
      by : (b : Bool) → eqb s.window.0 w ≡ b → P (known_of ss w) ss w → P (known_of (s ∷ ss) w) (s ∷ ss) w
      by true e ih = subst (λ o. P o (s ∷ ss) w) (sym (known_first s ss w e)) (first s ss w e)
      by false e ih = subst (λ o. P o (s ∷ ss) w) (sym (known_next s ss w e)) (next s ss w (known_of ss w) e ih)

abbrev parent_in : Option Known → Hwnd
parent_in None = nobody
parent_in (Some k) = k.parent

abbrev owner_in : Option Known → Hwnd
owner_in None = nobody
owner_in (Some k) = k.owner

pub parent_known : (ss : List Standing) (w : ℕ) → parent_of ss w ≡ parent_in (known_of ss w)
parent_known ss w = by_known (λ o ss w. parent_of ss w ≡ parent_in o) (λ w. refl) (λ s ss w e. rw (e, parent_of) refl) (λ s ss w o e ih. rw (e, parent_of) ih) ss w

pub owner_known : (ss : List Standing) (w : ℕ) → owner_of ss w ≡ owner_in (known_of ss w)
owner_known ss w = by_known (λ o ss w. owner_of ss w ≡ owner_in o) (λ w. refl) (λ s ss w e. rw (e, owner_of) refl) (λ s ss w o e ih. rw (e, owner_of) ih) ss w

pub parent_some : (ss : List Standing) (w : ℕ) (k : Known) → known_of ss w ≡ Some k → parent_of ss w ≡ k.parent
parent_some ss w k is = parent_known ss w ∙ ap parent_in is

pub parent_none : (ss : List Standing) (w : ℕ) → known_of ss w ≡ None → parent_of ss w ≡ nobody
parent_none ss w is = parent_known ss w ∙ ap parent_in is

pub owner_some : (ss : List Standing) (w : ℕ) (k : Known) → known_of ss w ≡ Some k → owner_of ss w ≡ k.owner
owner_some ss w k is = owner_known ss w ∙ ap owner_in is

pub owner_none : (ss : List Standing) (w : ℕ) → known_of ss w ≡ None → owner_of ss w ≡ nobody
owner_none ss w is = owner_known ss w ∙ ap owner_in is

-- Owners up the chain.

-- how many windows are as old as a window or older, or 0 where it doesn't stand
abbrev pub rank : List Standing → ℕ → ℕ
rank [] w = 0
rank (s ∷ ss) w = elim (eqb s.window.0 w) [ true ↦ suc (length ss) | false ↦ rank ss w ]

rank_first : (s : Standing) (ss : List Standing) (w : ℕ) → eqb s.window.0 w ≡ true → rank (s ∷ ss) w ≡ suc (length ss)
rank_first s ss w e = rw (e, rank) refl

rank_next : (s : Standing) (ss : List Standing) (w : ℕ) → eqb s.window.0 w ≡ false → rank (s ∷ ss) w ≡ rank ss w
rank_next s ss w e = rw (e, rank) refl

rank_within : (ss : List Standing) (w : ℕ) → rank ss w ≤ length ss
rank_within [] w = omega arith
rank_within (s ∷ ss) w = by (eqb s.window.0 w) refl (rank_within ss w)
  where
    by : (b : Bool) → eqb s.window.0 w ≡ b → rank ss w ≤ length ss → rank (s ∷ ss) w ≤ length (s ∷ ss)
    by true e ih = omega (arith, rank_first s ss w e)
    by false e ih = omega (arith, rank_next s ss w e, ih)

abbrev pub Stands : List Standing → ℕ → Type 0
Stands ss o = (eqb o 0 ≡ true) ⊎ (among o ss ≡ true)

pub new_stands : (s : Standing) (ss : List Standing) → CameNew s ss → Stands ss s.owner.0
new_stands s ss n = by (eqb s.owner.0 0) refl
  where
    by : (b : Bool) → eqb s.owner.0 0 ≡ b → Stands ss s.owner.0
    by true e = inl e
    by false e = inr (child_among s.owner.0 0 ss (and_right (eqb s.parent.0 0) (is_child s.owner.0 0 ss) (or_rest (eqb s.owner.0 0) (eqb s.parent.0 0 && is_child s.owner.0 0 ss) n.owner e)))

more_stands : (s : Standing) (ss : List Standing) (o : ℕ) → Stands ss o → Stands (s ∷ ss) o
more_stands s ss o (inl e) = inl e
more_stands s ss o (inr e) = inr (or_second (eqb s.window.0 o) (among o ss) e)

pub stands_apart : (s : Standing) (ss : List Standing) → CameNew s ss → (o : ℕ) → Stands ss o → eqb s.window.0 o ≡ false
stands_apart s ss n o (inl e) = ap (λ m. eqb s.window.0 m) (eqb-true o 0 e) ∙ not-true (eqb s.window.0 0) n.window
stands_apart s ss n o (inr e) = apart ss s.window.0 o n.fresh e

nobody_among : (ss : List Standing) → AllCameNew ss → among 0 ss ≡ false
nobody_among [] n = refl
nobody_among (s ∷ ss) n = ap (λ b. b || among 0 ss) (not-true (eqb s.window.0 0) n.0.window) ∙ nobody_among ss n.1

pub topmost_absent : (ss : List Standing) (w : ℕ) → among w ss ≡ false → is_topmost ss w ≡ false
topmost_absent [] w far = refl
topmost_absent (s ∷ ss) w far = topmost_next s ss w (or_left_false (eqb s.window.0 w) (among w ss) far) ∙ topmost_absent ss w (or_right_false (eqb s.window.0 w) (among w ss) far)

-- what is known of a window leads to its owner, which is older
pub record Leads (ss : List Standing) (w : ℕ) (k : Known) : Type 0 where
  pub stands : Stands ss k.owner.0
  pub falls : rank ss k.owner.0 < rank ss w
  pub topmost : is_topmost ss w ≡ (k.topmost || is_topmost ss k.owner.0)

chain_by : (t b r : Bool) → (b ≡ true → r ≡ false) → ◌≡◌ {A = Bool} (elim t [ true ↦ true | false ↦ elim b [ true ↦ false | false ↦ r ] ]) (t || r)
chain_by true b r e = refl
chain_by false true r e = sym (e refl)
chain_by false false r e = refl

leads_first : (s : Standing) (ss : List Standing) → CameNew s ss → AllCameNew ss → (w : ℕ) → eqb s.window.0 w ≡ true → Leads (s ∷ ss) w (known s)
leads_first s ss n older w is =
    let stands = new_stands s ss n in
    let differs = stands_apart s ss n s.owner.0 stands in
    record {
      stands = more_stands s ss s.owner.0 stands;
      falls = omega (arith, rank_next s ss s.owner.0 differs, rank_first s ss w is, rank_within ss s.owner.0);
      topmost = topmost_first s ss w is ∙ (chain_by s.topmost (eqb s.owner.0 0) (is_topmost ss s.owner.0) (λ e. ap (is_topmost ss) (eqb-true s.owner.0 0 e) ∙ topmost_absent ss 0 (nobody_among ss older)) ∙ ap (λ b. s.topmost || b) (sym (topmost_next s ss s.owner.0 differs)));
    }

-- a new window is topmost by its own flag or its owner's
pub new_topmost : (s : Standing) (ss : List Standing) → AllCameNew ss → is_topmost (s ∷ ss) s.window.0 ≡ (s.topmost || is_topmost ss s.owner.0)
new_topmost s ss older = topmost_first s ss s.window.0 (eq-eqb s.window.0 s.window.0 refl) ∙ chain_by s.topmost (eqb s.owner.0 0) (is_topmost ss s.owner.0) (λ e. ap (is_topmost ss) (eqb-true s.owner.0 0 e) ∙ topmost_absent ss 0 (nobody_among ss older))

leads_next : (s : Standing) (ss : List Standing) → CameNew s ss → (w : ℕ) (k : Known) → eqb s.window.0 w ≡ false → Leads ss w k → Leads (s ∷ ss) w k
leads_next s ss n w k is ih =
    let differs = stands_apart s ss n k.owner.0 ih.stands in
    record {
      stands = more_stands s ss k.owner.0 ih.stands;
      falls = omega (arith, rank_next s ss k.owner.0 differs, rank_next s ss w is, ih.falls);
      topmost = topmost_next s ss w is ∙ (ih.topmost ∙ ap (λ b. k.topmost || b) (sym (topmost_next s ss k.owner.0 differs)));
    }

pub leads : (ss : List Standing) → AllCameNew ss → (w : ℕ) (k : Known) → known_of ss w ≡ Some k → Leads ss w k
leads [] n w k is = cc
leads (s ∷ ss) n w k is = by (eqb s.window.0 w) refl (λ i. leads ss n.1 w k i)
  where
    by : (b : Bool) → eqb s.window.0 w ≡ b → (known_of ss w ≡ Some k → Leads ss w k) → Leads (s ∷ ss) w k
    by true e ih =
        let same : Some (known s) ≡ Some k = sym (known_first s ss w e) ∙ is in
        let it : known s ≡ k = cc in
        subst (Leads (s ∷ ss) w) it (leads_first s ss n.0 n.1 w e)
    by false e ih = leads_next s ss n.0 w k e (ih (sym (known_next s ss w e) ∙ is))

known_among : (ss : List Standing) (w : ℕ) → known_of ss w ≡ None → among w ss ≡ false
known_among [] w none = refl
known_among (s ∷ ss) w none = by (eqb s.window.0 w) refl (known_among ss w)
  where
    by : (b : Bool) → eqb s.window.0 w ≡ b → (known_of ss w ≡ None → among w ss ≡ false) → among w (s ∷ ss) ≡ false
    by true h ih = let never : Some (known s) ≡ None = sym (known_first s ss w h) ∙ none in cc
    by false h ih = ap (λ b. b || among w ss) h ∙ ih (sym (known_next s ss w h) ∙ none)

pub topmost_none : (ss : List Standing) (w : ℕ) → known_of ss w ≡ None → is_topmost ss w ≡ false
topmost_none ss w is = topmost_absent ss w (known_among ss w is)

pub topmost_flag : (ss : List Standing) → AllCameNew ss → (w : ℕ) (k : Known) → known_of ss w ≡ Some k → k.topmost ≡ true → is_topmost ss w ≡ true
topmost_flag ss n w k is flag = (leads ss n w k is).topmost ∙ or_first k.topmost (is_topmost ss k.owner.0) flag

pub topmost_owner : (ss : List Standing) → AllCameNew ss → (w : ℕ) (k : Known) → known_of ss w ≡ Some k → k.topmost ≡ false → is_topmost ss k.owner.0 ≡ is_topmost ss w
topmost_owner ss n w k is flag = sym ((leads ss n w k is).topmost ∙ ap (λ b. b || is_topmost ss k.owner.0) flag)

pub rank_falls : (ss : List Standing) → AllCameNew ss → (w : ℕ) (k : Known) → known_of ss w ≡ Some k → rank ss k.owner.0 < rank ss w
rank_falls ss n w k is = (leads ss n w k is).falls

-- Changes of the entries.

-- a window that doesn't stand isn't found
pub lookup_new : (es : List (ℕ × Known)) (w : ℕ) → IsDistinct nat_eq (keys_of es) → not (among w (newest_first es)) ≡ true → lookup (nat_eq w) es ≡ None
lookup_new es w d fresh = known_lookup es d w ∙ known_absent (newest_first es) w (not-true (among w (newest_first es)) fresh)

filter_reverse : {X : Type 0} (p : X → Bool) (xs : List X) → reverse (filter p xs) ≡ filter p (reverse xs)
filter_reverse p [] = refl
filter_reverse p (x ∷ xs) = by (p x) refl (filter_reverse p xs)
  where
    turned : reverse (x ∷ xs) ≡ reverse xs ++ x ∷ []
    turned = reverse-append (x ∷ []) xs

    by : (b : Bool) → p x ≡ b → reverse (filter p xs) ≡ filter p (reverse xs) → reverse (filter p (x ∷ xs)) ≡ filter p (reverse (x ∷ xs))
    by true e ih = ap reverse (keep_first p x xs e) ∙ (reverse-append (x ∷ []) (filter p xs) ∙ (ap (λ l. l ++ x ∷ []) ih ∙ sym (ap (filter p) turned ∙ (filter-append p (reverse xs) (x ∷ []) ∙ ap (λ l. filter p (reverse xs) ++ l) (keep_first p x [] e)))))
    by false e ih = ap reverse (skip_first p x xs e) ∙ (ih ∙ sym (ap (filter p) turned ∙ (filter-append p (reverse xs) (x ∷ []) ∙ (ap (λ l. filter p (reverse xs) ++ l) (skip_first p x [] e) ∙ append-nil (filter p (reverse xs))))))

-- entries that are left out are windows that are left out
pub newest_filter : (q : Standing → Bool) (es : List (ℕ × Known)) → newest_first (filter (λ e. q (standing e)) es) ≡ filter q (newest_first es)
newest_filter q es = ap reverse (sym (filter_over standing q es)) ∙ filter_reverse q (map standing es)

remove_absent : {V : Type 0} (es : List (ℕ × V)) (w : ℕ) → AllByRecursion (λ k. nat_eq w k ≡ false) (keys_of es) → filter (λ e. not (eqb e.0 w)) es ≡ es
remove_absent {V} [] w far = refl
remove_absent {V} (e ∷ es) w far = keep_first (λ d. not (eqb d.0 w)) e es (ap not (same_test w e.0 false far.0)) ∙ ap (λ (l : List (ℕ × V)). e ∷ l) (remove_absent es w far.1)

pub remove_entry : {V : Type 0} (es : List (ℕ × V)) (w : ℕ) → IsDistinct nat_eq (keys_of es) → shift_remove_entry (nat_eq w) es ≡ filter (λ e. not (eqb e.0 w)) es
remove_entry {V} [] w d = refl
remove_entry {V} (e ∷ es) w d = by (nat_eq w e.0) refl (remove_entry es w (IsDistinct-tail nat_eq e.0 (keys_of es) d))
  where
    by : (b : Bool) → nat_eq w e.0 ≡ b → shift_remove_entry (nat_eq w) es ≡ filter (λ d. not (eqb d.0 w)) es → shift_remove_entry (nat_eq w) (e ∷ es) ≡ filter (λ d. not (eqb d.0 w)) (e ∷ es)
    by true hit ih =
        let far : AllByRecursion (λ k. nat_eq w k ≡ false) (keys_of es) = subst (λ (n : ℕ). AllByRecursion (λ k. nat_eq n k ≡ false) (keys_of es)) (sym (eqb-true w e.0 hit)) (IsDistinct-head nat_eq e.0 (keys_of es) d) in
        rw (hit, shift_remove_entry) (sym (skip_first (λ d. not (eqb d.0 w)) e es (ap not (same_test w e.0 true hit)) ∙ remove_absent es w far))
    by false miss ih = rw (miss, shift_remove_entry) (ap (λ (l : List (ℕ × V)). e ∷ l) ih ∙ sym (keep_first (λ d. not (eqb d.0 w)) e es (ap not (same_test w e.0 false miss))))

-- a window without its entry is left out
pub newest_without : (es : List (ℕ × Known)) (w : ℕ) → IsDistinct nat_eq (keys_of es) → newest_first (shift_remove_entry (nat_eq w) es) ≡ filter (λ s. not (eqb s.window.0 w)) (newest_first es)
newest_without es w d = ap newest_first (remove_entry es w d) ∙ newest_filter (λ s. not (eqb s.window.0 w)) es

-- The topmost flag of a window that is known.

flagged_absent : (w : ℕ) (flag : Bool) (ss : List Standing) → among w ss ≡ false → map (flagged w flag) ss ≡ ss
flagged_absent w flag [] far = refl
flagged_absent w flag (s ∷ ss) far =
    let other = or_left_false (eqb s.window.0 w) (among w ss) far in
    ap (λ t. t ∷ map (flagged w flag) ss) (cond-false (eqb s.window.0 w) (record s { topmost = flag }) s other) ∙ ap (λ l. s ∷ l) (flagged_absent w flag ss (or_right_false (eqb s.window.0 w) (among w ss) far))

map_append : (w : ℕ) (flag : Bool) (xs ys : List Standing) → map (flagged w flag) (xs ++ ys) ≡ map (flagged w flag) xs ++ map (flagged w flag) ys
map_append w flag [] ys = refl
map_append w flag (x ∷ xs) ys = ap (λ l. flagged w flag x ∷ l) (map_append w flag xs ys)

among_end : (xs : List Standing) (s : Standing) (w : ℕ) → among w xs ≡ false → eqb s.window.0 w ≡ false → among w (xs ++ s ∷ []) ≡ false
among_end [] s w far is = ap (λ b. b || false) is
among_end (x ∷ xs) s w far is = ap (λ b. b || among w (xs ++ s ∷ [])) (or_left_false (eqb x.window.0 w) (among w xs) far) ∙ among_end xs s w (or_right_false (eqb x.window.0 w) (among w xs) far) is

absent_newest : (es : List (ℕ × Known)) (w : ℕ) → AllByRecursion (λ k. nat_eq w k ≡ false) (keys_of es) → among w (newest_first es) ≡ false
absent_newest [] w far = refl
absent_newest (e ∷ es) w far = ap (among w) (newest_cons e es) ∙ among_end (newest_first es) (standing e) w (absent_newest es w far.1) (same_test w e.0 false far.0)

-- a new flag under the window's number
pub newest_flagged : (es : List (ℕ × Known)) (w : ℕ) (k : Known) (flag : Bool) → IsDistinct nat_eq (keys_of es) → lookup (nat_eq w) es ≡ Some k → newest_first (insert_entry nat_eq es w (record k { topmost = flag })) ≡ map (flagged w flag) (newest_first es)
newest_flagged [] w k flag d there = cc
newest_flagged (e ∷ es) w k flag d there = by (nat_eq w e.0) refl (λ found. newest_flagged es w k flag (IsDistinct-tail nat_eq e.0 (keys_of es) d) found)
  where
    by : (b : Bool) → nat_eq w e.0 ≡ b → (lookup (nat_eq w) es ≡ Some k → newest_first (insert_entry nat_eq es w (record k { topmost = flag })) ≡ map (flagged w flag) (newest_first es)) → newest_first (insert_entry nat_eq (e ∷ es) w (record k { topmost = flag })) ≡ map (flagged w flag) (newest_first (e ∷ es))
    by true hit ih =
        let far : AllByRecursion (λ j. nat_eq w j ≡ false) (keys_of es) = subst (λ (n : ℕ). AllByRecursion (λ j. nat_eq n j ≡ false) (keys_of es)) (sym (eqb-true w e.0 hit)) (IsDistinct-head nat_eq e.0 (keys_of es) d) in
        let is : Some e.1 ≡ Some k = sym (cond-true (nat_eq w e.0) (Some e.1) (lookup (nat_eq w) es) hit) ∙ there in
        let same : e.1 ≡ k = cc in
        ap newest_first (cond-true (nat_eq w e.0) ((e.0, record k { topmost = flag }) ∷ es) (e ∷ insert_entry nat_eq es w (record k { topmost = flag })) hit)
        ∙ (newest_cons (e.0, record k { topmost = flag }) es
        ∙ (ap (λ (j : Known). newest_first es ++ standing (e.0, record j { topmost = flag }) ∷ []) (sym same)
        ∙ sym (ap (map (flagged w flag)) (newest_cons e es)
        ∙ (map_append w flag (newest_first es) (standing e ∷ [])
        ∙ (ap (λ l. l ++ map (flagged w flag) (standing e ∷ [])) (flagged_absent w flag (newest_first es) (absent_newest es w far))
        ∙ ap (λ (s : Standing). newest_first es ++ s ∷ []) (cond-true (eqb e.0 w) (record (standing e) { topmost = flag }) (standing e) (same_test w e.0 true hit)))))))
    by false miss ih =
        ap newest_first (cond-false (nat_eq w e.0) ((e.0, record k { topmost = flag }) ∷ es) (e ∷ insert_entry nat_eq es w (record k { topmost = flag })) miss)
        ∙ (newest_cons e (insert_entry nat_eq es w (record k { topmost = flag }))
        ∙ (ap (λ l. l ++ standing e ∷ []) (ih (sym (cond-false (nat_eq w e.0) (Some e.1) (lookup (nat_eq w) es) miss) ∙ there))
        ∙ sym (ap (map (flagged w flag)) (newest_cons e es)
        ∙ (map_append w flag (newest_first es) (standing e ∷ [])
        ∙ ap (λ (s : Standing). map (flagged w flag) (newest_first es) ++ s ∷ []) (cond-false (eqb e.0 w) (record (standing e) { topmost = flag }) (standing e) (same_test w e.0 false miss))))))

pub flagged_unknown : (ss : List Standing) (w : ℕ) (flag : Bool) → known_of ss w ≡ None → map (flagged w flag) ss ≡ ss
flagged_unknown ss w flag none = flagged_absent w flag ss (known_among ss w none)

-- a result that isn't for want of memory where the window was found
pub where_found : {V E : Type 0} (r : Result V E) (es : List (ℕ × Known)) (w : ℕ) (k : Known) (P : Type 0) → lookup (nat_eq w) es ≡ Some k → OnErr r (lookup (nat_eq w) es ≡ None) → OnOk r P → P
where_found (Ok v) es w k P found absent ok = ok
where_found (Err e) es w k P found absent ok = let never : Some k ≡ None = sym found ∙ absent in cc
