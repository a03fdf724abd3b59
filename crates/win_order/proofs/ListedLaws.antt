-- The lists of siblings as the code keeps them, and as contracts see them.
use Rattle.std.proofs.Common.{◌≡◌, ◌∙◌, ℕ, suc, ◌+◌, List, [], ◌∷◌, ◌++◌, take, drop, map, Bool, true, false, cond, not, ◌||◌, eqb, nat_eq, slice_get, position, Option, Some, None, is_some, add-one, drop-cons, refl, sym, ap, subst}
use Rattle.std.specs.Cmp.{nat_eq_equiv}
use Rattle.std.specs.List.{filter, list_all, IsDistinct, AllByRecursion}
use Rattle.std.specs.Map.{keys_of, lookup, values_of}
use Rattle.std.specs.Option.{option_map}
use Rattle.std.specs.Map.Calls.{RetainsPairs}
use Rattle.std.proofs.lemmas.Bool.{false≢true, true≢false, cond-true, cond-false, eqb-true}
use Rattle.std.proofs.lemmas.List.{take-append-drop}
use Rattle.std.proofs.lemmas.Map.Keys.{IsDistinct-head, IsDistinct-tail}
use Rattle.std.proofs.lemmas.Option.{get_or_from_slice_get, slice_get-map, slice_get_within}
use Rattle.indexmap.specs.IndexMap.{insert_entry, set_value_at, shift_remove_entry}
use Rattle.indexmap.proofs.MapLemmas.{Found-position, absent_before, insert_entry-first}
use Rattle.win_num.specs.declared.message.Hwnd.{Hwnd}
use Rattle.win_order.specs.Families.{windows_of, with_windows, without, without_window}
use Rattle.win_order.specs.Kept.{IsKept, is_child, is_family}
use Rattle.win_order.specs.Layers.{Layers, is_gone, removed, staying_in}
use Rattle.win_order.specs.Listed.{siblings, without_child}
use Rattle.win_order.specs.Siblings.{Siblings}
use Rattle.win_order.specs.Standing.{Standing}
use Rattle.win_order.specs.Standings.{parent_of}
use Rattle.win_order.proofs.Booleans.{all_one, and_right, filter_over, keep_all}
use Rattle.win_order.proofs.EntryLaws.{remove_entry}
use Rattle.win_order.proofs.KeptLaws.{lone_child, windows_first, windows_next, with_first, with_next}
use Rattle.win_order.proofs.LoneLaws.{all_kept_of, map_alike}
use Rattle.win_order.proofs.MarkLaws.{same_way}
use Rattle.win_order.proofs.StandingLaws.{among}

abbrev pub Entries : Type 0
Entries = List (ℕ × List Hwnd)

-- what is found of a parent are its children
pub windows_found : (es : Entries) (p : ℕ) (ws : List Hwnd) → lookup (nat_eq p) es ≡ Some ws → windows_of (map siblings es) p ≡ ws
windows_found [] p ws there = cc
windows_found (e ∷ es) p ws there = by (nat_eq p e.0) refl (windows_found es p ws)
  where
    by : (b : Bool) → nat_eq p e.0 ≡ b → (lookup (nat_eq p) es ≡ Some ws → windows_of (map siblings es) p ≡ ws) → windows_of (map siblings (e ∷ es)) p ≡ ws
    by true is ih =
        let found : Some e.1 ≡ Some ws = sym (cond-true (nat_eq p e.0) (Some e.1) (lookup (nat_eq p) es) is) ∙ there in
        let same : e.1 ≡ ws = cc in
        windows_first (siblings e) (map siblings es) p (same_way p e.0 true is) ∙ same
    by false is ih = windows_next (siblings e) (map siblings es) p (same_way p e.0 false is) ∙ ih (sym (cond-false (nat_eq p e.0) (Some e.1) (lookup (nat_eq p) es) is) ∙ there)

pub windows_missing : (es : Entries) (p : ℕ) → lookup (nat_eq p) es ≡ None → windows_of (map siblings es) p ≡ []
windows_missing [] p none = refl
windows_missing (e ∷ es) p none = by (nat_eq p e.0) refl (windows_missing es p)
  where
    by : (b : Bool) → nat_eq p e.0 ≡ b → (lookup (nat_eq p) es ≡ None → windows_of (map siblings es) p ≡ []) → windows_of (map siblings (e ∷ es)) p ≡ []
    by true is ih = let never : Some e.1 ≡ None = sym (cond-true (nat_eq p e.0) (Some e.1) (lookup (nat_eq p) es) is) ∙ none in cc
    by false is ih = windows_next (siblings e) (map siblings es) p (same_way p e.0 false is) ∙ ih (sym (cond-false (nat_eq p e.0) (Some e.1) (lookup (nat_eq p) es) is) ∙ none)

-- the children that are set
pub insert_listed : (es : Entries) (p : Hwnd) (ws : List Hwnd) → map siblings (insert_entry nat_eq es p.0 ws) ≡ with_windows p ws (map siblings es)
insert_listed [] p ws = refl
insert_listed (e ∷ es) p ws = by (nat_eq p.0 e.0) refl (insert_listed es p ws)
  where
    by : (b : Bool) → nat_eq p.0 e.0 ≡ b → map siblings (insert_entry nat_eq es p.0 ws) ≡ with_windows p ws (map siblings es) → map siblings (insert_entry nat_eq (e ∷ es) p.0 ws) ≡ with_windows p ws (map siblings (e ∷ es))
    by true is ih =
        ap (map siblings) (cond-true (nat_eq p.0 e.0) ((e.0, ws) ∷ es) (e ∷ insert_entry nat_eq es p.0 ws) is)
        ∙ (ap (λ n. siblings (n, ws) ∷ map siblings es) (sym (eqb-true p.0 e.0 is))
        ∙ sym (with_first p ws (siblings e) (map siblings es) (same_way p.0 e.0 true is)))
    by false is ih =
        ap (map siblings) (cond-false (nat_eq p.0 e.0) ((e.0, ws) ∷ es) (e ∷ insert_entry nat_eq es p.0 ws) is)
        ∙ (ap (λ (l : List Siblings). siblings e ∷ l) ih
        ∙ sym (with_next p ws (siblings e) (map siblings es) (same_way p.0 e.0 false is)))

-- the list of a window's children is taken out
pub remove_listed : (es : Entries) (w : ℕ) → IsDistinct nat_eq (keys_of es) → map siblings (shift_remove_entry (nat_eq w) es) ≡ filter (λ f. not (eqb f.parent.0 w)) (map siblings es)
remove_listed es w d = ap (map siblings) (remove_entry es w d) ∙ sym (filter_over siblings (λ f. not (eqb f.parent.0 w)) es)

-- a window is taken out of the list of one parent

other_head : (p w : ℕ) (f : Siblings) → eqb f.parent.0 p ≡ false → without_child p w f ≡ f
other_head p w f differs = cond-false (eqb f.parent.0 p) (without_window w f) f differs

pub others_listed : (es : Entries) (p w : ℕ) → lookup (nat_eq p) es ≡ None → map (without_child p w) (map siblings es) ≡ map siblings es
others_listed [] p w none = refl
others_listed (e ∷ es) p w none = by (nat_eq p e.0) refl (others_listed es p w)
  where
    by : (b : Bool) → nat_eq p e.0 ≡ b → (lookup (nat_eq p) es ≡ None → map (without_child p w) (map siblings es) ≡ map siblings es) → map (without_child p w) (map siblings (e ∷ es)) ≡ map siblings (e ∷ es)
    by true is ih = let never : Some e.1 ≡ None = sym (cond-true (nat_eq p e.0) (Some e.1) (lookup (nat_eq p) es) is) ∙ none in cc
    by false is ih =
        ap (λ (f : Siblings). f ∷ map (without_child p w) (map siblings es)) (other_head p w (siblings e) (same_way p e.0 false is))
        ∙ ap (λ (l : List Siblings). siblings e ∷ l) (ih (sym (cond-false (nat_eq p e.0) (Some e.1) (lookup (nat_eq p) es) is) ∙ none))

lookup_far : (es : Entries) (p : ℕ) → AllByRecursion (λ k. nat_eq p k ≡ false) (keys_of es) → lookup (nat_eq p) es ≡ None
lookup_far [] p far = refl
lookup_far (e ∷ es) p far = cond-false (nat_eq p e.0) (Some e.1) (lookup (nat_eq p) es) far.0 ∙ lookup_far es p far.1

change_listed : (es : Entries) (p w : ℕ) (ws : List Hwnd) → IsDistinct nat_eq (keys_of es) → lookup (nat_eq p) es ≡ Some ws → map siblings (insert_entry nat_eq es p (without w ws)) ≡ map (without_child p w) (map siblings es)
change_listed [] p w ws d there = cc
change_listed (e ∷ es) p w ws d there = by (nat_eq p e.0) refl (change_listed es p w ws (IsDistinct-tail nat_eq e.0 (keys_of es) d))
  where
    by : (b : Bool) → nat_eq p e.0 ≡ b → (lookup (nat_eq p) es ≡ Some ws → map siblings (insert_entry nat_eq es p (without w ws)) ≡ map (without_child p w) (map siblings es)) → map siblings (insert_entry nat_eq (e ∷ es) p (without w ws)) ≡ map (without_child p w) (map siblings (e ∷ es))
    by true is ih =
        let found : Some e.1 ≡ Some ws = sym (cond-true (nat_eq p e.0) (Some e.1) (lookup (nat_eq p) es) is) ∙ there in
        let same : e.1 ≡ ws = cc in
        let far : AllByRecursion (λ k. nat_eq p k ≡ false) (keys_of es) = subst (λ (n : ℕ). AllByRecursion (λ k. nat_eq n k ≡ false) (keys_of es)) (sym (eqb-true p e.0 is)) (IsDistinct-head nat_eq e.0 (keys_of es) d) in
        ap (map siblings) (cond-true (nat_eq p e.0) ((e.0, without w ws) ∷ es) (e ∷ insert_entry nat_eq es p (without w ws)) is)
        ∙ (ap (λ (l : List Hwnd). siblings (e.0, without w l) ∷ map siblings es) (sym same)
        ∙ (ap (λ (f : Siblings). f ∷ map siblings es) (sym (cond-true (eqb e.0 p) (without_window w (siblings e)) (siblings e) (same_way p e.0 true is)))
        ∙ ap (λ (l : List Siblings). without_child p w (siblings e) ∷ l) (sym (others_listed es p w (lookup_far es p far)))))
    by false is ih =
        ap (map siblings) (cond-false (nat_eq p e.0) ((e.0, without w ws) ∷ es) (e ∷ insert_entry nat_eq es p (without w ws)) is)
        ∙ (ap (λ (l : List Siblings). siblings e ∷ l) (ih (sym (cond-false (nat_eq p e.0) (Some e.1) (lookup (nat_eq p) es) is) ∙ there))
        ∙ ap (λ (f : Siblings). f ∷ map (without_child p w) (map siblings es)) (sym (other_head p w (siblings e) (same_way p e.0 false is))))

-- at the place where its list is found
pub change_at : (es : Entries) (p w at : ℕ) (ws : List Hwnd) → IsDistinct nat_eq (keys_of es) → position (nat_eq p) (keys_of es) ≡ Some at → lookup (nat_eq p) es ≡ Some ws → map siblings (set_value_at es at (without w ws)) ≡ map (without_child p w) (map siblings es)
change_at es p w at ws d is there = ap (map siblings) (sym (insert_entry-first nat_eq p (without w ws) es at (Found-position (nat_eq p) es at is).first)) ∙ change_listed es p w ws d there

pub found_at : (es : Entries) (p at k : ℕ) (ws : List Hwnd) → slice_get (values_of es) at ≡ lookup (nat_eq p) es → slice_get es at ≡ Some (k, ws) → lookup (nat_eq p) es ≡ Some ws
found_at es p at k ws value is = sym value ∙ (slice_get-map (λ (e : ℕ × List Hwnd). e.1) es at ∙ ap (option_map (λ (e : ℕ × List Hwnd). e.1)) is)

pub not_found : {X : Type 0} (o : Option X) → is_some o ≡ false → o ≡ None
not_found (Some x) e = absurd (true≢false e)
not_found None e = refl

-- what `retain` leaves, where the closure keeps no state, and changes each value that stays
module _ {X F : Type 0} (T : F → ℕ → X → Bool → X → F → Type 0) (test : ℕ → Bool) (change : X → X) (f : F)
    (says : (k : ℕ) (v : X) (b : Bool) (w : X) (g : F) → T f k v b w g → (b ≡ test k) × (w ≡ change v) × (g ≡ f)) where
  abbrev pub changed : ℕ × X → ℕ × X
  changed e = (e.0, change e.1)

  change_first : (b : Bool) (e : ℕ × X) (es : List (ℕ × X)) → cond b (changed e ∷ map changed es) (map changed es) ≡ map changed (cond b (e ∷ es) es)
  change_first true e es = refl
  change_first false e es = refl

  pub changed_pairs : (es kept : List (ℕ × X)) → RetainsPairs T f es kept → kept ≡ map changed (filter (λ e. test e.0) es)
  changed_pairs [] kept h = h
  changed_pairs (e ∷ es) kept h =
      let s = says e.0 e.1 h.0 h.1 h.2 h.4 in
      let rest : h.3 ≡ map changed (filter (λ d. test d.0) es) = changed_pairs es h.3 (subst (λ g. RetainsPairs T g es h.3) s.2 h.5) in
      let step : kept ≡ cond (test e.0) (changed e ∷ map changed (filter (λ d. test d.0) es)) (map changed (filter (λ d. test d.0) es)) = h.6 ∙ (λ j. cond (s.0 j) ((e.0, s.1 j) ∷ rest j) (rest j)) in
      step ∙ change_first (test e.0) e (filter (λ d. test d.0) es)

-- the next list of a copy is new to it
pub copy_new : (es : Entries) (i : ℕ) (e : ℕ × List Hwnd) → IsDistinct nat_eq (keys_of es) → slice_get es i ≡ Some e → lookup (nat_eq e.0) (take i es) ≡ None
copy_new es i e d is =
    let whole : es ≡ take i es ++ e ∷ drop (i + 1) es = sym (take-append-drop i es) ∙ ap (λ (l : Entries). take i es ++ l) (drop-cons es i e (slice_get_within es i e is) ∙ (ap (λ (x : ℕ × List Hwnd). x ∷ drop (suc i) es) (get_or_from_slice_get es i e e is) ∙ ap (λ n. e ∷ drop n es) (sym (add-one i)))) in
    absent_before nat_eq_equiv (take i es) (drop (i + 1) es) e (subst (λ (l : Entries). IsDistinct nat_eq (keys_of l)) whole d)

-- only the list of its parent has a window
pub removed_lists : (w : ℕ) (z : Layers) → IsKept z → map (without_child (parent_of z.standings w).0 w) (filter (λ f. not (eqb f.parent.0 w)) z.families) ≡ (removed w z).families
removed_lists w z k = map_alike (is_family ss) (without_child p w) (without_window w) same (filter (λ f. not (eqb f.parent.0 w)) z.families) (all_kept_of (is_family ss) (λ f. not (eqb f.parent.0 w)) z.families k.families)
  where
    ss : List Standing
    ss = z.standings

    p : ℕ
    p = (parent_of z.standings w).0

    apart_from_it : (q : ℕ) → eqb q p ≡ false → (v : Hwnd) → is_child v.0 q ss ≡ true → not (eqb v.0 w) ≡ true
    apart_from_it q differs v child = by (eqb v.0 w) refl
      where
        by : (b : Bool) → eqb v.0 w ≡ b → not (eqb v.0 w) ≡ true
        by true is = absurd (false≢true (sym (lone_child ss k.older w q (same_way q p false differs)) ∙ (ap (λ n. is_child n q ss) (sym (eqb-true v.0 w is)) ∙ child)))
        by false is = ap not is

    same : (f : Siblings) → is_family ss f ≡ true → without_child p w f ≡ without_window w f
    same f is = by (eqb f.parent.0 p) refl
      where
        by : (b : Bool) → eqb f.parent.0 p ≡ b → without_child p w f ≡ without_window w f
        by true here = cond-true (eqb f.parent.0 p) (without_window w f) f here
        by false differs =
            other_head p w f differs
            ∙ ap (λ (ws : List Hwnd). let h : Siblings = record { parent = f.parent; windows = ws } in h)
            (sym (keep_all (λ (v : Hwnd). not (eqb v.0 w)) f.windows (all_one (λ (v : Hwnd). is_child v.0 f.parent.0 ss) (λ v. not (eqb v.0 w)) (apart_from_it f.parent.0 differs) f.windows (and_right (eqb f.parent.0 0 || among f.parent.0 ss) (list_all (λ v. is_child v.0 f.parent.0 ss) f.windows) is))))

-- the lists of those that stay
pub keep_listed : (staying : List Hwnd) (es : Entries) → map siblings (map (λ (d : ℕ × List Hwnd). (d.0, filter (λ (v : Hwnd). not (is_gone staying v.0)) d.1)) (filter (λ e. not (is_gone staying e.0)) es)) ≡ map (staying_in staying) (filter (λ f. not (is_gone staying f.parent.0)) (map siblings es))
keep_listed staying es = over (filter (λ (e : ℕ × List Hwnd). not (is_gone staying e.0)) es) ∙ ap (map (staying_in staying)) (sym (filter_over siblings (λ f. not (is_gone staying f.parent.0)) es))
  where
    over : (ds : Entries) → map siblings (map (λ (d : ℕ × List Hwnd). (d.0, filter (λ (v : Hwnd). not (is_gone staying v.0)) d.1)) ds) ≡ map (staying_in staying) (map siblings ds)
    over [] = refl
    over (d ∷ ds) = ap (λ (l : List Siblings). staying_in staying (siblings d) ∷ l) (over ds)
