-- An update in the place of another.
use Rattle.std.proofs.Common.{◌≡◌, ◌≢◌, ℕ, suc, ◌<◌, ◌≤◌, Bool, true, false, not, eqb, ltb, List, ◌∷◌, ◌++◌, length, take, drop, get_or, set, Option, Some, None, refl, ap, ◌∙◌, sym, subst, arith}
use Rattle.std.specs.Prelude.{◌&&◌, ◌||◌, option_map}
use Rattle.std.proofs.lemmas.Bool.{eqb-true, eqb-false, ltb-true, ltb-false}
use Rattle.std.specs.List.Sorted.{IsPartitionPoint}
use Rattle.std.proofs.lemmas.List.{get_or_default}
use Rattle.win_num.specs.declared.shapes.Point.{Point}
use Rattle.win_num.specs.declared.shapes.Rect.{Rect}
use Rattle.band_region.specs.Regions.{region_has, IsEmpty}
use Rattle.update_region.specs.Updates.{Dirty}
use Rattle.dirty_windows.specs.declared.entries.DirtyWindow.{DirtyWindow}
use Rattle.dirty_windows.specs.LookUps.{area_in, entry_area, entry_of, entry_update, erases_in, nothing, update_in, update_in_entry, RisesFrom}
use Rattle.dirty_windows.specs.Places.{IsAt, IsMissingAt, IsPut, IsSettled}
use Rattle.dirty_windows.specs.Changes.{IsAdded}
use Rattle.dirty_windows.proofs.Lists.{entry_beside, entry_gone, entry_middle, none_between, number, rises-insert, rises-remove, rises-set, set_middle, split_at, split_for}

-- the entry at the place
pub entry_at : (ds : List DirtyWindow) (w i : ℕ) (x : DirtyWindow) → RisesFrom 0 ds → IsAt ds w i → x ≡ get_or ds i x → entry_of ds w ≡ Some x
entry_at ds w i x h at e =
    let s : ds ≡ take i ds ++ x ∷ drop (suc i) ds = split_at ds i x at.within e in
    ap (λ es. entry_of es w) s ∙ entry_middle 0 (take i ds) x (drop (suc i) ds) w (ap number e ∙ at.window x) (subst (RisesFrom 0) s h)

pub no_entry : (ds : List DirtyWindow) (w i : ℕ) → RisesFrom 0 ds → IsMissingAt ds w i → entry_of ds w ≡ None
no_entry ds w i h m = none_between 0 ds w i m.within m.below m.above h

-- one more
pub put_new : (ds es : List DirtyWindow) (w i : ℕ) (y : DirtyWindow) → es ≡ take i ds ++ y ∷ drop i ds → number y ≡ w → 0 < w → RisesFrom 0 ds → IsMissingAt ds w i → IsPut w y.update ds es
put_new ds es w i y e n above h m =
    let r : RisesFrom 0 (take i ds ++ y ∷ drop i ds) = rises-insert 0 ds i y m.within (λ k d l. omega (arith, n, m.below k d l)) (λ d l. omega (arith, n, m.above d l)) (omega (arith, n, above)) h in
    record {
      rising = subst (RisesFrom 0) (sym e) r;
      same = ap (λ fs. update_in fs w) e ∙ ap update_in_entry (entry_middle 0 (take i ds) y (drop i ds) w n r);
      others = λ v o. ap (λ fs. update_in fs v) e ∙ ap update_in_entry (entry_beside (take i ds) y (drop i ds) v (λ k. o (sym k ∙ n))) ∙ sym (ap (λ fs. update_in fs v) (split_for ds i));
    }

-- one in the place of another
pub put_at : (ds es : List DirtyWindow) (w i : ℕ) (y : DirtyWindow) → es ≡ set ds i y → number y ≡ w → RisesFrom 0 ds → IsAt ds w i → IsPut w y.update ds es
put_at ds es w i y e n h at =
    let x : DirtyWindow = get_or ds i y in
    let ex : x ≡ get_or ds i x = get_or_default ds i y (get_or ds i y) at.within in
    let s : ds ≡ take i ds ++ x ∷ drop (suc i) ds = split_at ds i x at.within ex in
    let m : number x ≡ w = at.window y in
    let t : es ≡ take i ds ++ y ∷ drop (suc i) ds = e ∙ set_middle ds i y at.within in
    let r : RisesFrom 0 (take i ds ++ y ∷ drop (suc i) ds) = rises-set 0 (take i ds) x y (drop (suc i) ds) (m ∙ sym n) (subst (RisesFrom 0) s h) in
    record {
      rising = subst (RisesFrom 0) (sym t) r;
      same = ap (λ fs. update_in fs w) t ∙ ap update_in_entry (entry_middle 0 (take i ds) y (drop (suc i) ds) w n r);
      others = λ v o. ap (λ fs. update_in fs v) t ∙ ap update_in_entry (entry_beside (take i ds) y (drop (suc i) ds) v (λ k. o (sym k ∙ n)) ∙ sym (entry_beside (take i ds) x (drop (suc i) ds) v (λ k. o (sym k ∙ m)))) ∙ sym (ap (λ fs. update_in fs v) s);
    }

-- one less
pub taken_at : (ds es : List DirtyWindow) (w i : ℕ) (x : DirtyWindow) → es ≡ take i ds ++ drop (suc i) ds → x ≡ get_or ds i x → RisesFrom 0 ds → IsAt ds w i → IsPut w nothing ds es
taken_at ds es w i x e ex h at =
    let s : ds ≡ take i ds ++ x ∷ drop (suc i) ds = split_at ds i x at.within ex in
    let m : number x ≡ w = ap number ex ∙ at.window x in
    let r : RisesFrom 0 (take i ds ++ x ∷ drop (suc i) ds) = subst (RisesFrom 0) s h in
    record {
      rising = subst (RisesFrom 0) (sym e) (rises-remove 0 (take i ds) x (drop (suc i) ds) r);
      same = ap (λ fs. update_in fs w) e ∙ ap update_in_entry (entry_gone 0 (take i ds) x (drop (suc i) ds) w m r);
      others = λ v o. ap (λ fs. update_in fs v) e ∙ sym (ap update_in_entry (entry_beside (take i ds) x (drop (suc i) ds) v (λ k. o (sym k ∙ m)))) ∙ sym (ap (λ fs. update_in fs v) s);
    }

-- none to take out
pub none_taken : (ds es : List DirtyWindow) (w i : ℕ) → es ≡ ds → RisesFrom 0 ds → IsMissingAt ds w i → IsPut w nothing ds es
none_taken ds es w i e h m = record {
  rising = subst (RisesFrom 0) (sym e) h;
  same = ap (λ fs. update_in fs w) e ∙ ap update_in_entry (no_entry ds w i h m);
  others = λ v o. ap (λ fs. update_in fs v) e;
}

-- an update that was found, or none
pub some_update : (ds : List DirtyWindow) (w : ℕ) (u : Dirty) → Some u ≡ option_map entry_update (entry_of ds w) → u ≡ update_in ds w
some_update ds w u e = pick (entry_of ds w) e
  where
    pick : (o : Option DirtyWindow) → Some u ≡ option_map entry_update o → u ≡ update_in_entry o
    pick None k = absurd cc
    pick (Some d) k = cc

pub none_update : (ds : List DirtyWindow) (w : ℕ) → None ≡ option_map entry_update (entry_of ds w) → nothing ≡ update_in ds w
none_update ds w e = pick (entry_of ds w) e
  where
    pick : (o : Option DirtyWindow) → None ≡ option_map entry_update o → nothing ≡ update_in_entry o
    pick None k = refl
    pick (Some d) k = absurd cc

-- the area of one that was found, or none
pub some_area : (ds : List DirtyWindow) (w : ℕ) (u : Dirty) → Some u ≡ option_map entry_update (entry_of ds w) → Some u.area ≡ option_map entry_area (entry_of ds w)
some_area ds w u e = pick (entry_of ds w) e
  where
    pick : (o : Option DirtyWindow) → Some u ≡ option_map entry_update o → Some u.area ≡ option_map entry_area o
    pick None k = absurd cc
    pick (Some d) k = let same : u ≡ d.update = cc in ap (λ (v : Dirty). Some v.area) same

pub none_area : (ds : List DirtyWindow) (w : ℕ) → None ≡ option_map entry_update (entry_of ds w) → None ≡ option_map entry_area (entry_of ds w)
none_area ds w e = pick (entry_of ds w) e
  where
    pick : (o : Option DirtyWindow) → None ≡ option_map entry_update o → None ≡ option_map entry_area o
    pick None k = refl
    pick (Some d) k = absurd cc

-- where a window is missing
pub missing_at : (ds : List DirtyWindow) (w i : ℕ) → i ≤ length ds → IsPartitionPoint (λ (d : DirtyWindow). ltb (number d) w ≡ true) (λ (d : DirtyWindow). ltb (number d) w ≡ false) ds i → ((d : DirtyWindow) → i < length ds → number (get_or ds i d) ≢ w) → IsMissingAt ds w i
missing_at ds w i le point other = record {
  within = le;
  below = λ k d l. ltb-true _ _ (point.0 k d (omega arith) l);
  above = λ d lt. let high : w ≤ number (get_or ds i d) = ltb-false _ _ (point.1 i d (omega arith) lt) in let ne : number (get_or ds i d) ≢ w = other d lt in omega (arith, high, ne);
}

-- ---- pixels and flags

pub settled_nothing : (w : ℕ) (u : Dirty) (ds es : List DirtyWindow) → IsEmpty u.area → u.erases ≡ false → IsPut w nothing ds es → IsSettled w u ds es
settled_nothing w u ds es n f p = record {
  rising = p.rising;
  area = λ q. ap (λ (v : Dirty). region_has v.area q) p.same ∙ sym (n q);
  erases = ap (λ (v : Dirty). v.erases) p.same ∙ sym f;
  others = p.others;
}

pub settled_put : (w : ℕ) (u : Dirty) (ds es : List DirtyWindow) → IsPut w u ds es → IsSettled w u ds es
settled_put w u ds es p = record {
  rising = p.rising;
  area = λ q. ap (λ (v : Dirty). region_has v.area q) p.same;
  erases = ap (λ (v : Dirty). v.erases) p.same;
  others = p.others;
}

or_none : (a : Bool) → a ≡ (a || false)
or_none true = refl
or_none false = refl

and_all : (a : Bool) → a ≡ (a && true)
and_all true = refl
and_all false = refl

pub other_number : (w v : ℕ) → eqb w v ≡ false → v ≢ w
other_number w v h e = eqb-false w v h (sym e)

-- what an update of the window does to it, done to the list
pub changed_area : (w : ℕ) (u : Dirty) (ds es : List DirtyWindow) (change : Bool → Bool → Bool) (some : Point → Bool) → ((a : Bool) → a ≡ change a false) → IsSettled w u ds es → ((p : Point) → region_has u.area p ≡ change (region_has (area_in ds w) p) (some p)) → (v : ℕ) (p : Point) → region_has (area_in es v) p ≡ change (region_has (area_in ds v) p) ((eqb w v) && some p)
changed_area w u ds es change some none s e v p = pick (eqb w v) refl
  where
    pick : (b : Bool) → eqb w v ≡ b → region_has (area_in es v) p ≡ change (region_has (area_in ds v) p) (b && some p)
    pick true k = subst (λ n. region_has (area_in es n) p ≡ change (region_has (area_in ds n) p) (some p)) (eqb-true w v k) (s.area p ∙ e p)
    pick false k = ap (λ (d : Dirty). region_has d.area p) (s.others v (other_number w v k)) ∙ none (region_has (area_in ds v) p)

pub added_to : (w : ℕ) (part : List Rect) (erase : Bool) (u old : Dirty) (ds es : List DirtyWindow) → old ≡ update_in ds w → ((p : Point) → region_has u.area p ≡ (region_has old.area p || region_has part p)) → u.erases ≡ (old.erases || erase) → IsSettled w u ds es → IsAdded w part erase ds es
added_to w part erase u old ds es e ea ef s = record {
  rising = s.rising;
  area = changed_area w u ds es (λ a b. a || b) (region_has part) or_none s (λ p. ea p ∙ ap (λ (d : Dirty). region_has d.area p || region_has part p) e);
  erases = λ v. pick v (eqb w v) refl;
}
  where
    pick : (v : ℕ) (b : Bool) → eqb w v ≡ b → erases_in es v ≡ (erases_in ds v || (b && erase))
    pick v true k = subst (λ n. erases_in es n ≡ (erases_in ds n || erase)) (eqb-true w v k) (s.erases ∙ ef ∙ ap (λ (d : Dirty). d.erases || erase) e)
    pick v false k = ap (λ (d : Dirty). d.erases) (s.others v (other_number w v k)) ∙ or_none (erases_in ds v)

pub less_area : (w : ℕ) (less : List Rect) (u old : Dirty) (ds es : List DirtyWindow) → old ≡ update_in ds w → ((p : Point) → region_has u.area p ≡ (region_has old.area p && not (region_has less p))) → IsSettled w u ds es → (v : ℕ) (p : Point) → region_has (area_in es v) p ≡ (region_has (area_in ds v) p && not ((eqb w v) && region_has less p))
less_area w less u old ds es e ea s = changed_area w u ds es (λ a b. a && not b) (region_has less) and_all s (λ p. ea p ∙ ap (λ (d : Dirty). region_has d.area p && not (region_has less p)) e)

pub less_cleared : (w : ℕ) (u : Dirty) (ds es : List DirtyWindow) → (IsEmpty u.area → u.erases ≡ false) → IsSettled w u ds es → IsEmpty (area_in es w) → erases_in es w ≡ false
less_cleared w u ds es c s h = s.erases ∙ c (λ p. sym (s.area p) ∙ h p)

pub less_kept : (w : ℕ) (u old : Dirty) (ds es : List DirtyWindow) → old ≡ update_in ds w → ((IsEmpty u.area → ⊥) → u.erases ≡ old.erases) → IsSettled w u ds es → (IsEmpty (area_in es w) → ⊥) → erases_in es w ≡ erases_in ds w
less_kept w u old ds es e k s h = s.erases ∙ k (λ n. h (λ p. s.area p ∙ n p)) ∙ ap (λ (d : Dirty). d.erases) e
