-- What is exposed for one window after the other.
use Rattle.std.proofs.Common.{◌≡◌, ℕ, ◌+◌, ◌<◌, ◌≤◌, Bool, true, false, not, eqb, List, [], length, take, get_or, Option, Some, None, refl, ap, ◌∙◌, sym, subst, arith}
use Rattle.std.specs.Prelude.{◌&&◌, ◌||◌, option_map}
use Rattle.std.specs.List.{list_any}
use Rattle.std.proofs.lemmas.Bool.{eqb-true, ne_eqb, true≢false, false≢true}
use Rattle.std.proofs.lemmas.List.{take_all}
use Rattle.std.proofs.lemmas.List.Folds.{list_any_more}
use Rattle.win_num.specs.declared.message.Hwnd.{Hwnd}
use Rattle.win_num.specs.declared.shapes.Point.{Point}
use Rattle.win_num.specs.declared.shapes.Rect.{Rect}
use Rattle.band_region.specs.Regions.{region_has, IsEmpty}
use Rattle.screen_owners.specs.declared.owners.Owned.{Owned}
use Rattle.screen_owners.specs.Owners.{entry_of, owned_region, region_in}
use Rattle.screen_owners.proofs.Shared.{none_at}
use Rattle.dirty_windows.specs.declared.entries.DirtyWindow.{DirtyWindow}
use Rattle.dirty_windows.specs.LookUps.{area_in, erases_in, is_among, RisesFrom}
use Rattle.dirty_windows.specs.Changes.{carries, exposes, IsAdded, IsCut, IsExposed}

or_none : (a : Bool) → a ≡ (a || false)
or_none true = refl
or_none false = refl

or_true : (a : Bool) → (a || true) ≡ true
or_true true = refl
or_true false = refl

pub and_none : (a : Bool) → (a && false) ≡ false
and_none true = refl
and_none false = refl

-- what has the same pixels leaves none
pub none_of_same : (a b : Bool) → a ≡ b → false ≡ (a && not b)
none_of_same true true e = refl
none_of_same true false e = absurd (true≢false e)
none_of_same false b e = refl

-- the region that was looked up, or none
pub owned_is : (os : List Owned) (w : ℕ) (r : List Rect) → Some r ≡ option_map owned_region (entry_of os w) → r ≡ region_in os w
owned_is os w r e = pick (entry_of os w) e
  where
    pick : (o : Option Owned) → Some r ≡ option_map owned_region o → r ≡ elim o [ Some x ↦ x.region | None ↦ [] ]
    pick None k = absurd cc
    pick (Some x) k = cc

pub none_owned : (os : List Owned) (w : ℕ) → None ≡ option_map owned_region (entry_of os w) → [] ≡ region_in os w
none_owned os w e = pick (entry_of os w) e
  where
    pick : (o : Option Owned) → None ≡ option_map owned_region o → ◌≡◌ {A = List Rect} [] (elim o [ Some x ↦ x.region | None ↦ [] ])
    pick None k = refl
    pick (Some x) k = absurd cc

-- of what has moved all is left that isn't carried, and of what hasn't, what wasn't owned
pub moved_all : (a m b c : Bool) → m ≡ true → (a && not c) ≡ ((a && (m || b)) && not (m && c))
moved_all true true b c e = refl
moved_all true false b c e = absurd (true≢false (sym e))
moved_all false m b c e = refl

pub unmoved_all : (a m b c : Bool) → m ≡ false → (a && b) ≡ ((a && (m || b)) && not (m && c))
unmoved_all true true b c e = absurd (true≢false e)
unmoved_all true false true c e = refl
unmoved_all true false false c e = refl
unmoved_all false m b c e = refl

pub and_all : (a : Bool) → a ≡ (a && true)
and_all true = refl
and_all false = refl

-- the screen has no exposed pixel
pub none_for_screen : (old new : List Owned) (moved : List Hwnd) (carried : List Rect) (w : ℕ) (p : Point) → w ≡ 0 → exposes old new moved carried w p ≡ false
none_for_screen old new moved carried w p e = ap (λ n. exposes old new moved carried n p) e

-- nor has a window that owns none now
pub none_for_other : (old new : List Owned) (moved : List Hwnd) (carried : List Rect) (w : ℕ) (p : Point) → region_has (region_in new w) p ≡ false → exposes old new moved carried w p ≡ false
none_for_other old new moved carried w p e = ap (λ b. not (eqb w 0) && ((b && (is_among w moved || not (region_has (region_in old w) p))) && not (carries moved carried w p))) e ∙ and_none (not (eqb w 0))

-- whether one of the owners is the window
abbrev pub owns : List Owned → ℕ → Bool
owns os v = list_any (λ (o : Owned). eqb o.window.0 v) os

-- all that a window owns is exposed but what it owned before, or where it moved, what is carried
pub exposed_is : (old new : List Owned) (moved : List Hwnd) (carried : List Rect) (w : ℕ) (m : Bool) (r x : List Rect) → 0 < w → m ≡ is_among w moved → r ≡ region_in new w → ((p : Point) → region_has x p ≡ ((region_has r p && (m || not (region_has (region_in old w) p))) && not (m && region_has carried p))) → (p : Point) → region_has x p ≡ exposes old new moved carried w p
exposed_is old new moved carried w m r x above em er h p =
    h p
    ∙ ap (λ s. (region_has s p && (m || not (region_has (region_in old w) p))) && not (m && region_has carried p)) er
    ∙ ap (λ n. (region_has (region_in new w) p && (n || not (region_has (region_in old w) p))) && not (n && region_has carried p)) em
    ∙ sym (ap (λ b. not b && ((region_has (region_in new w) p && (is_among w moved || not (region_has (region_in old w) p))) && not (carries moved carried w p))) (ne_eqb w 0 (λ e. absurd (omega (arith, above, e)))))

module _ (old new : List Owned) (moved : List Hwnd) (carried : List Rect) where
  -- a window for which no pixel is exposed
  pub exposed_none : (w : ℕ) (ds es : List DirtyWindow) → RisesFrom 0 ds → ((p : Point) → exposes old new moved carried w p ≡ false) → es ≡ ds → IsExposed (λ v. eqb w v) old new moved carried ds es
  exposed_none w ds es h none e = record {
    rising = subst (RisesFrom 0) (sym e) h;
    area = λ v p. ap (λ fs. region_has (area_in fs v) p) e ∙ or_none (region_has (area_in ds v) p) ∙ sym (ap (λ b. region_has (area_in ds v) p || b) (missed v p (eqb w v) refl));
    set = λ v p k x. absurd (true≢false (sym x ∙ sym (ap (λ b. b && exposes old new moved carried v p) k) ∙ missed v p (eqb w v) refl));
    same = λ v k. ap (λ fs. erases_in fs v) e;
  }
    where
      missed : (v : ℕ) (p : Point) (b : Bool) → eqb w v ≡ b → (eqb w v && exposes old new moved carried v p) ≡ false
      missed v p true k = ap (λ b. b && exposes old new moved carried v p) k ∙ sym (ap (λ n. exposes old new moved carried n p) (eqb-true w v k)) ∙ none p
      missed v p false k = ap (λ b. b && exposes old new moved carried v p) k

  -- a window for which some are
  pub exposed_some : (w : ℕ) (part : List Rect) (ds es : List DirtyWindow) → ((p : Point) → region_has part p ≡ exposes old new moved carried w p) → (IsEmpty part → ⊥) → IsAdded w part true ds es → IsExposed (λ v. eqb w v) old new moved carried ds es
  exposed_some w part ds es is some a = record {
    rising = a.rising;
    area = λ v p. a.area v p ∙ ap (λ b. region_has (area_in ds v) p || b) (here v p (eqb w v) refl);
    set = λ v p k x. a.erases v ∙ ap (λ b. erases_in ds v || (b && true)) k ∙ or_true (erases_in ds v);
    same = λ v k. a.erases v ∙ ap (λ b. erases_in ds v || b) (missed v k (eqb w v) refl) ∙ sym (or_none (erases_in ds v));
  }
    where
      here : (v : ℕ) (p : Point) (b : Bool) → eqb w v ≡ b → (eqb w v && region_has part p) ≡ (eqb w v && exposes old new moved carried v p)
      here v p true k = ap (λ b. b && region_has part p) k ∙ is p ∙ ap (λ n. exposes old new moved carried n p) (eqb-true w v k) ∙ sym (ap (λ b. b && exposes old new moved carried v p) k)
      here v p false k = ap (λ b. b && region_has part p) k ∙ sym (ap (λ b. b && exposes old new moved carried v p) k)

      missed : (v : ℕ) → ((p : Point) → (eqb w v && exposes old new moved carried v p) ≡ false) → (b : Bool) → eqb w v ≡ b → (eqb w v && true) ≡ false
      missed v none true k = absurd (some (λ p. is p ∙ ap (λ n. exposes old new moved carried n p) (eqb-true w v k) ∙ sym (ap (λ b. b && exposes old new moved carried v p) k) ∙ none p))
      missed v none false k = ap (λ b. b && true) k

  -- one window after others
  pub exposed_both : (some more both : ℕ → Bool) (ds es fs : List DirtyWindow) → ((v : ℕ) → both v ≡ (some v || more v)) → IsExposed some old new moved carried ds es → IsExposed more old new moved carried es fs → IsExposed both old new moved carried ds fs
  exposed_both some more both ds es fs e a b = record {
    rising = b.rising;
    area = λ v p. b.area v p ∙ ap (λ c. c || (more v && exposes old new moved carried v p)) (a.area v p) ∙ joined (region_has (area_in ds v) p) (some v) (more v) (exposes old new moved carried v p) ∙ ap (λ c. region_has (area_in ds v) p || (c && exposes old new moved carried v p)) (sym (e v));
    set = λ v p k x. set_by v p x (more v) refl (sym (e v) ∙ k);
    same = λ v k. b.same v (λ p. second (some v) (more v) (exposes old new moved carried v p) (ap (λ c. c && exposes old new moved carried v p) (sym (e v)) ∙ k p)) ∙ a.same v (λ p. first (some v) (more v) (exposes old new moved carried v p) (ap (λ c. c && exposes old new moved carried v p) (sym (e v)) ∙ k p));
  }
    where
      joined : (c s m x : Bool) → ((c || (s && x)) || (m && x)) ≡ (c || ((s || m) && x))
      joined true s m x = refl
      joined false true m true = refl
      joined false true true false = refl
      joined false true false false = refl
      joined false false m x = refl

      first : (s m x : Bool) → ((s || m) && x) ≡ false → (s && x) ≡ false
      first true m x h = h
      first false m x h = refl

      second : (s m x : Bool) → ((s || m) && x) ≡ false → (m && x) ≡ false
      second true true x h = h
      second true false x h = refl
      second false m x h = h

      set_by : (v : ℕ) (p : Point) → exposes old new moved carried v p ≡ true → (m : Bool) → more v ≡ m → (some v || more v) ≡ true → erases_in fs v ≡ true
      set_by v p x true k h = b.set v p k x
      set_by v p x false k h = b.same v (λ q. ap (λ c. c && exposes old new moved carried v q) k) ∙ a.set v p (or_none (some v) ∙ ap (λ c. some v || c) (sym k) ∙ h) x

  pub exposed_more : (os : List Owned) (i : ℕ) (o : Owned) (ds es fs : List DirtyWindow) → i < length os → o ≡ get_or os i o → IsExposed (owns (take i os)) old new moved carried ds es → IsExposed (λ v. eqb o.window.0 v) old new moved carried es fs → IsExposed (owns (take (i + 1) os)) old new moved carried ds fs
  exposed_more os i o ds es fs lt e a b = exposed_both (owns (take i os)) (λ v. eqb o.window.0 v) (owns (take (i + 1) os)) ds es fs (λ v. list_any_more (λ (x : Owned). eqb x.window.0 v) os i o lt ∙ ap (λ (x : Owned). owns (take i os) v || eqb x.window.0 v) (sym e)) a b

  pub exposed_first : (os : List Owned) (ds : List DirtyWindow) → RisesFrom 0 ds → IsExposed (owns (take 0 os)) old new moved carried ds ds
  exposed_first os ds h = record {
    rising = h;
    area = λ v p. or_none (region_has (area_in ds v) p);
    set = λ v p k x. absurd (false≢true k);
    same = λ v k. refl;
  }

  -- all owners are visited
  pub exposed_all : (os : List Owned) (i : ℕ) (ds es : List DirtyWindow) → os ≡ new → length os ≤ i → IsExposed (owns (take i os)) old new moved carried ds es → IsExposed (λ v. true) old new moved carried ds es
  exposed_all os i ds es eo le a = record {
    rising = a.rising;
    area = λ v p. a.area v p ∙ ap (λ b. region_has (area_in ds v) p || b) (picked v p (owns (take i os) v) refl);
    set = λ v p k x. set_by v p x (owns (take i os) v) refl;
    same = λ v k. a.same v (λ p. picked v p (owns (take i os) v) refl ∙ k p);
  }
    where
      none : (v : ℕ) (p : Point) → owns (take i os) v ≡ false → exposes old new moved carried v p ≡ false
      none v p k = none_for_other old new moved carried v p (ap (λ (o : Option Owned). region_has (elim o [ Some x ↦ x.region | None ↦ [] ]) p) (none_at (λ (x : Owned). x.window.0) new v (sym (ap (λ xs. owns xs v) (take_all i os le ∙ eo)) ∙ k)))

      picked : (v : ℕ) (p : Point) (b : Bool) → owns (take i os) v ≡ b → (owns (take i os) v && exposes old new moved carried v p) ≡ exposes old new moved carried v p
      picked v p true k = ap (λ b. b && exposes old new moved carried v p) k
      picked v p false k = ap (λ b. b && exposes old new moved carried v p) k ∙ sym (none v p k)

      set_by : (v : ℕ) (p : Point) → exposes old new moved carried v p ≡ true → (b : Bool) → owns (take i os) v ≡ b → erases_in es v ≡ true
      set_by v p x true k = a.set v p k x
      set_by v p x false k = absurd (true≢false (sym x ∙ none v p k))

  -- what is kept, and what is exposed beside it
  pub changed_area : (ds es fs : List DirtyWindow) → IsCut new moved carried ds es → IsExposed (λ v. true) old new moved carried es fs → (w : ℕ) (p : Point) → region_has (area_in fs w) p ≡ (((region_has (area_in ds w) p && region_has (region_in new w) p) && not (carries moved carried w p)) || exposes old new moved carried w p)
  changed_area ds es fs c a w p = a.area w p ∙ ap (λ b. b || exposes old new moved carried w p) (c.area w p)

  pub changed_same : (ds es fs : List DirtyWindow) → IsCut new moved carried ds es → IsExposed (λ v. true) old new moved carried es fs → (w : ℕ) → ((p : Point) → exposes old new moved carried w p ≡ false) → erases_in fs w ≡ erases_in ds w
  changed_same ds es fs c a w k = a.same w k ∙ c.erases w
