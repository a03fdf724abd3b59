-- The windows that are kept, and what is kept of them.
use Rattle.std.proofs.Common.{◌≡◌, ◌≢◌, ℕ, ◌+◌, ◌<◌, ◌≤◌, Bool, true, false, not, cond, eqb, List, [], ◌∷◌, ◌++◌, length, take, get_or, filter, Option, Some, None, refl, ap, ◌∙◌, sym, subst, arith}
use Rattle.std.specs.Prelude.{◌&&◌, ◌↔◌, IsTrue, All}
use Rattle.std.proofs.lemmas.Bool.{eqb-true, eqb-false, true≢false, false≢true}
use Rattle.std.proofs.lemmas.List.{append-nil, take_all, take_more}
use Rattle.std.proofs.lemmas.List.Elements.{All-nil, All-cons, All-head, All-tail, All-more, All-same}
use Rattle.win_num.specs.declared.message.Hwnd.{Hwnd}
use Rattle.win_num.specs.declared.shapes.Point.{Point}
use Rattle.win_num.specs.declared.shapes.Rect.{Rect}
use Rattle.band_region.specs.Regions.{region_has, IsEmpty}
use Rattle.update_region.specs.Updates.{Dirty}
use Rattle.screen_owners.specs.declared.owners.Owned.{Owned}
use Rattle.screen_owners.specs.Owners.{region_in}
use Rattle.dirty_windows.specs.declared.entries.DirtyWindow.{DirtyWindow}
use Rattle.dirty_windows.specs.LookUps.{area_in, entry_of, erases_in, is_among, update_in, update_in_entry, IsAllClean, IsClean, RisesFrom}
use Rattle.dirty_windows.specs.Places.{IsSettled}
use Rattle.dirty_windows.specs.Changes.{carries, IsCut}
use Rattle.dirty_windows.proofs.Lists.{entry_beside, entry_middle, entry_other, entry_same, lower, none_up_to, number, rises-take}

-- ---- entry by entry

-- an entry behind others
pub update_last : (ds es : List DirtyWindow) (d : DirtyWindow) → es ≡ ds ++ d ∷ [] → RisesFrom 0 es → update_in es (number d) ≡ d.update
update_last ds es d e h = ap (λ fs. update_in fs (number d)) e ∙ ap update_in_entry (entry_middle 0 ds d [] (number d) refl (subst (RisesFrom 0) e h))

pub update_before : (ds es : List DirtyWindow) (d : DirtyWindow) (v : ℕ) → es ≡ ds ++ d ∷ [] → v ≢ number d → update_in es v ≡ update_in ds v
update_before ds es d v e n = ap (λ fs. update_in fs v) e ∙ ap update_in_entry (entry_beside ds d [] v (λ k. n (sym k))) ∙ ap (λ fs. update_in fs v) (append-nil ds)

pub cut_none : (owners : List Owned) (moved : List Hwnd) (carried : List Rect) (ds : List DirtyWindow) → IsCut owners moved carried (take 0 ds) []
cut_none owners moved carried ds = record { rising = tt; area = λ w p. refl; erases = λ w. refl }

pub cut_start : (owners : List Owned) (moved : List Hwnd) (carried : List Rect) (ds kept : List DirtyWindow) → kept ≡ [] → IsCut owners moved carried (take 0 ds) kept
cut_start owners moved carried ds kept e = subst (IsCut owners moved carried (take 0 ds)) (sym e) (cut_none owners moved carried ds)

pub cut_more : (owners : List Owned) (moved : List Hwnd) (carried : List Rect) (ds : List DirtyWindow) (i : ℕ) (d : DirtyWindow) (u : Dirty) (kept more : List DirtyWindow) → RisesFrom 0 ds → i < length ds → d ≡ get_or ds i d → ((p : Point) → region_has u.area p ≡ ((region_has d.update.area p && region_has (region_in owners (number d)) p) && not (carries moved carried (number d) p))) → u.erases ≡ d.update.erases → IsSettled (number d) u kept more → IsCut owners moved carried (take i ds) kept → IsCut owners moved carried (take (i + 1) ds) more
cut_more owners moved carried ds i d u kept more h lt e ua ue s c =
    let t : take (i + 1) ds ≡ take i ds ++ d ∷ [] = take_more ds i d lt ∙ ap (λ x. take i ds ++ x ∷ []) (sym e) in
    let last : update_in (take (i + 1) ds) (number d) ≡ d.update = update_last (take i ds) (take (i + 1) ds) d t (rises-take (i + 1) 0 ds h) in
    record {
      rising = s.rising;
      area = λ w p. area w p t last (eqb (number d) w) refl;
      erases = λ w. erases w t last (eqb (number d) w) refl;
    }
  where
    -- what is left of an area for a window
    left : List Rect → ℕ → Point → Bool
    left rs w p = (region_has rs p && region_has (region_in owners w) p) && not (carries moved carried w p)

    area : (w : ℕ) (p : Point) → take (i + 1) ds ≡ take i ds ++ d ∷ [] → update_in (take (i + 1) ds) (number d) ≡ d.update → (b : Bool) → eqb (number d) w ≡ b → region_has (area_in more w) p ≡ left (area_in (take (i + 1) ds) w) w p
    area w p t last true k = subst (λ n. region_has (area_in more n) p ≡ left (area_in (take (i + 1) ds) n) n p) (eqb-true (number d) w k) (s.area p ∙ ua p ∙ sym (ap (λ (v : Dirty). left v.area (number d) p) last))
    area w p t last false k = ap (λ (v : Dirty). region_has v.area p) (s.others w (λ n. eqb-false (number d) w k (sym n))) ∙ c.area w p ∙ sym (ap (λ (v : Dirty). left v.area w p) (update_before (take i ds) (take (i + 1) ds) d w t (λ n. eqb-false (number d) w k (sym n))))

    erases : (w : ℕ) → take (i + 1) ds ≡ take i ds ++ d ∷ [] → update_in (take (i + 1) ds) (number d) ≡ d.update → (b : Bool) → eqb (number d) w ≡ b → erases_in more w ≡ erases_in (take (i + 1) ds) w
    erases w t last true k = subst (λ n. erases_in more n ≡ erases_in (take (i + 1) ds) n) (eqb-true (number d) w k) (s.erases ∙ ue ∙ sym (ap (λ (v : Dirty). v.erases) last))
    erases w t last false k = ap (λ (v : Dirty). v.erases) (s.others w (λ n. eqb-false (number d) w k (sym n))) ∙ c.erases w ∙ sym (ap (λ (v : Dirty). v.erases) (update_before (take i ds) (take (i + 1) ds) d w t (λ n. eqb-false (number d) w k (sym n))))

-- ---- whether a pixel is dirty

-- the look-up finds an entry of the list
entry_clean : (ds : List DirtyWindow) (w : ℕ) → All IsClean ds → IsEmpty (update_in_entry (entry_of ds w)).area
entry_clean [] w c = λ p. refl
entry_clean (x ∷ xs) w c = pick (eqb (number x) w) (entry_clean xs w (All-tail IsClean x xs c))
  where
    pick : (b : Bool) → IsEmpty (update_in_entry (entry_of xs w)).area → IsEmpty (update_in_entry (cond b (Some x) (entry_of xs w))).area
    pick true r = All-head IsClean x xs c
    pick false r = r

each_clean : (first : ℕ) (ds : List DirtyWindow) → RisesFrom first ds → IsAllClean ds → All IsClean ds
each_clean first [] h c = All-nil IsClean
each_clean first (x ∷ xs) h c = All-cons IsClean x xs
    (subst (λ o. IsEmpty (update_in_entry o).area) (entry_same x xs (number x) refl) (c (number x)))
    (each_clean (number x) xs h.1 (λ w. behind w (eqb (number x) w) refl))
  where
    behind : (w : ℕ) (b : Bool) → eqb (number x) w ≡ b → IsEmpty (area_in xs w)
    behind w true k = subst (λ n. IsEmpty (area_in xs n)) (eqb-true (number x) w k) (subst (λ o. IsEmpty (update_in_entry o).area) (sym (none_up_to (number x) xs (number x) h.1 (omega arith))) (λ p. refl))
    behind w false k = subst (λ o. IsEmpty (update_in_entry o).area) (entry_other x xs w (eqb-false (number x) w k)) (c w)

pub all_clean : (ds : List DirtyWindow) → RisesFrom 0 ds → All IsClean ds ↔ IsAllClean ds
all_clean ds h = (λ c w. entry_clean ds w c, each_clean 0 ds h)

-- a walk over the entries
pub clean_more : (ds : List DirtyWindow) (i : ℕ) (d : DirtyWindow) → i < length ds → d ≡ get_or ds i d → All IsClean (take i ds) → IsClean d → All IsClean (take (i + 1) ds)
clean_more ds i d lt e a h = All-more IsClean ds i d lt a (subst IsClean e h)

pub clean_all : (ds : List DirtyWindow) (i : ℕ) → length ds ≤ i → All IsClean (take i ds) → IsTrue true ↔ All IsClean ds
clean_all ds i le a = (λ _. All-same IsClean ds (take i ds) (sym (take_all i ds le)) a, λ _. refl)

pub not_clean : (ds : List DirtyWindow) (i : ℕ) (d : DirtyWindow) (b : Bool) → i < length ds → d ≡ get_or ds i d → (IsTrue b ↔ IsClean d) → b ≡ false → IsTrue false ↔ All IsClean ds
not_clean ds i d b lt e told f = (λ h. absurd (false≢true h), λ a. absurd (true≢false (sym (told.1 (subst IsClean (sym e) (a i d lt))) ∙ f)))

-- ---- a part of the entries

pub rises-filter : (first : ℕ) (test : DirtyWindow → Bool) (ds : List DirtyWindow) → RisesFrom first ds → RisesFrom first (filter test ds)
rises-filter first test [] h = tt
rises-filter first test (x ∷ xs) h = pick (test x) (rises-filter (number x) test xs h.1)
  where
    pick : (b : Bool) → RisesFrom (number x) (filter test xs) → RisesFrom first (cond b (x ∷ filter test xs) (filter test xs))
    pick true r = (h.0, r)
    pick false r = lower first (number x) (filter test xs) h.0 r

entry_filtered : (live : List Hwnd) (ds : List DirtyWindow) (w : ℕ) → entry_of (filter (λ (d : DirtyWindow). is_among (number d) live) ds) w ≡ cond (is_among w live) (entry_of ds w) None
entry_filtered live [] w = same (is_among w live)
  where
    same : (b : Bool) → ◌≡◌ {A = Option DirtyWindow} None (cond b None None)
    same true = refl
    same false = refl
entry_filtered live (x ∷ xs) w = pick (eqb (number x) w) refl (is_among (number x) live) refl (entry_filtered live xs w)
  where
    pick : (a : Bool) → eqb (number x) w ≡ a → (b : Bool) → is_among (number x) live ≡ b → entry_of (filter (λ (d : DirtyWindow). is_among (number d) live) xs) w ≡ cond (is_among w live) (entry_of xs w) None → entry_of (cond b (x ∷ filter (λ (d : DirtyWindow). is_among (number d) live) xs) (filter (λ (d : DirtyWindow). is_among (number d) live) xs)) w ≡ cond (is_among w live) (cond a (Some x) (entry_of xs w)) None
    pick true ka true kb r = ap (λ c. cond c (Some x) (entry_of (filter (λ (d : DirtyWindow). is_among (number d) live) xs) w)) ka ∙ sym (ap (λ c. cond c (Some x) None) (sym (ap (λ n. is_among n live) (eqb-true (number x) w ka)) ∙ kb))
    pick true ka false kb r =
        let gone : is_among w live ≡ false = sym (ap (λ n. is_among n live) (eqb-true (number x) w ka)) ∙ kb in
        r ∙ ap (λ c. cond c (entry_of xs w) None) gone ∙ sym (ap (λ c. cond c (Some x) None) gone)
    pick false ka true kb r = ap (λ c. cond c (Some x) (entry_of (filter (λ (d : DirtyWindow). is_among (number d) live) xs) w)) ka ∙ r
    pick false ka false kb r = r

pub area_filtered : (live : List Hwnd) (ds es : List DirtyWindow) → es ≡ filter (λ (d : DirtyWindow). is_among (number d) live) ds → (w : ℕ) → area_in es w ≡ cond (is_among w live) (area_in ds w) []
area_filtered live ds es e w = ap (λ fs. area_in fs w) e ∙ ap (λ o. (update_in_entry o).area) (entry_filtered live ds w) ∙ pick (is_among w live)
  where
    pick : (b : Bool) → (update_in_entry (cond b (entry_of ds w) None)).area ≡ cond b (area_in ds w) []
    pick true = refl
    pick false = refl

pub erases_filtered : (live : List Hwnd) (ds es : List DirtyWindow) → es ≡ filter (λ (d : DirtyWindow). is_among (number d) live) ds → (w : ℕ) → erases_in es w ≡ (is_among w live && erases_in ds w)
erases_filtered live ds es e w = ap (λ fs. erases_in fs w) e ∙ ap (λ o. (update_in_entry o).erases) (entry_filtered live ds w) ∙ pick (is_among w live)
  where
    pick : (b : Bool) → (update_in_entry (cond b (entry_of ds w) None)).erases ≡ (b && erases_in ds w)
    pick true = refl
    pick false = refl
