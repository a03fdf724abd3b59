-- Regions that stay outside of a part and are computed anew in it.
use Rattle.std.proofs.Common.{◌≡◌, ◌≢◌, ◌⊎◌, inl, inr, ℕ, ◌+◌, ◌<◌, ◌≤◌, Bool, true, false, cond, not, eqb, List, [], ◌∷◌, ◌++◌, length, map, take, get_or, Option, Some, None, refl, ap, ◌∙◌, sym, subst, arith}
use Rattle.std.specs.Prelude.{◌&&◌, ◌||◌, option_map}
use Rattle.std.specs.List.{All, AllByRecursion, list_any}
use Rattle.std.proofs.lemmas.Bool.{eqb-true, eq-eqb, ne_eqb, false≢true, true≢false}
use Rattle.std.proofs.lemmas.List.{length-map, take_all, take_more}
use Rattle.std.proofs.lemmas.List.Quantifiers.{all_pairs_push}
use Rattle.std.proofs.lemmas.List.Elements.{recursion_from_All, All-nil, All-push}
use Rattle.win_num.specs.declared.message.Hwnd.{Hwnd}
use Rattle.win_num.specs.declared.shapes.Point.{Point}
use Rattle.win_num.specs.declared.shapes.Rect.{Rect}
use Rattle.win_order.specs.Layers.{Layers}
use Rattle.win_rows.specs.declared.window.Window.{Window}
use Rattle.win_rows.specs.Windows.{IsOrdered, nobody, number_of}
use Rattle.win_num.specs.PixelSets.{has_pixel}
use Rattle.win_num.specs.Rects.{box_in}
use Rattle.band_region.specs.Regions.{rect_has, region_has, IsLeastAround}
use Rattle.band_region.proofs.Lists.{pairs-nil}
use Rattle.window_state.specs.Pixels.{deepest_in, owner_in}
use Rattle.screen_owners.specs.declared.owners.Owned.{Owned}
use Rattle.screen_owners.specs.declared.screen.Part.{Part}
use Rattle.screen_owners.specs.Joined.{AreJoined, IsJoined}
use Rattle.screen_owners.specs.Owners.{entry_of, is_on_screen, joined_has, owned_region, region_in, AreChildren, AreOwners, AreOwnersIn, AreOwnersOutside, IsBefore}
use Rattle.screen_owners.specs.Shares.{is_one_of, screen_and, Passes, begins}
use Rattle.screen_owners.proofs.ChangedParts.{pushed}
use Rattle.screen_owners.proofs.Cuts.{same_window}
use Rattle.screen_owners.proofs.Shared.{before_less, live_among, number_over}
use Rattle.screen_owners.proofs.Ways.{came_from, owner_passes, step_of, CameFrom}

or_first : (a b : Bool) → a ≡ true → (a || b) ≡ true
or_first a b h = ap (λ c. c || b) h

or_last : (a b : Bool) → b ≡ true → (a || b) ≡ true
or_last true b h = refl
or_last false b h = h

one_of : (a b : Bool) → (a || b) ≡ true → (a ≡ true) ⊎ (b ≡ true)
one_of true b h = inl refl
one_of false b h = inr h

-- ---- one region

-- the pixels of an entry that may be there
abbrev region_or : Option Owned → List Rect
region_or o = elim o [ Some x ↦ x.region | None ↦ [] ]

-- a region that was looked up
pub region_found : (os : List Owned) (w : ℕ) (rs : List Rect) → Some rs ≡ option_map owned_region (entry_of os w) → rs ≡ region_in os w
region_found os w rs e = pick (entry_of os w) e
  where
    pick : (o : Option Owned) → Some rs ≡ option_map owned_region o → rs ≡ region_or o
    pick None e = absurd cc
    pick (Some x) e = cc

pub region_lost : (os : List Owned) (w : ℕ) → None ≡ option_map owned_region (entry_of os w) → [] ≡ region_in os w
region_lost os w e = pick (entry_of os w) e
  where
    pick : (o : Option Owned) → None ≡ option_map owned_region o → [] ≡ region_or o
    pick None e = refl
    pick (Some x) e = absurd cc

-- a rectangle that has all pixels of the part meets none of the region's
pub kept_whole : (region part around : Bool) → (region && around) ≡ false → (part ≡ true → around ≡ true) → region ≡ (region && not part)
kept_whole true true around h k = absurd (true≢false (sym (k refl) ∙ h))
kept_whole true false around h k = refl
kept_whole false part around h k = refl

-- a region that doesn't meet the least rectangle around the part stays whole
pub copied_outside : (region part copy : List Rect) (around : Rect) → copy ≡ region → ((p : Point) → (region_has region p && rect_has around p) ≡ false) → IsLeastAround part (box_in around) → (p : Point) → region_has copy p ≡ (region_has region p && not (region_has part p))
unfolding rect_has
copied_outside region part copy around same apart least p = ap (λ rs. region_has rs p) same ∙ kept_whole (region_has region p) (region_has part p) (has_pixel (box_in around) p) (apart p) (least.around p)

pub none_joined : (a : Bool) → a ≡ (a || false)
none_joined true = refl
none_joined false = refl

-- ---- one entry more

-- the entry of another window
found_before : (es : List Owned) (o : Owned) (v : ℕ) → o.window.0 ≢ v → entry_of (es ++ o ∷ []) v ≡ entry_of es v
found_before [] o v other = ap (λ b. cond b (Some o) None) (ne_eqb o.window.0 v other)
found_before (x ∷ xs) o v other = ap (λ e. cond (eqb x.window.0 v) (Some x) e) (found_before xs o v other)

-- its own
found_last : (es : List Owned) (o : Owned) (v : ℕ) → entry_of es v ≡ None → o.window.0 ≡ v → entry_of (es ++ o ∷ []) v ≡ Some o
found_last [] o v none is = ap (λ b. cond b (Some o) None) (eq-eqb o.window.0 v is)
found_last (x ∷ xs) o v none is = pick (found_last xs o v) (eqb x.window.0 v) none
  where
    pick : (entry_of xs v ≡ None → o.window.0 ≡ v → entry_of (xs ++ o ∷ []) v ≡ Some o) → (b : Bool) → cond b (Some x) (entry_of xs v) ≡ None → cond b (Some x) (entry_of (xs ++ o ∷ []) v) ≡ Some o
    pick rest true h = absurd cc
    pick rest false h = rest h is

-- a window that is none of these has no entry
none_among : (hs : List Hwnd) (es : List Owned) (v : Hwnd) → AllByRecursion (λ o. is_one_of hs o.window ≡ true) es → is_one_of hs v ≡ false → entry_of es v.0 ≡ None
none_among hs [] v all none = refl
none_among hs (o ∷ es) v all none = pick (none_among hs es v all.1 none) (eqb o.window.0 v.0) refl
  where
    pick : entry_of es v.0 ≡ None → (b : Bool) → eqb o.window.0 v.0 ≡ b → cond b (Some o) (entry_of es v.0) ≡ None
    pick rest true e = absurd (true≢false (sym all.0 ∙ (ap (is_one_of hs) (same_window o.window v (eqb-true o.window.0 v.0 e)) ∙ none)))
    pick rest false e = rest

no_entry : (hs : List Hwnd) (es : List Owned) (v : Hwnd) → All (λ o. is_one_of hs o.window ≡ true) es → is_one_of hs v ≡ false → entry_of es v.0 ≡ None
no_entry hs es v all none = none_among hs es v (recursion_from_All (λ (o : Owned). is_one_of hs o.window ≡ true) es all) none

-- a window above all of them is none of them
not_yet : (hs : List Hwnd) (w : Hwnd) → ((u : Hwnd) → is_one_of hs u ≡ true → u.0 < w.0) → is_one_of hs w ≡ false
not_yet hs w over = pick (is_one_of hs w) refl
  where
    pick : (b : Bool) → is_one_of hs w ≡ b → b ≡ false
    pick true k = absurd (omega (arith, over w k))
    pick false k = refl

module _ (part : List Rect) (old new : List Owned) (w : Hwnd) (rs : List Rect) (has : (p : Point) → region_has rs p ≡ joined_has part old new w.0 p) where
  last_joined : (v : Hwnd) (p : Point) → w ≡ v → region_has rs p ≡ joined_has part old new v.0 p
  last_joined v p e = has p ∙ ap (λ (u : Hwnd). joined_has part old new u.0 p) e

  pub joined_push : (es fs : List Owned) → fs ≡ es ++ record { window = w; region = rs } ∷ [] → IsJoined part old new w es fs
  joined_push es fs same hs over are = subst (AreJoined part old new (hs ++ w ∷ [])) (sym same) (record {
    rising = all_pairs_push IsBefore es o are.rising (λ j d lt. over (get_or es j d).window (are.among j d lt));
    among = All-push (λ (x : Owned). is_one_of (hs ++ w ∷ []) x.window ≡ true) es o (λ j d lt. pushed hs w (get_or es j d).window ∙ or_first (is_one_of hs (get_or es j d).window) (eqb w.0 (get_or es j d).window.0) (are.among j d lt)) (pushed hs w w ∙ or_last (is_one_of hs w) (eqb w.0 w.0) (eq-eqb w.0 w.0 refl));
    regions = λ v p any. pick v p (one_of (is_one_of hs v) (eqb w.0 v.0) (sym (pushed hs w v) ∙ any));
  })
    where
      o : Owned
      o = record { window = w; region = rs }

      pick : (v : Hwnd) (p : Point) → (is_one_of hs v ≡ true) ⊎ (eqb w.0 v.0 ≡ true) → region_has (region_in (es ++ o ∷ []) v.0) p ≡ joined_has part old new v.0 p
      pick v p (inl k) = ap (λ e. region_has (region_or e) p) (found_before es o v.0 (λ e. absurd (omega (arith, over v k, e)))) ∙ are.regions v p k
      pick v p (inr k) =
          let same : w ≡ v = same_window w v (eqb-true w.0 v.0 k) in
          let none : entry_of es v.0 ≡ None = no_entry hs es v are.among (ap (is_one_of hs) (sym same) ∙ not_yet hs w over) in
          ap (λ e. region_has (region_or e) p) (found_last es o v.0 none (ap (λ (u : Hwnd). u.0) same)) ∙ last_joined v p same

  pub joined_none : (es fs : List Owned) → fs ≡ es → rs ≡ [] → IsJoined part old new w es fs
  joined_none es fs same empty hs over are = subst (AreJoined part old new (hs ++ w ∷ [])) (sym same) (record {
    rising = are.rising;
    among = λ j d lt. pushed hs w (get_or es j d).window ∙ or_first (is_one_of hs (get_or es j d).window) (eqb w.0 (get_or es j d).window.0) (are.among j d lt);
    regions = λ v p any. pick v p (one_of (is_one_of hs v) (eqb w.0 v.0) (sym (pushed hs w v) ∙ any));
  })
    where
      pick : (v : Hwnd) (p : Point) → (is_one_of hs v ≡ true) ⊎ (eqb w.0 v.0 ≡ true) → region_has (region_in es v.0) p ≡ joined_has part old new v.0 p
      pick v p (inl k) = are.regions v p k
      pick v p (inr k) =
          let same : w ≡ v = same_window w v (eqb-true w.0 v.0 k) in
          let none : entry_of es v.0 ≡ None = no_entry hs es v are.among (ap (is_one_of hs) (sym same) ∙ not_yet hs w over) in
          ap (λ e. region_has (region_or e) p) none ∙ (ap (λ xs. region_has xs p) (sym empty) ∙ last_joined v p same)

-- ---- all entries

-- those of no window
pub first_joined : (part : List Rect) (old new : List Owned) (es : List Owned) → IsJoined part old new nobody [] es → AreJoined part old new (nobody ∷ []) es
first_joined part old new es joined = joined [] (λ u any. absurd (false≢true any)) (record {
  rising = pairs-nil IsBefore;
  among = All-nil (λ (o : Owned). is_one_of [] o.window ≡ true);
  regions = λ v p any. absurd (false≢true any);
})

-- those of one window of the table more
pub next_joined : (ws : List Window) (last : ℕ) (part : List Rect) (old new es fs : List Owned) (vs : List Hwnd) (k : ℕ) (w : Hwnd) → IsOrdered 15 last ws → vs ≡ map number_of ws → k < length vs → w ≡ get_or vs k w → IsJoined part old new w es fs →
    AreJoined part old new (nobody ∷ take k vs) es → AreJoined part old new (nobody ∷ take (k + 1) vs) fs
next_joined ws last part old new es fs vs k w ordered numbers within at joined are = subst (λ us. AreJoined part old new (nobody ∷ us) fs) (sym more) (joined (nobody ∷ take k vs) older are)
  where
    more : take (k + 1) vs ≡ take k vs ++ w ∷ []
    more = take_more vs k w within ∙ ap (λ u. take k vs ++ u ∷ []) (sym at)

    inside : k < length ws
    inside = omega (arith, within, ap length numbers, length-map ws number_of)

    there : w ≡ get_or (map number_of ws) k w
    there = at ∙ ap (λ us. get_or us k w) numbers

    older : (u : Hwnd) → is_one_of (nobody ∷ take k vs) u ≡ true → u.0 < w.0
    older u any = pick (one_of (eqb 0 u.0) (is_one_of (take k vs) u) any)
      where
        pick : (eqb 0 u.0 ≡ true) ⊎ (is_one_of (take k vs) u ≡ true) → u.0 < w.0
        pick (inl is) = omega (arith, eqb-true 0 u.0 is, number_over 15 last ws k w ordered inside there)
        pick (inr rest) = before_less 15 last ws k w u.0 ordered inside there (ap (λ us. is_one_of (take k us) u) (sym numbers) ∙ rest)

pub all_joined : (ws : List Window) (part : List Rect) (old new es : List Owned) (vs : List Hwnd) (n : ℕ) → vs ≡ map number_of ws → length vs ≤ n → AreJoined part old new (nobody ∷ take n vs) es → AreJoined part old new (screen_and ws) es
all_joined ws part old new es vs n numbers e are = subst (λ us. AreJoined part old new (nobody ∷ us) es) (take_all n vs e ∙ numbers) are

module _ (ws : List Window) (z : Layers) (last : ℕ) (ordered : IsOrdered 15 last ws) (children : AreChildren ws z) where
  -- the owner of a pixel is live, or 0
  owner_among : (width height : ℕ) (p : Point) → is_on_screen width height p ≡ true → is_one_of (screen_and ws) (owner_in ws z width height p) ≡ true
  owner_among width height p on = ap (λ (u : Hwnd). is_one_of (screen_and ws) u) (ap (λ b. cond b (deepest_in (length ws) ws z p nobody) nobody) on) ∙ pick (came_from ws z last ordered children p owner way.0 way.1)
    where
      owner : Hwnd
      owner = deepest_in (length ws) ws z p nobody

      way : (r : Point) × Passes ws z p owner r
      way = owner_passes ws z last ordered children (length ws) p p nobody begins

      pick : ((owner ≡ nobody) × (way.0 ≡ p)) ⊎ CameFrom ws z last ordered children p owner way.0 → is_one_of (screen_and ws) owner ≡ true
      pick (inl e) = or_first (eqb 0 owner.0) (list_any (λ (h : Hwnd). eqb h.0 owner.0) (map number_of ws)) (eq-eqb 0 owner.0 (sym (ap (λ (u : Hwnd). u.0) e.0)))
      pick (inr c) =
          let s = step_of ws z last ordered children c.at c.up.0 owner c.step in
          or_last (eqb 0 owner.0) (list_any (λ (h : Hwnd). eqb h.0 owner.0) (map number_of ws)) (live_among ws owner.0 s.row s.live)

  -- what was right outside of the part and is right in it
  pub joined_owners : (part : Part) (old new es : List Owned) → AreJoined part.region old new (screen_and ws) es → AreOwnersIn ws z part new → AreOwnersOutside ws z part old → AreOwners ws z part.screen.width part.screen.height es
  joined_owners part old new es are inside outside w p = pick (is_one_of (screen_and ws) w) refl
    where
      on : Bool
      on = is_on_screen part.screen.width part.screen.height p

      owner : Hwnd
      owner = owner_in ws z part.screen.width part.screen.height p

      owns : Bool
      owns = eqb owner.0 w.0

      was : Bool
      was = region_has (region_in old w.0) p

      within : (a o e : Bool) → ((a && false) || ((o && true) && e)) ≡ (o && e)
      within true true e = refl
      within true false e = refl
      within false true e = refl
      within false false e = refl

      beyond : (o e : Bool) → (((o && e) && true) || ((o && false) && e)) ≡ (o && e)
      beyond true true = refl
      beyond true false = refl
      beyond false e = refl

      by : (b : Bool) → region_has part.region p ≡ b → joined_has part.region old new w.0 p ≡ (on && owns)
      by true h =
          ap (λ b. (was && not b) || region_has (region_in new w.0) p) h
          ∙ (ap (λ b. (was && false) || b) (inside w p ∙ ap (λ b. (on && b) && owns) h)
          ∙ within was on owns)
      by false h =
          ap (λ b. (was && not b) || region_has (region_in new w.0) p) h
          ∙ (ap (λ b. (b && true) || region_has (region_in new w.0) p) (outside w p h)
          ∙ (ap (λ b. ((on && owns) && true) || b) (inside w p ∙ ap (λ b. (on && b) && owns) h)
          ∙ beyond on owns))

      none : is_one_of (screen_and ws) w ≡ false → (a : Bool) → on ≡ a → (b : Bool) → owns ≡ b → false ≡ (a && b)
      none lost true h true e = absurd (true≢false (sym (owner_among part.screen.width part.screen.height p h) ∙ (ap (λ (u : Hwnd). is_one_of (screen_and ws) u) (same_window owner w (eqb-true owner.0 w.0 e)) ∙ lost)))
      none lost true h false e = refl
      none lost false h b e = refl

      pick : (b : Bool) → is_one_of (screen_and ws) w ≡ b → region_has (region_in es w.0) p ≡ (on && owns)
      pick true k = are.regions w p k ∙ by (region_has part.region p) refl
      pick false k = ap (λ e. region_has (region_or e) p) (no_entry (screen_and ws) es w are.among k) ∙ none k on refl owns refl
