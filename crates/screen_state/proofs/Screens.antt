-- The screen after an entry is that of the past with the entry, where the entry draws nothing.
use Rattle.std.proofs.Common.{◌≡◌, ◌∙◌, ℕ, Bool, true, false, not, cond, eqb, List, [], ◌∷◌, Option, Some, None, refl, sym, ap, arith}
use Rattle.std.specs.Prelude.{◌&&◌, ◌||◌, ℤ, pos, negsuc, is_some, unwrap_or}
use Rattle.std.specs.List.{list_all}
use Rattle.std.proofs.lemmas.Bool.{eqb-false, eq-eqb, ne_eqb, false≢true, false_from_ne_true}
use Rattle.win_num.specs.declared.message.Hwnd.{Hwnd}
use Rattle.win_num.specs.declared.shapes.Point.{Point}
use Rattle.win_num.specs.declared.shapes.Rect.{Rect}
use Rattle.win_num.specs.PixelSets.{Box, same_box, same_int}
use Rattle.win_rows.specs.Windows.{Windows}
use Rattle.win_order.specs.Layers.{Layers}
use Rattle.win_order.proofs.Booleans.{and_left}
use Rattle.band_region.specs.Regions.{region_has}
use Rattle.region_box.specs.Screens.{screen_points}
use Rattle.user_model.specs.declared.entry.Entry.{Entry}
use Rattle.user_model.specs.declared.entry.Setup.{Setup}
use Rattle.user_model.specs.Past.{Past, is_refused}
use Rattle.user_model.specs.Idle.{reply}
use Rattle.user_model.specs.Legal.{IsLawful}
use Rattle.user_model.specs.Windows.{Window, find_window, is_live, live}
use Rattle.user_model.specs.Pixels.{box_of}
use Rattle.user_model.specs.Colours.{is_in_clip, session}
use Rattle.user_model.specs.Dirty.{came_from, carries, cleans, copies_bits, exposes, exposes_some, is_dirty, moves, must_erase, owns}
use Rattle.user_model.specs.Painting.{is_painting}
use Rattle.user_model.proofs.ColourLaws.{session-next, session-refused}
use Rattle.user_model.proofs.DirtyLaws.{dirty-next, dirty-refused, flag-next, flag-refused, painting-next, painting-refused}
use Rattle.user_model.proofs.DirtyOwners.{dirty_owned}
use Rattle.user_model.proofs.WindowFacts.{live_within}
use Rattle.user_model.proofs.WindowLooks.{shape-same}
use Rattle.window_state.specs.Orders.{IsOrderAt}
use Rattle.window_state.specs.Trees.{IsTreeAt}
use Rattle.window_state.proofs.OrderSteps.{live_rest, order_rest}
use Rattle.screen_owners.specs.declared.owners.Owned.{Owned}
use Rattle.screen_owners.specs.Owners.{region_in}
use Rattle.dirty_windows.specs.declared.entries.DirtyWindow.{DirtyWindow}
use Rattle.dirty_windows.specs.Changes.{carries as told_carried, exposes as told_exposed}
use Rattle.dirty_windows.specs.LookUps.{area_in, erases_in, is_among}
use Rattle.paint_sessions.specs.declared.sessions.Session.{Session}
use Rattle.paint_sessions.specs.LookUps.{is_begun}
use Rattle.screen_state.specs.Carrying.{IsCarriedAt}
use Rattle.screen_state.specs.Owned.{AreOwnersAt}
use Rattle.screen_state.specs.Shown.{changes_owners, shows}
use Rattle.screen_state.specs.Screens.{Kept, FollowsCarried, FollowsScreen, IsScreenAt, draws, is_none_dirty, keeps_screen, lets_through}
use Rattle.screen_state.proofs.Carrying.{carried_for}
use Rattle.screen_state.proofs.Clips.{clip_by}
use Rattle.screen_state.proofs.Followed.{kept_follow, no_look, no_order, region_none}
use Rattle.screen_state.proofs.Owning.{dead_clean, owner_stands_there, region_owns}
use Rattle.user_model.proofs.OwnersKept.{box_same, owner_same}
use Rattle.screen_state.proofs.Somewhere.{none_passes, some_listed, some_passes}
use Rattle.screen_state.proofs.Undrawn.{is_drawing, no_clean, no_dirt, no_flag, no_paint, no_session, undrawn}
use Rattle.screen_state.proofs.Unset.{unset_fresh}

-- before any entry
pub none_yet : (setup : Setup) (os : List Owned) (ds : List DirtyWindow) (ss : List Session) → AreOwnersAt setup [] os → ds ≡ [] → ss ≡ [] → IsScreenAt setup [] (record { owners = os; dirty = ds; sessions = ss })
none_yet setup os ds ss own none_dirty none_begun = record {
  owners = own;
  dirty = λ w p. ap (λ (x : List DirtyWindow). region_has (area_in x w) p) none_dirty;
  erases = λ w lives. absurd (false≢true lives);
  gone = λ w dead. ap (λ (x : List DirtyWindow). erases_in x w) none_dirty;
  painting = λ w. ap (λ (x : List Session). is_begun x w) none_begun;
  clips = λ w p. ap (λ (x : List Session). lets_through x w p) none_begun;
}

or_true : (b : Bool) → (b || true) ≡ true
or_true true = refl
or_true false = refl

or_false : (b : Bool) → (b || false) ≡ b
or_false true = refl
or_false false = refl

exposed_pick : (zero now moved before is : Bool) → ((not zero && now) ≡ true → (not zero && before) ≡ true → moved ≡ is) → (not zero && (now && (moved || not before))) ≡ ((not zero && now) && (is || not (not zero && before)))
exposed_pick true now moved before is h = refl
exposed_pick false false moved before is h = refl
exposed_pick false true moved true is h = ap (λ b. b || false) (h refl refl)
exposed_pick false true moved false is h = or_true moved ∙ sym (or_true is)

-- of an owned pixel
dirty_pick : (own was exposed carried : Bool) → (((was && own) && not carried) || ((own && exposed) && not carried)) ≡ (own && (((own && exposed) && not carried) || (not carried && was)))
dirty_pick true true true true = refl
dirty_pick true true true false = refl
dirty_pick true true false true = refl
dirty_pick true true false false = refl
dirty_pick true false true true = refl
dirty_pick true false true false = refl
dirty_pick true false false true = refl
dirty_pick true false false false = refl
dirty_pick false true exposed carried = refl
dirty_pick false false exposed carried = refl

-- what is carried is told right where the pixel is owned
and_not : (a b c : Bool) → (a && (b && c)) ≡ ((a && b) && c)
and_not true b c = refl
and_not false b c = refl

uncarried_pick : (own x told is : Bool) → (own ≡ true → told ≡ is) → ((own && x) && not told) ≡ ((own && x) && not is)
uncarried_pick true x told is h = ap (λ b. x && not b) (h refl)
uncarried_pick false x told is h = refl

cut_pick : (own was told is : Bool) → (own ≡ true → told ≡ is) → ((was && own) && not told) ≡ ((was && own) && not is)
cut_pick true was told is h = ap (λ b. (was && true) && not b) (h refl)
cut_pick false true told is h = refl
cut_pick false false told is h = refl

module _ (setup : Setup) (past : Past) (e : Entry) (lawful : IsLawful setup (e ∷ past)) where
  -- ---- an entry that draws nothing and isn't refused

  undrawn_dirty : is_refused e ≡ false → is_drawing e.call ≡ false → (w : ℕ) (p : Point) → is_dirty setup (e ∷ past) w p ≡ (owns setup (e ∷ past) w p && (exposes setup e past w p || (not (carries setup e past w p) && is_dirty setup past w p)))
  undrawn_dirty fine quiet w p =
      dirty-next setup e past w p fine
      ∙ (ap (λ b. owns setup (e ∷ past) w p && ((exposes setup e past w p || b) || (not (carries setup e past w p || cleans e.call past w p) && is_dirty setup past w p))) (no_dirt e.call quiet setup past w p)
      ∙ (ap (λ b. owns setup (e ∷ past) w p && ((exposes setup e past w p || false) || (not (carries setup e past w p || b) && is_dirty setup past w p))) (no_clean e.call quiet past w p)
      ∙ (ap (λ b. owns setup (e ∷ past) w p && ((exposes setup e past w p || false) || (not b && is_dirty setup past w p))) (or_false (carries setup e past w p))
      ∙ ap (λ b. owns setup (e ∷ past) w p && (b || (not (carries setup e past w p) && is_dirty setup past w p))) (or_false (exposes setup e past w p)))))

  undrawn_flag : is_refused e ≡ false → is_drawing e.call ≡ false → (w : ℕ) → must_erase setup (e ∷ past) w ≡ (exposes_some setup e past w || must_erase setup past w)
  undrawn_flag fine quiet w =
      flag-next setup e past w fine
      ∙ (ap (λ o. unwrap_or (elim (exposes_some setup e past w) as (λ c. Option Bool) [ true ↦ Some true | false ↦ o ]) (must_erase setup past w)) (no_flag e.call quiet setup (e ∷ past) w)
      ∙ by (exposes_some setup e past w))
    where
      by : (b : Bool) → unwrap_or (elim b as (λ c. Option Bool) [ true ↦ Some true | false ↦ None ]) (must_erase setup past w) ≡ (b || must_erase setup past w)
      by true = refl
      by false = refl

  undrawn_painting : is_refused e ≡ false → is_drawing e.call ≡ false → (w : ℕ) → is_painting (e ∷ past) w ≡ is_painting past w
  undrawn_painting fine quiet w = painting-next e past w fine ∙ ap (λ o. unwrap_or o (is_painting past w)) (no_paint e.call quiet w)

  undrawn_clip : is_refused e ≡ false → is_drawing e.call ≡ false → (w : ℕ) (p : Point) → is_in_clip setup (e ∷ past) w p ≡ is_in_clip setup past w p
  undrawn_clip fine quiet w p = clip_by setup (e ∷ past) w p (session past w) (session-next e past w fine ∙ ap (λ o. unwrap_or o (session past w)) (no_session e.call quiet w past))

  -- ---- owners and dirty pixels that were computed again

  unlike_none : (w : ℕ) → is_live (e ∷ past) w ≡ true → eqb w 0 ≡ false
  unlike_none w lives = ne_eqb w 0 (λ (none : w ≡ 0). absurd (omega (arith, none, (live_within setup (e ∷ past) w lawful lives).0)))

  -- what is exposed for a window owns it
  exposed_owns : (w : ℕ) (p : Point) → exposes setup e past w p ≡ true → owns setup (e ∷ past) w p ≡ true
  exposed_owns w p x = and_left (owns setup (e ∷ past) w p) (moves e past w || not (owns setup past w p)) (and_left (owns setup (e ∷ past) w p && (moves e past w || not (owns setup past w p))) _ x)

  unexposed : (w : ℕ) (p : Point) → exposes_some setup e past w ≡ false → exposes setup e past w p ≡ false
  unexposed w p none = false_from_ne_true (exposes setup e past w p) (λ x. false≢true (sym none ∙ some_listed setup (exposes setup e past w) p (owner_stands_there setup (e ∷ past) lawful w p (exposed_owns w p x)).on x))

  module _ (old : Kept) (os : List Owned) (moved : List Hwnd) (carried : List Rect) (dx dy : ℤ) (was : IsScreenAt setup past old) (own : AreOwnersAt setup (e ∷ past) os) (shift : (w : ℕ) → is_live past w ≡ true → is_live (e ∷ past) w ≡ true → is_among w moved ≡ moves e past w) (copied : IsCarriedAt setup e past carried dx dy) where
    -- the pixels that are carried
    carried_agree : (w : ℕ) (p : Point) → owns setup (e ∷ past) w p ≡ true → told_carried moved carried w p ≡ carries setup e past w p
    carried_agree w p is = carried_for setup past e lawful old os moved was own shift carried dx dy copied w p is

    -- the pixels that a window has gained
    gained_agree : (w : ℕ) (p : Point) → (not (eqb w 0) && (region_has (region_in os w) p && (is_among w moved || not (region_has (region_in old.owners w) p)))) ≡ (owns setup (e ∷ past) w p && (moves e past w || not (owns setup past w p)))
    gained_agree w p =
        let now = region_owns setup (e ∷ past) lawful os own w p in
        let before = region_owns setup past lawful.0 old.owners was.owners w p in
        exposed_pick (eqb w 0) (region_has (region_in os w) p) (is_among w moved) (region_has (region_in old.owners w) p) (moves e past w)
        (λ n b. shift w (owner_stands_there setup past lawful.0 w p (sym before ∙ b)).lives (owner_stands_there setup (e ∷ past) lawful w p (sym now ∙ n)).lives)
        ∙ (ap (λ b. b && (moves e past w || not (not (eqb w 0) && region_has (region_in old.owners w) p))) now
        ∙ ap (λ b. owns setup (e ∷ past) w p && (moves e past w || not b)) before)

    -- the pixels that are exposed
    exposed_agree : (w : ℕ) (p : Point) → told_exposed old.owners os moved carried w p ≡ exposes setup e past w p
    exposed_agree w p =
        and_not (not (eqb w 0)) (region_has (region_in os w) p && (is_among w moved || not (region_has (region_in old.owners w) p))) (not (told_carried moved carried w p))
        ∙ (ap (λ b. b && not (told_carried moved carried w p)) (gained_agree w p)
        ∙ uncarried_pick (owns setup (e ∷ past) w p) (moves e past w || not (owns setup past w p)) (told_carried moved carried w p) (carries setup e past w p) (carried_agree w p))

    module _ (ds kept : List DirtyWindow) (left : List Hwnd)
        (area : (w : ℕ) (p : Point) → region_has (area_in ds w) p ≡ (((region_has (area_in old.dirty w) p && region_has (region_in os w) p) && not (told_carried moved carried w p)) || told_exposed old.owners os moved carried w p))
        (set : (w : ℕ) (p : Point) → told_exposed old.owners os moved carried w p ≡ true → erases_in ds w ≡ true)
        (same : (w : ℕ) → ((p : Point) → told_exposed old.owners os moved carried w p ≡ false) → erases_in ds w ≡ erases_in old.dirty w)
        (kept_area : (w : ℕ) → area_in kept w ≡ cond (is_among w left) (area_in ds w) [])
        (kept_erases : (w : ℕ) → erases_in kept w ≡ (is_among w left && erases_in ds w))
        (among : (w : ℕ) → is_among w left ≡ is_live (e ∷ past) w)
        (fine : is_refused e ≡ false) (quiet : is_drawing e.call ≡ false) where
      new_dirty : (w : ℕ) (p : Point) → region_has (area_in kept w) p ≡ is_dirty setup (e ∷ past) w p
      new_dirty w p = ap (λ (rs : List Rect). region_has rs p) (kept_area w) ∙ (ap (λ b. region_has (cond b (area_in ds w) []) p) (among w) ∙ by (is_live (e ∷ past) w) refl)
        where
          by : (b : Bool) → is_live (e ∷ past) w ≡ b → region_has (cond b (area_in ds w) []) p ≡ is_dirty setup (e ∷ past) w p
          by true lives =
              let now : region_has (region_in os w) p ≡ owns setup (e ∷ past) w p = ap (λ b. not b && region_has (region_in os w) p) (sym (unlike_none w lives)) ∙ region_owns setup (e ∷ past) lawful os own w p in
              area w p
              ∙ (ap (λ b. ((b && region_has (region_in os w) p) && not (told_carried moved carried w p)) || told_exposed old.owners os moved carried w p) (was.dirty w p)
              ∙ (ap (λ b. ((is_dirty setup past w p && b) && not (told_carried moved carried w p)) || told_exposed old.owners os moved carried w p) now
              ∙ (ap (λ b. b || told_exposed old.owners os moved carried w p) (cut_pick (owns setup (e ∷ past) w p) (is_dirty setup past w p) (told_carried moved carried w p) (carries setup e past w p) (carried_agree w p))
              ∙ (ap (λ b. ((is_dirty setup past w p && owns setup (e ∷ past) w p) && not (carries setup e past w p)) || b) (exposed_agree w p)
              ∙ (dirty_pick (owns setup (e ∷ past) w p) (is_dirty setup past w p) (moves e past w || not (owns setup past w p)) (carries setup e past w p)
              ∙ sym (undrawn_dirty fine quiet w p))))))
          by false dead = sym (dead_clean setup (e ∷ past) lawful w p dead)

      new_erases : (w : ℕ) → is_live (e ∷ past) w ≡ true → erases_in kept w ≡ must_erase setup (e ∷ past) w
      new_erases w lives = kept_erases w ∙ (ap (λ b. b && erases_in ds w) (among w ∙ lives) ∙ (by (exposes_some setup e past w) refl ∙ sym (undrawn_flag fine quiet w)))
        where
          before : (b : Bool) → is_live past w ≡ b → erases_in old.dirty w ≡ must_erase setup past w
          before true l = was.erases w l
          before false d = was.gone w d ∙ sym (unset_fresh setup past e w lawful d lives)

          by : (b : Bool) → exposes_some setup e past w ≡ b → erases_in ds w ≡ (b || must_erase setup past w)
          by true k = let q = some_passes (exposes setup e past w) (screen_points setup.width setup.height) k in set w q.0 (exposed_agree w q.0 ∙ q.1)
          by false k = same w (λ p. exposed_agree w p ∙ unexposed w p k) ∙ before (is_live past w) refl

      pub changed_follow : IsScreenAt setup (e ∷ past) (record { owners = os; dirty = kept; sessions = old.sessions })
      changed_follow = record {
        owners = own;
        dirty = new_dirty;
        erases = new_erases;
        gone = λ w dead. kept_erases w ∙ ap (λ b. b && erases_in ds w) (among w ∙ dead);
        painting = λ w. was.painting w ∙ sym (undrawn_painting fine quiet w);
        clips = λ w p. was.clips w p ∙ sym (undrawn_clip fine quiet w p);
      }

-- ---- an entry that exposes nothing

-- each window owns the pixels that it owned, and none is carried or exposed
pub record IsStill (setup : Setup) (past : Past) (e : Entry) : Type 0 where
  pub owned : (w : ℕ) (p : Point) → owns setup (e ∷ past) w p ≡ owns setup past w p
  pub left : (w : ℕ) (p : Point) → carries setup e past w p ≡ false
  pub hidden : (w : ℕ) (p : Point) → exposes setup e past w p ≡ false

same_int-self : (a : ℤ) → same_int a a ≡ true
same_int-self (pos m) = eq-eqb m m refl
same_int-self (negsuc m) = eq-eqb m m refl

pub same_box-self : (b : Box) → same_box b b ≡ true
same_box-self b =
    ap (λ c. c && same_int b.top b.top && same_int b.right b.right && same_int b.bottom b.bottom) (same_int-self b.left)
    ∙ (ap (λ c. c && same_int b.right b.right && same_int b.bottom b.bottom) (same_int-self b.top)
    ∙ (ap (λ c. c && same_int b.bottom b.bottom) (same_int-self b.right) ∙ same_int-self b.bottom))

unexposed_pick : (own carried : Bool) → ((own && (false || not own)) && carried) ≡ false
unexposed_pick true carried = refl
unexposed_pick false carried = refl

uncopied_pick : (copies rest : Bool) → ((copies && false) && rest) ≡ false
uncopied_pick true rest = refl
uncopied_pick false rest = refl

unowned_pick : (copied rest : Bool) → (copied && (false && rest)) ≡ false
unowned_pick true rest = refl
unowned_pick false rest = refl

-- so where the entry changes no owner
pub still : (setup : Setup) (past : Past) (e : Entry) (z : Layers) → IsOrderAt past z → e.answer ≡ reply setup past e.who.0 e.call → changes_owners e.call e.answer ≡ false → IsStill setup past e
still setup past e z order right h = record { owned = owned; left = left; hidden = hidden }
  where
    lives : live (e ∷ past) ≡ live past
    lives = live_rest setup past e right (no_order e.call e.answer h)

    owned : (w : ℕ) (p : Point) → owns setup (e ∷ past) w p ≡ owns setup past w p
    owned w p = ap (λ (v : Hwnd). not (eqb w 0) && eqb v.0 w) (owner_same past e lives (λ v. shape-same e past v (no_look e.call e.answer h)) (λ q. sym ((order_rest setup past e z order right (no_order e.call e.answer h)).lists q) ∙ order.lists q) setup p)

    unmoved : (w : ℕ) → moves e past w ≡ false
    unmoved w =
        ap (λ b. not (same_box b (box_of past w))) (box_same past e lives (λ v. shape-same e past v (no_look e.call e.answer h)) (λ q. sym ((order_rest setup past e z order right (no_order e.call e.answer h)).lists q) ∙ order.lists q) w)
        ∙ ap not (same_box-self (box_of past w))

    left : (w : ℕ) (p : Point) → carries setup e past w p ≡ false
    left w p =
        let q = came_from e past w p in
        ap (λ b. (copies_bits e.call && b) && (owns setup (e ∷ past) w p && (owns setup past w q && not (is_dirty setup past w q)))) (unmoved w)
        ∙ uncopied_pick (copies_bits e.call) (owns setup (e ∷ past) w p && (owns setup past w q && not (is_dirty setup past w q)))

    hidden : (w : ℕ) (p : Point) → exposes setup e past w p ≡ false
    hidden w p =
        ap (λ b. (b && (moves e past w || not (owns setup past w p))) && not (carries setup e past w p)) (owned w p)
        ∙ (ap (λ b. (owns setup past w p && (b || not (owns setup past w p))) && not (carries setup e past w p)) (unmoved w) ∙ unexposed_pick (owns setup past w p) (not (carries setup e past w p)))

-- a window owns nothing where the screen alone has a region
owns_none : (setup : Setup) (past : Past) (os : List Owned) → IsLawful setup past → AreOwnersAt setup past os → list_all (λ (o : Owned). eqb o.window.0 0) os ≡ true → (w : ℕ) (p : Point) → owns setup past w p ≡ false
owns_none setup past os lawful own all w p = sym (region_owns setup past lawful os own w p) ∙ by (eqb w 0) refl
  where
    by : (b : Bool) → eqb w 0 ≡ b → (not b && region_has (region_in os w) p) ≡ false
    by true k = refl
    by false k = ap (λ (rs : List Rect). region_has rs p) (region_none os w all (eqb-false w 0 k))

-- and where no window owns a pixel before the entry and after it
still_none : (setup : Setup) (past : Past) (e : Entry) (os : List Owned) → IsLawful setup (e ∷ past) → AreOwnersAt setup past os → AreOwnersAt setup (e ∷ past) os → list_all (λ (o : Owned). eqb o.window.0 0) os ≡ true → IsStill setup past e
still_none setup past e os lawful was own all = record {
  owned = λ w p. owns_none setup (e ∷ past) os lawful own all w p ∙ sym (owns_none setup past os lawful.0 was all w p);
  left = λ w p. let q = came_from e past w p in ap (λ b. (copies_bits e.call && moves e past w) && (b && (owns setup past w q && not (is_dirty setup past w q)))) (owns_none setup (e ∷ past) os lawful own all w p) ∙ unowned_pick (copies_bits e.call && moves e past w) (owns setup past w q && not (is_dirty setup past w q));
  hidden = λ w p. ap (λ b. (b && (moves e past w || not (owns setup past w p))) && not (carries setup e past w p)) (owns_none setup (e ∷ past) os lawful own all w p);
}

-- what is dirty is owned
same_pick : (own was : Bool) → (was ≡ true → own ≡ true) → (own && (false || (not false && was))) ≡ was
same_pick own true h = ap (λ b. b && true) (h refl)
same_pick true false h = refl
same_pick false false h = refl

module _ (setup : Setup) (past : Past) (e : Entry) (lawful : IsLawful setup (e ∷ past)) (rests : IsStill setup past e) where
  pub none_exposed : (w : ℕ) → exposes_some setup e past w ≡ false
  none_exposed w = none_passes (exposes setup e past w) (screen_points setup.width setup.height) (rests.hidden w)

  module _ (idle : is_refused e ≡ false → is_drawing e.call ≡ false) where
    same_dirty : (w : ℕ) (p : Point) → is_dirty setup (e ∷ past) w p ≡ is_dirty setup past w p
    same_dirty w p = by (is_refused e) refl
      where
        by : (b : Bool) → is_refused e ≡ b → is_dirty setup (e ∷ past) w p ≡ is_dirty setup past w p
        by true h = dirty-refused setup e past w p h
        by false h =
            undrawn_dirty setup past e lawful h (idle h) w p
            ∙ (ap (λ b. b && (exposes setup e past w p || (not (carries setup e past w p) && is_dirty setup past w p))) (rests.owned w p)
            ∙ (ap (λ b. owns setup past w p && (b || (not (carries setup e past w p) && is_dirty setup past w p))) (rests.hidden w p)
            ∙ (ap (λ b. owns setup past w p && (false || (not b && is_dirty setup past w p))) (rests.left w p)
            ∙ same_pick (owns setup past w p) (is_dirty setup past w p) (dirty_owned setup past w p))))

    same_flag : (w : ℕ) → must_erase setup (e ∷ past) w ≡ must_erase setup past w
    same_flag w = by (is_refused e) refl
      where
        by : (b : Bool) → is_refused e ≡ b → must_erase setup (e ∷ past) w ≡ must_erase setup past w
        by true h = flag-refused setup e past w h
        by false h = undrawn_flag setup past e lawful h (idle h) w ∙ ap (λ b. b || must_erase setup past w) (none_exposed w)

    same_painting : (w : ℕ) → is_painting (e ∷ past) w ≡ is_painting past w
    same_painting w = by (is_refused e) refl
      where
        by : (b : Bool) → is_refused e ≡ b → is_painting (e ∷ past) w ≡ is_painting past w
        by true h = painting-refused e past w h
        by false h = undrawn_painting setup past e lawful h (idle h) w

    same_clip : (w : ℕ) (p : Point) → is_in_clip setup (e ∷ past) w p ≡ is_in_clip setup past w p
    same_clip w p = by (is_refused e) refl
      where
        by : (b : Bool) → is_refused e ≡ b → is_in_clip setup (e ∷ past) w p ≡ is_in_clip setup past w p
        by true h = clip_by setup (e ∷ past) w p (session past w) (session-refused e past w h)
        by false h = undrawn_clip setup past e lawful h (idle h) w p

    -- so the screen stays, where the flags of the windows that are live do
    pub stays : (s : Kept) → IsScreenAt setup past s → AreOwnersAt setup (e ∷ past) s.owners
        → ((w : ℕ) → is_live (e ∷ past) w ≡ true → erases_in s.dirty w ≡ must_erase setup past w)
        → ((w : ℕ) → is_live (e ∷ past) w ≡ false → erases_in s.dirty w ≡ false)
        → IsScreenAt setup (e ∷ past) s
    stays s was own flags gone = record {
      owners = own;
      dirty = λ w p. was.dirty w p ∙ sym (same_dirty w p);
      erases = λ w lives. flags w lives ∙ sym (same_flag w);
      gone = gone;
      painting = λ w. was.painting w ∙ sym (same_painting w);
      clips = λ w p. was.clips w p ∙ sym (same_clip w p);
    }

-- ---- an entry that surely leaves the screen

fewer_tests : (changes shown owned dirty : Bool) → (not changes || (not shown && (owned && dirty))) ≡ true → (not changes || (not shown && owned)) ≡ true
fewer_tests false shown owned dirty h = refl
fewer_tests true true owned dirty h = absurd (false≢true h)
fewer_tests true false true dirty h = refl
fewer_tests true false false dirty h = absurd (false≢true h)

none_of : (changes shown owned dirty : Bool) → changes ≡ true → (not changes || (not shown && (owned && dirty))) ≡ true → (owned ≡ true) × (dirty ≡ true)
none_of false shown owned dirty c h = absurd (false≢true c)
none_of true true owned dirty c h = absurd (false≢true h)
none_of true false true true c h = (refl, refl)
none_of true false true false c h = absurd (false≢true h)
none_of true false false dirty c h = absurd (false≢true h)

none_set : (ds : List DirtyWindow) (w : ℕ) → is_none_dirty ds ≡ true → erases_in ds w ≡ false
none_set [] w h = refl
none_set (d ∷ ds) w h = absurd (false≢true h)

-- whether the entry surely leaves the screen, it rests
rests_at : (setup : Setup) (t : Windows) (z : Layers) (e : Entry) (s : Kept) → keeps_screen e.call e.answer s ≡ true → (past : Past) → IsLawful setup past → IsTreeAt past t → IsOrderAt past z → e.answer ≡ reply setup past e.who.0 e.call → IsScreenAt setup past s → IsStill setup past e
rests_at setup t z e s keeps past lawful tree order right was = by (changes_owners e.call e.answer) refl
  where
    all_own : Bool
    all_own = list_all (λ (o : Owned). eqb o.window.0 0) s.owners

    own : AreOwnersAt setup (e ∷ past) s.owners
    own = kept_follow setup t z e s.owners (fewer_tests (changes_owners e.call e.answer) (shows e.call e.answer) all_own (is_none_dirty s.dirty) keeps) past lawful tree order right was.owners

    by : (b : Bool) → changes_owners e.call e.answer ≡ b → IsStill setup past e
    by false h = still setup past e z order right h
    by true h = still_none setup past e s.owners (lawful, right) was.owners own (none_of (changes_owners e.call e.answer) (shows e.call e.answer) all_own (is_none_dirty s.dirty) h keeps).0

-- so it carries nothing
pub stays_carried : (setup : Setup) (t : Windows) (z : Layers) (e : Entry) (s : Kept) → keeps_screen e.call e.answer s ≡ true → FollowsCarried setup t z e s None
stays_carried setup t z e s keeps past lawful tree order right was = (rests_at setup t z e s keeps past lawful tree order right was).left

pub stays_follow : (setup : Setup) (t : Windows) (z : Layers) (e : Entry) (s : Kept) → keeps_screen e.call e.answer s ≡ true → draws e.call e.answer ≡ false → FollowsScreen setup t z e s s
stays_follow setup t z e s keeps quiet past lawful tree order right was = by (changes_owners e.call e.answer) refl
  where
    all_own : Bool
    all_own = list_all (λ (o : Owned). eqb o.window.0 0) s.owners

    idle : is_refused e ≡ false → is_drawing e.call ≡ false
    idle fine = undrawn setup past e.who.0 e.call e.answer (sym right) fine quiet

    own : AreOwnersAt setup (e ∷ past) s.owners
    own = kept_follow setup t z e s.owners (fewer_tests (changes_owners e.call e.answer) (shows e.call e.answer) all_own (is_none_dirty s.dirty) keeps) past lawful tree order right was.owners

    by : (b : Bool) → changes_owners e.call e.answer ≡ b → IsScreenAt setup (e ∷ past) s
    by false h =
        let same : (w : ℕ) → is_live (e ∷ past) w ≡ is_live past w = λ w. ap (λ (ws : List Window). is_some (find_window ws w)) (live_rest setup past e right (no_order e.call e.answer h)) in
        stays setup past e (lawful, right) (still setup past e z order right h) idle s was own
        (λ w lives. was.erases w (sym (same w) ∙ lives))
        (λ w dead. was.gone w (sym (same w) ∙ dead))
    by true h =
        let none = none_of (changes_owners e.call e.answer) (shows e.call e.answer) all_own (is_none_dirty s.dirty) h keeps in
        stays setup past e (lawful, right) (still_none setup past e s.owners (lawful, right) was.owners own none.0) idle s was own
        (λ w lives. flags w none.1 lives (is_live past w) refl)
        (λ w dead. none_set s.dirty w none.1)
      where
        flags : (w : ℕ) → is_none_dirty s.dirty ≡ true → is_live (e ∷ past) w ≡ true → (c : Bool) → is_live past w ≡ c → erases_in s.dirty w ≡ must_erase setup past w
        flags w no_flag lives true l = was.erases w l
        flags w no_flag lives false d = none_set s.dirty w no_flag ∙ sym (unset_fresh setup past e w (lawful, right) d lives)
