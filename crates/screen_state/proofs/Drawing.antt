-- The screen after an entry that draws is that of the past with the entry.
use Rattle.std.proofs.Common.{◌≡◌, ◌≢◌, ◌<◌, ◌∙◌, ℕ, Result, Ok, Err, w64, Bool, true, false, not, eqb, List, ◌∷◌, Option, Some, refl, sym, ap, subst, arith}
use mir.Val.{of_z, to_z}
use Rattle.std.specs.Prelude.{◌&&◌, ◌||◌, ℤ, OnOk, is_some, unwrap_or}
use Rattle.std.specs.List.{list_all}
use Rattle.std.proofs.lemmas.Bool.{eqb-false, eqb-true, ne_eqb, false≢true, false_from_ne_true, or_right}
use Rattle.win_num.specs.declared.shapes.Point.{Point}
use Rattle.win_num.specs.declared.shapes.Rect.{Rect}
use Rattle.win_num.specs.PixelSets.{has_pixel}
use Rattle.win_rows.specs.Windows.{Windows}
use Rattle.win_rows.specs.Windows as kept
use Rattle.band_region.specs.Regions.{IsEmpty, region_has}
use Rattle.region_box.specs.Screens.{screen_points}
use Rattle.update_region.specs.Updates.{Dirty}
use Rattle.user_model.specs.declared.call.Call.{Call}
use Rattle.user_model.specs.declared.call.Call.TheVariants as calls
use Rattle.user_model.specs.declared.entry.Answer.{Answer}
use Rattle.user_model.specs.declared.entry.Answer.TheVariants as answers
use Rattle.user_model.specs.declared.entry.Entry.{Entry}
use Rattle.user_model.specs.declared.entry.Setup.{Setup}
use Rattle.user_model.specs.Past.{Past, is_refusal, is_refused}
use Rattle.user_model.specs.Idle.{reply}
use Rattle.user_model.specs.Legal.{IsLawful}
use Rattle.user_model.specs.Windows.{Window, find_window, is_live}
use Rattle.user_model.specs.Pixels.{screen}
use Rattle.user_model.specs.Colours.{is_in_clip, session, session_told}
use Rattle.user_model.specs.Dirty.{carries, cleans, exposes, flag_told, has_dirty, invalidates, is_dirty, is_in_client, must_erase, owns, set_where}
use Rattle.user_model.specs.Refusals.{is_no_rect}
use Rattle.user_model.specs.Painting.{is_painting, painting_told}
use Rattle.user_model.proofs.ColourLaws.{session-next}
use Rattle.user_model.proofs.DirtyLaws.{dirty-next, flag-next, painting-next}
use Rattle.user_model.proofs.DirtyOwners.{dirty_owned}
use Rattle.user_model.proofs.WindowFacts.{live_within}
use Rattle.window_state.specs.Trees.{IsTreeAt}
use Rattle.window_state.proofs.LookSteps.{edges_passed}
use Rattle.window_state.proofs.TreeFacts.{is_live_at}
use Rattle.window_state.proofs.OrderSteps.{live_rest, order_of}
use Rattle.screen_owners.specs.declared.owners.Owned.{Owned}
use Rattle.screen_owners.specs.Owners.{region_in}
use Rattle.dirty_windows.specs.declared.entries.DirtyWindow.{DirtyWindow}
use Rattle.dirty_windows.specs.LookUps.{area_in, erases_in}
use Rattle.paint_sessions.specs.declared.sessions.Session.{Session}
use Rattle.paint_sessions.specs.LookUps.{clip_in, is_begun}
use Rattle.screen_state.specs.Owned.{AreOwnersAt}
use Rattle.screen_state.specs.Parts.{IsClientPart, IsLiveAt}
use Rattle.screen_state.specs.Shown.{changes_owners, shows}
use Rattle.screen_state.specs.Screens.{DrawsScreen, IsDrawn, IsEnded, IsInvalidated, IsScreenAt, IsTaken, IsValidated, Kept, draws, lets_through}
use Rattle.screen_state.specs.Walks.{IsSeen}
use Rattle.screen_state.proofs.Clips.{begun_clip, clip_by, ended_clip, in_session}
use Rattle.screen_state.proofs.Followed.{kept_follow, no_order}
use Rattle.screen_state.proofs.Owning.{owner_stands_there, region_owns}
use Rattle.screen_state.proofs.Screens.{IsStill, none_exposed, stays, still}
use Rattle.screen_state.proofs.Somewhere.{some_listed, some_passes}
use Rattle.screen_state.proofs.Undrawn.{IsPart, begin_told, end_told, invalidate_told, is_drawing, validate_told}

-- ---- what is seen of a screen

pub seen_at : (setup : Setup) (past : Past) (t : Windows) (os : List Owned) (ds : List DirtyWindow) (ss : List Session) (s : Kept) → record { owners = os; dirty = ds; sessions = ss } ≡ s → IsTreeAt past t → IsScreenAt setup past s → IsSeen setup past t ds
seen_at setup past t os ds ss s view tree at = record { tree = tree; dirty = (subst (IsScreenAt setup past) (sym view) at).dirty }

-- ---- an entry that is no refusal, and changes no owner

module _ (setup : Setup) (past : Past) (t : Windows) (e : Entry) (lawful : IsLawful setup past) (tree : IsTreeAt past t) (right : e.answer ≡ reply setup past e.who.0 e.call) (fine : is_refused e ≡ false) (leaves : changes_owners e.call e.answer ≡ false) where
  rests : IsStill setup past e
  rests = let order = order_of setup past lawful in still setup past e order.0 order.1 right leaves

  pub same_live : (w : ℕ) → is_live (e ∷ past) w ≡ is_live past w
  same_live w = ap (λ (ws : List Window). is_some (find_window ws w)) (live_rest setup past e right (no_order e.call e.answer leaves))

  pub same_owners : (os : List Owned) → AreOwnersAt setup past os → AreOwnersAt setup (e ∷ past) os
  same_owners os own =
      let order = order_of setup past lawful in
      kept_follow setup t order.0 e os (ap (λ b. not b || (not (shows e.call e.answer) && list_all (λ (o : Owned). eqb o.window.0 0) os)) leaves) past lawful tree order.1 right own

  pub drawn_dirty : (w : ℕ) (p : Point) → is_dirty setup (e ∷ past) w p ≡ (owns setup past w p && (invalidates setup e.call past w p || (not (cleans e.call past w p) && is_dirty setup past w p)))
  drawn_dirty w p =
      dirty-next setup e past w p fine
      ∙ (ap (λ b. b && ((exposes setup e past w p || invalidates setup e.call past w p) || (not (carries setup e past w p || cleans e.call past w p) && is_dirty setup past w p))) (rests.owned w p)
      ∙ (ap (λ b. owns setup past w p && ((b || invalidates setup e.call past w p) || (not (carries setup e past w p || cleans e.call past w p) && is_dirty setup past w p))) (rests.hidden w p)
      ∙ ap (λ b. owns setup past w p && ((false || invalidates setup e.call past w p) || (not (b || cleans e.call past w p) && is_dirty setup past w p))) (rests.left w p)))

  pub drawn_flag : (w : ℕ) → must_erase setup (e ∷ past) w ≡ unwrap_or (flag_told setup e.call (e ∷ past) w) (must_erase setup past w)
  drawn_flag w = flag-next setup e past w fine ∙ ap (λ b. unwrap_or (elim b as (λ c. Option Bool) [ true ↦ Some true | false ↦ flag_told setup e.call (e ∷ past) w ]) (must_erase setup past w)) (none_exposed setup past e (lawful, right) rests w)

  pub drawn_painting : (w : ℕ) → is_painting (e ∷ past) w ≡ unwrap_or (painting_told e.call w) (is_painting past w)
  drawn_painting w = painting-next e past w fine

  pub drawn_clip : (w : ℕ) (p : Point) → is_in_clip setup (e ∷ past) w p ≡ in_session setup w p (unwrap_or (session_told w e.call past) (session past w))
  drawn_clip w p = clip_by setup (e ∷ past) w p (unwrap_or (session_told w e.call past) (session past w)) (session-next e past w fine)

-- a live window's region has the pixels that it owns
pub live_region : (setup : Setup) (past : Past) (os : List Owned) → IsLawful setup past → AreOwnersAt setup past os → (w : ℕ) (p : Point) → is_live past w ≡ true → region_has (region_in os w) p ≡ owns setup past w p
live_region setup past os lawful own w p lives =
    let some : eqb w 0 ≡ false = ne_eqb w 0 (λ (none : w ≡ 0). absurd (omega (arith, none, (live_within setup past w lawful lives).0))) in
    ap (λ b. not b && region_has (region_in os w) p) (sym some) ∙ region_owns setup past lawful os own w p

under : (k a b : Bool) → (k ≡ true → a ≡ b) → (k && a) ≡ (k && b)
under true a b h = h refl
under false a b h = refl

okay_fine : (a : Answer) → a ≡ answers.Okay → is_refusal a ≡ false
okay_fine a is = ap is_refusal is

-- ---- invalidate

invalid_pick : (own was k x : Bool) → (was ≡ true → own ≡ true) → (was || (k && (x && own))) ≡ (own && ((k && (x && own)) || was))
invalid_pick true true true true h = refl
invalid_pick true true true false h = refl
invalid_pick true true false x h = refl
invalid_pick true false true true h = refl
invalid_pick true false true false h = refl
invalid_pick true false false x h = refl
invalid_pick false true k x h = absurd (false≢true (h refl))
invalid_pick false false true true h = refl
invalid_pick false false true false h = refl
invalid_pick false false false x h = refl

erase_pick : (was k erase : Bool) → (was || (k && erase)) ≡ unwrap_or (set_where (k && erase) true) was
erase_pick true true true = refl
erase_pick true true false = refl
erase_pick true false erase = refl
erase_pick false true true = refl
erase_pick false true false = refl
erase_pick false false erase = refl

pub invalidate_draws : (t : Windows) (e : Entry) (w : ℕ) (l top r b : ℤ) (erase : ℕ) (part : List Rect) (old : Kept) (ds : List DirtyWindow)
    → e.call ≡ calls.Invalidate w l top r b erase → e.answer ≡ answers.Okay → IsClientPart t w l top r b part
    → ((v : ℕ) (p : Point) → region_has (area_in ds v) p ≡ (region_has (area_in old.dirty v) p || (eqb w v && (region_has part p && region_has (region_in old.owners v) p))))
    → ((v : ℕ) → erases_in ds v ≡ (erases_in old.dirty v || (eqb w v && eqb erase 1)))
    → DrawsScreen t e old (record { owners = old.owners; dirty = ds; sessions = old.sessions })
invalidate_draws t e w l top r b erase part old ds is_call is_okay client area flags setup past lawful tree right was =
    record { owners = same_owners setup past t e lawful tree right fine leaves old.owners was.owners; dirty = dirty; erases = erases; gone = gone; painting = painting; clips = clips }
  where
    fine : is_refused e ≡ false
    fine = okay_fine e.answer is_okay

    leaves : changes_owners e.call e.answer ≡ false
    leaves = ap (λ c. changes_owners c e.answer) is_call ∙ ap (changes_owners (calls.Invalidate w l top r b erase)) is_okay

    told : IsPart past w l top r b e.answer
    told = invalidate_told setup past e.who.0 w l top r b erase e.answer (ap (reply setup past e.who.0) (sym is_call) ∙ sym right) fine

    same_window : (v : ℕ) → eqb w v ≡ true → is_live past v ≡ true
    same_window v k = ap (is_live past) (sym (eqb-true w v k)) ∙ told.lives

    same_part : (v : ℕ) (p : Point) → eqb w v ≡ true → region_has part p ≡ is_in_client past v l top r b p
    same_part v p k = client setup past lawful tree told.lives p ∙ ap (λ u. is_in_client past u l top r b p) (eqb-true w v k)

    dirty : (v : ℕ) (p : Point) → region_has (area_in ds v) p ≡ is_dirty setup (e ∷ past) v p
    dirty v p =
        area v p
        ∙ (ap (λ c. c || (eqb w v && (region_has part p && region_has (region_in old.owners v) p))) (was.dirty v p)
        ∙ (ap (λ c. is_dirty setup past v p || c) (under (eqb w v) (region_has part p && region_has (region_in old.owners v) p) (region_has part p && owns setup past v p) (λ k. ap (λ c. region_has part p && c) (live_region setup past old.owners lawful was.owners v p (same_window v k))))
        ∙ (invalid_pick (owns setup past v p) (is_dirty setup past v p) (eqb w v) (region_has part p) (dirty_owned setup past v p)
        ∙ (ap (λ c. owns setup past v p && (c || is_dirty setup past v p)) (under (eqb w v) (region_has part p && owns setup past v p) (is_in_client past v l top r b p && owns setup past v p) (λ k. ap (λ c. c && owns setup past v p) (same_part v p k)))
        ∙ sym (drawn_dirty setup past t e lawful tree right fine leaves v p
        ∙ ap (λ (c : Call). owns setup past v p && (invalidates setup c past v p || (not (cleans c past v p) && is_dirty setup past v p))) is_call)))))

    erases : (v : ℕ) → is_live (e ∷ past) v ≡ true → erases_in ds v ≡ must_erase setup (e ∷ past) v
    erases v lives =
        flags v
        ∙ (ap (λ c. c || (eqb w v && eqb erase 1)) (was.erases v (sym (same_live setup past t e lawful tree right fine leaves v) ∙ lives))
        ∙ (erase_pick (must_erase setup past v) (eqb w v) (eqb erase 1)
        ∙ sym (drawn_flag setup past t e lawful tree right fine leaves v ∙ ap (λ (c : Call). unwrap_or (flag_told setup c (e ∷ past) v) (must_erase setup past v)) is_call)))

    gone : (v : ℕ) → is_live (e ∷ past) v ≡ false → erases_in ds v ≡ false
    gone v dead =
        let before : is_live past v ≡ false = sym (same_live setup past t e lawful tree right fine leaves v) ∙ dead in
        let other : eqb w v ≡ false = false_from_ne_true (eqb w v) (λ k. false≢true (sym before ∙ same_window v k)) in
        flags v ∙ (ap (λ c. c || (eqb w v && eqb erase 1)) (was.gone v before) ∙ ap (λ c. c && eqb erase 1) other)

    painting : (v : ℕ) → is_begun old.sessions v ≡ is_painting (e ∷ past) v
    painting v = was.painting v ∙ sym (drawn_painting setup past t e lawful tree right fine leaves v ∙ ap (λ (c : Call). unwrap_or (painting_told c v) (is_painting past v)) is_call)

    clips : (v : ℕ) (p : Point) → lets_through old.sessions v p ≡ is_in_clip setup (e ∷ past) v p
    clips v p = was.clips v p ∙ sym (drawn_clip setup past t e lawful tree right fine leaves v p ∙ ap (λ (c : Call). in_session setup v p (unwrap_or (session_told v c past) (session past v))) is_call)

-- ---- validate

valid_pick : (own was k : Bool) → (was ≡ true → own ≡ true) → (was && not k) ≡ (own && (false || (not k && was)))
valid_pick true true true h = refl
valid_pick true true false h = refl
valid_pick true false true h = refl
valid_pick true false false h = refl
valid_pick false true k h = absurd (false≢true (h refl))
valid_pick false false k h = refl

pub validate_draws : (t : Windows) (e : Entry) (w : ℕ) (l top r b : ℤ) (part : List Rect) (old : Kept) (ds : List DirtyWindow)
    → e.call ≡ calls.Validate w l top r b → e.answer ≡ answers.Okay → IsClientPart t w l top r b part
    → ((v : ℕ) (p : Point) → region_has (area_in ds v) p ≡ (region_has (area_in old.dirty v) p && not (eqb w v && region_has part p)))
    → (IsEmpty (area_in ds w) → erases_in ds w ≡ false)
    → ((IsEmpty (area_in ds w) → ⊥) → erases_in ds w ≡ erases_in old.dirty w)
    → ((v : ℕ) → v ≢ w → erases_in ds v ≡ erases_in old.dirty v)
    → DrawsScreen t e old (record { owners = old.owners; dirty = ds; sessions = old.sessions })
validate_draws t e w l top r b part old ds is_call is_okay client area cleared kept others setup past lawful tree right was =
    record { owners = same_owners setup past t e lawful tree right fine leaves old.owners was.owners; dirty = dirty; erases = erases; gone = gone; painting = painting; clips = clips }
  where
    fine : is_refused e ≡ false
    fine = okay_fine e.answer is_okay

    leaves : changes_owners e.call e.answer ≡ false
    leaves = ap (λ c. changes_owners c e.answer) is_call ∙ ap (changes_owners (calls.Validate w l top r b)) is_okay

    told : IsPart past w l top r b e.answer
    told = validate_told setup past e.who.0 w l top r b e.answer (ap (reply setup past e.who.0) (sym is_call) ∙ sym right) fine

    same_part : (v : ℕ) (p : Point) → eqb w v ≡ true → region_has part p ≡ is_in_client past v l top r b p
    same_part v p k = client setup past lawful tree told.lives p ∙ ap (λ u. is_in_client past u l top r b p) (eqb-true w v k)

    dirty : (v : ℕ) (p : Point) → region_has (area_in ds v) p ≡ is_dirty setup (e ∷ past) v p
    dirty v p =
        area v p
        ∙ (ap (λ c. c && not (eqb w v && region_has part p)) (was.dirty v p)
        ∙ (ap (λ c. is_dirty setup past v p && not c) (under (eqb w v) (region_has part p) (is_in_client past v l top r b p) (same_part v p))
        ∙ (valid_pick (owns setup past v p) (is_dirty setup past v p) (eqb w v && is_in_client past v l top r b p) (dirty_owned setup past v p)
        ∙ sym (drawn_dirty setup past t e lawful tree right fine leaves v p
        ∙ ap (λ (c : Call). owns setup past v p && (invalidates setup c past v p || (not (cleans c past v p) && is_dirty setup past v p))) is_call))))

    flag : (v : ℕ) → must_erase setup (e ∷ past) v ≡ unwrap_or (set_where (eqb w v && not (has_dirty setup (e ∷ past) v)) false) (must_erase setup past v)
    flag v = drawn_flag setup past t e lawful tree right fine leaves v ∙ ap (λ (c : Call). unwrap_or (flag_told setup c (e ∷ past) v) (must_erase setup past v)) is_call

    -- of the window itself
    own_flag : (c : Bool) → has_dirty setup (e ∷ past) w ≡ c → erases_in ds w ≡ unwrap_or (set_where (not c) false) (must_erase setup past w)
    own_flag true k =
        let q = some_passes (is_dirty setup (e ∷ past) w) (screen_points setup.width setup.height) k in
        kept (λ empty. false≢true (sym (empty q.0) ∙ (dirty w q.0 ∙ q.1))) ∙ was.erases w told.lives
    own_flag false k = cleared (λ p. dirty w p ∙ false_from_ne_true (is_dirty setup (e ∷ past) w p) (λ d. false≢true (sym k ∙ some_listed setup (is_dirty setup (e ∷ past) w) p (on p d) d)))
      where
        on : (p : Point) → is_dirty setup (e ∷ past) w p ≡ true → has_pixel (screen setup) p ≡ true
        on p d = (owner_stands_there setup (e ∷ past) (lawful, right) w p (dirty_owned setup (e ∷ past) w p d)).on

    erases : (v : ℕ) → is_live (e ∷ past) v ≡ true → erases_in ds v ≡ must_erase setup (e ∷ past) v
    erases v lives = by (eqb w v) refl ∙ sym (flag v)
      where
        by : (c : Bool) → eqb w v ≡ c → erases_in ds v ≡ unwrap_or (set_where (c && not (has_dirty setup (e ∷ past) v)) false) (must_erase setup past v)
        by true k = subst (λ u. erases_in ds u ≡ unwrap_or (set_where (not (has_dirty setup (e ∷ past) u)) false) (must_erase setup past u)) (eqb-true w v k) (own_flag (has_dirty setup (e ∷ past) w) refl)
        by false k = others v (λ (same : v ≡ w). eqb-false w v k (sym same)) ∙ was.erases v (sym (same_live setup past t e lawful tree right fine leaves v) ∙ lives)

    gone : (v : ℕ) → is_live (e ∷ past) v ≡ false → erases_in ds v ≡ false
    gone v dead =
        let before : is_live past v ≡ false = sym (same_live setup past t e lawful tree right fine leaves v) ∙ dead in
        others v (λ (same : v ≡ w). false≢true (sym before ∙ (ap (is_live past) same ∙ told.lives))) ∙ was.gone v before

    painting : (v : ℕ) → is_begun old.sessions v ≡ is_painting (e ∷ past) v
    painting v = was.painting v ∙ sym (drawn_painting setup past t e lawful tree right fine leaves v ∙ ap (λ (c : Call). unwrap_or (painting_told c v) (is_painting past v)) is_call)

    clips : (v : ℕ) (p : Point) → lets_through old.sessions v p ≡ is_in_clip setup (e ∷ past) v p
    clips v p = was.clips v p ∙ sym (drawn_clip setup past t e lawful tree right fine leaves v p ∙ ap (λ (c : Call). in_session setup v p (unwrap_or (session_told v c past) (session past v))) is_call)

-- ---- painting begins

begin_pick : (own was : Bool) → (was ≡ true → own ≡ true) → was ≡ (own && (false || (true && was)))
begin_pick true was h = refl
begin_pick false true h = absurd (false≢true (h refl))
begin_pick false false h = refl

begun_pick : (was k : Bool) → (was || k) ≡ unwrap_or (set_where k true) was
begun_pick true true = refl
begun_pick true false = refl
begun_pick false true = refl
begun_pick false false = refl

none_and : (c : Bool) → false ≡ (c && false)
none_and true = refl
none_and false = refl

pub begin_draws : (t : Windows) (e : Entry) (w : ℕ) (erase : ℕ) (l top r b : ℤ) (old new : Kept) → e.call ≡ calls.BeginPaint w → e.answer ≡ answers.Painting erase l top r b → IsTaken w old new → DrawsScreen t e old new
begin_draws t e w to_erase l top r b old new is_call is_begun_so taken setup past lawful tree right was =
    record { owners = subst (AreOwnersAt setup (e ∷ past)) (sym taken.owners) (same_owners setup past t e lawful tree right fine leaves old.owners was.owners); dirty = dirty; erases = erases; gone = gone; painting = painting; clips = clips }
  where
    fine : is_refused e ≡ false
    fine = ap is_refusal is_begun_so

    leaves : changes_owners e.call e.answer ≡ false
    leaves = ap (λ c. changes_owners c e.answer) is_call ∙ ap (changes_owners (calls.BeginPaint w)) is_begun_so

    lives_there : is_live past w ≡ true
    lives_there = (begin_told setup past e.who.0 w e.answer (ap (reply setup past e.who.0) (sym is_call) ∙ sym right) fine).0

    dirt : (v : ℕ) (p : Point) → is_dirty setup (e ∷ past) v p ≡ (owns setup past v p && (false || (not (eqb w v) && is_dirty setup past v p)))
    dirt v p = drawn_dirty setup past t e lawful tree right fine leaves v p ∙ ap (λ (c : Call). owns setup past v p && (invalidates setup c past v p || (not (cleans c past v p) && is_dirty setup past v p))) is_call

    dirty : (v : ℕ) (p : Point) → region_has (area_in new.dirty v) p ≡ is_dirty setup (e ∷ past) v p
    dirty v p = by (eqb w v) refl ∙ sym (dirt v p)
      where
        by : (c : Bool) → eqb w v ≡ c → region_has (area_in new.dirty v) p ≡ (owns setup past v p && (false || (not c && is_dirty setup past v p)))
        by true k = ap (λ u. region_has (area_in new.dirty u) p) (sym (eqb-true w v k)) ∙ (ap (λ (rs : List Rect). region_has rs p) taken.area ∙ none_and (owns setup past v p))
        by false k = ap (λ (u : Dirty). region_has u.area p) (taken.others v (λ (same : v ≡ w). eqb-false w v k (sym same))) ∙ (was.dirty v p ∙ begin_pick (owns setup past v p) (is_dirty setup past v p) (dirty_owned setup past v p))

    flag : (v : ℕ) → must_erase setup (e ∷ past) v ≡ unwrap_or (set_where (eqb w v) false) (must_erase setup past v)
    flag v = drawn_flag setup past t e lawful tree right fine leaves v ∙ ap (λ (c : Call). unwrap_or (flag_told setup c (e ∷ past) v) (must_erase setup past v)) is_call

    erases : (v : ℕ) → is_live (e ∷ past) v ≡ true → erases_in new.dirty v ≡ must_erase setup (e ∷ past) v
    erases v lives = by (eqb w v) refl ∙ sym (flag v)
      where
        by : (c : Bool) → eqb w v ≡ c → erases_in new.dirty v ≡ unwrap_or (set_where c false) (must_erase setup past v)
        by true k = ap (erases_in new.dirty) (sym (eqb-true w v k)) ∙ taken.erases
        by false k = ap (λ (u : Dirty). u.erases) (taken.others v (λ (same : v ≡ w). eqb-false w v k (sym same))) ∙ was.erases v (sym (same_live setup past t e lawful tree right fine leaves v) ∙ lives)

    gone : (v : ℕ) → is_live (e ∷ past) v ≡ false → erases_in new.dirty v ≡ false
    gone v dead =
        let before : is_live past v ≡ false = sym (same_live setup past t e lawful tree right fine leaves v) ∙ dead in
        ap (λ (u : Dirty). u.erases) (taken.others v (λ (same : v ≡ w). false≢true (sym before ∙ (ap (is_live past) same ∙ lives_there)))) ∙ was.gone v before

    painting : (v : ℕ) → is_begun new.sessions v ≡ is_painting (e ∷ past) v
    painting v =
        taken.begun v
        ∙ (ap (λ c. c || eqb w v) (was.painting v)
        ∙ (begun_pick (is_painting past v) (eqb w v)
        ∙ sym (drawn_painting setup past t e lawful tree right fine leaves v ∙ ap (λ (c : Call). unwrap_or (painting_told c v) (is_painting past v)) is_call)))

    clips : (v : ℕ) (p : Point) → lets_through new.sessions v p ≡ is_in_clip setup (e ∷ past) v p
    clips v p =
        begun_clip setup past w old new taken was.dirty was.clips v p
        ∙ sym (drawn_clip setup past t e lawful tree right fine leaves v p ∙ ap (λ (c : Call). in_session setup v p (unwrap_or (session_told v c past) (session past v))) is_call)

-- ---- painting ends

ended_pick : (was k : Bool) → (was && not k) ≡ unwrap_or (set_where k false) was
ended_pick true true = refl
ended_pick true false = refl
ended_pick false true = refl
ended_pick false false = refl

pub end_draws : (t : Windows) (e : Entry) (w : ℕ) (old : Kept) (ss : List Session) → e.call ≡ calls.EndPaint w → e.answer ≡ answers.Okay
    → ((v : ℕ) → is_begun ss v ≡ (is_begun old.sessions v && not (eqb w v)))
    → ((v : ℕ) → v ≢ w → clip_in ss v ≡ clip_in old.sessions v)
    → DrawsScreen t e old (record { owners = old.owners; dirty = old.dirty; sessions = ss })
end_draws t e w old ss is_call is_okay left others setup past lawful tree right was =
    record { owners = same_owners setup past t e lawful tree right fine leaves old.owners was.owners; dirty = dirty; erases = erases; gone = gone; painting = painting; clips = clips }
  where
    fine : is_refused e ≡ false
    fine = okay_fine e.answer is_okay

    leaves : changes_owners e.call e.answer ≡ false
    leaves = ap (λ c. changes_owners c e.answer) is_call ∙ ap (changes_owners (calls.EndPaint w)) is_okay

    dirty : (v : ℕ) (p : Point) → region_has (area_in old.dirty v) p ≡ is_dirty setup (e ∷ past) v p
    dirty v p =
        was.dirty v p
        ∙ (begin_pick (owns setup past v p) (is_dirty setup past v p) (dirty_owned setup past v p)
        ∙ sym (drawn_dirty setup past t e lawful tree right fine leaves v p ∙ ap (λ (c : Call). owns setup past v p && (invalidates setup c past v p || (not (cleans c past v p) && is_dirty setup past v p))) is_call))

    erases : (v : ℕ) → is_live (e ∷ past) v ≡ true → erases_in old.dirty v ≡ must_erase setup (e ∷ past) v
    erases v lives =
        was.erases v (sym (same_live setup past t e lawful tree right fine leaves v) ∙ lives)
        ∙ sym (drawn_flag setup past t e lawful tree right fine leaves v ∙ ap (λ (c : Call). unwrap_or (flag_told setup c (e ∷ past) v) (must_erase setup past v)) is_call)

    gone : (v : ℕ) → is_live (e ∷ past) v ≡ false → erases_in old.dirty v ≡ false
    gone v dead = was.gone v (sym (same_live setup past t e lawful tree right fine leaves v) ∙ dead)

    painting : (v : ℕ) → is_begun ss v ≡ is_painting (e ∷ past) v
    painting v =
        left v
        ∙ (ap (λ c. c && not (eqb w v)) (was.painting v)
        ∙ (ended_pick (is_painting past v) (eqb w v)
        ∙ sym (drawn_painting setup past t e lawful tree right fine leaves v ∙ ap (λ (c : Call). unwrap_or (painting_told c v) (is_painting past v)) is_call)))

    clips : (v : ℕ) (p : Point) → lets_through ss v p ≡ is_in_clip setup (e ∷ past) v p
    clips v p =
        ended_clip setup past w old.sessions ss left others was.clips v p
        ∙ sym (drawn_clip setup past t e lawful tree right fine leaves v p ∙ ap (λ (c : Call). in_session setup v p (unwrap_or (session_told v c past) (session past v))) is_call)

-- ---- an entry that leaves what is kept

plain_draws : (t : Windows) (e : Entry) (s : Kept) → is_drawing e.call ≡ false → is_refused e ≡ false → changes_owners e.call e.answer ≡ false → DrawsScreen t e s s
plain_draws t e s idle fine leaves setup past lawful tree right was =
    let order = order_of setup past lawful in
    let same = same_live setup past t e lawful tree right fine leaves in
    stays setup past e (lawful, right) (still setup past e order.0 order.1 right leaves) (λ (h : is_refused e ≡ false). idle) s was
    (same_owners setup past t e lawful tree right fine leaves s.owners was.owners)
    (λ w lives. was.erases w (sym (same w) ∙ lives))
    (λ w dead. was.gone w (sym (same w) ∙ dead))

pub plain_at : (t : Windows) (e : Entry) (s : Kept) (call : Call) (a : Answer) → e.call ≡ call → e.answer ≡ a → is_drawing call ≡ false → is_refusal a ≡ false → changes_owners call a ≡ false → DrawsScreen t e s s
plain_at t e s call a is_call is idle fine leaves = plain_draws t e s (ap is_drawing is_call ∙ idle) (ap is_refusal is ∙ fine) (ap (λ c. changes_owners c e.answer) is_call ∙ (ap (changes_owners call) is ∙ leaves))

-- ---- what the calls of an entry need

pub at_part : (t : Windows) (w : ℕ) (d_setup : Setup) (d_past : Past) → IsLawful d_setup d_past → IsTreeAt d_past t → is_live d_past w ≡ true → IsLiveAt t w
at_part t w setup past lawful tree lives = record { setup = setup; past = past; lawful = lawful; tree = tree; lives = lives }

-- the window of an entry that draws, and its rectangle
pub invalid_at : (t : Windows) (e : Entry) (w : ℕ) (l top r b : ℤ) (erase : ℕ) → IsDrawn t e → e.call ≡ calls.Invalidate w l top r b erase → e.answer ≡ answers.Okay → IsLiveAt t w × (is_no_rect l top r b ≡ false)
invalid_at t e w l top r b erase d is_call is_okay =
    let told = invalidate_told d.setup d.past e.who.0 w l top r b erase e.answer (ap (reply d.setup d.past e.who.0) (sym is_call) ∙ sym d.right) (okay_fine e.answer is_okay) in
    (at_part t w d.setup d.past d.lawful d.tree told.lives, told.fits)

pub valid_at : (t : Windows) (e : Entry) (w : ℕ) (l top r b : ℤ) → IsDrawn t e → e.call ≡ calls.Validate w l top r b → e.answer ≡ answers.Okay → IsLiveAt t w × (is_no_rect l top r b ≡ false)
valid_at t e w l top r b d is_call is_okay =
    let told = validate_told d.setup d.past e.who.0 w l top r b e.answer (ap (reply d.setup d.past e.who.0) (sym is_call) ∙ sym d.right) (okay_fine e.answer is_okay) in
    (at_part t w d.setup d.past d.lawful d.tree told.lives, told.fits)

pub begin_at : (t : Windows) (e : Entry) (w : ℕ) (a : Answer) → IsDrawn t e → e.call ≡ calls.BeginPaint w → e.answer ≡ a → is_refusal a ≡ false → IsLiveAt t w
begin_at t e w a d is_call is fine =
    at_part t w d.setup d.past d.lawful d.tree (begin_told d.setup d.past e.who.0 w e.answer (ap (reply d.setup d.past e.who.0) (sym is_call) ∙ sym d.right) (ap is_refusal is ∙ fine)).0

pub end_at : (t : Windows) (e : Entry) (w : ℕ) → IsDrawn t e → e.call ≡ calls.EndPaint w → e.answer ≡ answers.Okay → IsLiveAt t w
end_at t e w d is_call is_okay =
    at_part t w d.setup d.past d.lawful d.tree (end_told d.setup d.past e.who.0 w e.answer (ap (reply d.setup d.past e.who.0) (sym is_call) ∙ sym d.right) (okay_fine e.answer is_okay)).0

-- it is in the table
pub in_table : (t : Windows) (w : ℕ) → IsLiveAt t w → (eqb w 0 || kept.is_live t.live w) ≡ true
in_table t w at = or_right (eqb w 0) (kept.is_live t.live w) (sym (is_live_at at.past t at.tree w) ∙ at.lives)

-- and above 0
pub above_zero : (t : Windows) (w : ℕ) → IsLiveAt t w → 0 < w
above_zero t w at = omega (arith, (live_within at.setup at.past w at.lawful at.lives).0)

-- edges as they are passed
pub passed_edges : (l t r b : ℤ) → is_no_rect l t r b ≡ false → is_no_rect (to_z w64 (of_z w64 l)) (to_z w64 (of_z w64 t)) (to_z w64 (of_z w64 r)) (to_z w64 (of_z w64 b)) ≡ false
passed_edges l t r b h =
    let e = edges_passed l t r b h in
    ap (λ x. is_no_rect x (to_z w64 (of_z w64 t)) (to_z w64 (of_z w64 r)) (to_z w64 (of_z w64 b))) e.left
    ∙ (ap (λ x. is_no_rect l x (to_z w64 (of_z w64 r)) (to_z w64 (of_z w64 b))) e.top
    ∙ (ap (λ x. is_no_rect l t x (to_z w64 (of_z w64 b))) e.right
    ∙ (ap (λ x. is_no_rect l t r x) e.bottom ∙ h)))

-- ---- what a call has done is what the entry says

remade : (s : Kept) (os : List Owned) (ds : List DirtyWindow) (ss : List Session) → os ≡ s.owners → ds ≡ s.dirty → ss ≡ s.sessions → record { owners = os; dirty = ds; sessions = ss } ≡ s
remade s os ds ss e f g =
    ap (λ (x : List Owned). record { owners = x; dirty = ds; sessions = ss }) e
    ∙ (ap (λ (x : List DirtyWindow). record { owners = s.owners; dirty = x; sessions = ss }) f
    ∙ ap (λ (x : List Session). record { owners = s.owners; dirty = s.dirty; sessions = x }) g)

pub invalidated : {E : Type 0} (q : Result (Unit {0}) E) (t : Windows) (e : Entry) (w u : ℕ) (l top r b : ℤ) (erase : ℕ) (on : Bool) (old new : Kept)
    → IsDrawn t e → e.call ≡ calls.Invalidate w l top r b erase → e.answer ≡ answers.Okay → u ≡ w → on ≡ eqb erase 1
    → OnOk q (IsInvalidated t u (to_z w64 (of_z w64 l)) (to_z w64 (of_z w64 top)) (to_z w64 (of_z w64 r)) (to_z w64 (of_z w64 b)) on old new)
    → OnOk q (draws e.call e.answer ≡ true → DrawsScreen t e old new)
invalidated (Err x) t e w u l top r b erase on old new d is_call is_okay same same_on done = tt
invalidated (Ok x) t e w u l top r b erase on old new d is_call is_okay same same_on done = λ can.
    let fits = (invalid_at t e w l top r b erase d is_call is_okay).1 in
    let p = edges_passed l top r b fits in
    let x = subst (λ n. IsInvalidated t n (to_z w64 (of_z w64 l)) (to_z w64 (of_z w64 top)) (to_z w64 (of_z w64 r)) (to_z w64 (of_z w64 b)) on old new) same done in
    let client : IsClientPart t w l top r b x.part =
    subst (λ z. IsClientPart t w l top r z x.part) p.bottom (subst (λ z. IsClientPart t w l top z (to_z w64 (of_z w64 b)) x.part) p.right
    (subst (λ z. IsClientPart t w l z (to_z w64 (of_z w64 r)) (to_z w64 (of_z w64 b)) x.part) p.top
    (subst (λ z. IsClientPart t w z (to_z w64 (of_z w64 top)) (to_z w64 (of_z w64 r)) (to_z w64 (of_z w64 b)) x.part) p.left x.client))) in
    subst (DrawsScreen t e old) (remade new old.owners new.dirty old.sessions (sym x.owners) refl (sym x.sessions))
    (invalidate_draws t e w l top r b erase x.part old new.dirty is_call is_okay client x.area (λ v. x.erases v ∙ ap (λ c. erases_in old.dirty v || (eqb w v && c)) same_on))

pub validated : {E : Type 0} (q : Result (Unit {0}) E) (t : Windows) (e : Entry) (w u : ℕ) (l top r b : ℤ) (old new : Kept)
    → IsDrawn t e → e.call ≡ calls.Validate w l top r b → e.answer ≡ answers.Okay → u ≡ w
    → OnOk q (IsValidated t u (to_z w64 (of_z w64 l)) (to_z w64 (of_z w64 top)) (to_z w64 (of_z w64 r)) (to_z w64 (of_z w64 b)) old new)
    → OnOk q (draws e.call e.answer ≡ true → DrawsScreen t e old new)
validated (Err x) t e w u l top r b old new d is_call is_okay same done = tt
validated (Ok x) t e w u l top r b old new d is_call is_okay same done = λ can.
    let fits = (valid_at t e w l top r b d is_call is_okay).1 in
    let p = edges_passed l top r b fits in
    let x = subst (λ n. IsValidated t n (to_z w64 (of_z w64 l)) (to_z w64 (of_z w64 top)) (to_z w64 (of_z w64 r)) (to_z w64 (of_z w64 b)) old new) same done in
    let client : IsClientPart t w l top r b x.part =
    subst (λ z. IsClientPart t w l top r z x.part) p.bottom (subst (λ z. IsClientPart t w l top z (to_z w64 (of_z w64 b)) x.part) p.right
    (subst (λ z. IsClientPart t w l z (to_z w64 (of_z w64 r)) (to_z w64 (of_z w64 b)) x.part) p.top
    (subst (λ z. IsClientPart t w z (to_z w64 (of_z w64 top)) (to_z w64 (of_z w64 r)) (to_z w64 (of_z w64 b)) x.part) p.left x.client))) in
    subst (DrawsScreen t e old) (remade new old.owners new.dirty old.sessions (sym x.owners) refl (sym x.sessions))
    (validate_draws t e w l top r b x.part old new.dirty is_call is_okay client x.area x.cleared x.kept x.others)

pub begun : {E : Type 0} (q : Result (Unit {0}) E) (t : Windows) (e : Entry) (w u : ℕ) (erase : ℕ) (l top r b : ℤ) (old new : Kept)
    → e.call ≡ calls.BeginPaint w → e.answer ≡ answers.Painting erase l top r b → u ≡ w → OnOk q (IsTaken u old new)
    → OnOk q (draws e.call e.answer ≡ true → DrawsScreen t e old new)
begun (Err x) t e w u erase l top r b old new is_call is same done = tt
begun (Ok x) t e w u erase l top r b old new is_call is same done = λ can. begin_draws t e w erase l top r b old new is_call is (subst (λ n. IsTaken n old new) same done)

pub finished : (t : Windows) (e : Entry) (w u : ℕ) (old new : Kept) → e.call ≡ calls.EndPaint w → e.answer ≡ answers.Okay → u ≡ w → IsEnded u old new → DrawsScreen t e old new
finished t e w u old new is_call is_okay same done =
    let x = subst (λ n. IsEnded n old new) same done in
    subst (DrawsScreen t e old) (remade new old.owners old.dirty new.sessions (sym x.owners) (sym x.dirty) refl)
    (end_draws t e w old new.sessions is_call is_okay x.begun x.clips)
