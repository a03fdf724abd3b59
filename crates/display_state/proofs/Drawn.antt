-- The display after an entry that draws is that of the past with the entry.
use Rattle.std.proofs.Common.{◌≡◌, ◌∙◌, ℕ, ◌+◌, ◌*◌, ◌<◌, ◌≤◌, get_or, append-nil, Result, Ok, Err, w64, Bool, true, false, cond, eqb, List, [], ◌∷◌, ◌++◌, map, length, Some, None, refl, sym, ap, subst, arith}
use mir.Val.{of_z, to_z}
use Rattle.std.specs.Prelude.{◌&&◌, ℤ, OnOk, nat_lt}
use Rattle.std.proofs.lemmas.Bool.{false≢true, true≢false}
use Rattle.std.proofs.lemmas.List.{map-append}
use Rattle.win_num.specs.declared.shapes.Point.{Point}
use Rattle.win_num.specs.declared.shapes.Rect.{Rect}
use Rattle.win_class.specs.ClassTable.{ClassTable}
use Rattle.win_rows.specs.Windows.{Windows}
use Rattle.band_region.specs.Regions.{region_has}
use Rattle.screen_buf.specs.Pictures.{Picture, colour_at, pixel}
use Rattle.user_model.specs.declared.call.Call.{Call}
use Rattle.user_model.specs.declared.call.Call.TheVariants as calls
use Rattle.user_model.specs.declared.entry.Answer.{Answer}
use Rattle.user_model.specs.declared.entry.Answer.TheVariants as answers
use Rattle.user_model.specs.declared.entry.Entry.{Entry}
use Rattle.user_model.specs.declared.entry.Setup.{Setup}
use Rattle.user_model.specs.Past.{Past, is_refusal}
use Rattle.user_model.specs.Colours.{colour, frame, paints_in, reaches, snapped, snaps}
use Rattle.user_model.specs.Dirty.{is_in_client}
use Rattle.user_model.specs.Idle.{reply}
use Rattle.user_model.specs.Legal.{IsLawful}
use Rattle.user_model.specs.Pixels.{owner}
use Rattle.user_model.specs.Refusals.{is_no_rect}
use Rattle.user_model.proofs.ColourLaws.{snapped-next}
use Rattle.window_state.specs.ClassTables.{classes_at}
use Rattle.window_state.specs.Trees.{IsTreeAt}
use Rattle.window_state.proofs.LookSteps.{edges_passed}
use Rattle.screen_state.specs.Parts.{IsLiveAt}
use Rattle.screen_state.specs.Shown.{changes_owners}
use Rattle.screen_state.specs.Screens.{DrawsScreen, IsDrawn, IsReached, IsReachedPart, IsScreenAt, Kept, draws}
use Rattle.display_state.specs.Displays.{DrawsDisplay, IsColourOf, IsDisplayAt, IsFilled, IsPainting, IsSnapped, Shown, recolours}
use Rattle.display_state.proofs.Frames.{all_listed}
use Rattle.display_state.proofs.Painted.{erase_told, fill_told, is_colouring, no_frame, no_paint, reached_owned, recoloured}

-- an entry that draws changes no owner, and is no refusal
pub draws_leaves : (call : Call) (a : Answer) → draws call a ≡ true → changes_owners call a ≡ false
draws_leaves (calls.Invalidate w l t r b erase) answers.Okay h = refl
draws_leaves (calls.Validate w l t r b) answers.Okay h = refl
draws_leaves (calls.EndPaint w) answers.Okay h = refl
draws_leaves (calls.BeginPaint w) (answers.Painting erase l t r b) h = refl
draws_leaves (calls.Fill w l t r b k) answers.Okay h = refl
draws_leaves (calls.Erase w) answers.Okay h = refl
draws_leaves calls.Snap (answers.Snap k) h = refl
draws_leaves _ _ h = absurd (false≢true h)

pub draws_fine : (call : Call) (a : Answer) → draws call a ≡ true → is_refusal a ≡ false
draws_fine call (answers.Refused code) h = absurd (false≢true (sym (none call) ∙ h))
  where
    none : (call : Call) → draws call (answers.Refused code) ≡ false
    none calls.Snap = refl
    none _ = refl
draws_fine call _ h = refl

-- what is needed of an entry comes of what is known of it
pub is_drawn : (t : Windows) (c : ClassTable) (e : Entry) → IsPainting t c e → IsDrawn t e
is_drawn t c e p = record { setup = p.setup; past = p.past; lawful = p.lawful; tree = p.tree; right = p.right }

pub fill_at : (t : Windows) (c : ClassTable) (e : Entry) (w : ℕ) (l top r b : ℤ) (k : ℕ) → IsPainting t c e → e.call ≡ calls.Fill w l top r b k → e.answer ≡ answers.Okay → IsLiveAt t w × (is_no_rect l top r b ≡ false) × (nat_lt 15 k ≡ false)
fill_at t c e w l top r b k p is_call is_okay =
    let told = fill_told p.setup p.past e.who.0 w l top r b k e.answer (ap (reply p.setup p.past e.who.0) (sym is_call) ∙ sym p.right) (ap is_refusal is_okay) in
    (record { setup = p.setup; past = p.past; lawful = p.lawful; tree = p.tree; lives = told.lives }, told.fits, told.few)

pub erase_at : (t : Windows) (c : ClassTable) (e : Entry) (w : ℕ) → IsPainting t c e → e.call ≡ calls.Erase w → e.answer ≡ answers.Okay → IsLiveAt t w
erase_at t c e w p is_call is_okay =
    record { setup = p.setup; past = p.past; lawful = p.lawful; tree = p.tree; lives = (erase_told p.setup p.past e.who.0 w e.answer (ap (reply p.setup p.past e.who.0) (sym is_call) ∙ sym p.right) (ap is_refusal is_okay)).0 }

-- a colour fits a byte
pub colour_fits : (k : ℕ) → nat_lt 15 k ≡ false → k ≤ 15
colour_fits k few = grind arith

-- ---- pixels that get a colour

and_second : (a b : Bool) → (a && b) ≡ true → b ≡ true
and_second true b h = h
and_second false b h = absurd (false≢true h)

-- the entry gives the colour to the pixels of the region, which have owners
pub record IsStroke (setup : Setup) (past : Past) (e : Entry) (rs : List Rect) (k : ℕ) : Type 0 where
  pub told : (p : Point) → paints_in setup p e.call past ≡ cond (region_has rs p) (Some k) None
  pub owned : (p : Point) → region_has rs p ≡ true → eqb (owner setup past p).0 0 ≡ false

pub filled_draws : (t : Windows) (c : ClassTable) (e : Entry) (rs : List Rect) (k : ℕ) (old new : Shown) → draws e.call e.answer ≡ true → ((past : Past) → snaps e.call past ≡ [])
    → ((setup : Setup) (past : Past) → IsLawful setup past → IsTreeAt past t → c ≡ classes_at past → e.answer ≡ reply setup past e.who.0 e.call → IsScreenAt setup past old.screen → IsStroke setup past e rs k)
    → IsFilled t e rs k old new → DrawsDisplay t c e old new
filled_draws t c e rs k old new can no_more stroke filled setup past lawful tree classes right was =
    let fine = draws_fine e.call e.answer can in
    let leaves = draws_leaves e.call e.answer can in
    let s = stroke setup past lawful tree classes right was.screen in
    let painted = filled.colours in
    record {
      screen = filled.screen setup past lawful tree right was.screen;
      width = painted.width ∙ was.width;
      height = painted.height ∙ was.height;
      colours = λ x y f g.
          painted.colours x y (subst (λ n. x < n) (sym was.width) f) (subst (λ n. y < n) (sym was.height) g)
          ∙ (ap (λ n. cond (region_has rs (pixel x y)) k n) (was.colours x y f g)
          ∙ sym (recoloured setup past e lawful right fine leaves (pixel x y) (region_has rs (pixel x y)) k (s.told (pixel x y)) (s.owned (pixel x y))));
      frames = filled.frames ∙ (was.frames ∙ ap (map (frame setup)) (sym (snapped-next e past fine ∙ (ap (λ (qs : List Past). snapped past ++ qs) (no_more past) ∙ append-nil (snapped past)))));
    }

-- a rectangle is painted
pub fill_draws : (t : Windows) (c : ClassTable) (e : Entry) (w : ℕ) (l top r b : ℤ) (k : ℕ) (rs : List Rect) (old new : Shown) → e.call ≡ calls.Fill w l top r b k → e.answer ≡ answers.Okay → IsReachedPart t old.screen w l top r b rs
    → IsFilled t e rs k old new → DrawsDisplay t c e old new
fill_draws t c e w l top r b k rs old new is_call is_okay reached filled =
    filled_draws t c e rs k old new (ap (λ x. draws x e.answer) is_call ∙ ap (draws (calls.Fill w l top r b k)) is_okay) (λ past. ap (λ x. snaps x past) is_call) stroke filled
  where
    stroke : (setup : Setup) (past : Past) → IsLawful setup past → IsTreeAt past t → c ≡ classes_at past → e.answer ≡ reply setup past e.who.0 e.call → IsScreenAt setup past old.screen → IsStroke setup past e rs k
    stroke setup past lawful tree classes right was =
        let lives = (fill_told setup past e.who.0 w l top r b k e.answer (ap (reply setup past e.who.0) (sym is_call) ∙ sym right) (ap is_refusal is_okay)).lives in
        record {
          told = λ p. ap (λ x. paints_in setup p x past) is_call ∙ ap (λ b. cond b (Some k) None) (sym (reached setup past lawful tree was lives p));
          owned = λ p has. reached_owned setup past w p (and_second (is_in_client past w l top r b p) (reaches setup past w p) (sym (reached setup past lawful tree was lives p) ∙ has));
        }

-- a window is painted with the colour of its class
pub erase_draws : (t : Windows) (c : ClassTable) (e : Entry) (w k : ℕ) (rs : List Rect) (old new : Shown) → e.call ≡ calls.Erase w → e.answer ≡ answers.Okay → IsReached old.screen w rs → IsColourOf t c w k
    → IsFilled t e rs k old new → DrawsDisplay t c e old new
erase_draws t c e w k rs old new is_call is_okay reached of_class filled =
    filled_draws t c e rs k old new (ap (λ x. draws x e.answer) is_call ∙ ap (draws (calls.Erase w)) is_okay) (λ past. ap (λ x. snaps x past) is_call) stroke filled
  where
    stroke : (setup : Setup) (past : Past) → IsLawful setup past → IsTreeAt past t → c ≡ classes_at past → e.answer ≡ reply setup past e.who.0 e.call → IsScreenAt setup past old.screen → IsStroke setup past e rs k
    stroke setup past lawful tree classes right was =
        let lives = (erase_told setup past e.who.0 w e.answer (ap (reply setup past e.who.0) (sym is_call) ∙ sym right) (ap is_refusal is_okay)).0 in
        record {
          told = λ p.
              ap (λ x. paints_in setup p x past) is_call
              ∙ (ap (λ n. cond (reaches setup past w p) (Some n) None) (sym (of_class past tree classes))
              ∙ ap (λ b. cond b (Some k) None) (sym (reached setup past lawful was lives p)));
          owned = λ p has. reached_owned setup past w p (sym (reached setup past lawful was lives p) ∙ has);
        }

-- an entry that draws and gives no colour
pub other_draws : (t : Windows) (c : ClassTable) (e : Entry) (old : Shown) (screen : Kept) → draws e.call e.answer ≡ true → is_colouring e.call ≡ false → DrawsScreen t e old.screen screen
    → DrawsDisplay t c e old (record { screen = screen; colours = old.colours; frames = old.frames })
other_draws t c e old screen can idle drawn =
    filled_draws t c e [] 0 old (record { screen = screen; colours = old.colours; frames = old.frames }) can (no_frame e.call idle)
    (λ setup past lawful tree classes right was. record { told = λ p. no_paint e.call idle setup past p; owned = λ p has. absurd (false≢true has) })
    (record { screen = drawn; colours = record { width = refl; height = refl; colours = λ x y f g. refl }; frames = refl })

-- ---- a frame that is kept

pub snap_draws : (t : Windows) (c : ClassTable) (e : Entry) (k : ℕ) (old new : Shown) → e.call ≡ calls.Snap → e.answer ≡ answers.Snap k → IsSnapped t e old new → DrawsDisplay t c e old new
snap_draws t c e k old new is_call is_snap kept setup past lawful tree classes right was =
    let can = ap (λ x. draws x e.answer) is_call ∙ ap (draws calls.Snap) is_snap in
    let fine = draws_fine e.call e.answer can in
    let leaves = draws_leaves e.call e.answer can in
    let size : length old.colours.colours ≡ setup.height * setup.width = kept.size ∙ (ap (λ n. n * old.colours.width) was.height ∙ ap (λ n. setup.height * n) was.width) in
    record {
      screen = kept.screen setup past lawful tree right was.screen;
      width = ap (λ (q : Picture). q.width) kept.colours ∙ was.width;
      height = ap (λ (q : Picture). q.height) kept.colours ∙ was.height;
      colours = λ x y f g.
          ap (λ (q : Picture). colour_at q x y) kept.colours
          ∙ (was.colours x y f g
          ∙ sym (recoloured setup past e lawful right fine leaves (pixel x y) false 0 (ap (λ x2. paints_in setup (pixel x y) x2 past) is_call) (λ has. absurd (false≢true has))));
      frames =
          kept.frames
          ∙ (ap (λ (fs : List (List ℕ)). fs ++ old.colours.colours ∷ []) was.frames
          ∙ (ap (λ (q : List ℕ). map (frame setup) (snapped past) ++ q ∷ []) (whole setup past size was)
          ∙ (sym (map-append (frame setup) (snapped past) (past ∷ []))
          ∙ ap (map (frame setup)) (sym (snapped-next e past fine ∙ ap (λ x. snapped past ++ snaps x past) is_call)))));
    }
  where
    whole : (setup : Setup) (past : Past) → length old.colours.colours ≡ setup.height * setup.width → IsDisplayAt setup past old → old.colours.colours ≡ frame setup past
    whole setup past size was = all_listed (colour setup past) old.colours.colours setup.width setup.height size (λ x y f g. ap (λ n. get_or old.colours.colours (y * n + x) 0) (sym was.width) ∙ was.colours x y f g)

-- ---- what a call has done is what the entry says

pub filled_told : {E : Type 0} (q : Result (Unit {0}) E) (t : Windows) (c : ClassTable) (e : Entry) (w u : ℕ) (l top r b : ℤ) (k : ℕ) (rs : List Rect) (s : Kept) (old new : Shown)
    → IsPainting t c e → e.call ≡ calls.Fill w l top r b k → e.answer ≡ answers.Okay → u ≡ w → s ≡ old.screen
    → IsReachedPart t s u (to_z w64 (of_z w64 l)) (to_z w64 (of_z w64 top)) (to_z w64 (of_z w64 r)) (to_z w64 (of_z w64 b)) rs
    → OnOk q (IsFilled t e rs k old new) → OnOk q (draws e.call e.answer ≡ true → DrawsDisplay t c e old new)
filled_told (Err x) t c e w u l top r b k rs s old new p is_call is_okay same same_screen reached done = tt
filled_told (Ok x) t c e w u l top r b k rs s old new p is_call is_okay same same_screen reached done = λ can.
    let edges = edges_passed l top r b (fill_at t c e w l top r b k p is_call is_okay).1 in
    let of_window = subst (λ n. IsReachedPart t s n (to_z w64 (of_z w64 l)) (to_z w64 (of_z w64 top)) (to_z w64 (of_z w64 r)) (to_z w64 (of_z w64 b)) rs) same reached in
    let part : IsReachedPart t s w l top r b rs =
    subst (λ z. IsReachedPart t s w l top r z rs) edges.bottom (subst (λ z. IsReachedPart t s w l top z (to_z w64 (of_z w64 b)) rs) edges.right
    (subst (λ z. IsReachedPart t s w l z (to_z w64 (of_z w64 r)) (to_z w64 (of_z w64 b)) rs) edges.top
    (subst (λ z. IsReachedPart t s w z (to_z w64 (of_z w64 top)) (to_z w64 (of_z w64 r)) (to_z w64 (of_z w64 b)) rs) edges.left of_window))) in
    fill_draws t c e w l top r b k rs old new is_call is_okay (subst (λ (x : Kept). IsReachedPart t x w l top r b rs) same_screen part) done

pub erased_told : {E : Type 0} (q : Result (Unit {0}) E) (t : Windows) (c : ClassTable) (e : Entry) (w u k : ℕ) (rs : List Rect) (s : Kept) (old new : Shown)
    → e.call ≡ calls.Erase w → e.answer ≡ answers.Okay → u ≡ w → s ≡ old.screen → IsReached s u rs → IsColourOf t c u k
    → OnOk q (IsFilled t e rs k old new) → OnOk q (draws e.call e.answer ≡ true → DrawsDisplay t c e old new)
erased_told (Err x) t c e w u k rs s old new is_call is_okay same same_screen reached of_class done = tt
erased_told (Ok x) t c e w u k rs s old new is_call is_okay same same_screen reached of_class done = λ can.
    erase_draws t c e w k rs old new is_call is_okay (subst (λ (x : Kept). IsReached x w rs) same_screen (subst (λ n. IsReached s n rs) same reached)) (subst (λ n. IsColourOf t c n k) same of_class) done

pub snapped_told : {E : Type 0} (q : Result (Unit {0}) E) (t : Windows) (c : ClassTable) (e : Entry) (k : ℕ) (old new : Shown) → e.call ≡ calls.Snap → e.answer ≡ answers.Snap k
    → OnOk q (IsSnapped t e old new) → OnOk q (draws e.call e.answer ≡ true → DrawsDisplay t c e old new)
snapped_told (Err x) t c e k old new is_call is_snap done = tt
snapped_told (Ok x) t c e k old new is_call is_snap done = λ can. snap_draws t c e k old new is_call is_snap done

-- where another call draws, the screen alone changes
pub other_idle : (call : Call) (a : Answer) → draws call a ≡ true → recolours call a ≡ false → is_colouring call ≡ false
other_idle (calls.Fill w l t r b k) answers.Okay can quiet = absurd (true≢false quiet)
other_idle (calls.Fill w l t r b k) _ can quiet = absurd (false≢true can)
other_idle (calls.Erase w) answers.Okay can quiet = absurd (true≢false quiet)
other_idle (calls.Erase w) _ can quiet = absurd (false≢true can)
other_idle calls.Snap (answers.Snap k) can quiet = absurd (true≢false quiet)
other_idle calls.Snap _ can quiet = absurd (false≢true can)
other_idle _ a can quiet = refl

pub others_told : {E : Type 0} (q : Result (Unit {0}) E) (t : Windows) (c : ClassTable) (e : Entry) (s new : Kept) (seen : Picture) (fs : List (List ℕ)) (d : Shown) → recolours e.call e.answer ≡ false → record { screen = s; colours = seen; frames = fs } ≡ d
    → OnOk q (draws e.call e.answer ≡ true → DrawsScreen t e s new)
    → OnOk q (draws e.call e.answer ≡ true → DrawsDisplay t c e d (record { screen = new; colours = seen; frames = fs }))
others_told (Err x) t c e s new seen fs d quiet view done = tt
others_told (Ok x) t c e s new seen fs d quiet view done = λ can.
    subst (λ (y : Shown). DrawsDisplay t c e y (record { screen = new; colours = seen; frames = fs })) view
    (other_draws t c e (record { screen = s; colours = seen; frames = fs }) new can (other_idle e.call e.answer can quiet) (done can))
