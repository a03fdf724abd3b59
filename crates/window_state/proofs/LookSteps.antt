-- How windows of the table look after an entry that changes it.
use Rattle.std.proofs.Common.{◌≡◌, ℕ, Bool, true, false, cond, eqb, List, [], ◌∷◌, map, Option, Some, None, refl, ap, ◌∙◌, sym, subst, arith}
use Rattle.std.specs.Prelude.{◌&&◌, ℤ, pos, negsuc, ◌+ℤ◌, ◌-ℤ◌, int_lt, is_some, option_map}
use Rattle.std.proofs.lemmas.Bool.{eqb-true, eq-eqb, ne_eqb, or_parts, or_from, true≢false, false≢true}
use Rattle.std.proofs.lemmas.Int.{ints, to_z-of_z}
use mir.Val.{SFits, of_z, to_z}
use mir.Syntax.{w32, w64}
use Rattle.win_num.specs.PixelSets.{Box, box, is_bad_rect, same_int}
use Rattle.win_num.specs.Rects.{box_in}
use Rattle.win_num.specs.declared.shapes.Rect.{Rect}
use Rattle.win_num.specs.declared.names.TheConstants.{SWP_NOMOVE, SWP_NOSIZE, WS_DISABLED, WS_VISIBLE}
use Rattle.win_num.specs.declared.message.Thread.{Thread}
use Rattle.win_rows.specs.declared.row.WindowRow.{WindowRow}
use Rattle.win_rows.specs.declared.window.Window.{Window as KeptWindow}
use Rattle.win_rows.specs.Windows.{Windows, set_if}
use Rattle.win_rows.specs.Windows as kept
use Rattle.user_model.specs.declared.call.Call.{Call}
use Rattle.user_model.specs.declared.call.Call.TheVariants as calls
use Rattle.user_model.specs.declared.entry.Answer.TheVariants as answers
use Rattle.user_model.specs.declared.entry.Entry.{Entry}
use Rattle.user_model.specs.declared.entry.Setup.{Setup}
use Rattle.user_model.specs.Past.{Past}
use Rattle.user_model.specs.Windows.{has_flag, live, is_live, numbers_made}
use Rattle.user_model.specs.ReplyWindows.{changes_told}
use Rattle.user_model.specs.Destruction.{Step, is_marked, was_given}
use Rattle.user_model.specs.Looks.{Look, look, style_of, is_disabled, is_shown, look_of, corner_and_size, moved_by, placed, shown_look, enabled_look}
use Rattle.user_model.specs.Refusals.{is_no_rect, is_outside}
use Rattle.user_model.specs.Idle.{reply}
use Rattle.user_model.specs.Machines.{entry_of}
use Rattle.user_model.proofs.ListLaws.{all_found}
use Rattle.user_model.proofs.WindowLaws.{live-same, is_marked-same, was_given-same}
use Rattle.user_model.proofs.WindowReplies.{place_told, show_told, enable_told}
use Rattle.window_state.specs.Trees.{as_made, look_in, HasLook, HasMarks, IsTreeAt}
use Rattle.window_state.specs.Effects.{IsRelooked}
use Rattle.window_state.specs.Placings.{changes_in, disabled_in, shown_in, style_in}
use Rattle.window_state.specs.Needs.{FitsLooking, Fitting}
use Rattle.window_state.proofs.TreeFacts.{found_passes, is_live_at}
use Rattle.window_state.proofs.TreeLaws.{eqb_swap, marks_same, remarked}
use Rattle.window_state.proofs.TreeNeeds.{at_most, near_edges, not_over}
use Rattle.window_state.proofs.Outcomes.{same_box}

-- ---- rectangles of windows

-- the corner of one with the size of another is one again
pub fits_moved : (c s : Box) → is_no_rect c.left c.top c.right c.bottom ≡ false → is_no_rect s.left s.top s.right s.bottom ≡ false → is_no_rect (corner_and_size c s).left (corner_and_size c s).top (corner_and_size c s).right (corner_and_size c s).bottom ≡ false
fits_moved c s hc hs =
    let a = or_parts (is_outside c.left) _ hc in
    let d = or_parts (is_outside c.top) _ a.1 in
    let e = or_parts (is_outside s.left) _ hs in
    let f = or_parts (is_outside s.top) _ e.1 in
    let g = or_parts (int_lt s.right s.left) _ f.1 in
    let h = or_parts (int_lt s.bottom s.top) _ g.1 in
    let i = or_parts (int_lt (pos 4096) (s.right -ℤ s.left)) (int_lt (pos 4096) (s.bottom -ℤ s.top)) h.1 in
    let across = at_most s.left s.right g.0 in
    let down = at_most s.top s.bottom h.0 in
    let wide = at_most (s.right -ℤ s.left) (pos 4096) i.0 in
    let high = at_most (s.bottom -ℤ s.top) (pos 4096) i.1 in
    let r = c.left +ℤ (s.right -ℤ s.left) in
    let b = c.top +ℤ (s.bottom -ℤ s.top) in
    or_from (is_outside c.left) _ a.0
    (or_from (is_outside c.top) _ d.0
    (or_from (int_lt r c.left) _ (not_over c.left r (omega (arith, ints)))
    (or_from (int_lt b c.top) _ (not_over c.top b (omega (arith, ints)))
    (or_from (int_lt (pos 4096) (r -ℤ c.left)) _ (not_over (r -ℤ c.left) (pos 4096) (omega (arith, ints)))
    (not_over (b -ℤ c.top) (pos 4096) (omega (arith, ints)))))))

either_box : (b : Bool) (x y : Box) → is_no_rect x.left x.top x.right x.bottom ≡ false → is_no_rect y.left y.top y.right y.bottom ≡ false → is_no_rect (cond b x y).left (cond b x y).top (cond b x y).right (cond b x y).bottom ≡ false
either_box true x y hx hy = hx
either_box false x y hx hy = hy

pub fits_placed : (flags : ℕ) (new old : Box) → is_no_rect new.left new.top new.right new.bottom ≡ false → is_no_rect old.left old.top old.right old.bottom ≡ false → is_no_rect (moved_by flags new old).left (moved_by flags new old).top (moved_by flags new old).right (moved_by flags new old).bottom ≡ false
fits_placed flags new old hn ho =
    fits_moved (cond (has_flag flags SWP_NOMOVE) old new) (cond (has_flag flags SWP_NOSIZE) old new) (either_box (has_flag flags SWP_NOMOVE) old new ho hn) (either_box (has_flag flags SWP_NOSIZE) old new ho hn)

fits_in : (place : Rect) (b : Box) → box_in place ≡ b → is_no_rect b.left b.top b.right b.bottom ≡ false → is_no_rect place.l place.t place.r place.b ≡ false
fits_in place b e h = ap (λ (x : Box). is_no_rect x.left x.top x.right x.bottom) e ∙ h

-- ---- a window of the table gets another look

made_set : (w s x : ℕ) (place : Rect) (y : KeptWindow) → as_made (set_if w s x place y) ≡ as_made y
made_set w s x place y = pick (eqb y.number.0 w)
  where
    pick : (b : Bool) → as_made (cond b (record y { row = record y.row { style = s; ex = x; place = place } }) y) ≡ as_made y
    pick true = refl
    pick false = refl

marks_set : (past : Past) (w s x : ℕ) (place : Rect) (y : KeptWindow) → HasMarks past y → HasMarks past (set_if w s x place y)
marks_set past w s x place y h = pick (eqb y.number.0 w)
  where
    pick : (b : Bool) → HasMarks past (cond b (record y { row = record y.row { style = s; ex = x; place = place } }) y)
    pick true = record { marked = h.marked; told = h.told; ended = h.ended }
    pick false = h

pub same_look : (s s' x x' : ℕ) (b b' : Box) → s ≡ s' → x ≡ x' → b ≡ b' → look_of s x b ≡ look_of s' x' b'
same_look s s' x x' b b' es ex eb = cc

-- where f makes its look of the one that w had
module _ (past : Past) (e : Entry) (w : ℕ) (f : Look → Look) (was : KeptWindow) (number : was.number.0 ≡ w) (had : HasLook past was) (place : Rect) (is_place : box_in place ≡ (f (look_in was.row)).place)
    (new : (v : ℕ) → look (e ∷ past) v ≡ cond (eqb w v) (f (look past v)) (look past v)) (fits : is_no_rect place.l place.t place.r place.b ≡ false) where
  looks_set : (y : KeptWindow) → HasLook past y → HasLook (e ∷ past) (set_if w (f (look_in was.row)).style (f (look_in was.row)).ex place y)
  looks_set y h = pick (eqb y.number.0 w) refl
    where
      had_look : y.number.0 ≡ w → look past y.number.0 ≡ look_in was.row
      had_look same = ap (look past) (same ∙ sym number) ∙ sym had.looks

      pick : (b : Bool) → eqb y.number.0 w ≡ b → HasLook (e ∷ past) (cond b (record y { row = record y.row { style = (f (look_in was.row)).style; ex = (f (look_in was.row)).ex; place = place } }) y)
      pick true is = record {
        looks =
            same_look (f (look_in was.row)).style (f (look_in was.row)).style (f (look_in was.row)).ex (f (look_in was.row)).ex (box_in place) (f (look_in was.row)).place refl refl is_place
            ∙ (ap f (sym (had_look (eqb-true y.number.0 w is)))
            ∙ (ap (λ b. cond b (f (look past y.number.0)) (look past y.number.0)) (sym (eqb_swap w y.number.0 ∙ is))
            ∙ sym (new y.number.0)));
        fits = fits;
      }
      pick false is = record {
        looks = h.looks ∙ (ap (λ b. cond b (f (look past y.number.0)) (look past y.number.0)) (sym (eqb_swap w y.number.0 ∙ is)) ∙ sym (new y.number.0));
        fits = h.fits;
      }

-- the table after a call that makes another look of a window
pub tree_relooked : (past : Past) (e : Entry) (t new : Windows) (w : ℕ) (f : Look → Look) → IsTreeAt past t → IsRelooked w f t new
    → numbers_made e.answer e.call ≡ [] → live (e ∷ past) ≡ live past → ((v : ℕ) → is_marked (e ∷ past) v ≡ is_marked past v) → ((i : Step) → was_given (e ∷ past) i ≡ was_given past i)
    → ((v : ℕ) → look (e ∷ past) v ≡ cond (eqb w v) (f (look past v)) (look past v))
    → ((old : Look) → is_no_rect old.place.left old.place.top old.place.right old.place.bottom ≡ false → is_no_rect (f old).place.left (f old).place.top (f old).place.right (f old).place.bottom ≡ false)
    → IsTreeAt (e ∷ past) new
tree_relooked past e t new w f at is none same marks steps look_new fits =
    let had = all_found (HasLook past) (λ y. eqb y.number.0 w) t.live is.was at.looks is.found in
    let number = eqb-true is.was.number.0 w (found_passes (λ y. eqb y.number.0 w) t.live is.was is.found) in
    let good = fits_in is.place (f (look_in is.was.row)).place is.is_place (fits (look_in is.was.row) had.fits) in
    let s = (f (look_in is.was.row)).style in
    let x = (f (look_in is.was.row)).ex in
    subst (IsTreeAt (e ∷ past)) (sym is.is_new)
    (remarked past e t (set_if w s x is.place) at none same (made_set w s x is.place)
    (looks_set past e w f is.was number had is.place is.is_place look_new good)
    (λ y h. marks_set (e ∷ past) w s x is.place y (marks_same past e marks steps y h)))

-- a window is put at a place
pub tree_place : (setup : Setup) (past : Past) (t new : Windows) (who : Thread) (w : ℕ) (after l top r b : ℤ) (flags n : ℕ) → IsTreeAt past t → reply setup past who.0 (calls.Place w after l top r b flags) ≡ answers.Value n → IsRelooked w (placed flags after (box l top r b)) t new → IsTreeAt (entry_of who (calls.Place w after l top r b flags) (answers.Value n) ∷ past) new
tree_place setup past t new who w after l top r b flags n at right is =
    let e = entry_of who (calls.Place w after l top r b flags) (answers.Value n) in
    let good = (place_told setup past who.0 w after l top r b flags n right).good_edges in
    tree_relooked past e t new w (placed flags after (box l top r b)) at is refl (live-same e past refl (λ x. refl)) (λ v. is_marked-same e past v refl) (λ i. was_given-same e past i refl) (λ v. refl)
    (λ old h. fits_placed flags (box l top r b) old.place good h)

-- a window is shown or hidden
pub tree_show : (past : Past) (t new : Windows) (who : Thread) (w on n : ℕ) → IsTreeAt past t → IsRelooked w (shown_look (eqb on 1)) t new → IsTreeAt (entry_of who (calls.Show w on) (answers.Value n) ∷ past) new
tree_show past t new who w on n at is =
    let e = entry_of who (calls.Show w on) (answers.Value n) in
    tree_relooked past e t new w (shown_look (eqb on 1)) at is refl (live-same e past refl (λ x. refl)) (λ v. is_marked-same e past v refl) (λ i. was_given-same e past i refl) (λ v. refl) (λ old h. h)

-- a window is enabled or disabled
pub tree_enable : (past : Past) (t new : Windows) (who : Thread) (w on n : ℕ) → IsTreeAt past t → IsRelooked w (enabled_look (eqb on 1)) t new → IsTreeAt (entry_of who (calls.Enable w on) (answers.Value n) ∷ past) new
tree_enable past t new who w on n at is =
    let e = entry_of who (calls.Enable w on) (answers.Value n) in
    tree_relooked past e t new w (enabled_look (eqb on 1)) at is refl (live-same e past refl (λ x. refl)) (λ v. is_marked-same e past v refl) (λ i. was_given-same e past i refl) (λ v. refl) (λ old h. h)

-- ---- what the code makes

-- the edges of a rectangle of a window
pub record WindowRect (l t r b : ℤ) : Type 0 where
  pub left : is_outside l ≡ false
  pub top : is_outside t ≡ false
  pub across : int_lt r l ≡ false
  pub down : int_lt b t ≡ false
  pub wide : int_lt (pos 4096) (r -ℤ l) ≡ false
  pub high : int_lt (pos 4096) (b -ℤ t) ≡ false

pub edges_told : (l t r b : ℤ) → is_no_rect l t r b ≡ false → WindowRect l t r b
edges_told l t r b h =
    let a = or_parts (is_outside l) _ h in
    let c = or_parts (is_outside t) _ a.1 in
    let d = or_parts (int_lt r l) _ c.1 in
    let e = or_parts (int_lt b t) _ d.1 in
    let f = or_parts (int_lt (pos 4096) (r -ℤ l)) (int_lt (pos 4096) (b -ℤ t)) e.1 in
    record { left = a.0; top = c.0; across = d.0; down = e.0; wide = f.0; high = f.1 }

-- edges of such a rectangle, as they are passed
pub record EdgesPassed (l t r b : ℤ) : Type 0 where
  pub left : to_z w64 (of_z w64 l) ≡ l
  pub top : to_z w64 (of_z w64 t) ≡ t
  pub right : to_z w64 (of_z w64 r) ≡ r
  pub bottom : to_z w64 (of_z w64 b) ≡ b

pub edges_passed : (l t r b : ℤ) → is_no_rect l t r b ≡ false → EdgesPassed l t r b
edges_passed l t r b h =
    let same = same_box l t r b (near_edges l t r b h) in
    record { left = ap (λ (x : Box). x.left) same; top = ap (λ (x : Box). x.top) same; right = ap (λ (x : Box). x.right) same; bottom = ap (λ (x : Box). x.bottom) same }

-- the corner of one with the size of the other, as its edges are passed
pub moved_passed : (c s : Box) (r b : ℤ) → is_no_rect c.left c.top c.right c.bottom ≡ false → is_no_rect s.left s.top s.right s.bottom ≡ false → r ≡ c.left +ℤ (s.right -ℤ s.left) → b ≡ c.top +ℤ (s.bottom -ℤ s.top)
    → (is_bad_rect (to_z w64 (of_z w64 c.left)) (to_z w64 (of_z w64 c.top)) (to_z w64 (of_z w64 r)) (to_z w64 (of_z w64 b)) ≡ false)
    × (box (to_z w64 (of_z w64 c.left)) (to_z w64 (of_z w64 c.top)) (to_z w64 (of_z w64 r)) (to_z w64 (of_z w64 b)) ≡ corner_and_size c s)
moved_passed c s r b hc hs er eb =
    let m = corner_and_size c s in
    let bad = near_edges m.left m.top m.right m.bottom (fits_moved c s hc hs) in
    let same = same_box m.left m.top m.right m.bottom bad in
    rw (er, eb) (ap (λ (x : Box). is_bad_rect x.left x.top x.right x.bottom) same ∙ bad, same)

same_int-true : (a b : ℤ) → same_int a b ≡ true → a ≡ b
same_int-true (pos m) (pos n) h = ap (λ (k : ℕ). pos k) (eqb-true m n h)
same_int-true (negsuc m) (negsuc n) h = ap (λ (k : ℕ). negsuc k) (eqb-true m n h)
same_int-true (pos m) (negsuc n) h = absurd (true≢false (sym h))
same_int-true (negsuc m) (pos n) h = absurd (true≢false (sym h))

same_int-refl : (a : ℤ) → same_int a a ≡ true
same_int-refl (pos m) = eq-eqb m m refl
same_int-refl (negsuc m) = eq-eqb m m refl

-- numbers of 32 bits are the same where they are kept the same
pub same_kept : (a b : ℤ) → SFits w32 a → SFits w32 b → eqb (of_z w32 a) (of_z w32 b) ≡ same_int a b
same_kept a b fa fb = pick (same_int a b) refl
  where
    pick : (c : Bool) → same_int a b ≡ c → eqb (of_z w32 a) (of_z w32 b) ≡ same_int a b
    pick true h = eq-eqb (of_z w32 a) (of_z w32 b) (ap (of_z w32) (same_int-true a b h)) ∙ sym h
    pick false h = ne_eqb (of_z w32 a) (of_z w32 b) (λ e. true≢false (sym (same_int-refl b) ∙ ap (λ z. same_int z b) (sym (sym (to_z-of_z w32 a fa) ∙ ap (to_z w32) e ∙ to_z-of_z w32 b fb)) ∙ h)) ∙ sym h

pub row_is : (o : Option KeptWindow) (row : WindowRow) → Some row ≡ option_map (λ (x : KeptWindow). x.row) o → (x : KeptWindow) × (o ≡ Some x) × (x.row ≡ row)
row_is None row e = absurd cc
row_is (Some x) row e = (x, refl, (let same : row ≡ x.row = cc in sym same))

pub row_fits : (ws : List KeptWindow) (w : ℕ) (row : WindowRow) → Some row ≡ option_map (λ (x : KeptWindow). x.row) (kept.window_of ws w) → Fitting ws w → is_no_rect row.place.l row.place.t row.place.r row.place.b ≡ false
row_fits ws w row found fits =
    let was = row_is (kept.window_of ws w) row found in
    ap (λ (r : WindowRow). is_no_rect r.place.l r.place.t r.place.r r.place.b) (sym was.2) ∙ fits was.0 was.1

pub changes_found : (ws : List KeptWindow) (w : ℕ) (flags : ℕ) (after : ℤ) (new : Box) (row : WindowRow) → Some row ≡ option_map (λ (x : KeptWindow). x.row) (kept.window_of ws w) → changes_told (look_in row) (placed flags after new (look_in row)) ≡ changes_in ws w flags after new
changes_found ws w flags after new row found =
    let was = row_is (kept.window_of ws w) row found in
    ap (λ (r : WindowRow). changes_told (look_in r) (placed flags after new (look_in r))) (sym was.2)
    ∙ ap (λ (o : Option KeptWindow). elim o as (λ p. ℕ) [ None ↦ 0 | Some x ↦ changes_told (look_in x.row) (placed flags after new (look_in x.row)) ]) (sym was.1)

pub relooked_by : (old new : Windows) (w : ℕ) (f : Look → Look) (row : WindowRow) (s x : ℕ) (place : Rect) → Some row ≡ option_map (λ (y : KeptWindow). y.row) (kept.window_of old.live w) → look_of s x (box_in place) ≡ f (look_in row) → new ≡ record old { live = map (set_if w s x place) old.live } → IsRelooked w f old new
relooked_by old new w f row s x place found is made =
    let was = row_is (kept.window_of old.live w) row found in
    let same : f (look_in was.0.row) ≡ look_of s x (box_in place) = ap (λ (r : WindowRow). f (look_in r)) was.2 ∙ sym is in
    record {
      was = was.0;
      found = was.1;
      place = place;
      is_place = sym (ap (λ (z : Look). z.place) same);
      is_new = made ∙ (ap (λ (n : ℕ). record old { live = map (set_if w n x place) old.live }) (sym (ap (λ (z : Look). z.style) same))
          ∙ ap (λ (n : ℕ). record old { live = map (set_if w (f (look_in was.0.row)).style n place) old.live }) (sym (ap (λ (z : Look). z.ex) same)));
    }

-- how a live window looks
look_found : (past : Past) (t : Windows) (at : IsTreeAt past t) (w : ℕ) (x : KeptWindow) → kept.window_of t.live w ≡ Some x → look_in x.row ≡ look past w
look_found past t at w x e =
    (all_found (HasLook past) (λ y. eqb y.number.0 w) t.live x at.looks e).looks
    ∙ ap (look past) (eqb-true x.number.0 w (found_passes (λ y. eqb y.number.0 w) t.live x e))

-- ---- what such a call needs

pub places_fit : (past : Past) (t : Windows) (w : ℕ) → IsTreeAt past t → Fitting t.live w
places_fit past t w at x found = (all_found (HasLook past) (λ y. eqb y.number.0 w) t.live x at.looks found).fits

pub fits_looking : (setup : Setup) (past : Past) (t : Windows) (who n : ℕ) (call : Call) → IsTreeAt past t → reply setup past who call ≡ answers.Value n → FitsLooking t call
fits_looking setup past t who n (calls.Place w after l top r b flags) at right =
    let told = place_told setup past who w after l top r b flags n right in
    (sym (is_live_at past t at w) ∙ told.lives, told.good_edges, places_fit past t w at)
fits_looking setup past t who n (calls.Show w on) at right = sym (is_live_at past t at w) ∙ show_told setup past who w on n right
fits_looking setup past t who n (calls.Enable w on) at right = sym (is_live_at past t at w) ∙ enable_told setup past who w on n right
fits_looking setup past t who n _ at right = tt

-- ---- what the table tells of looks

-- the style bits of a live window
pub style_at : (past : Past) (t : Windows) (w : ℕ) → IsTreeAt past t → is_live past w ≡ true → style_in t.live w ≡ style_of past w
style_at past t w at lives = pick (kept.window_of t.live w) refl
  where
    pick : (o : Option KeptWindow) → kept.window_of t.live w ≡ o → style_in t.live w ≡ style_of past w
    pick None e = absurd (false≢true (sym (is_live_at past t at w ∙ ap (λ (o : Option KeptWindow). is_some o) e) ∙ lives))
    pick (Some x) e = ap (λ (o : Option KeptWindow). elim o as (λ p. ℕ) [ None ↦ 0 | Some x ↦ x.row.style ]) e ∙ ap (λ (z : Look). z.style) (look_found past t at w x e)

-- whether a window has WS_VISIBLE
pub shown_at : (past : Past) (t : Windows) (w : ℕ) → IsTreeAt past t → shown_in t.live w ≡ (is_live past w && is_shown past w)
shown_at past t w at = pick (kept.window_of t.live w) refl
  where
    pick : (o : Option KeptWindow) → kept.window_of t.live w ≡ o → shown_in t.live w ≡ (is_live past w && is_shown past w)
    pick None e =
        ap (λ (o : Option KeptWindow). elim o as (λ p. Bool) [ None ↦ false | Some x ↦ has_flag x.row.style WS_VISIBLE ]) e
        ∙ ap (λ b. b && is_shown past w) (sym (is_live_at past t at w ∙ ap (λ (o : Option KeptWindow). is_some o) e))
    pick (Some x) e =
        ap (λ (o : Option KeptWindow). elim o as (λ p. Bool) [ None ↦ false | Some x ↦ has_flag x.row.style WS_VISIBLE ]) e
        ∙ (ap (λ (z : Look). has_flag z.style WS_VISIBLE) (look_found past t at w x e)
        ∙ ap (λ b. b && is_shown past w) (sym (is_live_at past t at w ∙ ap (λ (o : Option KeptWindow). is_some o) e)))

-- whether a window has WS_DISABLED
pub disabled_at : (past : Past) (t : Windows) (w : ℕ) → IsTreeAt past t → disabled_in t.live w ≡ (is_live past w && is_disabled past w)
disabled_at past t w at = pick (kept.window_of t.live w) refl
  where
    pick : (o : Option KeptWindow) → kept.window_of t.live w ≡ o → disabled_in t.live w ≡ (is_live past w && is_disabled past w)
    pick None e =
        ap (λ (o : Option KeptWindow). elim o as (λ p. Bool) [ None ↦ false | Some x ↦ has_flag x.row.style WS_DISABLED ]) e
        ∙ ap (λ b. b && is_disabled past w) (sym (is_live_at past t at w ∙ ap (λ (o : Option KeptWindow). is_some o) e))
    pick (Some x) e =
        ap (λ (o : Option KeptWindow). elim o as (λ p. Bool) [ None ↦ false | Some x ↦ has_flag x.row.style WS_DISABLED ]) e
        ∙ (ap (λ (z : Look). has_flag z.style WS_DISABLED) (look_found past t at w x e)
        ∙ ap (λ b. b && is_disabled past w) (sym (is_live_at past t at w ∙ ap (λ (o : Option KeptWindow). is_some o) e)))

-- what a placing would change
pub changes_at : (past : Past) (t : Windows) (w : ℕ) (flags : ℕ) (after : ℤ) (new : Box) → IsTreeAt past t → kept.is_live t.live w ≡ true → changes_in t.live w flags after new ≡ changes_told (look past w) (placed flags after new (look past w))
changes_at past t w flags after new at lives = pick (kept.window_of t.live w) refl
  where
    pick : (o : Option KeptWindow) → kept.window_of t.live w ≡ o → changes_in t.live w flags after new ≡ changes_told (look past w) (placed flags after new (look past w))
    pick None e = absurd (true≢false (sym lives ∙ ap (λ (o : Option KeptWindow). is_some o) e))
    pick (Some x) e =
        ap (λ (o : Option KeptWindow). elim o as (λ p. ℕ) [ None ↦ 0 | Some x ↦ changes_told (look_in x.row) (placed flags after new (look_in x.row)) ]) e
        ∙ ap (λ (z : Look). changes_told z (placed flags after new z)) (look_found past t at w x e)
