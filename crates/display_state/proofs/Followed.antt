-- The display after an entry that draws nothing is that of the past with the entry.
use Rattle.std.proofs.Common.{◌≡◌, ◌∙◌, ℕ, zero, suc, ◌+◌, ◌*◌, ◌<◌, get_or, replicate, Result, Ok, Err, Bool, true, false, cond, eqb, List, [], ◌∷◌, map, Option, Some, None, refl, sym, ap, subst, arith}
use Rattle.std.specs.Prelude.{◌&&◌, IfOk, IfSome, ℤ, pos, negsuc, ◌≤ℤ◌, ◌<ℤ◌}
use Rattle.std.proofs.lemmas.Bool.{eqb-true, false≢true}
use Rattle.std.proofs.lemmas.Int.{ints}
use Rattle.win_num.specs.declared.shapes.Point.{Point}
use Rattle.win_num.specs.declared.shapes.Rect.{Rect}
use Rattle.win_num.specs.PixelSets.{has_pixel}
use Rattle.win_rows.specs.Windows.{Windows}
use Rattle.win_order.specs.Layers.{Layers}
use Rattle.band_region.specs.Regions.{moved_back, region_has}
use Rattle.band_region.proofs.Pixels.{IsAt, at_from_has}
use Rattle.screen_buf.specs.Pictures.{Picture, IsCarried, IsPainted, LiesOn, blank, colour_at, pixel}
use Rattle.user_model.specs.declared.entry.Entry.{Entry}
use Rattle.user_model.specs.declared.entry.Setup.{Setup}
use Rattle.user_model.specs.Past.{Past, is_refused}
use Rattle.user_model.specs.Colours.{colour, frame}
use Rattle.user_model.specs.Dirty.{carries}
use Rattle.user_model.specs.Pixels.{owner, screen}
use Rattle.user_model.specs.ZOrder.{hwnd}
use Rattle.screen_owners.specs.declared.owners.Owned.{Owned}
use Rattle.screen_owners.specs.Owners.{region_in}
use Rattle.screen_state.specs.Owned.{AreOwnersAt}
use Rattle.screen_state.specs.Screens.{Change, FollowsCarried, FollowsScreen, IsChangeAt, IsChangeOn, IsScreenAt, Kept, draws, replaced}
use Rattle.screen_state.specs.Carrying.{IsCarriedAt, IsOnScreen}
use Rattle.display_state.specs.Displays.{FitsDisplay, FollowsDisplay, IsBaring, IsCarrying, IsDisplayAt, IsMoved, IsRecoloured, IsShown, Shown}
use Rattle.user_model.proofs.ColourLaws.{bare_is_0, colour-carried}
use Rattle.display_state.proofs.Painted.{colour_stays, is_colouring, refused_carries, snapped_stays, uncoloured}

-- a picture of the colours of a past
pub record IsPictureAt (setup : Setup) (past : Past) (c : Picture) : Type 0 where
  pub width : c.width ≡ setup.width
  pub height : c.height ≡ setup.height
  pub colours : (x y : ℕ) → x < setup.width → y < setup.height → colour_at c x y ≡ colour setup past (pixel x y)

pub on_screen : (setup : Setup) (x y : ℕ) → x < setup.width → y < setup.height → has_pixel (screen setup) (pixel x y) ≡ true
on_screen setup x y f g = grind (arith, ints)

-- the region that no window owns has the pixels of the screen without owner
bare_on : (setup : Setup) (past : Past) (os : List Owned) (p : Point) → AreOwnersAt setup past os → has_pixel (screen setup) p ≡ true → region_has (region_in os 0) p ≡ eqb (owner setup past p).0 0
bare_on setup past os p own on = own (hwnd 0) p ∙ ap (λ b. b && eqb (owner setup past p).0 0) on

-- a pixel of the screen, by its column and row
record Spot (setup : Setup) (q : Point) : Type 0 where
  pub across : ℕ
  pub down : ℕ
  pub in_width : across < setup.width
  pub in_height : down < setup.height
  pub is : q ≡ pixel across down

spot_of : (setup : Setup) (q : Point) → has_pixel (screen setup) q ≡ true → Spot setup q
spot_of setup q on = found q.x q.y at.left at.right at.top at.bottom
  where
    at : IsAt (screen setup) q
    at = at_from_has (screen setup) q on

    found : (x y : ℤ) → pos 0 ≤ℤ x → x <ℤ pos setup.width → pos 0 ≤ℤ y → y <ℤ pos setup.height → Spot setup (record { x = x; y = y })
    found (pos u) (pos v) a b c d = record { across = u; down = v; in_width = omega (arith, ints); in_height = omega (arith, ints); is = refl }
    found (negsuc u) y a b c d = absurd (omega (arith, ints))
    found (pos u) (negsuc v) a b c d = absurd (omega (arith, ints))

module _ (setup : Setup) (past : Past) (e : Entry) (old : Shown) (idle : is_refused e ≡ false → is_colouring e.call ≡ false) (was : IsDisplayAt setup past old) where
  -- where the owners stay, and no pixel is carried
  same_picture : AreOwnersAt setup (e ∷ past) old.screen.owners → ((w : ℕ) (p : Point) → carries setup e past w p ≡ false) → IsPictureAt setup (e ∷ past) old.colours
  same_picture own none_carried = record { width = was.width; height = was.height; colours = λ x y f g. was.colours x y f g ∙ sym (same (pixel x y) (on_screen setup x y f g)) }
    where
      same : (p : Point) → has_pixel (screen setup) p ≡ true → colour setup (e ∷ past) p ≡ colour setup past p
      same p on = by (eqb (owner setup (e ∷ past) p).0 0) refl
        where
          by : (b : Bool) → eqb (owner setup (e ∷ past) p).0 0 ≡ b → colour setup (e ∷ past) p ≡ colour setup past p
          by true none =
              let before : eqb (owner setup past p).0 0 ≡ true = sym (bare_on setup past old.screen.owners p was.screen.owners on) ∙ (bare_on setup (e ∷ past) old.screen.owners p own on ∙ none) in
              bare_is_0 setup (e ∷ past) p (eqb-true (owner setup (e ∷ past) p).0 0 none) ∙ sym (bare_is_0 setup past p (eqb-true (owner setup past p).0 0 before))
          by false some = colour_stays setup past e idle p some (none_carried (owner setup (e ∷ past) p).0 p)

  -- and where others come
  moved_picture : (c : Change) (new : Picture) → AreOwnersAt setup (e ∷ past) c.owners → IsOnScreen setup c.carried c.dx c.dy → IsCarriedAt setup e past c.carried c.dx c.dy → IsMoved c old.colours new → IsPictureAt setup (e ∷ past) new
  moved_picture c new own near at moved = record {
    width = moved.bared.width ∙ (moved.carried.width ∙ was.width);
    height = moved.bared.height ∙ (moved.carried.height ∙ was.height);
    colours = λ x y f g. moved.bared.colours x y (subst (λ n. x < n) (sym (moved.carried.width ∙ was.width)) f) (subst (λ n. y < n) (sym (moved.carried.height ∙ was.height)) g) ∙ coloured x y f g;
  }
    where
      mid : Picture
      mid = moved.mid

      -- the colour that came with a carried pixel
      brought : (x y : ℕ) → x < setup.width → y < setup.height → region_has c.carried (pixel x y) ≡ true → colour_at mid x y ≡ colour setup past (moved_back c.dx c.dy (pixel x y))
      brought x y f g has =
          let from = spot_of setup (moved_back c.dx c.dy (pixel x y)) (near.there (pixel x y) has) in
          moved.carried.carried x y from.across from.down (subst (λ n. x < n) (sym was.width) f) (subst (λ n. y < n) (sym was.height) g) has from.is
          ∙ (was.colours from.across from.down from.in_width from.in_height ∙ ap (colour setup past) (sym from.is))

      carried_to : (x y : ℕ) → x < setup.width → y < setup.height → region_has c.carried (pixel x y) ≡ true → colour_at mid x y ≡ colour setup (e ∷ past) (pixel x y)
      carried_to x y f g has = by (is_refused e) refl
        where
          w : ℕ
          w = (owner setup (e ∷ past) (pixel x y)).0

          carried : carries setup e past w (pixel x y) ≡ true
          carried = sym (at.pixels (pixel x y)) ∙ has

          by : (b : Bool) → is_refused e ≡ b → colour_at mid x y ≡ colour setup (e ∷ past) (pixel x y)
          by true h = absurd (false≢true (sym (refused_carries setup past e w (pixel x y) h) ∙ carried))
          by false h =
              brought x y f g has
              ∙ (ap (colour setup past) (sym (at.from w (pixel x y) carried))
              ∙ sym (colour-carried setup e past (pixel x y) w h carried))

      stayed : (x y : ℕ) → x < setup.width → y < setup.height → region_has c.carried (pixel x y) ≡ false → eqb (owner setup (e ∷ past) (pixel x y)).0 0 ≡ false → colour_at mid x y ≡ colour setup (e ∷ past) (pixel x y)
      stayed x y f g none some =
          moved.carried.kept x y (subst (λ n. x < n) (sym was.width) f) (subst (λ n. y < n) (sym was.height) g) none
          ∙ (was.colours x y f g
          ∙ sym (colour_stays setup past e idle (pixel x y) some (sym (at.pixels (pixel x y)) ∙ none)))

      pick : (x y : ℕ) → x < setup.width → y < setup.height → (bare : Bool) → eqb (owner setup (e ∷ past) (pixel x y)).0 0 ≡ bare → (has : Bool) → region_has c.carried (pixel x y) ≡ has → cond bare 0 (colour_at mid x y) ≡ colour setup (e ∷ past) (pixel x y)
      pick x y f g true none has is = sym (bare_is_0 setup (e ∷ past) (pixel x y) (eqb-true (owner setup (e ∷ past) (pixel x y)).0 0 none))
      pick x y f g false some true is = carried_to x y f g is
      pick x y f g false some false is = stayed x y f g is some

      coloured : (x y : ℕ) → x < setup.width → y < setup.height → cond (region_has (region_in c.owners 0) (pixel x y)) 0 (colour_at mid x y) ≡ colour setup (e ∷ past) (pixel x y)
      coloured x y f g =
          ap (λ b. cond b 0 (colour_at mid x y)) (bare_on setup (e ∷ past) c.owners (pixel x y) own (on_screen setup x y f g))
          ∙ pick x y f g (eqb (owner setup (e ∷ past) (pixel x y)).0 0) refl (region_has c.carried (pixel x y)) refl

  pub taken_picture : (o : Option Change) (new : Picture) → IsRecoloured o old.colours new → AreOwnersAt setup (e ∷ past) (replaced o old.screen).owners → IfSome o (IsChangeOn setup) → IsChangeAt setup e past o → IsPictureAt setup (e ∷ past) new
  taken_picture None new same own near at = subst (IsPictureAt setup (e ∷ past)) (sym same) (same_picture own at)
  taken_picture (Some c) new moved own near at = moved_picture c new own near at moved

pub display_follows : (setup : Setup) (t : Windows) (z : Layers) (o : Option Change) (e : Entry) (old : Shown) → FollowsScreen setup t z e old.screen (replaced o old.screen) → FollowsCarried setup t z e old.screen o → IfSome o (IsChangeOn setup) → draws e.call e.answer ≡ false → FollowsDisplay setup t z o e old
display_follows setup t z o e old follows carrying near quiet past new shown lawful tree order right was =
    let at : IsScreenAt setup (e ∷ past) (replaced o old.screen) = follows past lawful tree order right was.screen in
    let idle : is_refused e ≡ false → is_colouring e.call ≡ false = λ fine. uncoloured setup past e.who.0 e.call e.answer (sym right) fine quiet in
    let picture : IsPictureAt setup (e ∷ past) new.colours = taken_picture setup past e old idle was o new.colours shown.colours at.owners near (carrying past lawful tree order right was.screen) in
    record {
      screen = subst (IsScreenAt setup (e ∷ past)) (sym shown.screen) at;
      width = picture.width;
      height = picture.height;
      colours = picture.colours;
      frames = shown.frames ∙ (was.frames ∙ ap (map (frame setup)) (sym (snapped_stays setup past e idle)));
    }

-- ---- before any entry

pub none_shown : (setup : Setup) (s : Kept) (q : Picture) (fs : List (List ℕ)) → IsScreenAt setup [] s → q ≡ blank setup.width setup.height → fs ≡ [] → IsDisplayAt setup [] (record { screen = s; colours = q; frames = fs })
none_shown setup s q fs at blank_one none = record {
  screen = at;
  width = ap (λ (b : Picture). b.width) blank_one;
  height = ap (λ (b : Picture). b.height) blank_one;
  colours = λ x y f g. ap (λ (b : Picture). colour_at b x y) blank_one ∙ zeros (setup.height * setup.width) (y * setup.width + x);
  frames = none;
}
  where
    zeros : (n i : ℕ) → get_or (replicate n zero) i zero ≡ zero
    zeros zero i = refl
    zeros (suc n) zero = refl
    zeros (suc n) (suc i) = zeros n i

pub none_listed : {X : Type 0} (f : X → List ℕ) (xs : List X) → xs ≡ [] → map f xs ≡ []
none_listed f xs none = ap (map f) none

-- ---- what was taken over

-- nothing came
pub kept_shown : (d : Shown) → IsShown None d d
kept_shown d = record { screen = refl; colours = refl; frames = refl }

-- and where nothing came, all is as before
pub none_taken : (old new : Shown) → IsShown None old new → new ≡ old
none_taken old new shown =
    ap (λ (s : Kept). record { screen = s; colours = new.colours; frames = new.frames }) shown.screen
    ∙ (ap (λ (q : Picture). record { screen = old.screen; colours = q; frames = new.frames }) shown.colours
    ∙ ap (λ (fs : List (List ℕ)). record { screen = old.screen; colours = old.colours; frames = fs }) shown.frames)

-- where the screen's colours are carried as a change says
pub carrying : (c : Change) (old new : Shown) (q : Picture) (rs : List Rect) (dx dy : ℤ) → q ≡ old.colours → rs ≡ c.carried → dx ≡ c.dx → dy ≡ c.dy → IsCarried q (λ p. region_has rs p) dx dy new.colours → new.screen ≡ old.screen → new.frames ≡ old.frames → IsCarrying c old new
carrying c old new q rs dx dy same region across down moved screen frames = record {
  screen = screen;
  colours =
      subst (λ y. IsCarried old.colours (λ p. region_has c.carried p) c.dx y new.colours) down
      (subst (λ x. IsCarried old.colours (λ p. region_has c.carried p) x dy new.colours) across
      (subst (λ (r : List Rect). IsCarried old.colours (λ p. region_has r p) dx dy new.colours) region
      (subst (λ (b : Picture). IsCarried b (λ p. region_has rs p) dx dy new.colours) same moved)));
  frames = frames;
}

-- where other owners come, pixels are carried and the pixels without an owner are painted
pub come_shown : (c : Change) (old carried mid new : Shown) → IsCarrying c old carried → mid.screen ≡ replaced (Some c) carried.screen → mid.colours ≡ carried.colours → mid.frames ≡ carried.frames → IsBaring mid new → IsShown (Some c) old new
come_shown c old carried mid new moving screen colours frames bared =
    let screens : mid.screen ≡ replaced (Some c) old.screen = screen ∙ ap (replaced (Some c)) moving.screen in
    record {
      screen = bared.screen ∙ screens;
      colours = record {
        mid = carried.colours;
        carried = moving.colours;
        bared =
            subst (λ (q : Picture). IsPainted q (λ p. region_has (region_in c.owners 0) p) 0 new.colours) colours
            (subst (λ (s : Kept). IsPainted mid.colours (λ p. region_has (region_in s.owners 0) p) 0 new.colours) screens bared.colours);
      };
      frames = bared.frames ∙ (frames ∙ moving.frames);
    }

-- ---- what the screen has answered

pub told_after : {E : Type 0} (q : Result (Option Change) E) (setup : Setup) (t : Windows) (z : Layers) (e : Entry) (s : Kept) (d : Shown) → s ≡ d.screen
    → IfOk q (λ (o : Option Change). draws e.call e.answer ≡ false → FollowsScreen setup t z e s (replaced o s))
    → IfOk q (λ (o : Option Change). draws e.call e.answer ≡ false → FollowsCarried setup t z e s o)
    → IfOk q (λ (o : Option Change). IfSome o (IsChangeOn setup))
    → IfOk q (λ (o : Option Change). draws e.call e.answer ≡ false → FollowsDisplay setup t z o e d)
told_after (Err x) setup t z e s d same told carrying near = tt
told_after (Ok o) setup t z e s d same told carrying near = λ quiet.
    display_follows setup t z o e d (subst (λ (k : Kept). FollowsScreen setup t z e k (replaced o k)) same (told quiet)) (subst (λ (k : Kept). FollowsCarried setup t z e k o) same (carrying quiet)) near quiet

-- what comes fits the display
pub told_near : {E : Type 0} (q : Result (Option Change) E) (setup : Setup) (past : Past) (d : Shown) → IsDisplayAt setup past d → IfOk q (λ (o : Option Change). IfSome o (IsChangeOn setup)) → IfOk q (λ (o : Option Change). FitsDisplay o d)
told_near (Err x) setup past d was near = tt
told_near (Ok None) setup past d was near = tt
told_near (Ok (Some c)) setup past d was near =
    subst (λ n. LiesOn n d.colours.height (λ p. region_has c.carried p) c.dx c.dy) (sym was.width)
    (subst (λ n. LiesOn setup.width n (λ p. region_has c.carried p) c.dx c.dy) (sym was.height) (record { here = near.here; there = near.there }))
