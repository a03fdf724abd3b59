-- The pixels that are carried are those that the entry carries.
use Rattle.std.proofs.Common.{◌≡◌, ◌∙◌, ℕ, Bool, true, false, not, eqb, List, [], ◌∷◌, Option, Some, None, refl, sym, ap}
use Rattle.std.specs.Prelude.{◌&&◌, ◌||◌, ℤ}
use Rattle.std.specs.List.{list_any}
use Rattle.std.proofs.lemmas.Bool.{eqb-true, eqb-false, false≢true, true≢false, false_from_ne_true}
use Rattle.win_num.specs.declared.message.Hwnd.{Hwnd}
use Rattle.win_num.specs.declared.shapes.Point.{Point}
use Rattle.win_num.specs.declared.shapes.Rect.{Rect}
use Rattle.win_num.specs.PixelSets.{has_pixel}
use Rattle.win_order.proofs.Booleans.{and_left, and_right}
use Rattle.band_region.specs.Regions.{region_has}
use Rattle.user_model.specs.declared.entry.Entry.{Entry}
use Rattle.user_model.specs.declared.entry.Setup.{Setup}
use Rattle.user_model.specs.Past.{Past}
use Rattle.user_model.specs.Legal.{IsLawful}
use Rattle.user_model.specs.Windows.{is_live}
use Rattle.user_model.specs.Pixels.{owner, screen}
use Rattle.user_model.specs.Dirty.{came_from, carries, copies_bits, is_dirty, moves, owns}
use Rattle.screen_owners.specs.declared.owners.Owned.{Owned}
use Rattle.screen_owners.specs.Owners.{region_in}
use Rattle.dirty_windows.specs.declared.carry.Shift.{Shift}
use Rattle.dirty_windows.specs.Carrying.{brings, brings_any, source}
use Rattle.dirty_windows.specs.LookUps.{area_in, is_among}
use Rattle.screen_state.specs.declared.carry.Carried.{Carried}
use Rattle.screen_state.specs.Carried.{screen_in, IsCarriedBy}
use Rattle.screen_state.specs.Carrying.{IsCarriedAt, IsOnScreen, MovesBy}
use Rattle.screen_state.specs.Owned.{AreOwnersAt}
use Rattle.screen_state.specs.Screens.{Kept, IsScreenAt}
use Rattle.screen_state.proofs.Owning.{dead_owns, owner_stands_there, region_owns}

none_of : (b : Bool) → (b && false) ≡ false
none_of true = refl
none_of false = refl

all_of : (b : Bool) → (b && true) ≡ b
all_of true = refl
all_of false = refl

-- what a carried pixel is told by: the window's number isn't 0, and the pixel and the one that it comes from are on the screen and owned
bring_pick : (z was dirt on_there now on_here : Bool) → ((not z && now) ≡ true → on_here ≡ true) → ((not z && was) ≡ true → on_there ≡ true)
    → (not z && (((was && not dirt) && on_there) && (now && on_here))) ≡ ((not z && now) && ((not z && was) && not dirt))
bring_pick true was dirt on_there now on_here here there = refl
bring_pick false false dirt on_there false on_here here there = refl
bring_pick false false dirt on_there true on_here here there = refl
bring_pick false true dirt on_there false on_here here there = none_of (not dirt && on_there)
bring_pick false true dirt on_there true on_here here there = ap (λ b. (not dirt && b) && on_here) (there refl) ∙ (ap (λ b. (not dirt && true) && b) (here refl) ∙ (all_of (not dirt && true) ∙ all_of (not dirt)))

-- what is true of one window alone
only_one : (test : ℕ → Bool) (v : ℕ) (hs : List Hwnd) → ((h : ℕ) → eqb h v ≡ false → test h ≡ false) → list_any (λ (h : Hwnd). test h.0) hs ≡ (is_among v hs && test v)
only_one test v [] none = refl
only_one test v (h ∷ hs) none = by (eqb h.0 v) refl (only_one test v hs none)
  where
    first : (b rest : Bool) → (b || (rest && b)) ≡ b
    first true rest = refl
    first false true = refl
    first false false = refl

    by : (b : Bool) → eqb h.0 v ≡ b → list_any (λ (h : Hwnd). test h.0) hs ≡ (is_among v hs && test v) → (test h.0 || list_any (λ (h : Hwnd). test h.0) hs) ≡ ((b || is_among v hs) && test v)
    by true is rest = ap (λ n. test n || list_any (λ (h : Hwnd). test h.0) hs) (eqb-true h.0 v is) ∙ (ap (λ b. test v || b) rest ∙ first (test v) (is_among v hs))
    by false is rest = ap (λ b. b || list_any (λ (h : Hwnd). test h.0) hs) (none h.0 is) ∙ rest

module _ (setup : Setup) (past : Past) (e : Entry) (lawful : IsLawful setup (e ∷ past)) (old : Kept) (os : List Owned) (moved : List Hwnd)
    (was : IsScreenAt setup past old) (own : AreOwnersAt setup (e ∷ past) os)
    (shift : (w : ℕ) → is_live past w ≡ true → is_live (e ∷ past) w ≡ true → is_among w moved ≡ moves e past w) where
  -- who owns a pixel after the entry and before it, for one window
  owned_now : (w : ℕ) (p : Point) → (not (eqb w 0) && region_has (region_in os w) p) ≡ owns setup (e ∷ past) w p
  owned_now w p = region_owns setup (e ∷ past) lawful os own w p

  owned_before : (w : ℕ) (p : Point) → (not (eqb w 0) && region_has (region_in old.owners w) p) ≡ owns setup past w p
  owned_before w p = region_owns setup past lawful.0 old.owners was.owners w p

  -- a window that carries a pixel was live, and is
  carries_owns : (w : ℕ) (p : Point) → carries setup e past w p ≡ true → (owns setup (e ∷ past) w p ≡ true) × (owns setup past w (came_from e past w p) ≡ true)
  carries_owns w p is =
      let both = and_right (copies_bits e.call && moves e past w) (owns setup (e ∷ past) w p && (owns setup past w (came_from e past w p) && not (is_dirty setup past w (came_from e past w p)))) is in
      (and_left (owns setup (e ∷ past) w p) _ both, and_left (owns setup past w (came_from e past w p)) _ (and_right (owns setup (e ∷ past) w p) _ both))

  carries_moves : (w : ℕ) (p : Point) → carries setup e past w p ≡ true → moves e past w ≡ true
  carries_moves w p is = and_right (copies_bits e.call) (moves e past w) (and_left (copies_bits e.call && moves e past w) _ is)

  carries_lives : (w : ℕ) (p : Point) → carries setup e past w p ≡ true → (is_live past w ≡ true) × (is_live (e ∷ past) w ≡ true)
  carries_lives w p is =
      let both = carries_owns w p is in
      ((owner_stands_there setup past lawful.0 w (came_from e past w p) both.1).lives, (owner_stands_there setup (e ∷ past) lawful w p both.0).lives)

  module _ (s : Shift) (by_all : MovesBy past e s) where
    brings_is : (w : ℕ) (p : Point) → brings old.dirty old.owners os (screen_in setup) s w p ≡ (owns setup (e ∷ past) w p && (owns setup past w (source s p) && not (is_dirty setup past w (source s p))))
    brings_is w p =
        bring_pick (eqb w 0) (region_has (region_in old.owners w) (source s p)) (region_has (area_in old.dirty w) (source s p)) (has_pixel (screen setup) (source s p)) (region_has (region_in os w) p) (has_pixel (screen setup) p)
        (λ h. (owner_stands_there setup (e ∷ past) lawful w p (sym (owned_now w p) ∙ h)).on)
        (λ h. (owner_stands_there setup past lawful.0 w (source s p) (sym (owned_before w (source s p)) ∙ h)).on)
        ∙ (ap (λ b. b && ((not (eqb w 0) && region_has (region_in old.owners w) (source s p)) && not (region_has (area_in old.dirty w) (source s p)))) (owned_now w p)
        ∙ (ap (λ b. owns setup (e ∷ past) w p && (b && not (region_has (area_in old.dirty w) (source s p)))) (owned_before w (source s p))
        ∙ ap (λ b. owns setup (e ∷ past) w p && (owns setup past w (source s p) && not b)) (was.dirty w (source s p))))

    -- for one of the windows that moved
    carries_is : (w : ℕ) (p : Point) → (is_among w moved && (owns setup (e ∷ past) w p && (owns setup past w (source s p) && not (is_dirty setup past w (source s p))))) ≡ carries setup e past w p
    carries_is w p = by (owns setup (e ∷ past) w p) refl (is_live past w) refl
      where
        now : Bool
        now = owns setup (e ∷ past) w p

        told : Point → Bool
        told q = owns setup past w q && not (is_dirty setup past w q)

        dead : (q : Point) → is_live past w ≡ false → told q ≡ false
        dead q gone = ap (λ b. b && not (is_dirty setup past w q)) (dead_owns setup past lawful.0 w q gone)

        as_moved : (m : Bool) → moves e past w ≡ m → is_live past w ≡ true → is_live (e ∷ past) w ≡ true → (m && (now && told (source s p))) ≡ ((copies_bits e.call && m) && (now && told (came_from e past w p)))
        as_moved true is lives left = ap (λ q. now && told q) (sym (by_all.from w p lives left is)) ∙ ap (λ b. (b && true) && (now && told (came_from e past w p))) (sym by_all.copies)
        as_moved false is lives left = ap (λ b. b && (now && told (came_from e past w p))) (sym (none_of (copies_bits e.call)))

        by : (b : Bool) → owns setup (e ∷ past) w p ≡ b → (c : Bool) → is_live past w ≡ c → (is_among w moved && (now && told (source s p))) ≡ ((copies_bits e.call && moves e past w) && (now && told (came_from e past w p)))
        by false k c l =
            ap (λ b. is_among w moved && (b && told (source s p))) k
            ∙ (none_of (is_among w moved) ∙ sym (ap (λ b. (copies_bits e.call && moves e past w) && (b && told (came_from e past w p))) k ∙ none_of (copies_bits e.call && moves e past w)))
        by true k true lives =
            let left = (owner_stands_there setup (e ∷ past) lawful w p k).lives in
            ap (λ b. b && (now && told (source s p))) (shift w lives left) ∙ as_moved (moves e past w) refl lives left
        by true k false gone =
            ap (λ b. is_among w moved && (now && b)) (dead (source s p) gone)
            ∙ (ap (λ b. is_among w moved && b) (none_of now)
            ∙ (none_of (is_among w moved)
            ∙ sym (ap (λ b. (copies_bits e.call && moves e past w) && (now && b)) (dead (came_from e past w p) gone) ∙ (ap (λ b. (copies_bits e.call && moves e past w) && b) (none_of now) ∙ none_of (copies_bits e.call && moves e past w)))))

    -- no window but the owner carries a pixel
    brings_none : (w : ℕ) (p : Point) → eqb w (owner setup (e ∷ past) p).0 ≡ false → brings old.dirty old.owners os (screen_in setup) s w p ≡ false
    brings_none w p other = brings_is w p ∙ ap (λ b. b && (owns setup past w (source s p) && not (is_dirty setup past w (source s p)))) (false_from_ne_true (owns setup (e ∷ past) w p) (λ is. eqb-false w (owner setup (e ∷ past) p).0 other (sym (eqb-true (owner setup (e ∷ past) p).0 w (and_right (not (eqb w 0)) _ is)))))

    brings_any_is : (p : Point) → brings_any old.dirty old.owners os (screen_in setup) s moved p ≡ carries setup e past (owner setup (e ∷ past) p).0 p
    brings_any_is p =
        let v = (owner setup (e ∷ past) p).0 in
        only_one (λ w. brings old.dirty old.owners os (screen_in setup) s w p) v moved (λ w other. brings_none w p other)
        ∙ (ap (λ b. is_among v moved && b) (brings_is v p) ∙ carries_is v p)

    pub carried_move : (c : Carried) → IsCarriedBy setup old os moved (Some s) c → IsCarriedAt setup e past c.region c.shift.dx c.shift.dy
    carried_move c told = record {
      pixels = λ p. told.1 p ∙ brings_any_is p;
      from = λ w p is. let lives = carries_lives w p is in by_all.from w p lives.0 lives.1 (carries_moves w p is) ∙ ap (λ (t : Shift). source t p) (sym told.0);
    }

  -- where the entry carries nothing
  pub carried_none : (c : Carried) → IsCarriedBy setup old os moved None c → ((w : ℕ) (p : Point) → carries setup e past w p ≡ false) → IsCarriedAt setup e past c.region c.shift.dx c.shift.dy
  carried_none c told none = record {
    pixels = λ p. told p ∙ sym (none (owner setup (e ∷ past) p).0 p);
    from = λ w p is. absurd (true≢false (sym is ∙ none w p));
  }

  -- what the screen has of it for one window
  module _ (rs : List Rect) (dx dy : ℤ) (at : IsCarriedAt setup e past rs dx dy) where
    pub carried_for : (w : ℕ) (p : Point) → owns setup (e ∷ past) w p ≡ true → (is_among w moved && region_has rs p) ≡ carries setup e past w p
    carried_for w p is = ap (λ b. is_among w moved && b) (at.pixels p ∙ ap (λ v. carries setup e past v p) (eqb-true (owner setup (e ∷ past) p).0 w (and_right (not (eqb w 0)) _ is))) ∙ by (carries setup e past w p) refl
      where
        by : (b : Bool) → carries setup e past w p ≡ b → (is_among w moved && b) ≡ b
        by false k = none_of (is_among w moved)
        by true k = let lives = carries_lives w p k in ap (λ b. b && true) (shift w lives.0 lives.1 ∙ carries_moves w p k)

-- ---- carried pixels are on the screen

one_of : (test : ℕ → Bool) (hs : List Hwnd) → list_any (λ (h : Hwnd). test h.0) hs ≡ true → (h : ℕ) × (test h ≡ true)
one_of test [] is = absurd (false≢true is)
one_of test (h ∷ hs) is = by (one_of test hs) (test h.0) refl is
  where
    by : (list_any (λ (h : Hwnd). test h.0) hs ≡ true → (h : ℕ) × (test h ≡ true)) → (b : Bool) → test h.0 ≡ b → (b || list_any (λ (h : Hwnd). test h.0) hs) ≡ true → (h : ℕ) × (test h ≡ true)
    by rest true k is = (h.0, k)
    by rest false k is = rest is

brought_on : (setup : Setup) (old : Kept) (os : List Owned) (s : Shift) (w : ℕ) (p : Point) → brings old.dirty old.owners os (screen_in setup) s w p ≡ true → (has_pixel (screen setup) p ≡ true) × (has_pixel (screen setup) (source s p) ≡ true)
brought_on setup old os s w p is =
    let all = and_right (not (eqb w 0)) _ is in
    (and_right (region_has (region_in os w) p) (has_pixel (screen setup) p) (and_right _ _ all), and_right _ (has_pixel (screen setup) (source s p)) (and_left _ _ all))

pub carried_on : (setup : Setup) (old : Kept) (os : List Owned) (moved : List Hwnd) (o : Option Shift) (c : Carried) → IsCarriedBy setup old os moved o c → IsOnScreen setup c.region c.shift.dx c.shift.dy
carried_on setup old os moved None c told = record {
  here = λ p is. absurd (true≢false (sym is ∙ told p));
  there = λ p is. absurd (true≢false (sym is ∙ told p));
}
carried_on setup old os moved (Some s) c told = record {
  here = λ p is. let one = one_of (λ w. brings old.dirty old.owners os (screen_in setup) s w p) moved (sym (told.1 p) ∙ is) in (brought_on setup old os s one.0 p one.1).0;
  there = λ p is. let one = one_of (λ w. brings old.dirty old.owners os (screen_in setup) s w p) moved (sym (told.1 p) ∙ is) in ap (λ (t : Shift). has_pixel (screen setup) (source t p)) told.0 ∙ (brought_on setup old os s one.0 p one.1).1;
}
