-- The clips of sessions, as the past has them.
use Rattle.std.proofs.Common.{◌≡◌, ◌≢◌, ◌∙◌, ℕ, Bool, true, false, not, cond, eqb, List, [], ◌∷◌, Option, Some, None, refl, sym, ap}
use Rattle.std.specs.Prelude.{◌&&◌, ◌||◌, option_map, unwrap_or}
use Rattle.std.proofs.lemmas.Bool.{eqb-true, eqb-false, true≢false}
use Rattle.win_num.specs.declared.shapes.Point.{Point}
use Rattle.win_num.specs.declared.shapes.Rect.{Rect}
use Rattle.band_region.specs.Regions.{region_has}
use Rattle.user_model.specs.declared.entry.Setup.{Setup}
use Rattle.user_model.specs.Colours.{is_in_clip, session}
use Rattle.user_model.specs.Dirty.{is_dirty}
use Rattle.user_model.specs.Past.{Past}
use Rattle.dirty_windows.specs.LookUps.{area_in}
use Rattle.paint_sessions.specs.declared.sessions.Session.{Session}
use Rattle.paint_sessions.specs.LookUps.{clip_in, is_begun, session_clip, session_of}
use Rattle.screen_state.specs.Screens.{IsTaken, Kept, clip_has, lets_through}

-- whether painting in w may change the pixel, by the past before painting of w began
abbrev pub in_session : Setup → ℕ → Point → Option Past → Bool
in_session setup w p o = elim o as (λ q. Bool) [ Some before ↦ is_dirty setup before w p | None ↦ true ]

-- a session that is another has another clip
pub clip_by : (setup : Setup) (past : Past) (w : ℕ) (p : Point) (o : Option Past) → session past w ≡ o → is_in_clip setup past w p ≡ in_session setup w p o
clip_by setup past w p o e = ap (in_session setup w p) e

-- a window that isn't being painted has no clip
pub no_clip : (ss : List Session) (w : ℕ) → is_begun ss w ≡ false → clip_in ss w ≡ None
no_clip [] w h = refl
no_clip (s ∷ ss) w h = pick (no_clip ss w) (eqb s.window.0 w) h
  where
    pick : (is_begun ss w ≡ false → clip_in ss w ≡ None) → (b : Bool) → (b || is_begun ss w) ≡ false → option_map session_clip (cond b (Some s) (session_of ss w)) ≡ None
    pick rest true h = absurd (true≢false h)
    pick rest false h = rest h

-- where painting of w begins
pub begun_clip : (setup : Setup) (past : Past) (w : ℕ) (old new : Kept) → IsTaken w old new
    → ((v : ℕ) (p : Point) → region_has (area_in old.dirty v) p ≡ is_dirty setup past v p)
    → ((v : ℕ) (p : Point) → lets_through old.sessions v p ≡ is_in_clip setup past v p)
    → (v : ℕ) (p : Point) → lets_through new.sessions v p ≡ in_session setup v p (unwrap_or (cond (eqb w v) (Some (Some past)) None) (session past v))
begun_clip setup past w old new taken dirty clips v p = by (eqb w v) refl
  where
    by : (c : Bool) → eqb w v ≡ c → lets_through new.sessions v p ≡ in_session setup v p (unwrap_or (cond c (Some (Some past)) None) (session past v))
    by true k =
        ap (λ u. lets_through new.sessions u p) (sym (eqb-true w v k))
        ∙ (ap (λ (o : Option (List Rect)). clip_has o p) taken.clip
        ∙ (dirty w p ∙ ap (λ u. is_dirty setup past u p) (eqb-true w v k)))
    by false k = ap (λ (o : Option (List Rect)). clip_has o p) (taken.clips v (λ (same : v ≡ w). eqb-false w v k (sym same))) ∙ clips v p

none_begun : (was : Bool) → (was && not true) ≡ false
none_begun true = refl
none_begun false = refl

-- and where it ends
pub ended_clip : (setup : Setup) (past : Past) (w : ℕ) (ss left : List Session)
    → ((v : ℕ) → is_begun left v ≡ (is_begun ss v && not (eqb w v)))
    → ((v : ℕ) → v ≢ w → clip_in left v ≡ clip_in ss v)
    → ((v : ℕ) (p : Point) → lets_through ss v p ≡ is_in_clip setup past v p)
    → (v : ℕ) (p : Point) → lets_through left v p ≡ in_session setup v p (unwrap_or (cond (eqb w v) (Some None) None) (session past v))
ended_clip setup past w ss left begun others clips v p = by (eqb w v) refl
  where
    by : (c : Bool) → eqb w v ≡ c → lets_through left v p ≡ in_session setup v p (unwrap_or (cond c (Some None) None) (session past v))
    by true k = ap (λ (o : Option (List Rect)). clip_has o p) (no_clip left v (begun v ∙ (ap (λ b. is_begun ss v && not b) k ∙ none_begun (is_begun ss v))))
    by false k = ap (λ (o : Option (List Rect)). clip_has o p) (others v (λ (same : v ≡ w). eqb-false w v k (sym same))) ∙ clips v p
