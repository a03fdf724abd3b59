-- The pixels of a window that painting in it reaches, as the past has them.
use Rattle.std.proofs.Common.{◌≡◌, ◌∙◌, ℕ, Result, List, Option, ap, subst}
use Rattle.std.specs.Prelude.{◌&&◌, ℤ, IfOk, option_map}
use Rattle.std.proofs.lemmas.Result.{IfOk-weaker}
use Rattle.win_num.specs.declared.shapes.Point.{Point}
use Rattle.win_num.specs.declared.shapes.Rect.{Rect}
use Rattle.win_rows.specs.Windows.{Windows}
use Rattle.band_region.specs.Regions.{region_has}
use Rattle.user_model.specs.Dirty.{is_in_client, owns}
use Rattle.screen_owners.specs.declared.owners.Owned.{Owned}
use Rattle.screen_owners.specs.Owners.{entry_of, owned_region}
use Rattle.dirty_windows.specs.declared.entries.DirtyWindow.{DirtyWindow}
use Rattle.paint_sessions.specs.declared.sessions.Session.{Session}
use Rattle.paint_sessions.specs.LookUps.{clip_in}
use Rattle.screen_state.specs.Owned.{told_has}
use Rattle.screen_state.specs.Parts.{IsClientPart}
use Rattle.screen_state.specs.Screens.{IsReached, IsReachedPart, Kept, clip_has, lets_through}
use Rattle.screen_state.proofs.Drawing.{live_region}
use Rattle.screen_state.proofs.Followed.{region_told}

-- pixels that are owned and let through
reached_by : (s : Kept) (w : ℕ) (owned clip : Option (List Rect)) (rs : List Rect) → owned ≡ option_map owned_region (entry_of s.owners w) → clip ≡ clip_in s.sessions w
    → ((p : Point) → region_has rs p ≡ (told_has owned p && clip_has clip p)) → IsReached s w rs
reached_by s w owned clip rs is_owned is_clip told setup past lawful at lives p =
    told p
    ∙ (ap (λ (o : Option (List Rect)). told_has o p && clip_has clip p) is_owned
    ∙ (ap (λ (o : Option (List Rect)). told_has (option_map owned_region (entry_of s.owners w)) p && clip_has o p) is_clip
    ∙ (ap (λ b. b && lets_through s.sessions w p) (region_told s.owners w p ∙ live_region setup past s.owners lawful at.owners w p lives)
    ∙ ap (λ b. owns setup past w p && b) (at.clips w p))))

pub reached_at : {E : Type 0} (q : Result (List Rect) E) (os : List Owned) (ds : List DirtyWindow) (ss : List Session) (s : Kept) (w : ℕ) (owned clip : Option (List Rect))
    → record { owners = os; dirty = ds; sessions = ss } ≡ s → owned ≡ option_map owned_region (entry_of os w) → clip ≡ clip_in ss w
    → IfOk q (λ rs. (p : Point) → region_has rs p ≡ (told_has owned p && clip_has clip p)) → IfOk q (IsReached s w)
reached_at q os ds ss s w owned clip view is_owned is_clip told =
    IfOk-weaker q (λ rs. (p : Point) → region_has rs p ≡ (told_has owned p && clip_has clip p)) (IsReached s w)
    (λ rs each. subst (λ (k : Kept). IsReached k w rs) view (reached_by (record { owners = os; dirty = ds; sessions = ss }) w owned clip rs is_owned is_clip each)) told

-- and those of them that lie in a rectangle
pub reached_in : {E : Type 0} (q : Result (List Rect) E) (t : Windows) (s : Kept) (w : ℕ) (l top r b : ℤ) (part reached : List Rect) → IsClientPart t w l top r b part → IsReached s w reached
    → IfOk q (λ rs. (p : Point) → region_has rs p ≡ (region_has part p && region_has reached p)) → IfOk q (IsReachedPart t s w l top r b)
reached_in q t s w l top r b part reached client reaches_all told =
    IfOk-weaker q (λ rs. (p : Point) → region_has rs p ≡ (region_has part p && region_has reached p)) (IsReachedPart t s w l top r b)
    (λ rs each setup past lawful tree at lives p.
    each p
    ∙ (ap (λ c. c && region_has reached p) (client setup past lawful tree lives p)
    ∙ ap (λ c. is_in_client past w l top r b p && c) (reaches_all setup past lawful at lives p))) told
