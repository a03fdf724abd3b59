-- What a region's kind and bounds say is what those of its list of points say.
use Rattle.std.proofs.Common.{◌≡◌, ◌≤◌, ℕ, Bool, ◌↔◌, List, sym, ◌∙◌}
use Rattle.std.specs.Prelude.{pos, filter}
use Rattle.win_num.specs.declared.shapes.Point.{Point}
use Rattle.win_num.specs.declared.shapes.Rect.{Rect}
use Rattle.win_num.specs.PixelSets.{Box, box, bounds, kind_of}
use Rattle.band_region.specs.Regions.{IsEmpty, IsLeastAround, IsOneRectangle}
use Rattle.region_box.specs.Screens.{passes, screen_points, IsKind, IsLeastBox, IsOneBox, IsPassing}
use Rattle.region_box.proofs.Listed.{passing_listed, kind_tells, same_kind, least_is}

one_box : (width height : ℕ) (test : Point → Bool) (rs : List Rect) → IsPassing width height test rs → IsOneRectangle rs → IsOneBox (passes width height test)
one_box width height test rs h o = record { around = o.around; some = o.some; has_some = o.has_some; same = λ p. sym (h p) ∙ o.same p }

one_rectangle : (width height : ℕ) (test : Point → Bool) (rs : List Rect) → IsPassing width height test rs → IsOneBox (passes width height test) → IsOneRectangle rs
one_rectangle width height test rs h o = record { around = o.around; some = o.some; has_some = o.has_some; same = λ p. h p ∙ o.same p }

pub kind_told : (width height : ℕ) (test : Point → Bool) (rs : List Rect) (k : ℕ) → IsPassing width height test rs → ((k ≡ 1) ↔ IsEmpty rs) → ((k ≡ 2) ↔ IsOneRectangle rs) → 1 ≤ k → k ≤ 3 → k ≡ kind_of (filter test (screen_points width height))
kind_told width height test rs k h empty one least most =
    let kind : IsKind (passes width height test) k = record {
      empty = (λ e p. sym (h p) ∙ empty.0 e p, λ none. empty.1 (λ p. h p ∙ none p));
      one = (λ e. one_box width height test rs h (one.0 e), λ o. one.1 (one_rectangle width height test rs h o));
      least = least;
      most = most;
    } in
    same_kind (passes width height test) k (kind_of (filter test (screen_points width height))) kind (kind_tells width height test)

pub bounds_told : (width height : ℕ) (test : Point → Bool) (rs : List Rect) (b : Box) → IsPassing width height test rs → IsLeastAround rs b → (IsEmpty rs → b ≡ box (pos 0) (pos 0) (pos 0) (pos 0)) → b ≡ bounds (filter test (screen_points width height))
bounds_told width height test rs b h least empty =
    let box_of : IsLeastBox (passes width height test) b = record {
      around = λ p k. least.around p (h p ∙ k);
      within = λ c k. least.within c (λ p i. k p (sym (h p) ∙ i));
    } in
    least_is width height (passes width height test) (filter test (screen_points width height)) b (passing_listed width height test) box_of (λ none. empty (λ p. h p ∙ none p))
