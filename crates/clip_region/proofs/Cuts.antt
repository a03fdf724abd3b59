-- Pixels that rectangles cover, and those that are left.
use Rattle.std.proofs.Common.{◌≡◌, ℕ, Bool, true, false, not, ◌&&◌, ◌||◌, List, ◌∷◌, take, drop, length, refl, sym, ap, ◌∙◌}
use Rattle.std.proofs.lemmas.List.{take-append-drop, nil_from_length}
use Rattle.std.proofs.lemmas.List.Folds.{list_any-append}
use Rattle.win_num.specs.declared.shapes.Point.{Point}
use Rattle.win_num.specs.declared.shapes.Rect.{Rect}
use Rattle.win_num.specs.PixelSets.{has_pixel}
use Rattle.win_num.specs.Rects.{box_in}
use Rattle.band_region.specs.Regions.{rect_has, region_has}
use Rattle.clip_region.specs.Clipping.{is_owned}

-- the new list has the pixels of the old one that a rectangle has too
abbrev pub Shares : List Rect → List Rect → List Rect → Type 0
Shares whole covers part = (p : Point) → region_has part p ≡ (region_has whole p && region_has covers p)

-- the new list has the pixels of the old one that the other one hasn't
abbrev pub Lacks : List Rect → List Rect → List Rect → Type 0
Lacks whole less rest = (p : Point) → region_has rest p ≡ (region_has whole p && not (region_has less p))

pub shares_one : (whole covers cover part : List Rect) (first : Rect) (others : List Rect) → covers ≡ first ∷ others → length others ≡ 0 →
    ((p : Point) → region_has cover p ≡ has_pixel (box_in first) p) → Shares whole cover part → Shares whole covers part
unfolding rect_has
shares_one whole covers cover part first others e f g h p = h p ∙ ap (λ b. region_has whole p && b) (g p ∙ (sym (or_none (has_pixel (box_in first) p)) ∙ (ap (λ b. has_pixel (box_in first) p || b) (sym (ap (λ xs. region_has xs p) (nil_from_length others f))) ∙ sym (ap (λ xs. region_has xs p) e))))
  where
    or_none : (a : Bool) → (a || false) ≡ a
    or_none true = refl
    or_none false = refl

pub shares_both : (whole covers front back one other part : List Rect) (n : ℕ) → front ≡ take n covers → back ≡ drop n covers →
    Shares whole front one → Shares whole back other → ((p : Point) → region_has part p ≡ (region_has one p || region_has other p)) → Shares whole covers part
shares_both whole covers front back one other part n e f g h k p = k p ∙ rw (g p, h p, e, f) (tests (region_has whole p) (region_has (take n covers) p) (region_has (drop n covers) p) ∙ ap (λ b. region_has whole p && b) (sym split))
  where
    tests : (w a b : Bool) → ((w && a) || (w && b)) ≡ (w && (a || b))
    tests true a b = refl
    tests false a b = refl

    split : region_has covers p ≡ (region_has (take n covers) p || region_has (drop n covers) p)
    split = ap (λ xs. region_has xs p) (sym (take-append-drop n covers)) ∙ list_any-append (λ r. rect_has r p) (take n covers) (drop n covers)

-- the common pixels of screen and window, without those that are covered
pub owned_has : (screen own : Rect) (a b c d e f x above children : List Rect) →
    ((p : Point) → region_has a p ≡ has_pixel (box_in screen) p) →
    ((p : Point) → region_has b p ≡ has_pixel (box_in own) p) →
    ((p : Point) → region_has c p ≡ (region_has a p && region_has b p)) →
    Shares c above d → Shares c children e → Lacks c d f → Lacks f e x →
    (p : Point) → region_has x p ≡ is_owned screen own above children p
owned_has screen own a b c d e f x above children ha hb hc hd he hf hx p = rw (hx p, hf p, hd p, he p, hc p, ha p, hb p) (tests (has_pixel (box_in screen) p) (has_pixel (box_in own) p) (region_has above p) (region_has children p))
  where
    tests : (s t u v : Bool) → (((s && t) && not ((s && t) && u)) && not ((s && t) && v)) ≡ (s && t && not u && not v)
    tests true true u v = refl
    tests true false u v = refl
    tests false t u v = refl
