-- Regions as sets of pixels.
use Rattle.std.proofs.Common.{◌≡◌, Bool, true, false, ◌||◌, List, [], ◌∷◌, refl, sym, ap, subst, ◌∙◌, arith}
use Rattle.std.specs.Prelude.{pos, negsuc, ◌-ℤ◌, ◌≤ℤ◌, ◌<ℤ◌, All, Option, None, Some, IfNone, IfSome, is_some}
use Rattle.std.proofs.lemmas.Int.{ints}
use Rattle.std.proofs.lemmas.List.Elements.{All-nil, All-cons, All-head, All-tail}
use Rattle.win_num.specs.declared.shapes.Point.{Point}
use Rattle.win_num.specs.declared.shapes.Rect.{Rect}
use Rattle.win_num.specs.PixelSets.{Box, box, has_pixel}
use Rattle.win_num.specs.Rects.{box_in}
use Rattle.band_region.specs.Regions.{rect_has, region_has, IsFilled, IsBanded, IsEmpty, IsInside, IsLeastAround, moved_back, plane, StaysInPlane}
use Rattle.band_region.specs.Pieces.{IsFoundAt, IsWithin, Bounds}
use Rattle.band_region.proofs.Pixels.{at_from_has, has_from_at, at_from_rect, rect_from_at}

pub region_at : {a a' : List Rect} → a' ≡ a → IsBanded a' → IsBanded a
region_at e r = subst IsBanded e r

-- which pixels the bounds have
within_has : (r : Rect) (b : Box) (p : Point) → IsWithin r b → rect_has r p ≡ true → has_pixel b p ≡ true
within_has r b p w t =
    let a = at_from_rect r p t in
    let al : r.l ≤ℤ p.x = a.left in
    let ar : p.x <ℤ r.r = a.right in
    let at : r.t ≤ℤ p.y = a.top in
    let ab : p.y <ℤ r.b = a.bottom in
    let wl = w.left in
    let wt = w.top in
    let wr = w.right in
    let wb = w.bottom in
    has_from_at b p (record { left = omega (arith, ints); right = omega (arith, ints); top = omega (arith, ints); bottom = omega (arith, ints) })

pub either : (a b : Bool) (P : Type 0) → (a || b) ≡ true → (a ≡ true → P) → (b ≡ true → P) → P
either true b P h f g = f refl
either false b P h f g = g h

pub or_second : (a b : Bool) → b ≡ true → (a || b) ≡ true
or_second true b h = refl
or_second false b h = h

pub or_first : (a b : Bool) → a ≡ true → (a || b) ≡ true
or_first true b h = refl
or_first false b h = absurd (grind arith)

inside_list : (rs : List Rect) (b : Box) → All (λ r. IsWithin r b) rs → IsInside rs b
inside_list [] b w p t = absurd (grind arith)
inside_list (r ∷ rs) b w p t = either (rect_has r p) (region_has rs p) (has_pixel b p ≡ true) t
    (λ h. within_has r b p (All-head (λ x. IsWithin x b) r rs w) h)
    (λ h. inside_list rs b (All-tail (λ x. IsWithin x b) r rs w) p h)

unfoldable pub corner : Rect → Point
corner r = record { x = r.l; y = r.t }

end : Rect → Point
end r = record { x = r.r -ℤ pos 1; y = r.b -ℤ pos 1 }

pub corner_has : (r : Rect) → IsFilled r → rect_has r (corner r) ≡ true
unfolding corner
corner_has r f =
    let across = f.0 in
    let down = f.1 in
    rect_from_at r (corner r) (record { left = omega (arith, ints); right = across; top = omega (arith, ints); bottom = down })

end_has : (r : Rect) → IsFilled r → rect_has r (end r) ≡ true
unfolding end
end_has r f =
    let across = f.0 in
    let down = f.1 in
    rect_from_at r (end r) (record { left = omega (arith, ints); right = omega (arith, ints); top = omega (arith, ints); bottom = omega (arith, ints) })

edges_within : (r : Rect) (b : Box) → has_pixel b (corner r) ≡ true → has_pixel b (end r) ≡ true → IsWithin r b
unfolding corner end
edges_within r b h k =
    let c = at_from_has b (corner r) h in
    let e = at_from_has b (end r) k in
    let cl : b.left ≤ℤ r.l = c.left in
    let ct : b.top ≤ℤ r.t = c.top in
    let er : (r.r -ℤ pos 1) <ℤ b.right = e.right in
    let eb : (r.b -ℤ pos 1) <ℤ b.bottom = e.bottom in
    record { left = cl; top = ct; right = omega (arith, ints); bottom = omega (arith, ints) }

all_within : (rs : List Rect) (b : Box) → All IsFilled rs → IsInside rs b → All (λ r. IsWithin r b) rs
all_within [] b f h = All-nil (λ r. IsWithin r b)
all_within (r ∷ rs) b f h =
    let fr : IsFilled r = All-head IsFilled r rs f in
    All-cons (λ x. IsWithin x b) r rs
    (edges_within r b (h (corner r) (or_first _ _ (corner_has r fr))) (h (end r) (or_first _ _ (end_has r fr))))
    (all_within rs b (All-tail IsFilled r rs f) (λ p t. h p (or_second _ _ t)))

pub bounds_least : (rs : List Rect) (c : Rect) → All IsFilled rs → Bounds rs c → IsLeastAround rs (box_in c)
unfolding rect_has
bounds_least rs c f k = record {
  around = inside_list rs (box_in c) k.around;
  within = λ b h p t. within_has c b p (k.least b (all_within rs b f h)) t;
}

pub not_empty : (r : Rect) (rs : List Rect) → All IsFilled (r ∷ rs) → IsEmpty (r ∷ rs) → ⊥
not_empty r rs f e =
    let t : region_has (r ∷ rs) (corner r) ≡ true = or_first _ _ (corner_has r (All-head IsFilled r rs f)) in
    let n = e (corner r) in
    absurd (grind arith)

pub same_from : (a b : Bool) → (a ≡ true → b ≡ true) → (b ≡ true → a ≡ true) → a ≡ b
same_from true b f g = sym (f refl)
same_from false true f g = g refl
same_from false false f g = refl

pub found_has : (rs : List Rect) (p : Point) (o : Option Rect) → IfNone o (region_has rs p ≡ false) → IfSome o (IsFoundAt rs p) → is_some o ≡ region_has rs p
found_has rs p None h k = sym h
found_has rs p (Some r) h k = sym (k.covered p k.at)

pub not_empty_at : {rs : List Rect} (r : Rect) (others : List Rect) → rs ≡ r ∷ others → IsBanded rs → IsEmpty rs → ⊥
not_empty_at r others e g n = not_empty r others (subst (λ x. All IsFilled x) e g.filled) (subst IsEmpty e n)

pub least_at : {rs : List Rect} (r : Rect) (others : List Rect) (c : Rect) → rs ≡ r ∷ others → IsBanded rs → Bounds (r ∷ others) c → IsLeastAround rs (box_in c)
least_at r others c e g k = subst (λ x. IsLeastAround x (box_in c)) (sym e) (bounds_least (r ∷ others) c (subst (λ x. All IsFilled x) e g.filled) k)

-- a small square stays in the plane when it is moved by one pixel
pub square_stays : (x : List Rect) (r : Rect) → ((p : Point) → region_has x p ≡ has_pixel (box_in r) p) → box_in r ≡ box (pos 0) (pos 0) (pos 2) (pos 2) → StaysInPlane x (pos 1) (negsuc 0)
square_stays x r h e p t =
    let q = moved_back (pos 1) (negsuc 0) p in
    let a = at_from_has (box (pos 0) (pos 0) (pos 2) (pos 2)) q (sym (ap (λ (b : Box). has_pixel b q) e) ∙ (sym (h q) ∙ t)) in
    let l : pos 0 ≤ℤ (p.x -ℤ pos 1) = a.left in
    let n : pos 0 ≤ℤ (p.y -ℤ negsuc 0) = a.top in
    let u : (p.x -ℤ pos 1) <ℤ pos 2 = a.right in
    let d : (p.y -ℤ negsuc 0) <ℤ pos 2 = a.bottom in
    has_from_at plane p (record { left = omega (arith, ints); right = omega (arith, ints); top = omega (arith, ints); bottom = omega (arith, ints) })
