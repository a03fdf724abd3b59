-- The least rectangle around a list of points.
use Rattle.std.proofs.Common.{◌≡◌, List, [], ◌∷◌, arith}
use Rattle.std.specs.Prelude.{ℤ, pos, ◌+ℤ◌, ◌-ℤ◌, ◌≤ℤ◌, ◌<ℤ◌, All}
use Rattle.std.proofs.lemmas.Int.{ints}
use Rattle.std.proofs.lemmas.List.Elements.{All-nil, All-cons, All-head, All-tail, All-weaker}
use Rattle.win_num.specs.declared.shapes.Point.{Point}
use Rattle.win_num.specs.PixelSets.{Box, box, bounds, least, most}
use Rattle.band_region.proofs.Pixels.{IsAt}

-- the second rectangle lies in the first one
pub record IsAround (a b : Box) : Type 0 where
  pub left : a.left ≤ℤ b.left
  pub top : a.top ≤ℤ b.top
  pub right : b.right ≤ℤ a.right
  pub bottom : b.bottom ≤ℤ a.bottom

least_left : (a b : ℤ) → least a b ≤ℤ a
least_left a b = grind (arith, ints)

least_right : (a b : ℤ) → least a b ≤ℤ b
least_right a b = grind (arith, ints)

least_least : (a b c : ℤ) → c ≤ℤ a → c ≤ℤ b → c ≤ℤ least a b
least_least a b c h k = grind (arith, ints)

most_left : (a b : ℤ) → a ≤ℤ most a b
most_left a b = grind (arith, ints)

most_right : (a b : ℤ) → b ≤ℤ most a b
most_right a b = grind (arith, ints)

most_most : (a b c : ℤ) → a ≤ℤ c → b ≤ℤ c → most a b ≤ℤ c
most_most a b c h k = grind (arith, ints)

le-trans : (a b c : ℤ) → a ≤ℤ b → b ≤ℤ c → a ≤ℤ c
le-trans a b c h k = omega (arith, ints)

lt-le : (a b c : ℤ) → a <ℤ b → b ≤ℤ c → a <ℤ c
lt-le a b c h k = omega (arith, ints)

next-le : (a b : ℤ) → (a +ℤ pos 1) ≤ℤ b → a <ℤ b
next-le a b h = omega (arith, ints)

le-next : (a b : ℤ) → a <ℤ b → (a +ℤ pos 1) ≤ℤ b
le-next a b h = omega (arith, ints)

-- the rectangle of one point, and the one around a point and a rectangle
abbrev dot : Point → Box
dot p = box p.x p.y (p.x +ℤ pos 1) (p.y +ℤ pos 1)

abbrev joined : Point → Box → Box
joined p b = box (least p.x b.left) (least p.y b.top) (most (p.x +ℤ pos 1) b.right) (most (p.y +ℤ pos 1) b.bottom)

dot_at : (p : Point) → IsAt (dot p) p
dot_at p = record { left = omega (arith, ints); right = omega (arith, ints); top = omega (arith, ints); bottom = omega (arith, ints) }

dot_in : (a : Box) (p : Point) → IsAt a p → IsAround a (dot p)
dot_in a p h = record { left = h.left; top = h.top; right = le-next p.x a.right h.right; bottom = le-next p.y a.bottom h.bottom }

joined_at : (p : Point) (b : Box) → IsAt (joined p b) p
joined_at p b = record {
  left = least_left p.x b.left;
  right = next-le p.x (most (p.x +ℤ pos 1) b.right) (most_left (p.x +ℤ pos 1) b.right);
  top = least_left p.y b.top;
  bottom = next-le p.y (most (p.y +ℤ pos 1) b.bottom) (most_left (p.y +ℤ pos 1) b.bottom);
}

joined_around : (p : Point) (b : Box) → IsAround (joined p b) b
joined_around p b = record { left = least_right p.x b.left; top = least_right p.y b.top; right = most_right (p.x +ℤ pos 1) b.right; bottom = most_right (p.y +ℤ pos 1) b.bottom }

joined_in : (a : Box) (p : Point) (b : Box) → IsAt a p → IsAround a b → IsAround a (joined p b)
joined_in a p b h k = record {
  left = least_least p.x b.left a.left h.left k.left;
  top = least_least p.y b.top a.top h.top k.top;
  right = most_most (p.x +ℤ pos 1) b.right a.right (le-next p.x a.right h.right) k.right;
  bottom = most_most (p.y +ℤ pos 1) b.bottom a.bottom (le-next p.y a.bottom h.bottom) k.bottom;
}

-- a point of a rectangle is one of each rectangle around it
pub at-around : (a b : Box) → IsAround a b → (p : Point) → IsAt b p → IsAt a p
at-around a b h p k = record {
  left = le-trans a.left b.left p.x h.left k.left;
  right = lt-le p.x b.right a.right k.right h.right;
  top = le-trans a.top b.top p.y h.top k.top;
  bottom = lt-le p.y b.bottom a.bottom k.bottom h.bottom;
}

-- the rectangle has each point, and lies in every one that does
pub record IsLeast (ps : List Point) (b : Box) : Type 0 where
  pub around : All (IsAt b) ps
  pub within : (a : Box) → All (IsAt a) ps → IsAround a b

pub bounds_least : (p : Point) (ps : List Point) → IsLeast (p ∷ ps) (bounds (p ∷ ps))
bounds_least p [] = record {
  around = All-cons (IsAt (dot p)) p [] (dot_at p) (All-nil (IsAt (dot p)));
  within = λ a h. dot_in a p (All-head (IsAt a) p [] h);
}
bounds_least p (q ∷ ps) =
    let rest = bounds (q ∷ ps) in
    let k : IsLeast (q ∷ ps) rest = bounds_least q ps in
    record {
      around = All-cons (IsAt (joined p rest)) p (q ∷ ps) (joined_at p rest) (All-weaker (IsAt rest) (IsAt (joined p rest)) (at-around (joined p rest) rest (joined_around p rest)) (q ∷ ps) k.around);
      within = λ a h. joined_in a p rest (All-head (IsAt a) p (q ∷ ps) h) (k.within a (All-tail (IsAt a) p (q ∷ ps) h));
    }

-- a rectangle with a pixel lies in each one that has its pixels
pub around_from_at : (a b : Box) (p : Point) → IsAt b p → ((q : Point) → IsAt b q → IsAt a q) → IsAround a b
around_from_at a b p h k =
    let hl : b.left ≤ℤ p.x = h.left in
    let hr : p.x <ℤ b.right = h.right in
    let ht : b.top ≤ℤ p.y = h.top in
    let hb : p.y <ℤ b.bottom = h.bottom in
    let first = k (record { x = b.left; y = b.top }) (record { left = omega (arith, ints); right = omega (arith, ints); top = omega (arith, ints); bottom = omega (arith, ints) }) in
    let last = k (record { x = b.right -ℤ pos 1; y = b.bottom -ℤ pos 1 }) (record { left = omega (arith, ints); right = omega (arith, ints); top = omega (arith, ints); bottom = omega (arith, ints) }) in
    let r : (b.right -ℤ pos 1) <ℤ a.right = last.right in
    let d : (b.bottom -ℤ pos 1) <ℤ a.bottom = last.bottom in
    record { left = first.left; top = first.top; right = omega (arith, ints); bottom = omega (arith, ints) }

le-both : (a b : ℤ) → a ≤ℤ b → b ≤ℤ a → a ≡ b
le-both a b h k = omega (arith, ints)

-- rectangles around each other are the same
pub same_from_around : (a b : Box) → IsAround a b → IsAround b a → a ≡ b
same_from_around a b h k =
    let l = le-both a.left b.left h.left k.left in
    let t = le-both a.top b.top h.top k.top in
    let r = le-both a.right b.right k.right h.right in
    let d = le-both a.bottom b.bottom k.bottom h.bottom in
    λ i. record { left = l i; top = t i; right = r i; bottom = d i }
