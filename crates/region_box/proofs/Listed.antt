-- What the kind and the bounds of a list of points say of its pixels.
use Rattle.std.proofs.Common.{◌≡◌, ◌<◌, ◌≤◌, ℕ, Bool, true, false, ◌&&◌, ◌≢◌, List, [], ◌∷◌, length, refl, sym, ap, subst, ◌∙◌, inl, inr, arith}
use Rattle.std.specs.Prelude.{if◌then◌else◌, ℤ, pos, ◌-ℤ◌, ◌*ℤ◌, ◌≤ℤ◌, ◌<ℤ◌, All, count_by, filter}
use Rattle.std.proofs.lemmas.Int.{ints}
use Rattle.std.proofs.lemmas.Bool.{cases_lt}
use Rattle.std.proofs.lemmas.Bool.Decides.{nat_tests}
use Rattle.std.proofs.lemmas.List.Sums.{length-filter}
use Rattle.std.proofs.lemmas.List.Elements.{All-head, All-weaker, filter_passes}
use Rattle.win_num.specs.declared.shapes.Point.{Point}
use Rattle.win_num.specs.PixelSets.{Box, box, bounds, has_pixel, kind_of, same_int}
use Rattle.band_region.proofs.Pixels.{IsAt, at_from_has, has_from_at}
use Rattle.region_box.specs.Screens.{passes, screen_points, screen_box, IsKind, IsLeastBox, IsOneBox}
use Rattle.region_box.proofs.Counts.{count-le, count-same, filter-same, none_kept, passing_all}
use Rattle.region_box.proofs.Points.{point, screen_all, screen_at, area_count}
use Rattle.region_box.proofs.Boxes.{IsAround, at-around, around_from_at, bounds_least, same_from_around}

and_is : (a b : Bool) → a ≡ true → (a && b) ≡ b
and_is true b h = refl
and_is false b h = absurd (grind arith)

and_first : (a b : Bool) → (a && b) ≡ true → a ≡ true
and_first true b h = refl
and_first false b h = h

same_from : (a b : Bool) → (a ≡ true → a ≡ b) → (b ≡ true → a ≡ b) → a ≡ b
same_from true b h k = h refl
same_from false true h k = k refl
same_from false false h k = refl

no_true : (b : Bool) → (b ≡ true → b ≡ false) → b ≡ false
no_true true h = h refl
no_true false h = refl

on_screen : (width height x y : ℕ) → x < width → y < height → has_pixel (screen_box width height) (point x y) ≡ true
on_screen width height x y h k = has_from_at (screen_box width height) (point x y) (record { left = omega (arith, ints); right = omega (arith, ints); top = omega (arith, ints); bottom = omega (arith, ints) })

-- the pixels lie on the screen, and these are their points
pub record IsListed (width height : ℕ) (has : Point → Bool) (ps : List Point) : Type 0 where
  pub on : (p : Point) → has p ≡ true → IsAt (screen_box width height) p
  pub listed : filter has (screen_points width height) ≡ ps

none_has : (width height : ℕ) (has : Point → Bool) → IsListed width height has [] → (p : Point) → has p ≡ false
none_has width height has h p = no_true (has p) (λ k. screen_at (λ q. has q ≡ false) width height p (none_kept has (screen_points width height) h.listed) (h.on p k))

-- what holds of each of the points holds of each pixel, and the other way round
each_pixel : (width height : ℕ) (has : Point → Bool) (ps : List Point) (P : Point → Type 0) → IsListed width height has ps → All P ps → (p : Point) → has p ≡ true → P p
each_pixel width height has ps P h k p i = screen_at (λ q. has q ≡ true → P q) width height p (passing_all has P (screen_points width height) (subst (All P) (sym h.listed) k)) (h.on p i) i

each_point : (width height : ℕ) (has : Point → Bool) (ps : List Point) (P : Point → Type 0) → IsListed width height has ps → ((p : Point) → has p ≡ true → P p) → All P ps
each_point width height has ps P h k = All-weaker (λ p. has p ≡ true) P k ps (subst (All (λ p. has p ≡ true)) h.listed (filter_passes has (screen_points width height)))

first_has : (width height : ℕ) (has : Point → Bool) (p : Point) (ps : List Point) → IsListed width height has (p ∷ ps) → has p ≡ true
first_has width height has p ps h = All-head (λ q. has q ≡ true) p ps (each_point width height has (p ∷ ps) (λ q. has q ≡ true) h (λ q k. k))

-- the bounds of the points have each pixel
in_bounds : (width height : ℕ) (has : Point → Bool) (p : Point) (ps : List Point) → IsListed width height has (p ∷ ps) → (q : Point) → has q ≡ true → IsAt (bounds (p ∷ ps)) q
in_bounds width height has p ps h = each_pixel width height has (p ∷ ps) (IsAt (bounds (p ∷ ps))) h (bounds_least p ps).around

-- and lie in each rectangle that has each pixel
around_bounds : (width height : ℕ) (has : Point → Bool) (p : Point) (ps : List Point) → IsListed width height has (p ∷ ps) → (a : Box) → ((q : Point) → has q ≡ true → IsAt a q) → IsAround a (bounds (p ∷ ps))
around_bounds width height has p ps h a k = (bounds_least p ps).within a (each_point width height has (p ∷ ps) (IsAt a) h k)

-- no more points are listed than the bounds have, and just as many only of one rectangle
fewer : (width height : ℕ) (has : Point → Bool) (p : Point) (ps : List Point) → IsListed width height has (p ∷ ps) → count_by has (screen_points width height) ≤ count_by (has_pixel (bounds (p ∷ ps))) (screen_points width height)
fewer width height has p ps h = count-le has (has_pixel (bounds (p ∷ ps))) (screen_points width height) (λ q k. has_from_at (bounds (p ∷ ps)) q (in_bounds width height has p ps h q k))

one_from_count : (width height : ℕ) (has : Point → Bool) (p : Point) (ps : List Point) → IsListed width height has (p ∷ ps) → count_by (has_pixel (bounds (p ∷ ps))) (screen_points width height) ≤ count_by has (screen_points width height) → IsOneBox has
one_from_count width height has p ps h k =
    let b : Box = bounds (p ∷ ps) in
    let inside = in_bounds width height has p ps h in
    let same = count-same has (has_pixel b) (screen_points width height) (λ q i. has_from_at b q (inside q i)) k in
    let at = λ (q : Point) (i : IsAt (screen_box width height) q). screen_at (λ u. has u ≡ has_pixel b u) width height q same i in
    record {
      around = b;
      some = p;
      has_some = has_from_at b p (inside p (first_has width height has p ps h));
      same = λ q. same_from (has q) (has_pixel b q) (λ i. at q (h.on q i)) (λ i. at q (at-around (screen_box width height) b (around_bounds width height has p ps h (screen_box width height) h.on) q (at_from_has b q i)));
    }

count_from_one : (width height : ℕ) (has : Point → Bool) (p : Point) (ps : List Point) → IsListed width height has (p ∷ ps) → IsOneBox has → count_by (has_pixel (bounds (p ∷ ps))) (screen_points width height) ≤ count_by has (screen_points width height)
count_from_one width height has p ps h o =
    let b : Box = bounds (p ∷ ps) in
    let around : IsAround o.around b = around_bounds width height has p ps h o.around (λ q k. at_from_has o.around q (sym (o.same q) ∙ k)) in
    count-le (has_pixel b) has (screen_points width height) (λ q k. o.same q ∙ has_from_at o.around q (at-around o.around b around q (at_from_has b q k)))

ordered : (a x b : ℤ) → a ≤ℤ x → x <ℤ b → a ≤ℤ b
ordered a x b h k = omega (arith, ints)

false_true : {P : Type 0} → false ≡ true → P
false_true h = absurd (grind arith)

-- the area of the bounds
area : (width height : ℕ) (has : Point → Bool) (p : Point) (ps : List Point) → IsListed width height has (p ∷ ps) → (let b = bounds (p ∷ ps) in (b.right -ℤ b.left) *ℤ (b.bottom -ℤ b.top)) ≡ pos (count_by (has_pixel (bounds (p ∷ ps))) (screen_points width height))
area width height has p ps h =
    let b : Box = bounds (p ∷ ps) in
    let s = around_bounds width height has p ps h (screen_box width height) h.on in
    let a = in_bounds width height has p ps h p (first_has width height has p ps h) in
    area_count b.left b.top b.right b.bottom width height s.left (ordered b.left p.x b.right a.left a.right) s.right s.top (ordered b.top p.y b.bottom a.top a.bottom) s.bottom

long : (width height : ℕ) (has : Point → Bool) (ps : List Point) → IsListed width height has ps → length ps ≡ count_by has (screen_points width height)
long width height has ps h = ap (λ (xs : List Point). length xs) (sym h.listed) ∙ length-filter has (screen_points width height)

tells_two : (a : ℤ) (m n : ℕ) → a ≡ pos m → same_int a (pos n) ≡ true → m ≡ n
tells_two a m n e h = grind (arith, nat_tests, (subst (λ z. same_int z (pos n) ≡ true) e h))

tells_three : (a : ℤ) (m n : ℕ) → a ≡ pos m → same_int a (pos n) ≡ false → m ≢ n
tells_three a m n e h = grind (arith, nat_tests, (subst (λ z. same_int z (pos n) ≡ false) e h))

none_one : (has : Point → Bool) → ((p : Point) → has p ≡ false) → IsOneBox has → ⊥
none_one has h o = false_true (sym (h o.some) ∙ (o.same o.some ∙ o.has_some))

no_dot : (p : Point) → has_pixel (box (pos 0) (pos 0) (pos 0) (pos 0)) p ≡ false
no_dot p = no_true _ (λ k. let a = at_from_has (box (pos 0) (pos 0) (pos 0) (pos 0)) p k in let l : pos 0 ≤ℤ p.x = a.left in let r : p.x <ℤ pos 0 = a.right in absurd (omega (arith, ints)))

kind_none : (has : Point → Bool) → ((p : Point) → has p ≡ false) → IsKind has 1
kind_none has h = record {
  empty = (λ e. h, λ k. refl);
  one = (λ e. absurd (omega arith), λ o. absurd (none_one has h o));
  least = omega arith;
  most = omega arith;
}

kind_some : (has : Point → Bool) (m n : ℕ) (t : Bool) → ¬ ((p : Point) → has p ≡ false) → (t ≡ true → m ≡ n) → (t ≡ false → m ≢ n) → n ≤ m → (m ≤ n → IsOneBox has) → (IsOneBox has → m ≤ n) → IsKind has (if t then 2 else 3)
kind_some has m n true some two three less one all = record {
  empty = (λ e. absurd (omega arith), λ none. absurd (some none));
  one = (λ e. one (omega (arith, two refl)), λ o. refl);
  least = omega arith;
  most = omega arith;
}
kind_some has m n false some two three less one all = record {
  empty = (λ e. absurd (omega arith), λ none. absurd (some none));
  one = (λ e. absurd (omega arith), λ o. absurd (three refl (omega (arith, all o))));
  least = omega arith;
  most = omega arith;
}

kind_listed : (width height : ℕ) (has : Point → Bool) (ps : List Point) → IsListed width height has ps → IsKind has (kind_of ps)
kind_listed width height has [] h = kind_none has (none_has width height has h)
kind_listed width height has (p ∷ ps) h =
    let b : Box = bounds (p ∷ ps) in
    let m : ℕ = count_by (has_pixel b) (screen_points width height) in
    let n : ℕ = length (p ∷ ps) in
    let e : n ≡ count_by has (screen_points width height) = long width height has (p ∷ ps) h in
    let z : ℤ = (b.right -ℤ b.left) *ℤ (b.bottom -ℤ b.top) in
    let s : z ≡ pos m = area width height has p ps h in
    kind_some has m n (same_int z (pos n))
    (λ none. false_true (sym (none p) ∙ first_has width height has p ps h))
    (tells_two z m n s)
    (tells_three z m n s)
    (subst (λ u. u ≤ m) (sym e) (fewer width height has p ps h))
    (λ i. one_from_count width height has p ps h (subst (λ u. m ≤ u) e i))
    (λ o. subst (λ u. m ≤ u) (sym e) (count_from_one width height has p ps h o))

bounds_listed : (width height : ℕ) (has : Point → Bool) (ps : List Point) → IsListed width height has ps → IsLeastBox has (bounds ps)
bounds_listed width height has [] h = record { around = λ p k. false_true (sym (none_has width height has h p) ∙ k); within = λ b k p i. false_true (sym (no_dot p) ∙ i) }
bounds_listed width height has (p ∷ ps) h =
    let b : Box = bounds (p ∷ ps) in
    record {
      around = λ q k. has_from_at b q (in_bounds width height has p ps h q k);
      within = λ c k q i. has_from_at c q (at-around c b (around_bounds width height has p ps h c (λ u j. at_from_has c u (k u j))) q (at_from_has b q i));
    }

-- the points of the screen that pass
pub passing_listed : (width height : ℕ) (test : Point → Bool) → IsListed width height (passes width height test) (filter test (screen_points width height))
passing_listed width height test = record {
  on = λ p k. at_from_has (screen_box width height) p (and_first _ (test p) k);
  listed = filter-same (passes width height test) test (screen_points width height) (screen_all (λ p. passes width height test p ≡ test p) width height (λ x y i j. and_is _ (test (point x y)) (on_screen width height x y i j)));
}

pub kind_tells : (width height : ℕ) (test : Point → Bool) → IsKind (passes width height test) (kind_of (filter test (screen_points width height)))
kind_tells width height test = kind_listed width height (passes width height test) (filter test (screen_points width height)) (passing_listed width height test)

pub bounds_tell : (width height : ℕ) (test : Point → Bool) → IsLeastBox (passes width height test) (bounds (filter test (screen_points width height)))
bounds_tell width height test = bounds_listed width height (passes width height test) (filter test (screen_points width height)) (passing_listed width height test)

same_number : (j k : ℕ) → 1 ≤ j → j ≤ 3 → 1 ≤ k → k ≤ 3 → (j ≡ 1 → k ≡ 1) → (k ≡ 1 → j ≡ 1) → (j ≡ 2 → k ≡ 2) → (k ≡ 2 → j ≡ 2) → j ≡ k
same_number j k lj mj lk mk one one' two two' =
    elim (cases_lt 1 j) [
      | inl a ↦ elim (cases_lt 2 j) [
        | inl b ↦ elim (cases_lt 1 k) [
          | inl c ↦ elim (cases_lt 2 k) [ inl d ↦ omega arith | inr d ↦ absurd (omega (arith, two' (omega arith))) ]
          | inr c ↦ absurd (omega (arith, one' (omega arith)))
        ]
        | inr b ↦ omega (arith, two (omega arith))
      ]
      | inr a ↦ omega (arith, one (omega arith))
    ]

-- two numbers that tell the kind of the same pixels are the same
pub same_kind : (has : Point → Bool) (j k : ℕ) → IsKind has j → IsKind has k → j ≡ k
same_kind has j k h i = same_number j k h.least h.most i.least i.most (λ e. i.empty.1 (h.empty.0 e)) (λ e. h.empty.1 (i.empty.0 e)) (λ e. i.one.1 (h.one.0 e)) (λ e. h.one.1 (i.one.0 e))

-- a least rectangle is the bounds, unless there is no pixel
pub least_is : (width height : ℕ) (has : Point → Bool) (ps : List Point) (b : Box) → IsListed width height has ps → IsLeastBox has b → (((p : Point) → has p ≡ false) → b ≡ box (pos 0) (pos 0) (pos 0) (pos 0)) → b ≡ bounds ps
least_is width height has [] b h least empty = empty (none_has width height has h)
least_is width height has (p ∷ ps) b h least empty =
    let c : Box = bounds (p ∷ ps) in
    let k : IsLeastBox has c = bounds_listed width height has (p ∷ ps) h in
    let i = first_has width height has p ps h in
    let around : IsAround b c = around_from_at b c p (at_from_has c p (k.around p i)) (λ q j. at_from_has b q (k.within b least.around q (has_from_at c q j))) in
    let within : IsAround c b = around_from_at c b p (at_from_has b p (least.around p i)) (λ q j. at_from_has c q (least.within c k.around q (has_from_at b q j))) in
    same_from_around b c around within
