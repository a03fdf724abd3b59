-- The points of a screen, and how many of them a rectangle has.
use Rattle.std.proofs.Common.{◌≡◌, ◌<◌, ◌≤◌, ◌+◌, ◌-◌, ◌*◌, ℕ, zero, suc, min, ltb, leb, ◌&&◌, [], ◌∷◌, ◌++◌, inl, inr, refl, sym, ap, subst, ◌∙◌, arith}
use Rattle.std.specs.Prelude.{ℤ, pos, negsuc, ◌-ℤ◌, ◌*ℤ◌, ◌≤ℤ◌, ◌<ℤ◌, All, Contains, count_by, cond}
use Rattle.std.proofs.lemmas.Int.{ints}
use Rattle.std.proofs.lemmas.Bool.{cases_lt}
use Rattle.std.proofs.lemmas.Bool.Decides.{nat_tests}
use Rattle.std.proofs.Math.Nat.{suc-mul, mul_comm}
use Rattle.std.proofs.Math.IntN.{pos-*ℤ-pos}
use Rattle.std.proofs.lemmas.List.Sums.{sum_by_push, sum_by-append}
use Rattle.std.proofs.lemmas.List.Elements.{All-nil, All-push, All-append}
use Rattle.std.proofs.lemmas.List.Elements.{All-contains, Contains-push, Contains-append_left, Contains-append_right}
use Rattle.win_num.specs.declared.shapes.Point.{Point}
use Rattle.win_num.specs.PixelSets.{box, has_pixel}
use Rattle.band_region.proofs.Pixels.{IsAt}
use Rattle.region_box.specs.Screens.{row_points, screen_points, screen_box}

abbrev pub point : ℕ → ℕ → Point
point x y = record { x = pos x; y = pos y }

-- what holds of each point of a row, or of a screen
pub row_all : (P : Point → Type 0) (y : ℕ) (n : ℕ) → ((x : ℕ) → x < n → P (point x y)) → All P (row_points (pos y) n)
unfolding row_points
row_all P y zero h = All-nil P
row_all P y (suc n) h = All-push P (row_points (pos y) n) (point n y) (row_all P y n (λ x k. h x (omega arith))) (h n (omega arith))

pub screen_all : (P : Point → Type 0) (width height : ℕ) → ((x y : ℕ) → x < width → y < height → P (point x y)) → All P (screen_points width height)
unfolding screen_points
screen_all P width zero h = All-nil P
screen_all P width (suc y) h = All-append P (screen_points width y) (row_points (pos y) width) (screen_all P width y (λ a b i j. h a b i (omega arith))) (row_all P y width (λ x k. h x y k (omega arith)))

-- each point in the ranges is there
row_has : (x y n : ℕ) → x < n → Contains (row_points (pos y) n) (point x y)
unfolding row_points
row_has x y zero h = absurd (omega arith)
row_has x y (suc n) h =
    elim (cases_lt x n) [
      | inl k ↦ Contains-append_left (row_points (pos y) n) (point n y ∷ []) (point x y) (row_has x y n k)
      | inr k ↦ let e : n ≡ x = omega arith in subst (λ z. Contains (row_points (pos y) n ++ point n y ∷ []) (point z y)) e (Contains-push (row_points (pos y) n) (point n y))
    ]

screen_has : (x y width height : ℕ) → x < width → y < height → Contains (screen_points width height) (point x y)
unfolding screen_points
screen_has x y width zero h k = absurd (omega arith)
screen_has x y width (suc n) h k =
    elim (cases_lt y n) [
      | inl i ↦ Contains-append_left (screen_points width n) (row_points (pos n) width) (point x y) (screen_has x y width n h i)
      | inr i ↦ let e : n ≡ y = omega arith in subst (λ z. Contains (screen_points width n ++ row_points (pos n) width) (point x z)) e (Contains-append_right (screen_points width n) (row_points (pos n) width) (point x n) (row_has x n width h))
    ]

point_at : (P : Point → Type 0) (width height : ℕ) (x y : ℤ) → All P (screen_points width height) → pos 0 ≤ℤ x → x <ℤ pos width → pos 0 ≤ℤ y → y <ℤ pos height → P (record { x = x; y = y })
point_at P width height (pos x) (pos y) h l r t b = All-contains P (screen_points width height) (point x y) h (screen_has x y width height (omega (arith, ints)) (omega (arith, ints)))
point_at P width height (negsuc x) y h l r t b = absurd (omega (arith, ints))
point_at P width height (pos x) (negsuc y) h l r t b = absurd (omega (arith, ints))

-- what holds of each point in the list holds of each pixel of the screen
pub screen_at : (P : Point → Type 0) (width height : ℕ) (p : Point) → All P (screen_points width height) → IsAt (screen_box width height) p → P p
screen_at P width height p h a = point_at P width height p.x p.y h a.left a.right a.top a.bottom

-- how many points of a row, and of a screen, a rectangle has
at_column : (l r t b x y : ℕ) → has_pixel (box (pos l) (pos t) (pos r) (pos b)) (point x y) ≡ (leb l x && ltb x r && leb t y && ltb y b)
at_column l r t b x y = refl

row_more : (l r t b y n : ℕ) → cond (leb t y && ltb y b) (min n r - l) 0 + cond (leb l n && ltb n r && leb t y && ltb y b) 1 0 ≡ cond (leb t y && ltb y b) (min (suc n) r - l) 0
row_more l r t b y n = grind (arith, nat_tests)

row_count : (l r t b y n : ℕ) → count_by (has_pixel (box (pos l) (pos t) (pos r) (pos b))) (row_points (pos y) n) ≡ cond (leb t y && ltb y b) (min n r - l) 0
unfolding row_points
row_count l r t b y zero = grind (arith, nat_tests)
row_count l r t b y (suc n) =
    sum_by_push (λ p. cond (has_pixel (box (pos l) (pos t) (pos r) (pos b)) p) 1 0) (row_points (pos y) n) (point n y)
    ∙ (ap (λ k. k + cond (leb l n && ltb n r && leb t y && ltb y b) 1 0) (row_count l r t b y n) ∙ row_more l r t b y n)

one_more : (k m c : ℕ) → m ≡ suc k → k * c + c ≡ m * c
one_more k m c e = sym (ap (λ z. z * c) e ∙ suc-mul k c)

rows_more : (t b n c : ℕ) → (min n b - t) * c + cond (leb t n && ltb n b) c 0 ≡ (min (suc n) b - t) * c
rows_more t b n c =
    elim (cases_lt n b) [
      | inl k ↦ elim (cases_lt n t) [
        | inl j ↦ grind (arith, nat_tests)
        | inr j ↦ grind (arith, nat_tests, one_more (min n b - t) (min (suc n) b - t) c (omega arith))
      ]
      | inr k ↦ grind (arith, nat_tests)
    ]

screen_count : (l r t b width n : ℕ) → count_by (has_pixel (box (pos l) (pos t) (pos r) (pos b))) (screen_points width n) ≡ (min n b - t) * (min width r - l)
unfolding screen_points
screen_count l r t b width zero = grind arith
screen_count l r t b width (suc n) =
    sum_by-append (λ p. cond (has_pixel (box (pos l) (pos t) (pos r) (pos b)) p) 1 0) (screen_points width n) (row_points (pos n) width)
    ∙ (rw (screen_count l r t b width n, row_count l r t b n width) (rows_more t b n (min width r - l)))

pos_minus : (l r : ℕ) → l ≤ r → pos r -ℤ pos l ≡ pos (r - l)
pos_minus l r h = omega (arith, ints)

-- a rectangle within a screen has as many of its points as its edges say
pub area_count : (l t r b : ℤ) (width height : ℕ) → pos 0 ≤ℤ l → l ≤ℤ r → r ≤ℤ pos width → pos 0 ≤ℤ t → t ≤ℤ b → b ≤ℤ pos height → (r -ℤ l) *ℤ (b -ℤ t) ≡ pos (count_by (has_pixel (box l t r b)) (screen_points width height))
area_count (pos l) (pos t) (pos r) (pos b) width height hl hr hw ht hb hh =
    let across : min width r - l ≡ r - l = omega (arith, ints) in
    let down : min height b - t ≡ b - t = omega (arith, ints) in
    rw (pos_minus l r (omega (arith, ints)), pos_minus t b (omega (arith, ints)), screen_count l r t b width height, across, down) (pos-*ℤ-pos (r - l) (b - t) ∙ ap pos (mul_comm (r - l) (b - t)))
area_count (negsuc l) t r b width height hl hr hw ht hb hh = absurd (omega (arith, ints))
area_count (pos l) (negsuc t) r b width height hl hr hw ht hb hh = absurd (omega (arith, ints))
area_count (pos l) (pos t) (negsuc r) b width height hl hr hw ht hb hh = absurd (omega (arith, ints))
area_count (pos l) (pos t) (pos r) (negsuc b) width height hl hr hw ht hb hh = absurd (omega (arith, ints))
