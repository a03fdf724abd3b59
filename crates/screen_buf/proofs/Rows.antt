-- Places of pixels in rows that lie one after the other.
use Rattle.std.proofs.Common.{◌≡◌, ℕ, ◌+◌, ◌*◌, ◌≤◌, ◌<◌, take, get_or, length, Bool, true, false, ◌&&◌, ◌||◌, List, refl, sym, ap, subst, ◌∙◌, arith}
use Rattle.std.specs.Prelude.{if◌then◌else◌, nat_lt, nat_le, nat_eq, ℤ, pos, ◌≤ℤ◌, int_le, int_lt}
use Rattle.std.proofs.Math.ListN.{set}
use Rattle.std.proofs.lemmas.Int.{ints}
use Rattle.std.proofs.lemmas.Grind.{common_steps}
use Rattle.std.proofs.lemmas.Nat.{mul-le}
use Rattle.std.proofs.lemmas.List.{length-set}
use Rattle.std.proofs.lemmas.List.Folds.{list_any_more}
use Rattle.win_num.specs.declared.shapes.Rect.{Rect}
use Rattle.band_region.specs.Regions.{rect_has, region_has}
use Rattle.screen_buf.specs.Pictures.{Picture, pixel, IsPainted}
use Rattle.screen_buf.specs.Spans.{IsClipped, IsSpanned, IsBlocked, IsCoated}

pub span_none : (xs : List ℕ) (from colour : ℕ) → IsSpanned xs from from colour xs
span_none xs from colour = record { size = refl; colours = λ i h. grind arith }

pub span_step : (old mid new : List ℕ) (from place colour : ℕ) → from ≤ place → place < length old → new ≡ set mid place colour →
    IsSpanned old from place colour mid → IsSpanned old from (place + 1) colour new
span_step old mid new from place colour h k e s = record {
  size = ap length e ∙ length-set mid place colour ∙ s.size;
  colours = λ i g. one i g (s.colours i g) (s.size);
}
  where
    one : (i : ℕ) → i < length old → get_or mid i 0 ≡ (if nat_le from i && nat_lt i place then colour else get_or old i 0) → length mid ≡ length old → get_or new i 0 ≡ (if nat_le from i && nat_lt i (place + 1) then colour else get_or old i 0)
    one i g f n = rw e (grind (arith, common_steps))

-- one row ends where or before a lower one begins
pub row_below : (a b w : ℕ) → a < b → a * w + w ≤ b * w
row_below a b w h = let k : (a + 1) * w ≤ b * w = mul-le (a + 1) w b w (omega arith) (omega arith) in omega (arith, k)

-- a pixel's place is within the rows
pub place_within : (x y w h : ℕ) → x < w → y < h → y * w + x < h * w
place_within x y w h f g = let k = row_below y h w g in omega (arith, k)

-- the end of a span is within the rows
pub span_within : (right y w h n : ℕ) → n ≡ h * w → right ≤ w → y < h → y * w + right ≤ n
span_within right y w h n e f g = let k = row_below y h w g in omega (arith, k, e)

span_place : (a b w left right x y z : ℕ) → x < w → right ≤ w → (y < z → b + w ≤ a) → (z < y → a + w ≤ b) → (y ≡ z → b ≡ a) →
    (nat_le (a + left) (b + x) && nat_lt (b + x) (a + right)) ≡ (nat_eq y z && nat_le left x && nat_lt x right)
span_place a b w left right x y z f g h k e = grind arith

-- the pixel in column x of row y lies in a span of row z
in_span : (w left right x y z : ℕ) → x < w → right ≤ w → (nat_le (z * w + left) (y * w + x) && nat_lt (y * w + x) (z * w + right)) ≡ (nat_eq y z && nat_le left x && nat_lt x right)
in_span w left right x y z f g = span_place (z * w) (y * w) w left right x y z f g (row_below y z w) (row_below z y w) (λ e. ap (λ n. n * w) e)

pub block_none : (xs : List ℕ) (width height left right top colour : ℕ) → IsBlocked xs width height left right top top colour xs
block_none xs width height left right top colour = record { size = refl; colours = λ x y f g. grind arith }

pub block_step : (old mid new : List ℕ) (width height left right top y colour : ℕ) → length old ≡ height * width → right ≤ width → top ≤ y → y < height →
    IsBlocked old width height left right top y colour mid → IsSpanned mid (y * width + left) (y * width + right) colour new →
    IsBlocked old width height left right top (y + 1) colour new
block_step old mid new width height left right top z colour n r t h b s = record {
  size = s.size ∙ b.size;
  colours = λ x y f g. one x y f (place x y f g) (b.colours x y f g);
}
  where
    place : (x y : ℕ) → x < width → y < height → y * width + x < length mid
    place x y f g = let k = place_within x y width height f g in let e = b.size in omega (arith, k, e, n)

    join : (e l r : Bool) (y c o m v : ℕ) → e ≡ nat_eq y z → m ≡ (if l && r && nat_le top y && nat_lt y z then c else o) → v ≡ (if e && l && r then c else m) → v ≡ (if l && r && nat_le top y && nat_lt y (z + 1) then c else o)
    join true true true y c o m v e f g = grind arith
    join true true false y c o m v e f g = grind arith
    join true false r y c o m v e f g = grind arith
    join false true true y c o m v e f g = grind arith
    join false true false y c o m v e f g = grind arith
    join false false r y c o m v e f g = grind arith

    one : (x y : ℕ) → x < width → y * width + x < length mid → get_or mid (y * width + x) 0 ≡ (if nat_le left x && nat_lt x right && nat_le top y && nat_lt y z then colour else get_or old (y * width + x) 0) →
        get_or new (y * width + x) 0 ≡ (if nat_le left x && nat_lt x right && nat_le top y && nat_lt y (z + 1) then colour else get_or old (y * width + x) 0)
    one x y f p e = join (nat_eq y z) (nat_le left x) (nat_lt x right) y colour _ _ _ refl e (s.colours (y * width + x) p ∙ ap (λ v. if v then colour else get_or mid (y * width + x) 0) (in_span width left right x y z f r))

pub block_at : {old new : List ℕ} {width height left right top y bottom colour : ℕ} → y ≡ bottom → IsBlocked old width height left right top y colour new → IsBlocked old width height left right top bottom colour new
block_at {old = old} {new = new} {width = width} {height = height} {left = left} {right = right} {top = top} {colour = colour} e b = subst (λ n. IsBlocked old width height left right top n colour new) e b

-- a place in a row fits a machine's word
pub row_fits : (y w h k : ℕ) → y < h → h < 65536 → w < 65536 → k ≤ w → y * w + k < 18446744073709551616
row_fits y w h k a b c d = let m = mul-le y w 65535 65535 (omega arith) (omega arith) in omega (arith, m)

-- edges that are clipped to a screen
pub clipped_most : (edge : ℤ) (size place : ℕ) → IsClipped edge size place → place ≤ size
clipped_most edge size place c = let a = c.before in let b = c.within in let d = c.behind in grind (arith, ints)

pub clipped_order : (a b : ℤ) (size p q : ℕ) → a ≤ℤ b → IsClipped a size p → IsClipped b size q → p ≤ q
clipped_order a b size p q h c d = let c1 = c.before in let c2 = c.within in let c3 = c.behind in let d1 = d.before in let d2 = d.within in let d3 = d.behind in grind (arith, ints)

clipped_left : (edge : ℤ) (size place n : ℕ) → IsClipped edge size place → n < size → int_le edge (pos n) ≡ nat_le place n
clipped_left edge size place n c h = let a = c.before in let b = c.within in let d = c.behind in grind (arith, ints)

clipped_right : (edge : ℤ) (size place n : ℕ) → IsClipped edge size place → n < size → int_lt (pos n) edge ≡ nat_lt n place
clipped_right edge size place n c h = let a = c.before in let b = c.within in let d = c.behind in grind (arith, ints)

pub block_done : (old new : List ℕ) (width height left right top bottom colour : ℕ) (r : Rect) →
    IsClipped r.l width left → IsClipped r.r width right → IsClipped r.t height top → IsClipped r.b height bottom →
    IsBlocked old width height left right top bottom colour new → IsCoated old width height (λ p. rect_has r p) colour new
unfolding rect_has
block_done old new width height left right top bottom colour r cl cr ct cb b = record {
  size = b.size;
  colours = λ x y f g. b.colours x y f g ∙ ap (λ v. if v then colour else get_or old (y * width + x) 0) (sym (rw (clipped_left r.l width left x cl f, clipped_right r.r width right x cr f, clipped_left r.t height top y ct g, clipped_right r.b height bottom y cb g) refl));
}

-- one more rectangle
pub coat_none : (xs : List ℕ) (width height colour : ℕ) → IsCoated xs width height (λ p. false) colour xs
coat_none xs width height colour = record { size = refl; colours = λ x y f g. refl }

pub coat_step : (old mid new : List ℕ) (width height colour : ℕ) (parts : List Rect) (r : Rect) (i : ℕ) → i < length parts → r ≡ get_or parts i r →
    IsCoated old width height (λ p. region_has (take i parts) p) colour mid → IsCoated mid width height (λ p. rect_has r p) colour new →
    IsCoated old width height (λ p. region_has (take (i + 1) parts) p) colour new
coat_step old mid new width height colour parts r i h e b s = record {
  size = s.size ∙ b.size;
  colours = λ x y f g. join _ _ _ _ _ _ (b.colours x y f g) (s.colours x y f g) (list_any_more (λ q. rect_has q (pixel x y)) parts i r h ∙ ap (λ q. region_has (take i parts) (pixel x y) || rect_has q (pixel x y)) (sym e));
}
  where
    join : (s t u : Bool) (o m n : ℕ) → m ≡ (if s then colour else o) → n ≡ (if t then colour else m) → u ≡ (s || t) → n ≡ (if u then colour else o)
    join true true u o m n e f g = rw g f
    join true false u o m n e f g = rw g (f ∙ e)
    join false true u o m n e f g = rw g f
    join false false u o m n e f g = rw g (f ∙ e)

pub take_whole : (xs : List Rect) (i : ℕ) → length xs ≤ i → take i xs ≡ xs
take_whole xs i h = grind (arith, common_steps)

pub coat_done : (old new : List ℕ) (width height colour : ℕ) (parts : List Rect) (i : ℕ) → length parts ≤ i →
    IsCoated old width height (λ p. region_has (take i parts) p) colour new → IsCoated old width height (λ p. region_has parts p) colour new
coat_done old new width height colour parts i h b = record {
  size = b.size;
  colours = λ x y f g. b.colours x y f g ∙ ap (λ (ps : List Rect). if region_has ps (pixel x y) then colour else get_or old (y * width + x) 0) (take_whole parts i h);
}

-- a screen whose rows are painted
pub painted : {s : Picture} (xs old new now : List ℕ) (width height colour : ℕ) (parts rs : List Rect) → record { width = width; height = height; colours = old } ≡ s → xs ≡ old → parts ≡ rs → now ≡ new →
    IsCoated xs width height (λ p. region_has parts p) colour new →
    IsPainted s (λ p. region_has rs p) colour (record { width = width; height = height; colours = now })
painted xs old new now width height colour parts rs v f e g b =
    let k = subst (λ ps. IsCoated old width height (λ p. region_has ps p) colour new) e (subst (λ ys. IsCoated ys width height (λ p. region_has parts p) colour new) f b) in
    let m = subst (λ ys. IsCoated old width height (λ p. region_has rs p) colour ys) (sym g) k in
    subst (λ (s : Picture). IsPainted s (λ p. region_has rs p) colour (record { width = width; height = height; colours = now })) v (record { width = refl; height = refl; colours = m.colours })
