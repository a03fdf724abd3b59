-- Colours that are carried row by row, and rectangle by rectangle.
use Rattle.std.proofs.Common.{◌≡◌, ℕ, ◌+◌, ◌-◌, ◌*◌, ◌≤◌, ◌<◌, ◌⊎◌, inl, inr, Bool, true, false, ◌&&◌, ◌||◌, List, take, get_or, length, refl, sym, ap, subst, ◌∙◌, arith, w32, to_z, of_z}
use Rattle.std.specs.Prelude.{ℤ, pos, ◌-ℤ◌, ◌≤ℤ◌, ◌<ℤ◌, int_le, int_lt, nat_le, nat_lt, FitsSigned}
use Rattle.std.proofs.lemmas.Int.{ints, to_z-of_z}
use Rattle.std.proofs.lemmas.List.Folds.{list_any_at, list_any_more}
use Rattle.win_num.specs.declared.shapes.Rect.{Rect}
use Rattle.win_num.specs.declared.shapes.Point.{Point}
use Rattle.win_num.specs.PixelSets.{Box, box, has_pixel}
use Rattle.win_num.specs.Rects.{box_in}
use Rattle.band_region.specs.Regions.{rect_has, region_has, moved_back, IsFilled}
use Rattle.screen_buf.specs.Pictures.{Picture, pixel, IsCarried, LiesOn}
use Rattle.screen_buf.specs.declared.carry.Block.{Block}
use Rattle.screen_buf.specs.Carrying.{Fits, IsSpanCarried, IsBlockCarried, IsOutside, IsCopied}
use Rattle.band_region.proofs.Pixels.{IsAt, at_from_has, has_from_at, at_from_rect, rect_from_at, rect_has-is}
use Rattle.screen_buf.proofs.Rows.{row_below, take_whole}

-- a pixel that isn't in a span lies before it or behind it
beside : (a b w left columns x y top row : ℕ) → x < w → left + columns ≤ w → (y < top + row → a + w ≤ b) → (top + row < y → b + w ≤ a) → (y ≡ top + row → a ≡ b) →
    (x < left) ⊎ ((left + columns ≤ x) ⊎ ((y < top) ⊎ (top + (row + 1) ≤ y))) → (a + x < b + left) ⊎ (b + left + columns ≤ a + x)
beside a b w left columns x y top row g f h k e (inl o) = grind arith
beside a b w left columns x y top row g f h k e (inr (inl o)) = grind arith
beside a b w left columns x y top row g f h k e (inr (inr (inl o))) = inl (let m = h (omega arith) in omega (arith, m))
beside a b w left columns x y top row g f h k e (inr (inr (inr o))) = inr (let m = k (omega arith) in omega (arith, m))

-- a part of a row is within the rows
pub part_within : (left columns y w h n : ℕ) → n ≡ h * w → left + columns ≤ w → y < h → y * w + left + columns ≤ n
part_within left columns y w h n e f g = let k = row_below y h w g in omega (arith, k, e)

pub block_none : (xs before : List ℕ) (width height : ℕ) (b : Block) → IsBlockCarried xs before width height b 0 xs
block_none xs before width height b = record { size = refl; carried = λ x y h k. grind arith; kept = λ x y h k o. refl }

pub block_step : (old before mid new : List ℕ) (width height : ℕ) (b : Block) (row : ℕ) → Fits width height b → row < b.rows →
    IsBlockCarried old before width height b row mid →
    IsSpanCarried mid before ((b.top + row) * width + b.left) ((b.from_top + row) * width + b.from_left) b.columns new →
    IsBlockCarried old before width height b (row + 1) new
block_step old before mid new width height b row f h m s = record {
  size = s.size ∙ m.size;
  carried = λ x y g k. by_row x y g (split y k);
  kept = λ x y g k o. untouched x y g o (m.kept x y g k (fewer x y o));
}
  where
    split : (y : ℕ) → y < row + 1 → (y < row) ⊎ (y ≡ row)
    split y k = grind arith

    above : (x y : ℕ) → x < b.columns → y < row → (b.top + y) * width + b.left + x < (b.top + row) * width + b.left
    above x y g k =
        let r = f.right in
        let e = row_below (b.top + y) (b.top + row) width (omega arith) in
        omega (arith, e, r)

    by_row : (x y : ℕ) → x < b.columns → (y < row) ⊎ (y ≡ row) → get_or new ((b.top + y) * width + b.left + x) 0 ≡ get_or before ((b.from_top + y) * width + b.from_left + x) 0
    by_row x y g (inl k) = s.left _ (above x y g k) ∙ m.carried x y g k
    by_row x y g (inr e) = rw e (s.carried x g)

    fewer : (x y : ℕ) → IsOutside b (row + 1) x y → IsOutside b row x y
    fewer x y (inl o) = inl o
    fewer x y (inr (inl o)) = inr (inl o)
    fewer x y (inr (inr (inl o))) = inr (inr (inl o))
    fewer x y (inr (inr (inr o))) = inr (inr (inr (omega arith)))

    lies : (x y : ℕ) → x < width → IsOutside b (row + 1) x y → (y * width + x < (b.top + row) * width + b.left) ⊎ ((b.top + row) * width + b.left + b.columns ≤ y * width + x)
    lies x y g o = beside (y * width) ((b.top + row) * width) width b.left b.columns x y b.top row g f.right (row_below y (b.top + row) width) (row_below (b.top + row) y width) (λ e. ap (λ n. n * width) e) o

    untouched : (x y : ℕ) → x < width → IsOutside b (row + 1) x y → get_or mid (y * width + x) 0 ≡ get_or old (y * width + x) 0 → get_or new (y * width + x) 0 ≡ get_or old (y * width + x) 0
    untouched x y g o e = elim (lies x y g o) [ inl k ↦ s.left _ k ∙ e | inr k ↦ s.right _ k ∙ e ]

-- the edges of a rectangle that lies on a screen, as does the rectangle that a move brings there
pub record Edges (w h : ℕ) (r : Rect) (dx dy : ℤ) : Type 0 where
  pub left : pos 0 ≤ℤ r.l
  pub top : pos 0 ≤ℤ r.t
  pub right : r.r ≤ℤ pos w
  pub bottom : r.b ≤ℤ pos h
  pub from_left : pos 0 ≤ℤ (r.l -ℤ dx)
  pub from_top : pos 0 ≤ℤ (r.t -ℤ dy)
  pub from_right : (r.r -ℤ dx) ≤ℤ pos w
  pub from_bottom : (r.b -ℤ dy) ≤ℤ pos h

one_more : (a b : ℤ) → (a -ℤ pos 1) <ℤ b → a ≤ℤ b
one_more a b h = omega (arith, ints)

one_less : (a b c : ℤ) → ((a -ℤ pos 1) -ℤ c) <ℤ b → (a -ℤ c) ≤ℤ b
one_less a b c h = omega (arith, ints)

pub edges : (w h : ℕ) (r : Rect) (dx dy : ℤ) → IsFilled r → LiesOn w h (λ p. rect_has r p) dx dy → Edges w h r dx dy
edges w h r dx dy f s =
    let across = f.0 in
    let down = f.1 in
    let first = rect_from_at r (record { x = r.l; y = r.t }) (record { left = omega (arith, ints); right = across; top = omega (arith, ints); bottom = down }) in
    let last = rect_from_at r (record { x = r.r -ℤ pos 1; y = r.b -ℤ pos 1 }) (record { left = omega (arith, ints); right = omega (arith, ints); top = omega (arith, ints); bottom = omega (arith, ints) }) in
    let screen = box (pos 0) (pos 0) (pos w) (pos h) in
    let a : IsAt screen (record { x = r.l; y = r.t }) = at_from_has _ _ (s.here _ first) in
    let b : IsAt screen (record { x = r.r -ℤ pos 1; y = r.b -ℤ pos 1 }) = at_from_has _ _ (s.here _ last) in
    let c : IsAt screen (moved_back dx dy (record { x = r.l; y = r.t })) = at_from_has _ _ (s.there _ first) in
    let d : IsAt screen (moved_back dx dy (record { x = r.r -ℤ pos 1; y = r.b -ℤ pos 1 })) = at_from_has _ _ (s.there _ last) in
    record {
      left = a.left;
      top = a.top;
      right = one_more r.r (pos w) b.right;
      bottom = one_more r.b (pos h) b.bottom;
      from_left = c.left;
      from_top = c.top;
      from_right = one_less r.r (pos w) dx d.right;
      from_bottom = one_less r.b (pos h) dy d.bottom;
    }

-- a far end that lies on a screen, and a near end that lies before it
pub near : (l r d : ℤ) (n : ℕ) → l ≤ℤ r → (r -ℤ d) ≤ℤ pos n → n ≤ 16777216 → (l -ℤ d) ≤ℤ pos 16777216
near l r d n f g h = omega (arith, ints)

-- a distance of two numbers that fit a word of the machine
pub apart : (k l d : ℤ) → k ≡ l → FitsSigned w32 l → FitsSigned w32 d → (to_z w32 (of_z w32 k) -ℤ to_z w32 (of_z w32 d)) ≡ l -ℤ d
apart k l d e f g = rw (e, to_z-of_z w32 l f, to_z-of_z w32 d g) refl

pub zero_fits : FitsSigned w32 (pos 0)
zero_fits = record { sfits = omega arith }

pub ends : (j k r l : ℤ) → j ≡ r → k ≡ l → FitsSigned w32 r → FitsSigned w32 l → (to_z w32 (of_z w32 j) -ℤ to_z w32 (of_z w32 k)) ≡ r -ℤ l
ends j k r l e h f g = rw (e, h, to_z-of_z w32 r f, to_z-of_z w32 l g) refl

-- the block is that of the rectangle
pub record IsBlockOf (b : Block) (r : Rect) (dx dy : ℤ) : Type 0 where
  pub left : pos b.left ≡ r.l -ℤ pos 0
  pub top : pos b.top ≡ r.t -ℤ pos 0
  pub columns : pos b.columns ≡ r.r -ℤ r.l
  pub rows : pos b.rows ≡ r.b -ℤ r.t
  pub from_left : pos b.from_left ≡ r.l -ℤ dx
  pub from_top : pos b.from_top ≡ r.t -ℤ dy

pub fits : (w h : ℕ) (r : Rect) (dx dy : ℤ) (b : Block) → Edges w h r dx dy → IsBlockOf b r dx dy → Fits w h b
fits w h r dx dy b e i = record {
  right = end b.left b.columns w r.l r.r i.left i.columns e.right;
  bottom = end b.top b.rows h r.t r.b i.top i.rows e.bottom;
  from_right = from_end b.from_left b.columns w r.l r.r dx i.from_left i.columns e.from_right;
  from_bottom = from_end b.from_top b.rows h r.t r.b dy i.from_top i.rows e.from_bottom;
}
  where
    end : (p n w : ℕ) (l r : ℤ) → pos p ≡ l -ℤ pos 0 → pos n ≡ r -ℤ l → r ≤ℤ pos w → p + n ≤ w
    end p n w l r f g h = omega (arith, ints)

    from_end : (p n w : ℕ) (l r d : ℤ) → pos p ≡ l -ℤ d → pos n ≡ r -ℤ l → (r -ℤ d) ≤ℤ pos w → p + n ≤ w
    from_end p n w l r d f g h = omega (arith, ints)

-- on which side of a rectangle a pixel lies that isn't one of its
last : (a b c d : Bool) → a ≡ true → b ≡ true → c ≡ true → (a && b && c && d) ≡ false → d ≡ false
last a b c d f g h k = let e : (a && b && c) ≡ true = rw (f, g, h) refl in sym (ap (λ v. v && d) e) ∙ k

below : (m n : ℕ) → nat_lt m n ≡ true → m < n
below m n f = grind arith

least : (m n : ℕ) → nat_lt n m ≡ false → nat_le m n ≡ true
least m n f = grind arith

most : (m n : ℕ) → nat_lt n m ≡ false → m ≤ n
most m n f = grind arith

one_side : (x y left right top bottom : ℕ) → (nat_le left x && nat_lt x right && nat_le top y && nat_lt y bottom) ≡ false → (x < left) ⊎ ((right ≤ x) ⊎ ((y < top) ⊎ (bottom ≤ y)))
one_side x y left right top bottom e = first (nat_lt x left) refl (nat_lt x right) refl (nat_lt y top) refl
  where
    first : (a : Bool) → nat_lt x left ≡ a → (b : Bool) → nat_lt x right ≡ b → (c : Bool) → nat_lt y top ≡ c → (x < left) ⊎ ((right ≤ x) ⊎ ((y < top) ⊎ (bottom ≤ y)))
    first true f b g c h = inl (below x left f)
    first false f false g c h = inr (inl (most right x g))
    first false f true g true h = inr (inr (inl (below y top h)))
    first false f true g false h = inr (inr (inr (most bottom y (last _ _ _ _ (least left x f) g (least top y h) e))))

-- colours that are carried to a block are carried to its rectangle
pub rect_copied : (old before new : List ℕ) (w h : ℕ) (r : Rect) (dx dy : ℤ) (b : Block) → IsBlockOf b r dx dy → IsBlockCarried old before w h b b.rows new →
    IsCopied old before w h (λ p. rect_has r p) dx dy new
rect_copied old before new w h r dx dy b i s = record {
  size = s.size;
  carried = λ x y u v f g t m. one x y u v (at_from_rect r (pixel x y) t) (ap (λ (p : Point). p.x) m) (ap (λ (p : Point). p.y) m);
  kept = λ x y f g t. s.kept x y f g (outside x y t);
}
  where
    within : (x p n : ℕ) (l r : ℤ) → pos p ≡ l -ℤ pos 0 → pos n ≡ r -ℤ l → l ≤ℤ pos x → pos x <ℤ r → x - p < n
    within x p n l r f g h k = omega (arith, ints)

    back : (x p : ℕ) (l : ℤ) → pos p ≡ l -ℤ pos 0 → l ≤ℤ pos x → p + (x - p) ≡ x
    back x p l f h = omega (arith, ints)

    moved : (x u p q : ℕ) (l d : ℤ) → pos p ≡ l -ℤ pos 0 → pos q ≡ l -ℤ d → l ≤ℤ pos x → (pos x -ℤ d) ≡ pos u → q + (x - p) ≡ u
    moved x u p q l d f g h e = omega (arith, ints)

    place : (a b c n x y : ℕ) → c ≡ y → b + n ≡ x → c * a + b + n ≡ y * a + x
    place a b c n x y e f = rw (sym e, sym f) (omega arith)

    one : (x y u v : ℕ) → IsAt (box_in r) (pixel x y) → (pos x -ℤ dx) ≡ pos u → (pos y -ℤ dy) ≡ pos v → get_or new (y * w + x) 0 ≡ get_or before (v * w + u) 0
    one x y u v a d e =
        let k = s.carried (x - b.left) (y - b.top) (within x _ _ _ _ i.left i.columns a.left a.right) (within y _ _ _ _ i.top i.rows a.top a.bottom) in
        let p : (b.top + (y - b.top)) * w + b.left + (x - b.left) ≡ y * w + x = place w b.left _ _ x y (back y _ _ i.top a.top) (back x _ _ i.left a.left) in
        let q : (b.from_top + (y - b.top)) * w + b.from_left + (x - b.left) ≡ v * w + u = place w b.from_left _ _ u v (moved y v _ _ _ dy i.top i.from_top a.top e) (moved x u _ _ _ dx i.left i.from_left a.left d) in
        ap (λ n. get_or new n 0) (sym p) ∙ k ∙ ap (λ n. get_or before n 0) q

    outside : (x y : ℕ) → rect_has r (pixel x y) ≡ false → IsOutside b b.rows x y
    outside x y t = one_side x y _ _ _ _ (sym (in_block x y _ _ _ _ _ _ _ _ i.left i.columns i.top i.rows) ∙ sym (rect_has-is r (pixel x y)) ∙ t)
      where
        from_le : (x p : ℕ) (l : ℤ) → pos p ≡ l -ℤ pos 0 → int_le l (pos x) ≡ nat_le p x
        from_le x p l f = grind (arith, ints)

        from_lt : (x p n : ℕ) (l r : ℤ) → pos p ≡ l -ℤ pos 0 → pos n ≡ r -ℤ l → int_lt (pos x) r ≡ nat_lt x (p + n)
        from_lt x p n l r f g = grind (arith, ints)

        in_block : (x y left columns top rows : ℕ) (l r t b : ℤ) → pos left ≡ l -ℤ pos 0 → pos columns ≡ r -ℤ l → pos top ≡ t -ℤ pos 0 → pos rows ≡ b -ℤ t →
            has_pixel (box l t r b) (pixel x y) ≡ (nat_le left x && nat_lt x (left + columns) && nat_le top y && nat_lt y (top + rows))
        in_block x y left columns top rows l r t b f g h k = rw (from_le x left l f, from_lt x left columns l r f g, from_le y top t h, from_lt y top rows t b h k) refl

pub rects_none : (xs before : List ℕ) (w h : ℕ) (dx dy : ℤ) → IsCopied xs before w h (λ p. false) dx dy xs
rects_none xs before w h dx dy = record { size = refl; carried = λ x y u v f g t m. absurd (grind arith); kept = λ x y f g t. refl }

-- one more rectangle
pub rects_step : (old before mid new : List ℕ) (w h : ℕ) (dx dy : ℤ) (parts : List Rect) (r : Rect) (i : ℕ) → i < length parts → r ≡ get_or parts i r →
    IsCopied old before w h (λ p. region_has (take i parts) p) dx dy mid → IsCopied mid before w h (λ p. rect_has r p) dx dy new →
    IsCopied old before w h (λ p. region_has (take (i + 1) parts) p) dx dy new
rects_step old before mid new w h dx dy parts r i k e m s = record {
  size = s.size ∙ m.size;
  carried = λ x y u v f g t d. either (rect_has r (pixel x y)) (region_has (take i parts) (pixel x y)) (sym (more (pixel x y)) ∙ t) (λ a. s.carried x y u v f g a d) (λ a n. s.kept x y f g n ∙ m.carried x y u v f g a d);
  kept = λ x y f g t. let n = neither (region_has (take i parts) (pixel x y)) (rect_has r (pixel x y)) (sym (more (pixel x y)) ∙ t) in s.kept x y f g n.1 ∙ m.kept x y f g n.0;
}
  where
    more : (p : Point) → region_has (take (i + 1) parts) p ≡ (region_has (take i parts) p || rect_has r p)
    more p = list_any_more (λ q. rect_has q p) parts i r k ∙ ap (λ q. region_has (take i parts) p || rect_has q p) (sym e)

    either : {X : Type 0} (b : Bool) → (a : Bool) → (a || b) ≡ true → (b ≡ true → X) → (a ≡ true → b ≡ false → X) → X
    either true a t f g = f refl
    either false true t f g = g refl refl
    either false false t f g = absurd (grind arith)

    neither : (a b : Bool) → (a || b) ≡ false → (a ≡ false) × (b ≡ false)
    neither false false t = (refl, refl)
    neither true b t = absurd (grind arith)
    neither false true t = absurd (grind arith)

pub rects_done : (old before new : List ℕ) (w h : ℕ) (dx dy : ℤ) (parts : List Rect) (i : ℕ) → length parts ≤ i →
    IsCopied old before w h (λ p. region_has (take i parts) p) dx dy new → IsCopied old before w h (λ p. region_has parts p) dx dy new
rects_done old before new w h dx dy parts i k s = subst (λ ps. IsCopied old before w h (λ p. region_has ps p) dx dy new) (take_whole parts i k) s

-- what lies on a screen as a part of the rectangles
pub part_lies : (w h : ℕ) (dx dy : ℤ) (parts : List Rect) (r : Rect) (i : ℕ) → i < length parts → r ≡ get_or parts i r → LiesOn w h (λ p. region_has parts p) dx dy → LiesOn w h (λ p. rect_has r p) dx dy
part_lies w h dx dy parts r i k e s = record { here = λ p t. s.here p (some p t); there = λ p t. s.there p (some p t) }
  where
    some : (p : Point) → rect_has r p ≡ true → region_has parts p ≡ true
    some p t = list_any_at (λ q. rect_has q p) parts i r k (subst (λ (q : Rect). rect_has q p ≡ true) e t)

pub lies_by : {w h : ℕ} {test : Point → Bool} {a b c d : ℤ} → a ≡ c → b ≡ d → LiesOn w h test c d → LiesOn w h test a b
lies_by {w = w} {h = h} {test = test} {a = a} {d = d} e f s = subst (λ y. LiesOn w h test a y) (sym f) (subst (λ x. LiesOn w h test x d) (sym e) s)

pub copied_by : {old before new : List ℕ} {w h : ℕ} {test : Point → Bool} {a b c d : ℤ} → a ≡ c → b ≡ d → IsCopied old before w h test a b new → IsCopied old before w h test c d new
copied_by {old = old} {before = before} {new = new} {w = w} {h = h} {test = test} {b = b} {c = c} e f s = subst (λ y. IsCopied old before w h test c y new) f (subst (λ x. IsCopied old before w h test x b new) e s)

still : (x y : ℕ) → moved_back (pos 0) (pos 0) (pixel x y) ≡ pixel x y
still x y = rw (whole x, whole y) refl
  where
    whole : (n : ℕ) → (pos n -ℤ pos 0) ≡ pos n
    whole n = omega (arith, ints)

-- colours that are carried into a room of the screen's size, and from there to their places, are carried all at once
pub carried : {s : Picture} (xs taken under room put now given : List ℕ) (width height : ℕ) (dx dy : ℤ) (parts ps qs : List Rect) → record { width = width; height = height; colours = xs } ≡ s → ps ≡ parts → qs ≡ parts → taken ≡ xs → under ≡ xs → now ≡ put → given ≡ room →
    {old : List ℕ} → IsCopied old taken width height (λ p. region_has ps p) dx dy room → IsCopied under given width height (λ p. region_has qs p) (pos 0) (pos 0) put →
    IsCarried s (λ p. region_has parts p) dx dy (record { width = width; height = height; colours = now })
carried {s = s} xs taken under room put now given width height dx dy parts ps qs v e f g i h k {old = old} there back = subst (λ (s : Picture). IsCarried s (λ p. region_has parts p) dx dy (record { width = width; height = height; colours = now })) v (record {
  width = refl;
  height = refl;
  carried = λ x y u w m n t d. ap (λ zs. get_or zs (y * width + x) 0) h ∙ second.carried x y x y m n t (still x y) ∙ ap (λ zs. get_or zs (y * width + x) 0) k ∙ first.carried x y u w m n t d;
  kept = λ x y m n t. ap (λ zs. get_or zs (y * width + x) 0) h ∙ second.kept x y m n t;
})
  where
    first : IsCopied old xs width height (λ p. region_has parts p) dx dy room
    first = subst (λ zs. IsCopied old zs width height (λ p. region_has parts p) dx dy room) g (subst (λ rs. IsCopied old taken width height (λ p. region_has rs p) dx dy room) e there)

    second : IsCopied xs given width height (λ p. region_has parts p) (pos 0) (pos 0) put
    second = subst (λ zs. IsCopied zs given width height (λ p. region_has parts p) (pos 0) (pos 0) put) i (subst (λ rs. IsCopied under given width height (λ p. region_has rs p) (pos 0) (pos 0) put) f back)

-- two pixels of a row of three lie on it, and so do the ones left of them
pub last_two_lie : (x : List Rect) (r : Rect) (w h : ℕ) → w ≡ 3 → h ≡ 1 → ((p : Point) → region_has x p ≡ has_pixel (box_in r) p) → box_in r ≡ box (pos 1) (pos 0) (pos 3) (pos 1) → LiesOn w h (λ p. region_has x p) (pos 1) (pos 0)
last_two_lie x r w h e f g i = record {
  here = λ p t. let a = at p t in has_from_at (box (pos 0) (pos 0) (pos w) (pos h)) p (spot p.x p.y a.left a.right a.top a.bottom);
  there = λ p t. let a = at p t in has_from_at (box (pos 0) (pos 0) (pos w) (pos h)) (moved_back (pos 1) (pos 0) p) (before p.x p.y a.left a.right a.top a.bottom);
}
  where
    at : (p : Point) → region_has x p ≡ true → IsAt (box (pos 1) (pos 0) (pos 3) (pos 1)) p
    at p t = at_from_has (box (pos 1) (pos 0) (pos 3) (pos 1)) p (sym (ap (λ (b : Box). has_pixel b p) i) ∙ (sym (g p) ∙ t))

    spot : (x y : ℤ) → pos 1 ≤ℤ x → x <ℤ pos 3 → pos 0 ≤ℤ y → y <ℤ pos 1 → IsAt (box (pos 0) (pos 0) (pos w) (pos h)) (record { x = x; y = y })
    spot x y a b c d = record { left = omega (arith, ints); right = omega (arith, ints, e); top = c; bottom = omega (arith, ints, f) }

    before : (x y : ℤ) → pos 1 ≤ℤ x → x <ℤ pos 3 → pos 0 ≤ℤ y → y <ℤ pos 1 → IsAt (box (pos 0) (pos 0) (pos w) (pos h)) (moved_back (pos 1) (pos 0) (record { x = x; y = y }))
    before x y a b c d = record { left = omega (arith, ints); right = omega (arith, ints, e); top = omega (arith, ints); bottom = omega (arith, ints, f) }
