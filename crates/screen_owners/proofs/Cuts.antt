-- Covers, and what they leave.
use Rattle.std.proofs.Common.{◌≡◌, ℕ, zero, suc, ◌+◌, ◌<◌, ◌≤◌, Bool, true, false, cond, not, eqb, List, [], ◌∷◌, ◌++◌, length, take, drop, get_or, reverse, Option, Some, None, refl, ap, ◌∙◌, sym, subst, arith, add-one}
use Rattle.std.specs.Prelude.{◌&&◌, ◌||◌, ℤ, int_le, int_lt, find}
use Rattle.std.proofs.lemmas.Int.{ints}
use Rattle.std.specs.List.{All, AllByRecursion, list_any}
use Rattle.std.proofs.Math.Seq.{drop-cons}
use Rattle.std.proofs.lemmas.Bool.{eq-eqb, false≢true, true≢false}
use Rattle.std.proofs.lemmas.List.{get_or_default, nil_from_length, reverse-append, take-append-drop, take_more}
use Rattle.std.proofs.lemmas.List.Folds.{list_any-append, list_any_more}
use Rattle.std.proofs.lemmas.List.Elements.{recursion_from_All, All-push, All-same}
use Rattle.win_num.specs.declared.message.Hwnd.{Hwnd}
use Rattle.win_num.specs.declared.shapes.Point.{Point}
use Rattle.win_num.specs.declared.shapes.Rect.{Rect}
use Rattle.win_num.specs.PixelSets.{has_pixel}
use Rattle.win_num.specs.Rects.{box_in}
use Rattle.win_rows.specs.declared.window.Window.{Window}
use Rattle.band_region.specs.Regions.{rect_has, region_has}
use Rattle.user_model.specs.ZOrder.{hwnd}
use Rattle.window_state.specs.Pixels.{covers_in}
use Rattle.screen_owners.specs.declared.covers.Cover.{Cover}
use Rattle.screen_owners.specs.declared.lefts.Left.{Left}
use Rattle.screen_owners.proofs.Edges.{four}
use Rattle.screen_owners.specs.Shares.{any_covers, overlaps, top_at, IsCoverAt, IsLastAt, IsLeft, IsPut, IsTaken}

pub same_window : (v w : Hwnd) → v.0 ≡ w.0 → v ≡ w
same_window v w e = ap hwnd e

-- whether a cover is of the window
abbrev pub is_of : ℕ → Cover → Bool
is_of w c = eqb c.window.0 w

-- the first cover, where none above it has the pixel
abbrev pub or_first : Cover → Point → Option Hwnd → Option Hwnd
or_first c p o = elim o [ Some w ↦ Some w | None ↦ cond (rect_has c.part p) (Some c.window) None ]

-- no cover has the pixel
pub top_none : (cs : List Cover) (p : Point) → any_covers cs p ≡ false → top_at cs p ≡ None
top_none [] p h = refl
top_none (c ∷ cs) p h = pick (λ k. top_none cs p k) (rect_has c.part p) refl h
  where
    pick : (any_covers cs p ≡ false → top_at cs p ≡ None) → (b : Bool) → rect_has c.part p ≡ b → (b || any_covers cs p) ≡ false → or_first c p (top_at cs p) ≡ None
    pick rest true e k = absurd (true≢false k)
    pick rest false e k = ap (or_first c p) (rest k) ∙ ap (λ b. cond b (Some c.window) None) e

-- a cover has it
pub top_some : (cs : List Cover) (p : Point) → any_covers cs p ≡ true → (w : Hwnd) × (top_at cs p ≡ Some w)
top_some [] p h = absurd (false≢true h)
top_some (c ∷ cs) p h = pick (λ k. top_some cs p k) (any_covers cs p) refl (rect_has c.part p) refl h
  where
    pick : (any_covers cs p ≡ true → (w : Hwnd) × (top_at cs p ≡ Some w)) → (a : Bool) → any_covers cs p ≡ a → (b : Bool) → rect_has c.part p ≡ b → (b || a) ≡ true → (w : Hwnd) × (or_first c p (top_at cs p) ≡ Some w)
    pick rest true k b e h = let r = rest k in (r.0, ap (or_first c p) r.1)
    pick rest false k true e h = (c.window, ap (or_first c p) (top_none cs p k) ∙ ap (λ b. cond b (Some c.window) None) e)
    pick rest false k false e h = absurd (false≢true h)

or_last : (b : Bool) → (b || true) ≡ true
or_last true = refl
or_last false = refl

-- the window is among those of the covers
pub top_among : (cs : List Cover) (p : Point) (w : Hwnd) → top_at cs p ≡ Some w → list_any (is_of w.0) cs ≡ true
top_among [] p w h = absurd cc
top_among (c ∷ cs) p w h = pick (λ k. top_among cs p w k) (top_at cs p) refl (rect_has c.part p) refl h
  where
    pick : (top_at cs p ≡ Some w → list_any (is_of w.0) cs ≡ true) → (o : Option Hwnd) → top_at cs p ≡ o → (b : Bool) → rect_has c.part p ≡ b → (elim o as (λ _. Option Hwnd) [ Some u ↦ Some u | None ↦ cond b (Some c.window) None ]) ≡ Some w → (is_of w.0 c || list_any (is_of w.0) cs) ≡ true
    pick rest (Some u) k b e h = ap (λ b. is_of w.0 c || b) (rest (k ∙ h)) ∙ or_last (is_of w.0 c)
    pick rest None k true e h = let same : c.window ≡ w = cc in ap (λ b. b || list_any (is_of w.0) cs) (eq-eqb c.window.0 w.0 (ap (λ (u : Hwnd). u.0) same))
    pick rest None k false e h = absurd cc

-- the window covers the point there
pub top_covers : (ws : List Window) (q p : Point) (cs : List Cover) (w : Hwnd) → AllByRecursion (IsCoverAt ws q p) cs → top_at cs p ≡ Some w → covers_in ws q w ≡ true
top_covers ws q p [] w all h = absurd cc
top_covers ws q p (c ∷ cs) w all h = pick (λ k. top_covers ws q p cs w all.1 k) (top_at cs p) refl (rect_has c.part p) refl h
  where
    pick : (top_at cs p ≡ Some w → covers_in ws q w ≡ true) → (o : Option Hwnd) → top_at cs p ≡ o → (b : Bool) → rect_has c.part p ≡ b → (elim o as (λ _. Option Hwnd) [ Some u ↦ Some u | None ↦ cond b (Some c.window) None ]) ≡ Some w → covers_in ws q w ≡ true
    pick rest (Some u) k b e h = rest (k ∙ h)
    pick rest None k true e h = let same : c.window ≡ w = cc in subst (λ u. covers_in ws q u ≡ true) same (sym all.0 ∙ e)
    pick rest None k false e h = absurd cc

-- covers below don't count where one above has the pixel
pub top_above : (xs ys : List Cover) (p : Point) (w : Hwnd) → top_at ys p ≡ Some w → top_at (xs ++ ys) p ≡ Some w
top_above [] ys p w h = h
top_above (x ∷ xs) ys p w h = ap (or_first x p) (top_above xs ys p w h)

-- the covers below one, it, and those above it
pub parts_at : (cs : List Cover) (i : ℕ) (c : Cover) → i < length cs → c ≡ get_or cs i c → take i cs ++ c ∷ drop (i + 1) cs ≡ cs
parts_at cs i c h e = ap (λ ys. take i cs ++ ys) (sym (drop-cons cs i c h ∙ (ap (λ y. y ∷ drop (suc i) cs) (sym e) ∙ ap (λ n. c ∷ drop n cs) (sym (add-one i))))) ∙ take-append-drop i cs

-- where a cover has the pixel and none above it, it is the top
pub taken_top : (cs : List Cover) (i : ℕ) (c : Cover) (p : Point) → i < length cs → c ≡ get_or cs i c → rect_has c.part p ≡ true → any_covers (drop (i + 1) cs) p ≡ false → top_at cs p ≡ Some c.window
taken_top cs i c p h e has none =
    let here : top_at (c ∷ drop (i + 1) cs) p ≡ Some c.window = ap (or_first c p) (top_none (drop (i + 1) cs) p none) ∙ ap (λ b. cond b (Some c.window) None) has in
    ap (λ xs. top_at xs p) (sym (parts_at cs i c h e)) ∙ top_above (take i cs) (c ∷ drop (i + 1) cs) p c.window here

-- where it is the top, it has the pixel and none above it
pub top_taken : (ws : List Window) (q p : Point) (cs : List Cover) (w : Hwnd) (i : ℕ) (c : Cover) → All (IsCoverAt ws q p) cs → IsLastAt cs w.0 i → c ≡ get_or cs i c → top_at cs p ≡ Some w → (rect_has c.part p ≡ true) × (any_covers (drop (i + 1) cs) p ≡ false)
top_taken ws q p cs w i c all at e top = (has, pick (any_covers (drop (i + 1) cs) p) refl)
  where
    number : c.window.0 ≡ w.0
    number = at.window c e

    same : c.window ≡ w
    same = same_window c.window w number

    has : rect_has c.part p ≡ true
    has =
        let mine : IsCoverAt ws q p c = subst (IsCoverAt ws q p) (sym e) (all i c at.within) in
        mine ∙ ap (covers_in ws q) same ∙ top_covers ws q p cs w (recursion_from_All (IsCoverAt ws q p) cs all) top

    pick : (b : Bool) → any_covers (drop (i + 1) cs) p ≡ b → b ≡ false
    pick false k = refl
    pick true k =
        let u = top_some (drop (i + 1) cs) p k in
        let front : top_at (c ∷ drop (i + 1) cs) p ≡ Some u.0 = ap (or_first c p) u.1 in
        let whole : top_at cs p ≡ Some u.0 = ap (λ xs. top_at xs p) (sym (parts_at cs i c at.within e)) ∙ top_above (take i cs) (c ∷ drop (i + 1) cs) p u.0 front in
        let both : Some w ≡ Some u.0 = sym top ∙ whole in
        let this : w ≡ u.0 = cc in
        absurd (true≢false (sym (top_among (drop (i + 1) cs) p u.0 u.1) ∙ ap (λ (v : Hwnd). list_any (is_of v.0) (drop (i + 1) cs)) (sym this) ∙ at.last))

-- ---- one cover more

or_none : (a : Bool) → (a || false) ≡ a
or_none true = refl
or_none false = refl

any_push : (cs : List Cover) (c : Cover) (p : Point) → any_covers (cs ++ c ∷ []) p ≡ (any_covers cs p || rect_has c.part p)
any_push cs c p = list_any-append (λ (d : Cover). rect_has d.part p) cs (c ∷ []) ∙ ap (λ b. any_covers cs p || b) (or_none (rect_has c.part p))

any_more : (cs : List Cover) (i : ℕ) (c : Cover) (p : Point) → i < length cs → c ≡ get_or cs i c → any_covers (take (i + 1) cs) p ≡ (any_covers (take i cs) p || rect_has c.part p)
any_more cs i c p h e = list_any_more (λ (d : Cover). rect_has d.part p) cs i c h ∙ ap (λ (d : Cover). any_covers (take i cs) p || rect_has d.part p) (sym e)

any_split : (n : ℕ) (cs : List Cover) (p : Point) → any_covers cs p ≡ (any_covers (take n cs) p || any_covers (drop n cs) p)
any_split n cs p = ap (λ xs. any_covers xs p) (sym (take-append-drop n cs)) ∙ list_any-append (λ (c : Cover). rect_has c.part p) (take n cs) (drop n cs)

pub top_push : (cs : List Cover) (c : Cover) (p : Point) → top_at (cs ++ c ∷ []) p ≡ cond (rect_has c.part p) (Some c.window) (top_at cs p)
top_push [] c p = refl
top_push (x ∷ xs) c p = ap (or_first x p) (top_push xs c p) ∙ pick (rect_has c.part p)
  where
    pick : (b : Bool) → or_first x p (cond b (Some c.window) (top_at xs p)) ≡ cond b (Some c.window) (or_first x p (top_at xs p))
    pick true = refl
    pick false = refl

-- the highest of one sibling more
pub find_more : (test : Hwnd → Bool) (xs : List Hwnd) (i : ℕ) (x : Hwnd) → i < length xs → x ≡ get_or xs i x → find test (reverse (take (i + 1) xs)) ≡ cond (test x) (Some x) (find test (reverse (take i xs)))
find_more test xs i x h e =
    ap (λ ys. find test (reverse ys)) (take_more xs i x h ∙ ap (λ y. take i xs ++ y ∷ []) (sym e))
    ∙ ap (find test) (reverse-append (take i xs) (x ∷ []))

-- covers of so many siblings
pub record AreOf (ws : List Window) (xs : List Hwnd) (q p : Point) (cs : List Cover) : Type 0 where
  pub top : top_at cs p ≡ find (covers_in ws q) (reverse xs)
  pub each : All (IsCoverAt ws q p) cs

pub put_some : (ws : List Window) (q p : Point) (cs ds : List Cover) (c : Cover) → rect_has c.part p ≡ covers_in ws q c.window → ds ≡ cs ++ c ∷ [] → IsPut ws c.window q p cs ds
put_some ws q p cs ds c has same = record {
  top = ap (λ es. top_at es p) same ∙ top_push cs c p ∙ ap (λ b. cond b (Some c.window) (top_at cs p)) has;
  each = λ h. All-same (IsCoverAt ws q p) ds (cs ++ c ∷ []) same (All-push (IsCoverAt ws q p) cs c h has);
}

pub put_none : (ws : List Window) (q p : Point) (w : Hwnd) (cs ds : List Cover) → false ≡ covers_in ws q w → ds ≡ cs → IsPut ws w q p cs ds
put_none ws q p w cs ds has same = record {
  top = ap (λ es. top_at es p) same ∙ ap (λ b. cond b (Some w) (top_at cs p)) has;
  each = λ h. All-same (IsCoverAt ws q p) ds cs same h;
}

pub put_more : (ws : List Window) (xs : List Hwnd) (i : ℕ) (q p : Point) (cs ds : List Cover) (w : Hwnd) → i < length xs → w ≡ get_or xs i w → IsPut ws w q p cs ds → AreOf ws (take i xs) q p cs → AreOf ws (take (i + 1) xs) q p ds
put_more ws xs i q p cs ds w h e put are = record {
  top = put.top ∙ ap (λ o. cond (covers_in ws q w) (Some w) o) are.top ∙ sym (find_more (covers_in ws q) xs i w h e);
  each = put.each are.each;
}

-- what is left after one cover more
pub cut_more : (whole left next : Bool) (cs : List Cover) (i : ℕ) (c : Cover) (p : Point) → i < length cs → c ≡ get_or cs i c → left ≡ (whole && not (any_covers (take i cs) p)) → next ≡ (left && not (rect_has c.part p)) → next ≡ (whole && not (any_covers (take (i + 1) cs) p))
cut_more whole left next cs i c p h e before now =
    now ∙ ap (λ b. b && not (rect_has c.part p)) before
    ∙ tests whole (any_covers (take i cs) p) (rect_has c.part p)
    ∙ ap (λ b. whole && not b) (ap (λ (d : Cover). any_covers (take i cs) p || rect_has d.part p) e ∙ sym (list_any_more (λ (d : Cover). rect_has d.part p) cs i c h))
  where
    tests : (w a b : Bool) → ((w && not a) && not b) ≡ (w && not (a || b))
    tests true true b = refl
    tests true false b = refl
    tests false a b = refl

-- a cover that shares no pixel takes none
pub cut_none : (left has : Bool) → (left && has) ≡ false → left ≡ (left && not has)
cut_none true true h = absurd (true≢false h)
cut_none true false h = refl
cut_none false has h = refl

-- ---- covers united by halves

abbrev pub Parts : List Cover → List Rect → Type 0
Parts covers part = (p : Point) → region_has part p ≡ any_covers covers p

pub parts_one : (part : List Rect) (covers : List Cover) (first : Cover) (others : List Cover) → covers ≡ first ∷ others → length others ≡ 0 →
    ((p : Point) → region_has part p ≡ has_pixel (box_in first.part) p) → Parts covers part
unfolding rect_has
parts_one part covers first others e f g p = g p ∙ (sym (or_none (has_pixel (box_in first.part) p)) ∙ (ap (λ b. has_pixel (box_in first.part) p || b) (sym (ap (λ xs. any_covers xs p) (nil_from_length others f))) ∙ sym (ap (λ xs. any_covers xs p) e)))

pub parts_both : (one other part : List Rect) (covers front back : List Cover) (n : ℕ) → front ≡ take n covers → back ≡ drop n covers →
    Parts front one → Parts back other → ((p : Point) → region_has part p ≡ (region_has one p || region_has other p)) → Parts covers part
parts_both one other part covers front back n e f g h k p = k p ∙ rw (g p, h p, e, f) (sym (any_split n covers p))

-- ---- those of the covers that meet a region

-- the same as the place before, with one cover more
pub met_more : (whole : Bool) (ms ns cs : List Cover) (i : ℕ) (c : Cover) (p : Point) → i < length cs → c ≡ get_or cs i c → ns ≡ ms ++ c ∷ [] → (whole && any_covers ms p) ≡ (whole && any_covers (take i cs) p) → (whole && any_covers ns p) ≡ (whole && any_covers (take (i + 1) cs) p)
met_more whole ms ns cs i c p h e same before =
    ap (λ xs. whole && any_covers xs p) same
    ∙ ap (λ b. whole && b) (any_push ms c p)
    ∙ tests whole (any_covers ms p) (any_covers (take i cs) p) (rect_has c.part p) before
    ∙ ap (λ b. whole && b) (sym (any_more cs i c p h e))
  where
    tests : (w a b c : Bool) → (w && a) ≡ (w && b) → (w && (a || c)) ≡ (w && (b || c))
    tests true a b c h = ap (λ d. d || c) h
    tests false a b c h = refl

-- a cover that shares no pixel counts for nothing
pub met_same : (whole : Bool) (ms cs : List Cover) (i : ℕ) (c : Cover) (p : Point) → i < length cs → c ≡ get_or cs i c → (whole && rect_has c.part p) ≡ false → (whole && any_covers ms p) ≡ (whole && any_covers (take i cs) p) → (whole && any_covers ms p) ≡ (whole && any_covers (take (i + 1) cs) p)
met_same whole ms cs i c p h e none before = before ∙ tests whole (any_covers (take i cs) p) (rect_has c.part p) none ∙ ap (λ b. whole && b) (sym (any_more cs i c p h e))
  where
    tests : (w a c : Bool) → (w && c) ≡ false → (w && a) ≡ (w && (a || c))
    tests true a true h = absurd (true≢false h)
    tests true a false h = sym (or_none a)
    tests false a c h = refl

-- what is left without those that meet the region is left without all
pub left_met : (w a b : Bool) → (w && a) ≡ (w && b) → (w && not a) ≡ (w && not b)
left_met true a b h = ap not h
left_met false a b h = refl

-- ---- what ever more covers leave

-- between two places, and from the higher one on
between : (n m : ℕ) (cs : List Cover) → n ≤ m → drop n (take m cs) ++ drop m cs ≡ drop n cs
between zero m cs h = take-append-drop m cs
between (suc n) zero cs h = absurd (omega (arith, h))
between (suc n) (suc m) [] h = refl
between (suc n) (suc m) (c ∷ cs) h = between n m cs (omega (arith, h))

any_between : (n m : ℕ) (cs : List Cover) (p : Point) → n ≤ m → any_covers (drop n cs) p ≡ (any_covers (drop n (take m cs)) p || any_covers (drop m cs) p)
any_between n m cs p h = ap (λ xs. any_covers xs p) (sym (between n m cs h)) ∙ list_any-append (λ (c : Cover). rect_has c.part p) (drop n (take m cs)) (drop m cs)

-- a cover that doesn't meet what those above it leave takes nothing
pub taken_none : (whole : List Rect) (cs : List Cover) (i : ℕ) (d : Cover) (l : Left) → i < length cs → d ≡ get_or cs i d → i < l.from → IsLeft whole cs l → ((p : Point) → (region_has l.region p && rect_has d.part p) ≡ false) → IsTaken whole cs i []
taken_none whole cs i d l within at over left apart c p is =
    let equal : d ≡ c = at ∙ get_or_default cs i d c within ∙ sym is in
    tests (region_has whole p) (any_covers (drop l.from cs) p) (rect_has d.part p) (any_covers (drop (i + 1) (take l.from cs)) p) (ap (λ b. b && rect_has d.part p) (sym (left.pixels p)) ∙ apart p)
    ∙ ap (λ b. region_has whole p && rect_has d.part p && not b) (sym (any_between (i + 1) l.from cs p (omega (arith, over))))
    ∙ ap (λ (x : Cover). region_has whole p && rect_has x.part p && not (any_covers (drop (i + 1) cs) p)) equal
  where
    tests : (w a r b : Bool) → ((w && not a) && r) ≡ false → false ≡ (w && r && not (b || a))
    tests true true true true h = refl
    tests true true true false h = refl
    tests true true false b h = refl
    tests true false true b h = absurd (true≢false h)
    tests true false false b h = refl
    tests false a r b h = refl

-- ---- rectangles that share no pixel

pub both_true : (a b : Bool) → (a && b) ≡ true → (a ≡ true) × (b ≡ true)
both_true true b h = (refl, h)
both_true false b h = absurd (false≢true h)

-- a rectangle that doesn't meet the region has no pixel of it
pub unmet : (region has : Bool) → (region && has) ≡ false → region ≡ true → false ≡ has
unmet true has h k = sym h
unmet false has h k = absurd (false≢true k)

pub apart : (a b : Rect) (p : Point) → overlaps a b ≡ false → (rect_has a p && rect_has b p) ≡ false
unfolding rect_has
apart a b p h = pick (has_pixel (box_in a) p) refl (has_pixel (box_in b) p) refl
  where
    pick : (c : Bool) → has_pixel (box_in a) p ≡ c → (d : Bool) → has_pixel (box_in b) p ≡ d → (c && d) ≡ false
    pick true e true k =
        let x = four (int_le a.l p.x) (int_lt p.x a.r) (int_le a.t p.y) (int_lt p.y a.b) e in
        let y = four (int_le b.l p.x) (int_lt p.x b.r) (int_le b.t p.y) (int_lt p.y b.b) k in
        absurd (true≢false (sym (meet a.l p.x b.r x.0 y.1 b.l a.r y.0 x.1 a.t p.y b.b x.2 y.3 b.t a.b y.2 x.3) ∙ h))
      where
        between : (l x r : ℤ) → int_le l x ≡ true → int_lt x r ≡ true → int_lt l r ≡ true
        between l x r h k = grind (arith, ints)

        meet : (al x br : ℤ) → int_le al x ≡ true → int_lt x br ≡ true → (bl ar : ℤ) → int_le bl x ≡ true → int_lt x ar ≡ true → (at y bb : ℤ) → int_le at y ≡ true → int_lt y bb ≡ true → (bt ab : ℤ) → int_le bt y ≡ true → int_lt y ab ≡ true → ((int_lt al br && int_lt bl ar) && (int_lt at bb && int_lt bt ab)) ≡ true
        meet al x br h1 h2 bl ar h3 h4 at y bb h5 h6 bt ab h7 h8 = let a1 = between al x br h1 h2 in let a2 = between bl x ar h3 h4 in let a3 = between at y bb h5 h6 in let a4 = between bt y ab h7 h8 in rw (a1, a2, a3, a4) refl
    pick true e false k = refl
    pick false e d k = refl

-- one rectangle more
pub meet_more : (rs : List Rect) (i : ℕ) (x r : Rect) (p : Point) → i < length rs → x ≡ get_or rs i x → (region_has (take i rs) p && rect_has r p) ≡ false → overlaps x r ≡ false → (region_has (take (i + 1) rs) p && rect_has r p) ≡ false
meet_more rs i x r p h e before none =
    ap (λ b. b && rect_has r p) (list_any_more (λ y. rect_has y p) rs i x h ∙ ap (λ y. region_has (take i rs) p || rect_has y p) (sym e))
    ∙ tests (region_has (take i rs) p) (rect_has x p) (rect_has r p) before (apart x r p none)
  where
    tests : (a b c : Bool) → (a && c) ≡ false → (b && c) ≡ false → ((a || b) && c) ≡ false
    tests true b c h k = h
    tests false b c h k = k

-- ---- what calls make of regions

pub cut_some : (left hidden new : List Rect) (part : Rect) → ((p : Point) → region_has hidden p ≡ has_pixel (box_in part) p) → ((p : Point) → region_has new p ≡ (region_has left p && not (region_has hidden p))) → (p : Point) → region_has new p ≡ (region_has left p && not (rect_has part p))
unfolding rect_has
cut_some left hidden new part h k p = k p ∙ ap (λ b. region_has left p && not b) (h p)

pub taken_is : (whole one both new : List Rect) (cs above : List Cover) (i : ℕ) (d : Cover) → i < length cs → d ≡ get_or cs i d → above ≡ drop (i + 1) cs → ((p : Point) → region_has one p ≡ has_pixel (box_in d.part) p) → ((p : Point) → region_has both p ≡ (region_has whole p && region_has one p)) → ((p : Point) → region_has new p ≡ (region_has both p && not (any_covers above p))) → IsTaken whole cs i new
unfolding rect_has
taken_is whole one both new cs above i d within at same h k m c p is =
    let equal : d ≡ c = at ∙ get_or_default cs i d c within ∙ sym is in
    let first : (region_has both p && not (any_covers above p)) ≡ (region_has whole p && has_pixel (box_in d.part) p && not (any_covers (drop (i + 1) cs) p)) = rw (k p, h p, same) (tests (region_has whole p) (has_pixel (box_in d.part) p) (any_covers (drop (i + 1) cs) p)) in
    m p ∙ (first ∙ ap (λ (x : Cover). region_has whole p && has_pixel (box_in x.part) p && not (any_covers (drop (i + 1) cs) p)) equal)
  where
    tests : (w a b : Bool) → ((w && a) && not b) ≡ (w && a && not b)
    tests true a b = refl
    tests false a b = refl

-- nothing is left after some of the covers, and so after all
pub emptied : (whole left : Bool) (cs : List Cover) (i : ℕ) (p : Point) → left ≡ (whole && not (any_covers (take i cs) p)) → left ≡ false → false ≡ (whole && not (any_covers cs p))
emptied whole left cs i p before none = tests whole (any_covers (take i cs) p) (any_covers (drop i cs) p) (sym before ∙ none) ∙ ap (λ b. whole && not b) (sym split)
  where
    split : any_covers cs p ≡ (any_covers (take i cs) p || any_covers (drop i cs) p)
    split = ap (λ xs. any_covers xs p) (sym (take-append-drop i cs)) ∙ list_any-append (λ (c : Cover). rect_has c.part p) (take i cs) (drop i cs)

    tests : (w a b : Bool) → (w && not a) ≡ false → false ≡ (w && not (a || b))
    tests true true b h = refl
    tests true false b h = absurd (true≢false h)
    tests false a b h = refl
