-- What is told of the dirty pixels of a window.
use Rattle.std.proofs.Common.{◌≡◌, ◌≢◌, ◌∙◌, ℕ, true, false, not, List, [], ◌∷◌, None, refl, sym, ap, subst, inr, arith}
use Rattle.std.specs.Prelude.{ℤ, pos, negsuc, ◌-ℤ◌, ◌≤ℤ◌, option_map}
use Rattle.std.proofs.lemmas.Bool.{eq-eqb, false≢true, ne_eqb, true≢false}
use Rattle.std.proofs.lemmas.Int.{ints}
use mir.Val.{to_z, of_z}
use mir.Syntax.{w32}
use Rattle.win_num.specs.declared.shapes.Point.{Point}
use Rattle.win_num.specs.declared.shapes.Rect.{Rect}
use Rattle.win_num.specs.PixelSets.{Box, bounds, box, kind_of}
use Rattle.win_num.specs.Rects.{box_in}
use Rattle.win_rows.specs.Windows.{Windows}
use Rattle.region_box.specs.Screens.{IsPassing}
use Rattle.user_model.specs.declared.entry.Setup.{Setup}
use Rattle.user_model.specs.Past.{Past}
use Rattle.user_model.specs.Legal.{IsLawful}
use Rattle.user_model.specs.Pixels.{origin}
use Rattle.user_model.specs.Windows.{is_live}
use Rattle.user_model.specs.Dirty.{dirty_pixels, has_some, is_dirty}
use Rattle.user_model.specs.ReplyDrawing.{bounds_from}
use Rattle.window_state.specs.Trees.{IsTreeAt}
use Rattle.window_state.proofs.BoxLaws.{close_at, origin_at, same_edges, IsClose}
use Rattle.dirty_windows.specs.declared.entries.DirtyWindow.{DirtyWindow}
use Rattle.dirty_windows.specs.LookUps.{area_in, entry_area, entry_of}
use Rattle.screen_state.specs.Walks.{AreDirtyAt}
use Rattle.screen_state.proofs.DirtyAt.{area_clean, area_none, clean_pixels, kind_some, passing}

-- ---- whether there is a pixel

no_pixel : (ps : List Point) → has_some ps ≡ false → ps ≡ []
no_pixel [] h = refl
no_pixel (p ∷ ps) h = absurd (true≢false h)

pub none_of_kind : (ps : List Point) → kind_of ps ≡ 1 → ps ≡ []
none_of_kind ps h = no_pixel ps (sym (kind_some ps) ∙ ap not (eq-eqb (kind_of ps) 1 h))

pub some_of_kind : (ps : List Point) (kind : ℕ) → kind ≡ kind_of ps → kind ≢ 1 → has_some ps ≡ true
some_of_kind ps kind e some = sym (kind_some ps) ∙ ap not (ne_eqb (kind_of ps) 1 (λ h. some (e ∙ h)))

-- ---- where no pixel is dirty

pub no_area : (setup : Setup) (past : Past) (ds : List DirtyWindow) (w : ℕ) → AreDirtyAt setup past ds → None ≡ option_map entry_area (entry_of ds w) → dirty_pixels setup past w ≡ []
no_area setup past ds w at e = clean_pixels setup past w (area_clean setup past ds w at (area_none ds w e))

-- the region that is found has the pixels of the screen that are dirty
pub found_passing : (setup : Setup) (past : Past) (ds : List DirtyWindow) (w : ℕ) (rs : List Rect) → AreDirtyAt setup past ds → rs ≡ area_in ds w → IsPassing setup.width setup.height (is_dirty setup past w) rs
found_passing setup past ds w rs at e = subst (λ (qs : List Rect). IsPassing setup.width setup.height (is_dirty setup past w) qs) (sym e) (passing setup past ds w at)

-- ---- edges

-- an edge of a region, from a corner of a window
edge_behind : (a y r z s : ℤ) → r ≡ a → z ≡ y → negsuc 8388607 ≤ℤ a → a ≤ℤ pos 8388608 → (pos 0 -ℤ pos 4194304) ≤ℤ y → y ≤ℤ pos 4194304 → (negsuc 2147483647 ≤ℤ (to_z w32 (of_z w32 r) -ℤ to_z w32 (of_z w32 z)) → (to_z w32 (of_z w32 r) -ℤ to_z w32 (of_z w32 z)) ≤ℤ pos 2147483647 → s ≡ to_z w32 (of_z w32 r) -ℤ to_z w32 (of_z w32 z)) → to_z w32 (of_z w32 s) ≡ a -ℤ y
edge_behind a y r z s e g low high under over f =
    let r_is : to_z w32 (of_z w32 r) ≡ a = omega (arith, ints) in
    let z_is : to_z w32 (of_z w32 z) ≡ y = omega (arith, ints) in
    let h : s ≡ to_z w32 (of_z w32 r) -ℤ to_z w32 (of_z w32 z) = f (omega (arith, ints)) (omega (arith, ints)) in
    omega (arith, ints)

-- the corner of a live window is near
pub near_origin : (setup : Setup) (past : Past) → IsLawful setup past → (t : Windows) → IsTreeAt past t → (w : ℕ) → is_live past w ≡ true → IsClose 4194304 (origin past w)
near_origin setup past lawful t at w lives = subst (IsClose 4194304) (origin_at setup past lawful t at w (inr lives)) (close_at setup past lawful t at w lives)

moved_bounds : (o : Point) (ps : List Point) → has_some ps ≡ true → bounds_from o ps ≡ box ((bounds ps).left -ℤ o.x) ((bounds ps).top -ℤ o.y) ((bounds ps).right -ℤ o.x) ((bounds ps).bottom -ℤ o.y)
moved_bounds o [] h = absurd (false≢true h)
moved_bounds o (p ∷ ps) h = refl

-- a distance between an edge and a corner, as the code has it
abbrev pub Behind : ℤ → ℤ → ℤ → Type 0
Behind s r z = negsuc 2147483647 ≤ℤ (to_z w32 (of_z w32 r) -ℤ to_z w32 (of_z w32 z)) → (to_z w32 (of_z w32 r) -ℤ to_z w32 (of_z w32 z)) ≤ℤ pos 2147483647 → s ≡ to_z w32 (of_z w32 r) -ℤ to_z w32 (of_z w32 z)

-- the edges of the least rectangle, from the corner
pub told_edges : (o q : Point) (ps : List Point) (x : Rect) (l t r b s1 s2 s3 s4 : ℤ) → IsClose 4194304 o → q ≡ o → box_in x ≡ bounds ps → has_some ps ≡ true → l ≡ x.l → t ≡ x.t → r ≡ x.r → b ≡ x.b → Behind s1 l q.x → Behind s2 t q.y → Behind s3 r q.x → Behind s4 b q.y
    → box (to_z w32 (of_z w32 s1)) (to_z w32 (of_z w32 s2)) (to_z w32 (of_z w32 s3)) (to_z w32 (of_z w32 s4)) ≡ bounds_from o ps
told_edges o q ps x l t r b s1 s2 s3 s4 near corner same some el et er eb f1 f2 f3 f4 =
    let across : q.x ≡ o.x = ap (λ (p : Point). p.x) corner in
    let down : q.y ≡ o.y = ap (λ (p : Point). p.y) corner in
    let i : x.l ≤ℤ x.r = x.across in
    let j : x.t ≤ℤ x.b = x.down in
    let low : negsuc 8388607 ≤ℤ x.l = x.left_near in
    let top : negsuc 8388607 ≤ℤ x.t = x.top_near in
    let high : x.r ≤ℤ pos 8388608 = x.right_near in
    let base : x.b ≤ℤ pos 8388608 = x.bottom_near in
    same_edges (to_z w32 (of_z w32 s1)) (to_z w32 (of_z w32 s2)) (to_z w32 (of_z w32 s3)) (to_z w32 (of_z w32 s4)) ((bounds ps).left -ℤ o.x) ((bounds ps).top -ℤ o.y) ((bounds ps).right -ℤ o.x) ((bounds ps).bottom -ℤ o.y)
    (edge_behind x.l o.x l q.x s1 el across low (omega (arith, ints, i, high)) near.left near.right f1 ∙ ap (λ (c : Box). c.left -ℤ o.x) same)
    (edge_behind x.t o.y t q.y s2 et down top (omega (arith, ints, j, base)) near.above near.below f2 ∙ ap (λ (c : Box). c.top -ℤ o.y) same)
    (edge_behind x.r o.x r q.x s3 er across (omega (arith, ints, i, low)) high near.left near.right f3 ∙ ap (λ (c : Box). c.right -ℤ o.x) same)
    (edge_behind x.b o.y b q.y s4 eb down (omega (arith, ints, j, top)) base near.above near.below f4 ∙ ap (λ (c : Box). c.bottom -ℤ o.y) same)
    ∙ sym (moved_bounds o ps some)
