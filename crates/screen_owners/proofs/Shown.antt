-- Tables that show the same have the same owners of pixels.
use Rattle.std.proofs.Common.{◌≡◌, ℕ, zero, suc, ◌+◌, ◌≤◌, Bool, true, false, cond, eqb, List, [], ◌∷◌, ◌++◌, length, Option, Some, None, refl, ap, ◌∙◌, sym, arith}
use Rattle.std.specs.Prelude.{◌&&◌, ◌||◌, ◌-ℤ◌, find, reverse}
use Rattle.std.specs.List.{filter}
use Rattle.std.proofs.lemmas.Bool.{false≢true, true≢false}
use Rattle.std.proofs.lemmas.List.{append-nil, reverse-append}
use Rattle.std.proofs.lemmas.List.Elements.{filter-append}
use Rattle.win_num.specs.declared.message.Hwnd.{Hwnd}
use Rattle.win_num.specs.declared.names.TheConstants.{WS_VISIBLE}
use Rattle.win_num.specs.declared.shapes.Point.{Point}
use Rattle.win_num.specs.declared.shapes.Rect.{Rect}
use Rattle.win_num.specs.PixelSets.{has_pixel}
use Rattle.win_num.specs.Rects.{box_in}
use Rattle.win_order.specs.Layers.{Layers, siblings_of}
use Rattle.win_rows.specs.declared.window.Window.{Window}
use Rattle.win_rows.specs.Windows.{IsOrdered, nobody, window_of}
use Rattle.user_model.specs.Windows.{has_flag}
use Rattle.user_model.specs.Pixels.{point}
use Rattle.window_state.specs.Pixels.{covers_in, deepest_in, highest_in, inside_of, owner_in}
use Rattle.window_state.specs.Placings.{shown_in}
use Rattle.window_state.proofs.TreeFacts.{found_passes}
use Rattle.screen_owners.specs.Owners.{is_on_screen, AreChildren}
use Rattle.screen_owners.specs.Shown.{shown_place, shown_siblings, NoneIsShown, ShowsSame}
use Rattle.screen_owners.proofs.Ways.{above_count, count_at_most, count_less, stays, step_of, steps_down}

-- ---- what a place says

-- whether the place, if there is one, has the point
abbrev pub has_place : Option Rect → Point → Bool
has_place None q = false
has_place (Some r) q = has_pixel (box_in r) q

-- the point from the corner of the place, if there is one
abbrev pub from_place : Option Rect → Point → Point
from_place None q = q
from_place (Some r) q = point (q.x -ℤ r.l) (q.y -ℤ r.t)

pub covers_place : (ws : List Window) (q : Point) (v : Hwnd) → covers_in ws q v ≡ has_place (shown_place ws v.0) q
covers_place ws q v = pick (window_of ws v.0)
  where
    flag : (x : Window) (b : Bool) → (b && has_pixel (box_in x.row.place) q) ≡ has_place (cond b (Some x.row.place) None) q
    flag x true = refl
    flag x false = refl

    pick : (o : Option Window) → (elim o as (λ _. Bool) [ None ↦ false | Some x ↦ has_flag x.row.style WS_VISIBLE && has_pixel (box_in x.row.place) q ]) ≡ has_place (elim o as (λ _. Option Rect) [ None ↦ None | Some x ↦ cond (has_flag x.row.style WS_VISIBLE) (Some x.row.place) None ]) q
    pick None = refl
    pick (Some x) = flag x (has_flag x.row.style WS_VISIBLE)

-- what covers a point is shown
pub shown_covers : (ws : List Window) (q : Point) (v : Hwnd) → covers_in ws q v ≡ true → shown_in ws v.0 ≡ true
shown_covers ws q v h = pick (window_of ws v.0) h
  where
    first : (a b : Bool) → (a && b) ≡ true → a ≡ true
    first true b h = refl
    first false b h = absurd (false≢true h)

    pick : (o : Option Window) → (elim o as (λ _. Bool) [ None ↦ false | Some x ↦ has_flag x.row.style WS_VISIBLE && has_pixel (box_in x.row.place) q ]) ≡ true → (elim o as (λ _. Bool) [ None ↦ false | Some x ↦ has_flag x.row.style WS_VISIBLE ]) ≡ true
    pick None h = absurd (false≢true h)
    pick (Some x) h = first (has_flag x.row.style WS_VISIBLE) (has_pixel (box_in x.row.place) q) h

pub inside_place : (ws : List Window) (q : Point) (v : Hwnd) → shown_in ws v.0 ≡ true → inside_of ws q v ≡ from_place (shown_place ws v.0) q
inside_place ws q v h = pick (window_of ws v.0) h
  where
    flag : (x : Window) (b : Bool) → b ≡ true → point (q.x -ℤ x.row.place.l) (q.y -ℤ x.row.place.t) ≡ from_place (cond b (Some x.row.place) None) q
    flag x true k = refl
    flag x false k = absurd (false≢true k)

    pick : (o : Option Window) → (elim o as (λ _. Bool) [ None ↦ false | Some x ↦ has_flag x.row.style WS_VISIBLE ]) ≡ true →
        (elim o as (λ _. Point) [ None ↦ q | Some x ↦ point (q.x -ℤ x.row.place.l) (q.y -ℤ x.row.place.t) ]) ≡ from_place (elim o as (λ _. Option Rect) [ None ↦ None | Some x ↦ cond (has_flag x.row.style WS_VISIBLE) (Some x.row.place) None ]) q
    pick None h = absurd (false≢true h)
    pick (Some x) h = flag x (has_flag x.row.style WS_VISIBLE) h

-- ---- the highest of what is shown

pub reverse_filter : {X : Type 0} (keep : X → Bool) (xs : List X) → reverse (filter keep xs) ≡ filter keep (reverse xs)
reverse_filter keep [] = refl
reverse_filter {X = X} keep (x ∷ xs) = pick (reverse_filter keep xs) (keep x) refl ∙ sym (ap (filter keep) (reverse-append (x ∷ []) xs) ∙ filter-append keep (reverse xs) (x ∷ []))
  where
    pick : reverse (filter keep xs) ≡ filter keep (reverse xs) → (b : Bool) → keep x ≡ b → reverse (cond b (x ∷ filter keep xs) (filter keep xs)) ≡ filter keep (reverse xs) ++ cond (keep x) (x ∷ []) []
    pick rest true k = reverse-append (x ∷ []) (filter keep xs) ∙ (ap (λ ys. ys ++ x ∷ []) rest ∙ ap (λ b. filter keep (reverse xs) ++ cond b (x ∷ []) []) (sym k))
    pick rest false k = rest ∙ (sym (append-nil (filter keep (reverse xs))) ∙ ap (λ b. filter keep (reverse xs) ++ cond b (x ∷ []) []) (sym k))

find_kept : {X : Type 0} (test keep : X → Bool) → ((x : X) → test x ≡ true → keep x ≡ true) → (xs : List X) → find test (filter keep xs) ≡ find test xs
find_kept test keep all [] = refl
find_kept {X = X} test keep all (x ∷ xs) = pick (find_kept test keep all xs) (keep x) refl (test x) refl
  where
    pick : find test (filter keep xs) ≡ find test xs → (b : Bool) → keep x ≡ b → (c : Bool) → test x ≡ c → find test (cond b (x ∷ filter keep xs) (filter keep xs)) ≡ cond c (Some x) (find test xs)
    pick rest true k true e = ap (λ c. cond c (Some x) (find test (filter keep xs))) e
    pick rest true k false e = ap (λ c. cond c (Some x) (find test (filter keep xs))) e ∙ rest
    pick rest false k true e = absurd (true≢false (sym (all x e) ∙ k))
    pick rest false k false e = rest

find_alike : {X : Type 0} (test other : X → Bool) → ((x : X) → test x ≡ other x) → (xs : List X) → find test xs ≡ find other xs
find_alike test other same [] = refl
find_alike test other same (x ∷ xs) = ap (λ b. cond b (Some x) (find test xs)) (same x) ∙ ap (λ o. cond (other x) (Some x) o) (find_alike test other same xs)

highest_shown : (ws : List Window) (z : Layers) (q : Point) (w : ℕ) → highest_in ws z q w ≡ find (covers_in ws q) (reverse (shown_siblings ws z w))
highest_shown ws z q w =
    sym (ap (find (covers_in ws q)) (reverse_filter (λ (v : Hwnd). shown_in ws v.0) (siblings_of w z))
    ∙ find_kept (covers_in ws q) (λ (v : Hwnd). shown_in ws v.0) (shown_covers ws q) (reverse (siblings_of w z)))

-- ---- enough steps

module _ (ws : List Window) (z : Layers) (last : ℕ) (ordered : IsOrdered 15 last ws) (children : AreChildren ws z) where
  pub same_depth : (n m : ℕ) (q : Point) (w : Hwnd) → above_count w.0 ws ≤ n → above_count w.0 ws ≤ m → deepest_in n ws z q w ≡ deepest_in m ws z q w
  same_depth zero zero q w h k = refl
  same_depth zero (suc m) q w h k = pick (highest_in ws z q w.0) refl
    where
      pick : (o : Option Hwnd) → highest_in ws z q w.0 ≡ o → w ≡ deepest_in (suc m) ws z q w
      pick None e = sym (stays ws z last ordered children (suc m) q w e)
      pick (Some v) e = let s = step_of ws z last ordered children q w.0 v e in absurd (omega (arith, h, count_less w.0 v.0 ws s.row s.less s.live))
  same_depth (suc n) zero q w h k = pick (highest_in ws z q w.0) refl
    where
      pick : (o : Option Hwnd) → highest_in ws z q w.0 ≡ o → deepest_in (suc n) ws z q w ≡ w
      pick None e = stays ws z last ordered children (suc n) q w e
      pick (Some v) e = let s = step_of ws z last ordered children q w.0 v e in absurd (omega (arith, k, count_less w.0 v.0 ws s.row s.less s.live))
  same_depth (suc n) (suc m) q w h k = pick (λ v. same_depth n m (inside_of ws q v) v) (highest_in ws z q w.0) refl
    where
      pick : ((v : Hwnd) → above_count v.0 ws ≤ n → above_count v.0 ws ≤ m → deepest_in n ws z (inside_of ws q v) v ≡ deepest_in m ws z (inside_of ws q v) v) → (o : Option Hwnd) → highest_in ws z q w.0 ≡ o → deepest_in (suc n) ws z q w ≡ deepest_in (suc m) ws z q w
      pick rest None e = stays ws z last ordered children (suc n) q w e ∙ sym (stays ws z last ordered children (suc m) q w e)
      pick rest (Some v) e =
          let s = step_of ws z last ordered children q w.0 v e in
          let fewer = count_less w.0 v.0 ws s.row s.less s.live in
          steps_down ws z last ordered children n q w v e
          ∙ (rest v (omega (arith, h, fewer)) (omega (arith, k, fewer))
          ∙ sym (steps_down ws z last ordered children m q w v e))

-- ---- the same owner

same_way : (ws : List Window) (z : Layers) (us : List Window) (y : Layers) → ShowsSame ws z us y → (n : ℕ) (q : Point) (w : Hwnd) → (eqb w.0 0 || shown_in ws w.0) ≡ true → deepest_in n ws z q w ≡ deepest_in n us y q w
same_way ws z us y same zero q w h = refl
same_way ws z us y same (suc n) q w h = pick (λ v. same_way ws z us y same n (inside_of ws q v) v) (highest_in ws z q w.0) refl
  where
    covers : (v : Hwnd) → covers_in ws q v ≡ covers_in us q v
    covers v = covers_place ws q v ∙ (ap (λ o. has_place o q) (same.places v.0) ∙ sym (covers_place us q v))

    highest : highest_in ws z q w.0 ≡ highest_in us y q w.0
    highest =
        highest_shown ws z q w.0
        ∙ (find_alike (covers_in ws q) (covers_in us q) covers (reverse (shown_siblings ws z w.0))
        ∙ (ap (λ vs. find (covers_in us q) (reverse vs)) (same.siblings w.0 h)
        ∙ sym (highest_shown us y q w.0)))

    or_last : (b : Bool) → (b || true) ≡ true
    or_last true = refl
    or_last false = refl

    pick : ((v : Hwnd) → (eqb v.0 0 || shown_in ws v.0) ≡ true → deepest_in n ws z (inside_of ws q v) v ≡ deepest_in n us y (inside_of ws q v) v) → (o : Option Hwnd) → highest_in ws z q w.0 ≡ o → deepest_in (suc n) ws z q w ≡ deepest_in (suc n) us y q w
    pick rest None e =
        ap (λ (o : Option Hwnd). elim o as (λ _. Hwnd) [ Some u ↦ deepest_in n ws z (inside_of ws q u) u | None ↦ w ]) e
        ∙ sym (ap (λ (o : Option Hwnd). elim o as (λ _. Hwnd) [ Some u ↦ deepest_in n us y (inside_of us q u) u | None ↦ w ]) (sym highest ∙ e))
    pick rest (Some v) e =
        let has : covers_in ws q v ≡ true = found_passes (covers_in ws q) (reverse (siblings_of w.0 z)) v e in
        let here : shown_in ws v.0 ≡ true = shown_covers ws q v has in
        let there : shown_in us v.0 ≡ true = shown_covers us q v (sym (covers v) ∙ has) in
        let inside : inside_of ws q v ≡ inside_of us q v = inside_place ws q v here ∙ (ap (λ o. from_place o q) (same.places v.0) ∙ sym (inside_place us q v there)) in
        ap (λ (o : Option Hwnd). elim o as (λ _. Hwnd) [ Some u ↦ deepest_in n ws z (inside_of ws q u) u | None ↦ w ]) e
        ∙ (rest v (ap (λ b. eqb v.0 0 || b) here ∙ or_last (eqb v.0 0))
        ∙ (ap (λ r. deepest_in n us y r v) inside
        ∙ sym (ap (λ (o : Option Hwnd). elim o as (λ _. Hwnd) [ Some u ↦ deepest_in n us y (inside_of us q u) u | None ↦ w ]) (sym highest ∙ e))))

pub same_owner : (ws : List Window) (z : Layers) (last : ℕ) (us : List Window) (y : Layers) (newer : ℕ) → IsOrdered 15 last ws → AreChildren ws z → IsOrdered 15 newer us → AreChildren us y → ShowsSame ws z us y → (width height : ℕ) (p : Point) → owner_in us y width height p ≡ owner_in ws z width height p
same_owner ws z last us y newer ordered children ordered' children' same width height p = ap (λ v. cond (is_on_screen width height p) v nobody) (sym deep)
  where
    n : ℕ
    n = length ws + length us

    deep : deepest_in (length ws) ws z p nobody ≡ deepest_in (length us) us y p nobody
    deep =
        same_depth ws z last ordered children (length ws) n p nobody (count_at_most 0 ws) (omega (arith, count_at_most 0 ws))
        ∙ (same_way ws z us y same n p nobody refl
        ∙ same_depth us y newer ordered' children' n (length us) p nobody (omega (arith, count_at_most 0 us)) (count_at_most 0 us))

-- ---- nothing shown

find_none : {X : Type 0} (test : X → Bool) → ((x : X) → test x ≡ false) → (xs : List X) → find test xs ≡ None
find_none test none [] = refl
find_none test none (x ∷ xs) = ap (λ b. cond b (Some x) (find test xs)) (none x) ∙ find_none test none xs

not_covering : (ws : List Window) → NoneIsShown ws → (q : Point) (v : Hwnd) → covers_in ws q v ≡ false
not_covering ws none q v = pick (covers_in ws q v) refl
  where
    pick : (b : Bool) → covers_in ws q v ≡ b → b ≡ false
    pick true e = absurd (true≢false (sym (shown_covers ws q v e) ∙ none v.0))
    pick false e = refl

pub none_owns : (ws : List Window) (z : Layers) → NoneIsShown ws → (width height : ℕ) (p : Point) → owner_in ws z width height p ≡ nobody
none_owns ws z none width height p = ap (λ v. cond (is_on_screen width height p) v nobody) (down (length ws)) ∙ either (is_on_screen width height p)
  where
    down : (n : ℕ) → deepest_in n ws z p nobody ≡ nobody
    down zero = refl
    down (suc n) = ap (λ (o : Option Hwnd). elim o as (λ _. Hwnd) [ Some u ↦ deepest_in n ws z (inside_of ws p u) u | None ↦ nobody ]) (find_none (covers_in ws p) (not_covering ws none p) (reverse (siblings_of 0 z)))

    either : (b : Bool) → cond b nobody nobody ≡ nobody
    either true = refl
    either false = refl
