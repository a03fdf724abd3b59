-- Rectangles on the screen, one after another: each from that of its parent.
use Rattle.std.proofs.Common.{◌≡◌, ◌≢◌, ◌∙◌, ℕ, zero, suc, ◌*◌, ◌<◌, ◌≤◌, Bool, true, false, cond, eqb, get_or, List, [], ◌∷◌, ◌++◌, length, map, Option, Some, None, refl, sym, ap, subst, inl, inr, arith}
use Rattle.std.specs.Prelude.{◌⊎◌, pos, option_map}
use Rattle.std.proofs.lemmas.Bool.{cases_lt, eqb-true, ne_eqb}
use Rattle.std.proofs.lemmas.Int.{ints}
use Rattle.std.proofs.lemmas.List.{length-map}
use Rattle.std.specs.List.Sorted.{IsNonDecreasingBy}
use Rattle.win_num.specs.declared.message.Hwnd.{Hwnd}
use Rattle.win_num.specs.declared.shapes.Point.{Point}
use Rattle.win_num.specs.PixelSets.{Box, box}
use Rattle.win_num.specs.Rects.{box_in}
use Rattle.win_rows.specs.declared.row.WindowRow.{WindowRow}
use Rattle.win_rows.specs.declared.window.Window.{Window}
use Rattle.win_rows.specs.Windows.{IsOrdered, RisesFrom, number_of, up, window_of}
use Rattle.win_rows.specs.Index.{IsPlace}
use Rattle.win_rows.proofs.Indexed.{found_at, none_at}
use Rattle.win_rows.proofs.Rising.{RisesBy, rises}
use Rattle.user_model.specs.Pixels.{point, corner_from, shifted}
use Rattle.window_state.specs.Boxes.{origin_from, origin_in, box_on, AreBoxes, IsBefore}
use Rattle.window_state.specs.Placings.{box_of}
use Rattle.window_state.specs.declared.looks.Edges.{Edges}
use Rattle.window_state.proofs.BoxLaws.{IsClose, at_zero, numbers_rise}
use Rattle.window_state.proofs.LookSteps.{row_is}

-- ---- parents

-- no window of a list has a number up to the one that its numbers rise from
none_low : (from last w : ℕ) (ws : List Window) → IsOrdered from last ws → w ≤ from → window_of ws w ≡ None
none_low from last w [] h low = refl
none_low from last w (x ∷ ws) h low =
    let above = h.0 in
    ap (λ b. cond b (Some x) (window_of ws w)) (ne_eqb x.number.0 w (λ same. omega (arith, above, low, same))) ∙ none_low x.number.0 last w ws h.2 (omega (arith, above, low))

older : (x : Window) → (up x).0 < x.number.0 → x.row.parent.0 < x.number.0
older x h = pick (eqb x.row.parent.0 0) refl h
  where
    pick : (b : Bool) → eqb x.row.parent.0 0 ≡ b → (cond b x.row.owner x.row.parent).0 < x.number.0 → x.row.parent.0 < x.number.0
    pick true is k = omega (arith, eqb-true x.row.parent.0 0 is, k)
    pick false is k = k

-- a parent has a lesser number
pub parent_less : (from last w : ℕ) (ws : List Window) (x : Window) → IsOrdered from last ws → window_of ws w ≡ Some x → x.row.parent.0 < w
parent_less from last w [] x h e = absurd cc
parent_less from last w (y ∷ ws) x h e = pick (eqb y.number.0 w) refl e (parent_less y.number.0 last w ws x h.2)
  where
    pick : (b : Bool) → eqb y.number.0 w ≡ b → cond b (Some y) (window_of ws w) ≡ Some x → (window_of ws w ≡ Some x → x.row.parent.0 < w) → x.row.parent.0 < w
    pick true is e rest =
        let same : y ≡ x = cc in
        let low : y.row.parent.0 < w = omega (arith, older y h.1, eqb-true y.number.0 w is) in
        subst (λ (z : Window). z.row.parent.0 < w) same low
    pick false is e rest = rest e

-- ---- corners

module _ (last : ℕ) (ws : List Window) (ordered : IsOrdered 15 last ws) where
  abbrev stepped : ℕ → Option Window → Point
  stepped n o = elim o as (λ q. Point) [ None ↦ point (pos 0) (pos 0) | Some x ↦ corner_from (origin_from n ws x.row.parent.0) (box_in x.row.place) ]

  origin_of_none : (n : ℕ) → origin_from n ws 0 ≡ point (pos 0) (pos 0)
  origin_of_none zero = refl
  origin_of_none (suc n) = ap (stepped n) (none_low 15 last 0 ws ordered (omega arith))

  -- steps beyond the number change nothing
  origin_enough : (n m w : ℕ) → w ≤ n → w ≤ m → origin_from n ws w ≡ origin_from m ws w
  origin_enough zero m w low high = let none : w ≡ 0 = omega (arith, low) in ap (origin_from 0 ws) none ∙ sym (origin_of_none m) ∙ ap (origin_from m ws) (sym none)
  origin_enough (suc n) zero w low high = let none : w ≡ 0 = omega (arith, high) in ap (origin_from (suc n) ws) none ∙ origin_of_none (suc n)
  origin_enough (suc n) (suc m) w low high = pick (window_of ws w) refl (λ v lo hi. origin_enough n m v lo hi)
    where
      pick : (o : Option Window) → window_of ws w ≡ o → ((v : ℕ) → v ≤ n → v ≤ m → origin_from n ws v ≡ origin_from m ws v) → stepped n o ≡ stepped m o
      pick None e rest = refl
      pick (Some x) e rest =
          let less = parent_less 15 last w ws x ordered e in
          ap (λ q. corner_from q (box_in x.row.place)) (rest x.row.parent.0 (omega (arith, less, low)) (omega (arith, less, high)))

  -- a window's corner is that of its rectangle
  pub corner_on : (w : ℕ) → origin_in ws w ≡ point (box_on ws w).left (box_on ws w).top
  corner_on zero = sym (ap (λ (o : Option Window). let b : Box = elim o as (λ q. Box) [ None ↦ box (pos 0) (pos 0) (pos 0) (pos 0) | Some x ↦ shifted (origin_in ws x.row.parent.0) (box_in x.row.place) ] in point b.left b.top) (none_low 15 last 0 ws ordered (omega arith)))
  corner_on (suc n) = pick (window_of ws (suc n)) refl
    where
      cornered : Option Window → Point
      cornered o = let b : Box = elim o as (λ q. Box) [ None ↦ box (pos 0) (pos 0) (pos 0) (pos 0) | Some x ↦ shifted (origin_in ws x.row.parent.0) (box_in x.row.place) ] in point b.left b.top

      pick : (o : Option Window) → window_of ws (suc n) ≡ o → stepped n o ≡ cornered o
      pick None e = refl
      pick (Some x) e =
          let less = parent_less 15 last (suc n) ws x ordered e in
          ap (λ q. corner_from q (box_in x.row.place)) (origin_enough n x.row.parent.0 x.row.parent.0 (omega (arith, less)) (omega arith))

-- a point is no further from 0 0 than so many windows reach
far_step : (n : ℕ) (o : Point) (x : Window) → IsClose (8388608 * n) o → IsClose (8388608 * suc n) (corner_from o (box_in x.row.place))
far_step n o x h =
    let place = x.row.place in
    let across = place.across in
    let down = place.down in
    let left = place.left_near in
    let top = place.top_near in
    let right = place.right_near in
    let bottom = place.bottom_near in
    record {
      left = omega (arith, ints, left, h.left);
      right = omega (arith, ints, across, right, h.right);
      above = omega (arith, ints, top, h.above);
      below = omega (arith, ints, down, bottom, h.below);
    }

-- a corner is no further away than so many windows reach as there are steps
pub close_by : (n : ℕ) (ws : List Window) (w : ℕ) → IsClose (8388608 * n) (origin_from n ws w)
close_by zero ws w = at_zero 0
close_by (suc n) ws w = pick (window_of ws w) (λ v. close_by n ws v)
  where
    pick : (o : Option Window) → ((v : ℕ) → IsClose (8388608 * n) (origin_from n ws v)) → IsClose (8388608 * suc n) (elim o as (λ q. Point) [ None ↦ point (pos 0) (pos 0) | Some x ↦ corner_from (origin_from n ws x.row.parent.0) (box_in x.row.place) ])
    pick None rest = at_zero (8388608 * suc n)
    pick (Some x) rest = far_step n (origin_from n ws x.row.parent.0) x (rest x.row.parent.0)

-- ---- places

windows_rise : (from last : ℕ) (ws : List Window) → IsOrdered from last ws → RisesBy (λ x. x.number.0) from ws
windows_rise from last [] h = tt
windows_rise from last (x ∷ ws) h = (h.0, windows_rise x.number.0 last ws h.2)

pub rise_from : (from last : ℕ) (ws : List Window) → IsOrdered from last ws → RisesFrom from ws
rise_from from last [] h = tt
rise_from from last (x ∷ ws) h = (h.0, rise_from x.number.0 last ws h.2)

pub number_there : (ws : List Window) (i : ℕ) (d : Hwnd) (x : Window) → i < length ws → get_or (map number_of ws) i d ≡ (get_or ws i x).number
number_there [] i d x lt = absurd (omega (arith, lt))
number_there (y ∷ ws) zero d x lt = refl
number_there (y ∷ ws) (suc i) d x lt = number_there ws i d x (omega (arith, lt))

-- from the place of a number on, each window has a greater number than any lesser one
pub before_place : (last : ℕ) (ws : List Window) (k v w : ℕ) (d : Hwnd) → IsOrdered 15 last ws → k < length ws → (get_or (map number_of ws) k d).0 ≡ w → v < w → IsBefore ws k v
before_place last ws k v w d ordered lt is less j x from_k within =
    let up_to = rises (λ (y : Window). y.number.0) 15 ws (windows_rise 15 last ws ordered) k j x from_k within in
    let same = ap (λ (h : Hwnd). h.0) (number_there ws k d x lt) in
    omega (arith, up_to, same, is, less)

-- behind the last place there is no window
pub before_end : (ws : List Window) (n w : ℕ) → length ws ≤ n → IsBefore ws n w
before_end ws n w most k x from_n within = absurd (omega (arith, most, from_n, within))

-- ---- rectangles

-- with that of the next window they are those of one window more
pub boxes_more : (ws us : List Window) (es : List Edges) (e : Edges) (h : Hwnd) → length es < length us → AreBoxes ws us es → box_of e ≡ box_on ws (get_or (map number_of us) (length es) h).0 → AreBoxes ws us (es ++ e ∷ [])
boxes_more ws [] es e h lt are is = absurd (omega (arith, lt))
boxes_more ws (x ∷ us) [] e h lt are is = (is, tt)
boxes_more ws (x ∷ us) (f ∷ es) e h lt are is = (are.0, boxes_more ws us es e h (omega (arith, lt)) are.1 is)

-- what stands at a place is the rectangle of the window there
pub box_there : (ws us : List Window) (es : List Edges) (i : ℕ) (d : Edges) (x : Window) → AreBoxes ws us es → i < length es → box_of (get_or es i d) ≡ box_on ws (get_or us i x).number.0
box_there ws us [] i d x are lt = absurd (omega (arith, lt))
box_there ws [] (e ∷ es) i d x are lt = absurd are
box_there ws (y ∷ us) (e ∷ es) zero d x are lt = are.0
box_there ws (y ∷ us) (e ∷ es) (suc i) d x are lt = box_there ws us es i d x are.1 (omega (arith, lt))

-- a window that is found by its number stands there
pub place_hit : (last : ℕ) (ws : List Window) (hs : List Hwnd) (i w : ℕ) (d : Hwnd) → hs ≡ map number_of ws → IsOrdered 15 last ws → i < length hs → (get_or hs i d).0 ≡ w → IsPlace ws w i
place_hit last ws hs i w d e ordered lt is =
    let many : length hs ≡ length ws = ap length e ∙ length-map ws number_of in
    let within : i < length ws = omega (arith, lt, many) in
    let at = λ (x : Window). ap (λ (h : Hwnd). h.0) (sym (number_there ws i d x within)) ∙ ap (λ (vs : List Hwnd). (get_or vs i d).0) (sym e) ∙ is in
    record {
      within = within;
      same = λ x here. ap (λ (y : Window). y.number.0) here ∙ at x;
      found = λ x here. found_at 15 ws i w x (rise_from 15 last ws ordered) within here (ap (λ (y : Window). y.number.0) here ∙ at x);
    }

-- no window has a number that isn't among them
pub place_miss : (ws : List Window) (hs : List Hwnd) (w : ℕ) (d : Hwnd) → hs ≡ map number_of ws → ((k : ℕ) (h : Hwnd) → k < length hs → (get_or hs k h).0 ≢ w) → window_of ws w ≡ None
place_miss ws hs w d e none =
    let many : length hs ≡ length ws = ap length e ∙ length-map ws number_of in
    none_at ws w (λ k x lt same. none k d (omega (arith, lt, many)) (ap (λ (vs : List Hwnd). (get_or vs k d).0) e ∙ ap (λ (h : Hwnd). h.0) (number_there ws k d x lt) ∙ same))

-- the numbers of the windows rise
pub numbers_sorted : (last : ℕ) (ws : List Window) (hs : List Hwnd) → hs ≡ map number_of ws → IsOrdered 15 last ws → IsNonDecreasingBy (λ (h : Hwnd). h.0) hs
numbers_sorted last ws hs e ordered = subst (λ (vs : List Hwnd). IsNonDecreasingBy (λ (h : Hwnd). h.0) vs) (sym e) (rises (λ (h : Hwnd). h.0) 15 (map number_of ws) (numbers_rise 15 last ws ordered))

-- there is a window at each place of a list
at_of : (ws : List Window) (i : ℕ) → i < length ws → (x : Window) × (x ≡ get_or ws i x)
at_of [] i lt = absurd (omega (arith, lt))
at_of (y ∷ ws) zero lt = (y, refl)
at_of (y ∷ ws) (suc i) lt = at_of ws i (omega (arith, lt))

-- a window before whose place each has a lesser number than those behind stands before them
pub place_within : (ws : List Window) (n i w : ℕ) → IsBefore ws n w → IsPlace ws w i → i < n
place_within ws n i w before at = pick (cases_lt i n)
  where
    pick : (i < n) ⊎ (n ≤ i) → i < n
    pick (inl lt) = lt
    pick (inr past) =
        let x = at_of ws i at.within in
        let above = before i x.0 past at.within in
        let same = at.same x.0 x.1 in
        let here = ap (λ (y : Window). y.number.0) x.1 in
        absurd (omega (arith, above, same, here))

-- the rectangle at the place of a window is that of the window
pub box_placed : (ws : List Window) (es : List Edges) (i w : ℕ) (d : Edges) → AreBoxes ws ws es → i < length es → IsPlace ws w i → box_of (get_or es i d) ≡ box_on ws w
box_placed ws es i w d are lt at =
    let x = at_of ws i at.within in
    box_there ws ws es i d x.0 are lt ∙ ap (box_on ws) (ap (λ (y : Window). y.number.0) (sym x.1) ∙ at.same x.0 x.1)

-- ---- one rectangle from that of the parent

-- the window of a row stands under an older one
pub row_parent : (last : ℕ) (ws : List Window) (w : ℕ) (row : WindowRow) → IsOrdered 15 last ws → Some row ≡ option_map (λ (x : Window). x.row) (window_of ws w) → row.parent.0 < w
row_parent last ws w row ordered found =
    let at = row_is (window_of ws w) row found in
    subst (λ (r : WindowRow). r.parent.0 < w) at.2 (parent_less 15 last w ws at.0 ordered at.1)

-- the corner of a rectangle is that of the window, and near
pub corner_of_box : (last : ℕ) (ws : List Window) (w : ℕ) (e : Edges) → IsOrdered 15 last ws → box_of e ≡ box_on ws w → point e.l e.t ≡ origin_in ws w
corner_of_box last ws w e ordered is = sym (corner_on last ws ordered w ∙ ap (λ (b : Box). point b.left b.top) (sym is))

pub near_box : (last : ℕ) (ws : List Window) (w : ℕ) (e : Edges) → IsOrdered 15 last ws → box_of e ≡ box_on ws w → w < 4294967296 → IsClose 36028797010575360 (point e.l e.t)
near_box last ws w e ordered is small =
    let close = subst (IsClose (8388608 * w)) (sym (corner_of_box last ws w e ordered is)) (close_by w ws w) in
    record {
      left = omega (arith, ints, close.left, small);
      right = omega (arith, ints, close.right, small);
      above = omega (arith, ints, close.above, small);
      below = omega (arith, ints, close.below, small);
    }

-- moved by the corner of the parent, a place is the window's rectangle
pub box_next : (ws : List Window) (w : ℕ) (row : WindowRow) (o : Point) → Some row ≡ option_map (λ (x : Window). x.row) (window_of ws w) → o ≡ origin_in ws row.parent.0 → shifted o (box_in row.place) ≡ box_on ws w
box_next ws w row o found is =
    let at = row_is (window_of ws w) row found in
    ap (λ o. shifted o (box_in row.place)) is
    ∙ ap (λ (r : WindowRow). shifted (origin_in ws r.parent.0) (box_in r.place)) (sym at.2)
    ∙ sym (ap (λ (o : Option Window). elim o as (λ q. Box) [ None ↦ box (pos 0) (pos 0) (pos 0) (pos 0) | Some x ↦ shifted (origin_in ws x.row.parent.0) (box_in x.row.place) ]) at.1)
