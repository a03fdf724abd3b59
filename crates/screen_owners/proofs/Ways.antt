-- The way down from the screen to the window that owns a pixel.
use Rattle.std.proofs.Common.{◌≡◌, ◌≢◌, ◌⊎◌, inl, inr, ℕ, zero, suc, ◌<◌, ◌≤◌, Bool, true, false, cond, eqb, List, [], ◌∷◌, ◌++◌, length, Option, Some, None, refl, ap, ◌∙◌, sym, subst, arith}
use Rattle.std.specs.Prelude.{◌&&◌, reverse}
use Rattle.std.specs.List.{AllByRecursion}
use Rattle.std.proofs.Math.Dec.{ltb}
use Rattle.std.proofs.lemmas.Bool.{eqb-true, false≢true, ltb-true, ltb-false}
use Rattle.std.proofs.lemmas.List.{reverse-append}
use Rattle.std.proofs.lemmas.List.Elements.{recursion_from_All}
use Rattle.win_num.specs.declared.message.Hwnd.{Hwnd}
use Rattle.win_num.specs.declared.shapes.Point.{Point}
use Rattle.win_num.specs.PixelSets.{has_pixel}
use Rattle.win_num.specs.Rects.{box_in}
use Rattle.win_num.specs.declared.names.TheConstants.{WS_VISIBLE}
use Rattle.win_order.specs.Layers.{Layers, siblings_of}
use Rattle.win_rows.specs.declared.window.Window.{Window}
use Rattle.win_rows.specs.Windows.{IsOrdered, nobody, up, window_of}
use Rattle.user_model.specs.Windows.{has_flag}
use Rattle.user_model.proofs.ListLaws.{all_found, all_weaker}
use Rattle.window_state.specs.Pixels.{covers_in, deepest_in, highest_in, inside_of}
use Rattle.window_state.proofs.TreeFacts.{found_passes}
use Rattle.screen_owners.specs.Owners.{AreChildren, IsChildOf}
use Rattle.screen_owners.specs.Shares.{Passes, begins, goes_on}

-- ---- lists

all_both : {X : Type 0} (P : X → Type 0) (xs : List X) (y : X) → AllByRecursion P xs → P y → AllByRecursion P (xs ++ y ∷ [])
all_both P [] y h k = (k, tt)
all_both P (x ∷ xs) y h k = (h.0, all_both P xs y h.1 k)

all_reversed : {X : Type 0} (P : X → Type 0) (xs : List X) → AllByRecursion P xs → AllByRecursion P (reverse xs)
all_reversed P [] h = tt
all_reversed P (x ∷ xs) h = subst (AllByRecursion P) (sym (reverse-append (x ∷ []) xs)) (all_both P (reverse xs) x (all_reversed P xs h.1) h.0)

-- ---- windows by number

-- a number above another one and that of the parent
pub record IsOlder (from : ℕ) (x : Window) : Type 0 where
  pub over : from < x.number.0
  pub parent : x.row.parent.0 < x.number.0

parent_less : (x : Window) → (up x).0 < x.number.0 → x.row.parent.0 < x.number.0
parent_less x h = pick (eqb x.row.parent.0 0) refl h
  where
    pick : (b : Bool) → eqb x.row.parent.0 0 ≡ b → (cond b x.row.owner x.row.parent).0 < x.number.0 → x.row.parent.0 < x.number.0
    pick true is k = omega (arith, eqb-true x.row.parent.0 0 is, k)
    pick false is k = k

pub each_older : (from last : ℕ) (ws : List Window) → IsOrdered from last ws → AllByRecursion (IsOlder from) ws
each_older from last [] h = tt
each_older from last (x ∷ xs) h = (
  record { over = h.0; parent = parent_less x h.1 },
  all_weaker (IsOlder x.number.0) (IsOlder from) (λ y k. record { over = omega (arith, h.0, k.over); parent = k.parent }) xs (each_older x.number.0 last xs h.2),
)

-- the window of a number, which is above that of its parent
pub record IsAbove (w : ℕ) (x : Window) : Type 0 where
  pub number : x.number.0 ≡ w
  pub over : 15 < w
  pub parent : x.row.parent.0 < w

-- ---- how many windows are above a number

pub above_count : ℕ → List Window → ℕ
above_count n [] = 0
above_count n (x ∷ xs) = cond (ltb n x.number.0) (suc (above_count n xs)) (above_count n xs)

pub count_at_most : (n : ℕ) (ws : List Window) → above_count n ws ≤ length ws
unfolding above_count
count_at_most n [] = omega arith
count_at_most n (x ∷ xs) = pick (count_at_most n xs) (ltb n x.number.0)
  where
    pick : above_count n xs ≤ length xs → (b : Bool) → cond b (suc (above_count n xs)) (above_count n xs) ≤ suc (length xs)
    pick rest true = omega (arith, rest)
    pick rest false = omega (arith, rest)

-- more are above a lesser number
count_falls : (v w : ℕ) (ws : List Window) → v ≤ w → above_count w ws ≤ above_count v ws
unfolding above_count
count_falls v w [] h = omega arith
count_falls v w (x ∷ xs) h = pick (count_falls v w xs h) (ltb w x.number.0) refl (ltb v x.number.0) refl
  where
    pick : above_count w xs ≤ above_count v xs → (b : Bool) → ltb w x.number.0 ≡ b → (c : Bool) → ltb v x.number.0 ≡ c → cond b (suc (above_count w xs)) (above_count w xs) ≤ cond c (suc (above_count v xs)) (above_count v xs)
    pick rest true e true k = omega (arith, rest)
    pick rest true e false k = absurd (omega (arith, ltb-true w x.number.0 e, ltb-false v x.number.0 k, h))
    pick rest false e true k = omega (arith, rest)
    pick rest false e false k = rest

pub count_less : (v w : ℕ) (ws : List Window) (x : Window) → v < w → window_of ws w ≡ Some x → above_count w ws < above_count v ws
unfolding above_count
count_less v w [] x h e = absurd cc
count_less v w (y ∷ ys) x h e = pick (eqb y.number.0 w) refl (ltb w y.number.0) refl (ltb v y.number.0) refl (count_less v w ys x h)
  where
    pick : (a : Bool) → eqb y.number.0 w ≡ a → (b : Bool) → ltb w y.number.0 ≡ b → (c : Bool) → ltb v y.number.0 ≡ c → (window_of ys w ≡ Some x → above_count w ys < above_count v ys) →
        cond b (suc (above_count w ys)) (above_count w ys) < cond c (suc (above_count v ys)) (above_count v ys)
    pick true k b l true m rest = here b l
      where
        here : (b : Bool) → ltb w y.number.0 ≡ b → cond b (suc (above_count w ys)) (above_count w ys) < suc (above_count v ys)
        here true l = absurd (omega (arith, ltb-true w y.number.0 l, eqb-true y.number.0 w k))
        here false l = omega (arith, count_falls v w ys (omega (arith, h)))
    pick true k b l false m rest = absurd (omega (arith, ltb-false v y.number.0 m, eqb-true y.number.0 w k, h))
    pick false k true l true m rest = omega (arith, rest (sym (ap (λ b. cond b (Some y) (window_of ys w)) k) ∙ e))
    pick false k true l false m rest = absurd (omega (arith, ltb-true w y.number.0 l, ltb-false v y.number.0 m, h))
    pick false k false l true m rest = omega (arith, rest (sym (ap (λ b. cond b (Some y) (window_of ys w)) k) ∙ e))
    pick false k false l false m rest = rest (sym (ap (λ b. cond b (Some y) (window_of ys w)) k) ∙ e)

module _ (ws : List Window) (z : Layers) (last : ℕ) (ordered : IsOrdered 15 last ws) (children : AreChildren ws z) where
  pub older_than : (w : ℕ) (x : Window) → window_of ws w ≡ Some x → IsAbove w x
  older_than w x k =
      let older = all_found (IsOlder 15) (λ y. eqb y.number.0 w) ws x (each_older 15 last ws ordered) k in
      let number : x.number.0 ≡ w = eqb-true x.number.0 w (found_passes (λ y. eqb y.number.0 w) ws x k) in
      record { number = number; over = omega (arith, older.over, number); parent = omega (arith, older.parent, number) }

  -- a step down goes to a live child
  pub record IsStep (v : ℕ) (w : Hwnd) : Type 0 where
    pub row : Window
    pub live : window_of ws w.0 ≡ Some row
    pub parent : row.row.parent.0 ≡ v
    pub less : v < w.0
    pub over : 15 < w.0

  pub step_of : (q : Point) (v : ℕ) (w : Hwnd) → highest_in ws z q v ≡ Some w → IsStep v w
  step_of q v w e = pick (window_of ws w.0) refl
    where
      here : covers_in ws q w ≡ true
      here = found_passes (covers_in ws q) (reverse (siblings_of v z)) w e

      child : IsChildOf ws v w
      child = all_found (IsChildOf ws v) (covers_in ws q) (reverse (siblings_of v z)) w (all_reversed (IsChildOf ws v) (siblings_of v z) (recursion_from_All (IsChildOf ws v) (siblings_of v z) (children v))) e

      pick : (o : Option Window) → window_of ws w.0 ≡ o → IsStep v w
      pick None k = absurd (false≢true (sym (ap (λ (o : Option Window). elim o as (λ _. Bool) [ None ↦ false | Some x ↦ has_flag x.row.style WS_VISIBLE && has_pixel (box_in x.row.place) q ]) k) ∙ here))
      pick (Some x) k =
          let older = older_than w.0 x k in
          let parent : x.row.parent.0 ≡ v = child x k in
          record { row = x; live = k; parent = parent; less = omega (arith, older.parent, parent); over = older.over }

  -- where the way down comes to a window, it begins there or came from its parent
  pub record CameFrom (p : Point) (w : Hwnd) (q : Point) : Type 0 where
    pub up : Hwnd
    pub at : Point
    pub way : Passes ws z p up at
    pub step : highest_in ws z at up.0 ≡ Some w
    pub inside : q ≡ inside_of ws at w

  came : (p : Point) {w : Hwnd} {q : Point} → Passes ws z p w q → ((w ≡ nobody) × (q ≡ p)) ⊎ CameFrom p w q
  came p begins = inl (refl, refl)
  came p (goes_on {v = v} {q = at} w d e) = inr (record { up = v; at = at; way = d; step = e; inside = refl })

  pub came_from : (p : Point) (w : Hwnd) (q : Point) → Passes ws z p w q → ((w ≡ nobody) × (q ≡ p)) ⊎ CameFrom p w q
  came_from p w q d = came p d

  -- the screen is passed at the beginning alone
  pub at_screen : (p q : Point) → Passes ws z p nobody q → q ≡ p
  at_screen p q d = pick (came_from p nobody q d)
    where
      pick : ((nobody ≡ nobody) × (q ≡ p)) ⊎ CameFrom p nobody q → q ≡ p
      pick (inl e) = e.1
      pick (inr c) = absurd (omega (arith, (step_of c.at c.up.0 nobody c.step).over))

  -- another window is a live one below its parent
  pub at_child : (p q : Point) (w : Hwnd) (x : Window) → w.0 ≢ 0 → window_of ws w.0 ≡ Some x → Passes ws z p w q → (c : CameFrom p w q) × (c.up.0 ≡ x.row.parent.0)
  at_child p q w x some live d = pick (came_from p w q d)
    where
      pick : ((w ≡ nobody) × (q ≡ p)) ⊎ CameFrom p w q → (c : CameFrom p w q) × (c.up.0 ≡ x.row.parent.0)
      pick (inl e) = absurd (some (ap (λ (u : Hwnd). u.0) e.0))
      pick (inr c) =
          let s = step_of c.at c.up.0 w c.step in
          let same : Some s.row ≡ Some x = sym s.live ∙ live in
          let equal : s.row ≡ x = cc in
          (c, sym s.parent ∙ ap (λ (y : Window). y.row.parent.0) equal)

  -- ---- the owner

  -- the owner is one that the way down comes through
  pub owner_passes : (n : ℕ) (p q : Point) (w : Hwnd) → Passes ws z p w q → (r : Point) × Passes ws z p (deepest_in n ws z q w) r
  owner_passes zero p q w d = (q, d)
  owner_passes (suc n) p q w d = pick (λ v k. owner_passes n p (inside_of ws q v) v k) (highest_in ws z q w.0) refl
    where
      pick : ((v : Hwnd) → Passes ws z p v (inside_of ws q v) → (r : Point) × Passes ws z p (deepest_in n ws z (inside_of ws q v) v) r) → (o : Option Hwnd) → highest_in ws z q w.0 ≡ o → (r : Point) × Passes ws z p (elim o as (λ _. Hwnd) [ Some v ↦ deepest_in n ws z (inside_of ws q v) v | None ↦ w ]) r
      pick rest None e = (q, d)
      pick rest (Some v) e = rest v (goes_on v d e)

  -- one step more
  pub steps_down : (m : ℕ) (q : Point) (v w : Hwnd) → highest_in ws z q v.0 ≡ Some w → deepest_in (suc m) ws z q v ≡ deepest_in m ws z (inside_of ws q w) w
  steps_down m q v w e = ap (λ (o : Option Hwnd). elim o as (λ _. Hwnd) [ Some u ↦ deepest_in m ws z (inside_of ws q u) u | None ↦ v ]) e

  -- no step
  pub stays : (m : ℕ) (q : Point) (v : Hwnd) → highest_in ws z q v.0 ≡ None → deepest_in m ws z q v ≡ v
  stays zero q v e = refl
  stays (suc m) q v e = ap (λ (o : Option Hwnd). elim o as (λ _. Hwnd) [ Some u ↦ deepest_in m ws z (inside_of ws q u) u | None ↦ v ]) e

  -- the steps that are left where the way down comes through a window are enough for all windows above its number
  pub record HasSteps (p : Point) (w : Hwnd) (q : Point) : Type 0 where
    pub left : ℕ
    pub enough : above_count w.0 ws ≤ left
    pub same : deepest_in (length ws) ws z p nobody ≡ deepest_in left ws z q w

  pub has_steps : (p : Point) {w : Hwnd} {q : Point} → Passes ws z p w q → HasSteps p w q
  has_steps p begins = record { left = length ws; enough = count_at_most 0 ws; same = refl }
  has_steps p (goes_on {v = v} {q = q} w d e) = pick (has_steps p d)
    where
      s : IsStep v.0 w
      s = step_of q v.0 w e

      fewer : above_count w.0 ws < above_count v.0 ws
      fewer = count_less v.0 w.0 ws s.row s.less s.live

      by : (n : ℕ) → above_count v.0 ws ≤ n → deepest_in (length ws) ws z p nobody ≡ deepest_in n ws z q v → HasSteps p w (inside_of ws q w)
      by zero k same = absurd (omega (arith, k, fewer))
      by (suc n) k same = record { left = n; enough = omega (arith, k, fewer); same = same ∙ steps_down n q v w e }

      pick : HasSteps p v q → HasSteps p w (inside_of ws q w)
      pick h = by h.left h.enough h.same

  -- the owner below a window has no lesser number
  no_less : (n : ℕ) (q : Point) (w : Hwnd) → w.0 ≤ (deepest_in n ws z q w).0
  no_less zero q w = omega arith
  no_less (suc n) q w = pick (λ v. no_less n (inside_of ws q v) v) (highest_in ws z q w.0) refl
    where
      pick : ((v : Hwnd) → v.0 ≤ (deepest_in n ws z (inside_of ws q v) v).0) → (o : Option Hwnd) → highest_in ws z q w.0 ≡ o → w.0 ≤ (elim o as (λ _. Hwnd) [ Some v ↦ deepest_in n ws z (inside_of ws q v) v | None ↦ w ]).0
      pick rest None e = omega arith
      pick rest (Some v) e = omega (arith, rest v, (step_of q w.0 v e).less)

  -- where no child has the point, the window owns the pixel
  pub owner_here : (p q : Point) (w : Hwnd) → Passes ws z p w q → highest_in ws z q w.0 ≡ None → deepest_in (length ws) ws z p nobody ≡ w
  owner_here p q w d e = let h = has_steps p d in h.same ∙ stays h.left q w e

  -- where a child has it, another window does
  pub owner_below : (p q : Point) (w v : Hwnd) → Passes ws z p w q → highest_in ws z q w.0 ≡ Some v → w.0 < (deepest_in (length ws) ws z p nobody).0
  owner_below p q w v d e =
      let h = has_steps p (goes_on v d e) in
      let same : (deepest_in (length ws) ws z p nobody).0 ≡ (deepest_in h.left ws z (inside_of ws q v) v).0 = ap (λ (u : Hwnd). u.0) h.same in
      omega (arith, same, no_less h.left (inside_of ws q v) v, (step_of q w.0 v e).less)
