-- Numbers rise, and what stands above a window is older than it.
use Rattle.std.proofs.Common.{◌≡◌, ◌∙◌, inl, inr, ℕ, ◌+◌, ◌-◌, ◌<◌, ◌≤◌, suc, zero, get_or, length, remove, List, [], ◌∷◌, ◌++◌, Bool, true, false, ◌||◌, eqb, map, filter, find, Option, Some, None, is_some, refl, sym, ap, subst, arith}
use Rattle.std.specs.List.{AllByRecursion}
use Rattle.std.proofs.lemmas.Bool.{cases_Bool, eqb-true, or_parts}
use Rattle.std.proofs.lemmas.List.{map-append}
use Rattle.win_num.specs.declared.message.Hwnd.{Hwnd}
use Rattle.win_num.specs.declared.shapes.Rect.{Rect}
use Rattle.win_num.specs.declared.code.Code.TheVariants.{Win}
use Rattle.win_rows.specs.declared.row.WindowRow.{WindowRow}
use Rattle.win_rows.specs.declared.row.Unmade.{Unmade}
use Rattle.win_rows.specs.declared.row.Unmade.TheVariants.{Tell, Last, Gone, NotDoomed}
use Rattle.win_rows.specs.declared.window.Window.{Window}
use Rattle.win_rows.specs.Windows.{Windows, IsOrdered, made, window_of, is_live, number_of, up, told_if, ended_if, set_if}
use Rattle.win_tree.specs.Kin.{parent_of, top_within, is_bad, refusal, settled}
use Rattle.win_rows.specs.Destruction.{given}

-- the bound below is no greater than the last number
pub below_last : (from last : ℕ) (ws : List Window) → IsOrdered from last ws → from ≤ last
below_last from last [] h = h
below_last from last (x ∷ ws) h = omega (arith, h.0, below_last x.number.0 last ws h.2)

-- a lesser bound serves too
lower : (less from last : ℕ) (ws : List Window) → less ≤ from → IsOrdered from last ws → IsOrdered less last ws
lower less from last [] le h = omega (arith, le, h)
lower less from last (x ∷ ws) le h = (omega (arith, le, h.0), h.1, h.2)

-- without some windows
pub ordered_filter : (p : Window → Bool) (from last : ℕ) (ws : List Window) → IsOrdered from last ws → IsOrdered from last (filter p ws)
ordered_filter p from last [] h = h
ordered_filter p from last (x ∷ ws) h =
    let rest = ordered_filter p x.number.0 last ws h.2 in
    elim (cases_Bool (p x)) [
      | inl k ↦ rw (k, filter) (h.0, h.1, rest)
      | inr k ↦ rw (k, filter) (lower from x.number.0 last (filter p ws) (omega (arith, h.0)) rest)
    ]

-- with windows changed that keep their numbers and what stands above them
pub ordered_map : (f : Window → Window) → ((x : Window) → number_of (f x) ≡ number_of x) → ((x : Window) → up (f x) ≡ up x) → (from last : ℕ) (ws : List Window) → IsOrdered from last ws → IsOrdered from last (map f ws)
ordered_map f same same_up from last [] h = h
ordered_map f same same_up from last (x ∷ ws) h = (
  subst (λ (n : Hwnd). from < n.0) (sym (same x)) h.0,
  subst (λ (n : Hwnd). (up (f x)).0 < n.0) (sym (same x)) (subst (λ (u : Hwnd). u.0 < x.number.0) (sym (same_up x)) h.1),
  subst (λ (n : Hwnd). IsOrdered n.0 last (map f ws)) (sym (same x)) (ordered_map f same same_up x.number.0 last ws h.2),
)

pub set_up : (w style ex : ℕ) (place : Rect) (x : Window) → up (set_if w style ex place x) ≡ up x
set_up w style ex place x = elim (cases_Bool (eqb x.number.0 w)) [ inl h ↦ rw h refl | inr h ↦ rw h refl ]

pub ordered_given : (step : Unmade) (from last : ℕ) (ws : List Window) → IsOrdered from last ws → IsOrdered from last (given step ws)
ordered_given (Tell w) from last ws h = ordered_map (told_if w.0) (λ x. refl) (λ x. refl) from last ws h
ordered_given (Last w) from last ws h = ordered_map (ended_if w.0) (λ x. refl) (λ x. refl) from last ws h
ordered_given Gone from last ws h = h
ordered_given NotDoomed from last ws h = h

-- with a new window
pub ordered_more : (from last : ℕ) (ws : List Window) (x : Window) → IsOrdered from last ws → last < x.number.0 → (up x).0 < x.number.0 → IsOrdered from x.number.0 (ws ++ x ∷ [])
ordered_more from last [] x h lt older = (omega (arith, h, lt), older, omega arith)
ordered_more from last (y ∷ ws) x h lt older = (h.0, h.1, ordered_more y.number.0 last ws x h.2 lt older)

-- a live window's number is among those that were given
pub live_small : (from last : ℕ) (ws : List Window) (w : ℕ) → IsOrdered from last ws → is_live ws w ≡ true → w ≤ last
live_small from last [] w h live = absurd (cc live)
live_small from last (x ∷ ws) w h live = elim (cases_Bool (eqb x.number.0 w)) [
  | inl k ↦ omega (arith, eqb-true x.number.0 w k, below_last x.number.0 last ws h.2)
  | inr k ↦
      let skip : window_of (x ∷ ws) w ≡ window_of ws w = rw (k, window_of, find) refl in
      live_small x.number.0 last ws w h.2 (subst (λ (o : Option Window). is_some o ≡ true) skip live)
]

-- so is that of a parent
row_parent_small : (x : Window) (last : ℕ) → (up x).0 ≤ last → x.row.parent.0 ≤ last
row_parent_small x last h = elim (cases_Bool (eqb x.row.parent.0 0)) [
  | inl k ↦ omega (arith, eqb-true x.row.parent.0 0 k)
  | inr k ↦ subst (λ (u : Hwnd). u.0 ≤ last) (rw k refl) h
]

parent_small : (from last : ℕ) (ws : List Window) (u : ℕ) → IsOrdered from last ws → (parent_of ws u).0 ≤ last
parent_small from last [] u h = omega arith
parent_small from last (x ∷ ws) u h = elim (cases_Bool (eqb x.number.0 u)) [
  | inl k ↦ rw (k, parent_of, window_of, find) (row_parent_small x last (omega (arith, h.1, below_last x.number.0 last ws h.2)))
  | inr k ↦ rw (k, parent_of, window_of, find) (parent_small x.number.0 last ws u h.2)
]

top_small : (n from last : ℕ) (ws : List Window) (w : Hwnd) → IsOrdered from last ws → w.0 ≤ last → (top_within n ws w).0 ≤ last
top_small zero from last ws w h le = le
top_small (suc n) from last ws w h le = elim (cases_Bool (eqb (parent_of ws w.0).0 0)) [
  | inl k ↦ rw (k, top_within) le
  | inr k ↦ rw (k, top_within) (top_small n from last ws (parent_of ws w.0) h (parent_small from last ws w.0 h))
]

dead_bad : (ws : List Window) (w : ℕ) → eqb w 0 ≡ false → is_live ws w ≡ false → is_bad ws w ≡ true
dead_bad ws w k l = rw (k, l, is_bad) refl

good_live : (ws : List Window) (w : ℕ) → is_bad ws w ≡ false → eqb w 0 ≡ false → is_live ws w ≡ true
good_live ws w good k = elim (cases_Bool (is_live ws w)) [ inl l ↦ l | inr l ↦ absurd (cc (good, dead_bad ws w k l)) ]

-- what may be a parent or an owner was given
good_small : (last : ℕ) (ws : List Window) (w : ℕ) → IsOrdered 15 last ws → is_bad ws w ≡ false → w ≤ last
good_small last ws w h good = elim (cases_Bool (eqb w 0)) [
  | inl k ↦ omega (arith, eqb-true w 0 k)
  | inr k ↦ live_small 15 last ws w h (good_live ws w good k)
]

refused : (t : Windows) (row : WindowRow) → (is_bad t.live row.parent.0 || is_bad t.live row.owner.0) ≡ true → refusal t row ≡ Some (Win 1400)
refused t row k = rw (k, refusal) refl

both_good : (t : Windows) (row : WindowRow) → refusal t row ≡ None → (is_bad t.live row.parent.0 ≡ false) × (is_bad t.live row.owner.0 ≡ false)
both_good t row e = elim (cases_Bool (is_bad t.live row.parent.0 || is_bad t.live row.owner.0)) [
  | inl k ↦ absurd (cc (e, refused t row k))
  | inr k ↦ or_parts (is_bad t.live row.parent.0) (is_bad t.live row.owner.0) k
]

-- what stands above a new window was given before it
pub new_older : (t : Windows) (row : WindowRow) (n : Hwnd) → IsOrdered 15 t.last t.live → refusal t row ≡ None → (up (made n (settled t.live row))).0 ≤ t.last
new_older t row n h e =
    let good = both_good t row e in
    elim (cases_Bool (eqb row.parent.0 0)) [
      | inl k ↦ subst (λ (u : Hwnd). u.0 ≤ t.last) (rw (k, up, made, settled) refl) (top_small row.owner.0 15 t.last t.live row.owner h (good_small t.last t.live row.owner.0 h good.1))
      | inr k ↦ subst (λ (u : Hwnd). u.0 ≤ t.last) (rw (k, up, made, settled) refl) (good_small t.last t.live row.parent.0 h good.0)
    ]

-- so was its owner
pub owner_older : (t : Windows) (row : WindowRow) → IsOrdered 15 t.last t.live → refusal t row ≡ None → (settled t.live row).owner.0 ≤ t.last
owner_older t row h e =
    let good = both_good t row e in
    elim (cases_Bool (eqb row.parent.0 0)) [
      | inl k ↦ rw (k, settled) (top_small row.owner.0 15 t.last t.live row.owner h (good_small t.last t.live row.owner.0 h good.1))
      | inr k ↦ rw (k, settled) (omega arith)
    ]

-- a window that is put last
pub put_last : (ns ns' : List Hwnd) (ws ws' : List Window) (x : Window) (last : ℕ) → (ns ≡ map number_of ws) × IsOrdered 15 last ws → ns' ≡ ns ++ x.number ∷ [] → ws' ≡ ws ++ x ∷ [] → last < x.number.0 → (up x).0 < x.number.0 → (ns' ≡ map number_of ws') × IsOrdered 15 x.number.0 ws'
put_last ns ns' ws ws' x last kept numbers windows rises older = (
  numbers ∙ (ap (λ (us : List Hwnd). us ++ x.number ∷ []) kept.0 ∙ sym (ap (map number_of) windows ∙ map-append number_of ws (x ∷ []))),
  subst (λ (us : List Window). IsOrdered 15 x.number.0 us) (sym windows) (ordered_more 15 last ws x kept.1 rises older),
)

-- without the newest window, whose number was the last
pub newest_out : (from last i : ℕ) (ws : List Window) (x : Window) → IsOrdered from last ws → i + 1 ≡ length ws → x ≡ get_or ws i x → x.number.0 ≡ last → IsOrdered from (last - 1) (remove ws i)
newest_out from last i [] x h long at number = absurd (omega (arith, long))
newest_out from last zero (y ∷ []) x h long at number = let least = h.0 in let same = ap (λ (w : Window). w.number.0) at in omega (arith, least, same, number)
newest_out from last zero (y ∷ z ∷ ws) x h long at number = absurd (omega (arith, long))
newest_out from last (suc i) (y ∷ ws) x h long at number = (h.0, h.1, newest_out y.number.0 last i ws x h.2 (omega (arith, long)) at number)

pub all_out : (P : Window → Type 0) (i : ℕ) (ws : List Window) → AllByRecursion P ws → AllByRecursion P (remove ws i)
all_out P i [] h = none i
  where
    none : (j : ℕ) → AllByRecursion P (remove [] j)
    none zero = tt
    none (suc j) = tt
all_out P zero (x ∷ ws) h = h.1
all_out P (suc i) (x ∷ ws) h = (h.0, all_out P i ws h.1)
