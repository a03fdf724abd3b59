-- What is left of the numbers and the windows when those of a thread go.
use Rattle.std.proofs.Common.{◌≡◌, ◌∙◌, ℕ, ◌<◌, List, [], ◌∷◌, Bool, true, false, not, cond, eqb, map, filter, Some, None, Option, refl, ap, arith}
use Rattle.std.specs.List.{AllByRecursion}
use Rattle.std.proofs.lemmas.Bool.{eq-eqb, ne_eqb}
use Rattle.win_num.specs.declared.message.Hwnd.{Hwnd}
use Rattle.win_rows.specs.declared.window.Window.{Window}
use Rattle.win_rows.specs.Windows.{IsOrdered, number_of, window_of}
use Rattle.win_tree.specs.Kin.{is_of_other, without_thread}

-- numbers above this, each found among these
abbrev pub IsFound : ℕ → List Window → Window → Type 0
IsFound from ws x = (from < x.number.0) × (window_of ws x.number.0 ≡ Some x)

weaker : (P Q : Window → Type 0) → ((x : Window) → P x → Q x) → (us : List Window) → AllByRecursion P us → AllByRecursion Q us
weaker P Q f [] h = tt
weaker P Q f (x ∷ us) h = (f x h.0, weaker P Q f us h.1)

pub all_found : (from last : ℕ) (ws : List Window) → IsOrdered from last ws → AllByRecursion (IsFound from ws) ws
all_found from last [] h = tt
all_found from last (y ∷ ws) h = (
  (h.0, ap (λ b. cond b (Some y) (window_of ws y.number.0)) (eq-eqb y.number.0 y.number.0 refl)),
  weaker (IsFound y.number.0 ws) (IsFound from (y ∷ ws))
      (λ x f. (omega (arith, h.0, f.0), ap (λ b. cond b (Some y) (window_of ws x.number.0)) (ne_eqb y.number.0 x.number.0 (λ e. omega (arith, e, f.0))) ∙ f.1)) ws
      (all_found y.number.0 last ws h.2),
)

left : (ws : List Window) (t from : ℕ) (us : List Window) → AllByRecursion (IsFound from ws) us → filter (λ v. is_of_other ws t v.0) (map number_of us) ≡ map number_of (without_thread us t)
left ws t from [] h = refl
left ws t from (x ∷ us) h = pick (left ws t from us h.1) (not (eqb x.row.thread.0 t)) (ap (λ (o : Option Window). let b : Bool = elim o [ Some y ↦ not (eqb y.row.thread.0 t) | None ↦ false ] in b) h.0.1)
  where
    pick : filter (λ v. is_of_other ws t v.0) (map number_of us) ≡ map number_of (without_thread us t) → (b : Bool) → is_of_other ws t x.number.0 ≡ b → filter (λ v. is_of_other ws t v.0) (map number_of (x ∷ us)) ≡ map number_of (cond b (x ∷ without_thread us t) (without_thread us t))
    pick rest true e = ap (λ b. cond b (x.number ∷ filter (λ v. is_of_other ws t v.0) (map number_of us)) (filter (λ v. is_of_other ws t v.0) (map number_of us))) e ∙ ap (λ (vs : List Hwnd). x.number ∷ vs) rest
    pick rest false e = ap (λ b. cond b (x.number ∷ filter (λ v. is_of_other ws t v.0) (map number_of us)) (filter (λ v. is_of_other ws t v.0) (map number_of us))) e ∙ rest

-- the numbers of the windows that stay are the numbers that stay
pub numbers_left : (last t : ℕ) (ws : List Window) → IsOrdered 15 last ws → filter (λ v. is_of_other ws t v.0) (map number_of ws) ≡ map number_of (without_thread ws t)
numbers_left last t ws h = left ws t 15 ws (all_found 15 last ws h)

left_windows : (ws : List Window) (t from : ℕ) (us : List Window) → AllByRecursion (IsFound from ws) us → filter (λ x. is_of_other ws t x.number.0) us ≡ without_thread us t
left_windows ws t from [] h = refl
left_windows ws t from (x ∷ us) h =
    let rest = left_windows ws t from us h.1 in
    let here : is_of_other ws t x.number.0 ≡ not (eqb x.row.thread.0 t) = ap (λ (o : Option Window). let b : Bool = elim o [ Some y ↦ not (eqb y.row.thread.0 t) | None ↦ false ] in b) h.0.1 in
    ap (λ b. cond b (x ∷ filter (λ y. is_of_other ws t y.number.0) us) (filter (λ y. is_of_other ws t y.number.0) us)) here
    ∙ ap (λ (vs : List Window). cond (not (eqb x.row.thread.0 t)) (x ∷ vs) vs) rest

-- the windows of other threads are those whose numbers are of other threads
pub windows_left : (last t : ℕ) (ws : List Window) → IsOrdered 15 last ws → filter (λ x. is_of_other ws t x.number.0) ws ≡ without_thread ws t
windows_left last t ws h = left_windows ws t 15 ws (all_found 15 last ws h)
