-- Walks over the table, and over the windows that it stands for.
use Rattle.std.proofs.Common.{◌≡◌, ℕ, zero, suc, Bool, true, false, cond, eqb, List, [], ◌∷◌, map, Option, Some, None, refl, ap, ◌∙◌, sym}
use Rattle.std.specs.Prelude.{◌&&◌, ◌||◌, filter, find, option_map, unwrap_or, is_some}
use Rattle.std.specs.List.{list_any}
use Rattle.std.proofs.Math.Dec.{ltb}
use Rattle.win_num.specs.declared.message.Hwnd.{Hwnd}
use Rattle.win_rows.specs.declared.window.Window.{Window as KeptWindow}
use Rattle.win_rows.specs.Windows as kept
use Rattle.win_tree.specs.Kin as kept_kin
use Rattle.user_model.specs.Windows.{Window, find_window, up, above, parent_in, kin_within, is_kin, below_within, is_below, top_within, top_of}
use Rattle.window_state.specs.Trees.{as_made}

-- the first that passes
pub find_made : (p : Window → Bool) (q : KeptWindow → Bool) → ((x : KeptWindow) → p (as_made x) ≡ q x) → (ws : List KeptWindow) → find p (map as_made ws) ≡ option_map as_made (find q ws)
find_made p q h [] = refl
find_made p q h (x ∷ ws) = ap (λ b. cond b (Some (as_made x)) (find p (map as_made ws))) (h x) ∙ pick (find_made p q h ws) (q x)
  where
    pick : find p (map as_made ws) ≡ option_map as_made (find q ws) → (b : Bool) → cond b (Some (as_made x)) (find p (map as_made ws)) ≡ option_map as_made (cond b (Some x) (find q ws))
    pick rest true = refl
    pick rest false = rest

-- those that pass
pub filter_made : (p : Window → Bool) (q : KeptWindow → Bool) → ((x : KeptWindow) → p (as_made x) ≡ q x) → (ws : List KeptWindow) → filter p (map as_made ws) ≡ map as_made (filter q ws)
filter_made p q h [] = refl
filter_made p q h (x ∷ ws) = ap (λ b. cond b (as_made x ∷ filter p (map as_made ws)) (filter p (map as_made ws))) (h x) ∙ pick (filter_made p q h ws) (q x)
  where
    pick : filter p (map as_made ws) ≡ map as_made (filter q ws) → (b : Bool) → cond b (as_made x ∷ filter p (map as_made ws)) (filter p (map as_made ws)) ≡ map as_made (cond b (x ∷ filter q ws) (filter q ws))
    pick rest true = ap (λ (us : List Window). as_made x ∷ us) rest
    pick rest false = rest

-- whether one passes
pub any_made : (p : Window → Bool) (q : KeptWindow → Bool) → ((x : KeptWindow) → p (as_made x) ≡ q x) → (ws : List KeptWindow) → list_any p (map as_made ws) ≡ list_any q ws
any_made p q h [] = refl
any_made p q h (x ∷ ws) = ap (λ b. b || list_any p (map as_made ws)) (h x) ∙ ap (λ r. q x || r) (any_made p q h ws)

-- the window of a number
pub window_made : (ws : List KeptWindow) (w : ℕ) → find_window (map as_made ws) w ≡ option_map as_made (kept.window_of ws w)
window_made ws w = find_made (λ x. eqb x.number w) (λ x. eqb x.number.0 w) (λ x. refl) ws

some_made : (o : Option KeptWindow) → is_some (option_map as_made o) ≡ is_some o
some_made None = refl
some_made (Some x) = refl

-- whether it is a live window
pub live_made : (ws : List KeptWindow) (w : ℕ) → is_some (find_window (map as_made ws) w) ≡ kept.is_live ws w
live_made ws w = ap is_some (window_made ws w) ∙ some_made (kept.window_of ws w)

number_if : (b : Bool) (v w : Hwnd) → (cond b v w).0 ≡ cond b v.0 w.0
number_if true v w = refl
number_if false v w = refl

-- what stands above a window of the table
pub up_made : (x : KeptWindow) → up (as_made x) ≡ (kept.up x).0
up_made x = sym (number_if (eqb x.row.parent.0 0) x.row.owner x.row.parent)

above_of : (o : Option KeptWindow) → unwrap_or (option_map up (option_map as_made o)) 0 ≡ (elim o as (λ p. Hwnd) [ Some x ↦ kept.up x | None ↦ kept.nobody ]).0
above_of None = refl
above_of (Some x) = up_made x

-- what stands above a window
pub above_made : (ws : List KeptWindow) (w : ℕ) → above (map as_made ws) w ≡ (kept_kin.above ws w).0
above_made ws w = ap (λ (o : Option Window). unwrap_or (option_map up o) 0) (window_made ws w) ∙ above_of (kept.window_of ws w)

parent_of : (o : Option KeptWindow) → unwrap_or (option_map (λ (x : Window). x.parent) (option_map as_made o)) 0 ≡ (elim o as (λ p. Hwnd) [ Some x ↦ x.row.parent | None ↦ kept.nobody ]).0
parent_of None = refl
parent_of (Some x) = refl

-- the parent of a window
pub parent_made : (ws : List KeptWindow) (w : ℕ) → parent_in (map as_made ws) w ≡ (kept_kin.parent_of ws w).0
parent_made ws w = ap (λ (o : Option Window). unwrap_or (option_map (λ (x : Window). x.parent) o) 0) (window_made ws w) ∙ parent_of (kept.window_of ws w)

kin_step : (n : ℕ) (ws : List KeptWindow) (v w : ℕ) → ((u : ℕ) → kin_within n (map as_made ws) v u ≡ kept_kin.kin_within n ws v u) → (z s : Bool) → (elim z as (λ c. Bool) [ true ↦ false | false ↦ elim s as (λ c. Bool) [ true ↦ true | false ↦ kin_within n (map as_made ws) v (above (map as_made ws) w) ] ]) ≡ (elim z as (λ c. Bool) [ true ↦ false | false ↦ elim s as (λ c. Bool) [ true ↦ true | false ↦ kept_kin.kin_within n ws v (kept_kin.above ws w).0 ] ])
kin_step n ws v w h true s = refl
kin_step n ws v w h false true = refl
kin_step n ws v w h false false = ap (kin_within n (map as_made ws) v) (above_made ws w) ∙ h (kept_kin.above ws w).0

kin_within_made : (n : ℕ) (ws : List KeptWindow) (v w : ℕ) → kin_within n (map as_made ws) v w ≡ kept_kin.kin_within n ws v w
kin_within_made zero ws v w = refl
kin_within_made (suc n) ws v w = kin_step n ws v w (λ u. kin_within_made n ws v u) (eqb w 0) (eqb w v)

-- whether w is of v's kin
pub kin_made : (ws : List KeptWindow) (v w : ℕ) → is_kin (map as_made ws) v w ≡ kept_kin.is_kin ws v w
kin_made ws v w = kin_within_made w ws v w

below_step : (n : ℕ) (ws : List KeptWindow) (v p q : ℕ) → p ≡ q → ((u : ℕ) → below_within n (map as_made ws) v u ≡ kept_kin.below_within n ws v u) → (elim (eqb p 0) as (λ c. Bool) [ true ↦ false | false ↦ elim (eqb p v) as (λ c. Bool) [ true ↦ true | false ↦ below_within n (map as_made ws) v p ] ]) ≡ (elim (eqb q 0) as (λ c. Bool) [ true ↦ false | false ↦ elim (eqb q v) as (λ c. Bool) [ true ↦ true | false ↦ kept_kin.below_within n ws v q ] ])
below_step n ws v p q e h =
    ap (λ u. let r : Bool = elim (eqb u 0) as (λ c. Bool) [ true ↦ false | false ↦ elim (eqb u v) as (λ c. Bool) [ true ↦ true | false ↦ below_within n (map as_made ws) v u ] ] in r) e
    ∙ pick (eqb q 0) (eqb q v)
  where
    pick : (z s : Bool) → (elim z as (λ c. Bool) [ true ↦ false | false ↦ elim s as (λ c. Bool) [ true ↦ true | false ↦ below_within n (map as_made ws) v q ] ]) ≡ (elim z as (λ c. Bool) [ true ↦ false | false ↦ elim s as (λ c. Bool) [ true ↦ true | false ↦ kept_kin.below_within n ws v q ] ])
    pick true s = refl
    pick false true = refl
    pick false false = h q

below_within_made : (n : ℕ) (ws : List KeptWindow) (v w : ℕ) → below_within n (map as_made ws) v w ≡ kept_kin.below_within n ws v w
below_within_made zero ws v w = refl
below_within_made (suc n) ws v w = below_step n ws v (parent_in (map as_made ws) w) (kept_kin.parent_of ws w).0 (parent_made ws w) (λ u. below_within_made n ws v u)

-- whether w stands below v
pub below_made : (ws : List KeptWindow) (v w : ℕ) → is_below (map as_made ws) v w ≡ kept_kin.is_below ws v w
below_made ws v w = below_within_made w ws v w

top_step : (n : ℕ) (ws : List KeptWindow) (w : Hwnd) (p : ℕ) (q : Hwnd) → p ≡ q.0 → ((u : Hwnd) → top_within n (map as_made ws) u.0 ≡ (kept_kin.top_within n ws u).0) → (elim (eqb p 0) as (λ c. ℕ) [ true ↦ w.0 | false ↦ top_within n (map as_made ws) p ]) ≡ (elim (eqb q.0 0) as (λ c. Hwnd) [ true ↦ w | false ↦ kept_kin.top_within n ws q ]).0
top_step n ws w p q e h =
    ap (λ u. let r : ℕ = elim (eqb u 0) as (λ c. ℕ) [ true ↦ w.0 | false ↦ top_within n (map as_made ws) u ] in r) e
    ∙ pick (eqb q.0 0)
  where
    pick : (z : Bool) → (elim z as (λ c. ℕ) [ true ↦ w.0 | false ↦ top_within n (map as_made ws) q.0 ]) ≡ (elim z as (λ c. Hwnd) [ true ↦ w | false ↦ kept_kin.top_within n ws q ]).0
    pick true = refl
    pick false = h q

top_within_made : (n : ℕ) (ws : List KeptWindow) (w : Hwnd) → top_within n (map as_made ws) w.0 ≡ (kept_kin.top_within n ws w).0
top_within_made zero ws w = refl
top_within_made (suc n) ws w = top_step n ws w (parent_in (map as_made ws) w.0) (kept_kin.parent_of ws w.0) (parent_made ws w.0) (λ u. top_within_made n ws u)

-- the top-level ancestor
pub top_made : (ws : List KeptWindow) (w : Hwnd) → top_of (map as_made ws) w.0 ≡ (kept_kin.top_of ws w).0
top_made ws w = top_within_made w.0 ws w

next_of : (o : Option KeptWindow) → unwrap_or (option_map (λ (x : Window). x.number) (option_map as_made o)) 0 ≡ (unwrap_or (option_map kept.number_of o) kept.nobody).0
next_of None = refl
next_of (Some x) = refl

-- the next child of a window, or the next top-level window for 0; or 0
pub next_child_made : (ws : List KeptWindow) (parent v : ℕ) → unwrap_or (option_map (λ (x : Window). x.number) (find (λ x. eqb x.parent parent && ltb v x.number) (map as_made ws))) 0 ≡ (kept.next_child ws parent v).0
next_child_made ws parent v =
    ap (λ (o : Option Window). unwrap_or (option_map (λ (x : Window). x.number) o) 0) (find_made (λ x. eqb x.parent parent && ltb v x.number) (λ x. eqb x.row.parent.0 parent && ltb v x.number.0) (λ x. refl) ws)
    ∙ next_of (find (λ x. eqb x.row.parent.0 parent && ltb v x.number.0) ws)
