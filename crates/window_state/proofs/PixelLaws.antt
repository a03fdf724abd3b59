-- The owner of a pixel is a live window that has it.
use Rattle.std.proofs.Common.{◌≡◌, ◌≢◌, ◌∙◌, ℕ, zero, suc, Bool, true, false, cond, eqb, List, [], ◌∷◌, length, reverse, Option, Some, None, refl, sym, ap, inl, inr, arith}
use Rattle.std.specs.Prelude.{◌⊎◌, find, is_some}
use Rattle.std.specs.List.{list_any, list_all}
use Rattle.std.proofs.lemmas.Bool.{eqb-true, false≢true}
use Rattle.win_num.specs.declared.message.Hwnd.{Hwnd}
use Rattle.win_num.specs.declared.shapes.Point.{Point}
use Rattle.win_num.specs.PixelSets.{has_pixel}
use Rattle.win_order.specs.Kept.{is_child}
use Rattle.win_order.specs.Layers.{Layers, siblings_of}
use Rattle.win_order.specs.Standings.{parent_of}
use Rattle.win_order.proofs.Booleans.{all_one, and_left, and_right, any_one}
use Rattle.win_order.proofs.ChildLaws.{each_child}
use Rattle.win_order.proofs.KeptLaws.{lone_child}
use Rattle.win_order.proofs.StandingLaws.{child_among}
use Rattle.user_model.specs.declared.entry.Setup.{Setup}
use Rattle.user_model.specs.Legal.{IsLawful}
use Rattle.user_model.specs.Past.{Past}
use Rattle.user_model.specs.Pixels.{covers, deepest, highest, owner, screen}
use Rattle.user_model.specs.Windows.{Window, find_window, is_live, live, parent_in, window}
use Rattle.user_model.specs.ZOrder.{hwnd, siblings}
use Rattle.user_model.proofs.WindowFacts.{live_window, too_low}
use Rattle.window_state.specs.Orders.{IsOrderAt}
use Rattle.window_state.proofs.OrderSteps.{order_of}
use Rattle.window_state.proofs.Reversed.{all_rev, any_rev, found_any}
use Rattle.window_state.proofs.Standings.{listed_at, parent_at, parent_found, stands_at}
use Rattle.window_state.proofs.TreeFacts.{found_passes}

found_all : {X : Type 0} (f r : X → Bool) (xs : List X) (x : X) → find f xs ≡ Some x → list_all r xs ≡ true → r x ≡ true
found_all f r [] x e all = absurd cc
found_all {X = X} f r (y ∷ xs) x e all = pick (λ k. found_all f r xs x k (and_right (r y) (list_all r xs) all)) (f y) e
  where
    pick : (find f xs ≡ Some x → r x ≡ true) → (b : Bool) → cond b (Some y) (find f xs) ≡ Some x → r x ≡ true
    pick rest true k = let same : y ≡ x = cc in ap r (sym same) ∙ and_left (r y) (list_all r xs) all
    pick rest false k = rest k

-- a live window that is visible and has the pixel
abbrev pub Has : Past → Point → Hwnd → Type 0
Has past p w = (is_live past w.0 ≡ true) × (covers past p w ≡ true)

-- the highest child that has the pixel
highest_has : (past : Past) (z : Layers) → IsOrderAt past z → (p : Point) (q : ℕ) (v : Hwnd) → highest past p q ≡ Some v → Has past p v
highest_has past z at p q v e = (
  found_all (covers past p) (λ u. is_live past u.0) (reverse (siblings past q)) v e
      (all_rev (λ (u : Hwnd). is_live past u.0) (siblings past q)
      ∙ (ap (list_all (λ (u : Hwnd). is_live past u.0)) (sym (at.lists q))
      ∙ all_one (λ (u : Hwnd). is_child u.0 q z.standings) (λ u. is_live past u.0) (λ u c. sym (stands_at past z at u.0) ∙ child_among u.0 q z.standings c) (siblings_of q z) (each_child z at.kept q))),
  found_passes (covers past p) (reverse (siblings past q)) v e,
)

-- so has the last on the way down
deepest_has : (past : Past) (z : Layers) → IsOrderAt past z → (p : Point) (n : ℕ) (w : Hwnd) → Has past p w → Has past p (deepest n past p w)
deepest_has past z at p zero w has = has
deepest_has past z at p (suc n) w has = pick (highest past p w.0) refl (λ v h. deepest_has past z at p n v h)
  where
    pick : (o : Option Hwnd) → highest past p w.0 ≡ o → ((v : Hwnd) → Has past p v → Has past p (deepest n past p v)) → Has past p (elim o as (λ c. Hwnd) [ Some v ↦ deepest n past p v | None ↦ w ])
    pick None e rest = has
    pick (Some v) e rest = rest v (highest_has past z at p w.0 v e)

-- from the screen down there is such a window, or none
from_screen : (past : Past) (z : Layers) → IsOrderAt past z → (p : Point) (n : ℕ) → ((deepest n past p (hwnd 0)).0 ≡ 0) ⊎ Has past p (deepest n past p (hwnd 0))
from_screen past z at p zero = inl refl
from_screen past z at p (suc n) = pick (highest past p 0) refl
  where
    pick : (o : Option Hwnd) → highest past p 0 ≡ o → (let w : Hwnd = elim o as (λ c. Hwnd) [ Some v ↦ deepest n past p v | None ↦ hwnd 0 ] in (w.0 ≡ 0) ⊎ Has past p w)
    pick None e = inl refl
    pick (Some v) e = inr (deepest_has past z at p n v (highest_has past z at p 0 v e))

-- the owner of a pixel has it, and the pixel is one of the screen
pub owner_has : (setup : Setup) (past : Past) (p : Point) → IsLawful setup past → (owner setup past p).0 ≢ 0 → Has past p (owner setup past p) × (has_pixel (screen setup) p ≡ true)
owner_has setup past p lawful some = pick (has_pixel (screen setup) p) refl some
  where
    order : (z : Layers) × IsOrderAt past z
    order = order_of setup past lawful

    has : (deepest (length (live past)) past p (hwnd 0)).0 ≢ 0 → Has past p (deepest (length (live past)) past p (hwnd 0))
    has other = elim (from_screen past order.0 order.1 p (length (live past))) [ inl none ↦ absurd (other none) | inr h ↦ h ]

    pick : (b : Bool) → has_pixel (screen setup) p ≡ b → (cond b (deepest (length (live past)) past p (hwnd 0)) (hwnd 0)).0 ≢ 0 → Has past p (cond b (deepest (length (live past)) past p (hwnd 0)) (hwnd 0)) × (has_pixel (screen setup) p ≡ true)
    pick true k other = (has other, k)
    pick false k other = absurd (other refl)

-- a pixel of the screen under a visible top-level window has an owner
pub pixel_owned : (setup : Setup) (past : Past) (p : Point) (w : Hwnd) → IsLawful setup past → is_live past w.0 ≡ true → parent_in (live past) w.0 ≡ 0 → covers past p w ≡ true → has_pixel (screen setup) p ≡ true → (owner setup past p).0 ≢ 0
pixel_owned setup past p w lawful lives top has on_screen none =
    by (live past) refl (highest past p 0) refl
  where
    order : (z : Layers) × IsOrderAt past z
    order = order_of setup past lawful

    found : (x : Window) × (window past w.0 ≡ Some x)
    found = live_window past w.0 lives

    listed : list_any (λ (v : Hwnd). eqb v.0 w.0) (siblings past 0) ≡ true
    listed =
        ap (list_any (λ (v : Hwnd). eqb v.0 w.0)) (sym (order.1.lists 0))
        ∙ (ap (λ q. list_any (λ (v : Hwnd). eqb v.0 w.0) (siblings_of q order.0)) (sym (sym (parent_found past w.0 found.0 found.1) ∙ top))
        ∙ listed_at past order.0 order.1 w.0 found.0 found.1)

    some_highest : is_some (highest past p 0) ≡ true
    some_highest =
        found_any (covers past p) (reverse (siblings past 0))
        ∙ (any_rev (covers past p) (siblings past 0)
        ∙ any_one (λ (v : Hwnd). eqb v.0 w.0) (covers past p) (λ v k. ap (λ n. covers past p (hwnd n)) (eqb-true v.0 w.0 k) ∙ has) (siblings past 0) listed)

    owner_is : (ws : List Window) → live past ≡ ws → owner setup past p ≡ deepest (length ws) past p (hwnd 0)
    owner_is ws k = ap (λ c. cond c (deepest (length (live past)) past p (hwnd 0)) (hwnd 0)) on_screen ∙ ap (λ us. deepest (length us) past p (hwnd 0)) k

    by : (ws : List Window) → live past ≡ ws → (o : Option Hwnd) → highest past p 0 ≡ o → ⊥
    by [] k o e = absurd (false≢true (sym (ap (λ us. is_some (find (λ (x : Window). eqb x.number w.0) us)) k) ∙ lives))
    by (x ∷ ws) k None e = absurd (false≢true (sym (ap (λ o. is_some o) e) ∙ some_highest))
    by (x ∷ ws) k (Some v) e =
        let first : deepest (length (x ∷ ws)) past p (hwnd 0) ≡ deepest (length ws) past p v = ap (λ o. elim o as (λ c. Hwnd) [ Some u ↦ deepest (length ws) past p u | None ↦ hwnd 0 ]) e in
        let there = deepest_has past order.0 order.1 p (length ws) v (highest_has past order.0 order.1 p 0 v e) in
        let zero_is : (deepest (length ws) past p v).0 ≡ 0 = ap (λ (u : Hwnd). u.0) (sym (owner_is (x ∷ ws) k ∙ first)) ∙ none in
        let dead : is_live past (deepest (length ws) past p v).0 ≡ false = ap (is_live past) zero_is ∙ ap (λ o. is_some o) (too_low setup past 0 lawful (omega arith)) in
        false≢true (sym dead ∙ there.0)

-- where a pixel has an owner, a top-level window has it
pub record HasTop (past : Past) (p : Point) : Type 0 where
  pub window : Hwnd
  pub found : Window
  pub lives : find_window (live past) window.0 ≡ Some found
  pub is_top : found.parent ≡ 0
  pub has : covers past p window ≡ true

-- a live child of q has q as its parent
parent_listed : (past : Past) (z : Layers) → IsOrderAt past z → (q : ℕ) (v : Hwnd) (x : Window) → is_child v.0 q z.standings ≡ true → window past v.0 ≡ Some x → x.parent ≡ q
parent_listed past z at q v x child e =
    sym (parent_at past z at v.0 x e) ∙ pick (eqb (parent_of z.standings v.0).0 q) refl
  where
    pick : (b : Bool) → eqb (parent_of z.standings v.0).0 q ≡ b → (parent_of z.standings v.0).0 ≡ q
    pick true h = eqb-true (parent_of z.standings v.0).0 q h
    pick false h = absurd (false≢true (sym (lone_child z.standings at.kept.older v.0 q h) ∙ child))

highest_top : (past : Past) (z : Layers) → IsOrderAt past z → (p : Point) (v : Hwnd) → highest past p 0 ≡ Some v → HasTop past p
highest_top past z at p v e =
    let has = highest_has past z at p 0 v e in
    let found = live_window past v.0 has.0 in
    let child : is_child v.0 0 z.standings ≡ true = found_all (covers past p) (λ u. is_child u.0 0 z.standings) (reverse (siblings past 0)) v e
    (all_rev (λ (u : Hwnd). is_child u.0 0 z.standings) (siblings past 0) ∙ (ap (list_all (λ (u : Hwnd). is_child u.0 0 z.standings)) (sym (at.lists 0)) ∙ each_child z at.kept 0)) in
    record { window = v; found = found.0; lives = found.1; is_top = parent_listed past z at 0 v found.0 child found.1; has = has.1 }

pub top_has : (setup : Setup) (past : Past) (p : Point) → IsLawful setup past → (owner setup past p).0 ≢ 0 → HasTop past p
top_has setup past p lawful some = by (live past) refl (highest past p 0) refl
  where
    order : (z : Layers) × IsOrderAt past z
    order = order_of setup past lawful

    on_screen : has_pixel (screen setup) p ≡ true
    on_screen = (owner_has setup past p lawful some).1

    owner_is : (ws : List Window) → live past ≡ ws → owner setup past p ≡ deepest (length ws) past p (hwnd 0)
    owner_is ws k = ap (λ c. cond c (deepest (length (live past)) past p (hwnd 0)) (hwnd 0)) on_screen ∙ ap (λ us. deepest (length us) past p (hwnd 0)) k

    by : (ws : List Window) → live past ≡ ws → (o : Option Hwnd) → highest past p 0 ≡ o → HasTop past p
    by [] k o e = absurd (some (ap (λ (u : Hwnd). u.0) (owner_is [] k)))
    by (x ∷ ws) k None e = absurd (some (ap (λ (u : Hwnd). u.0) (owner_is (x ∷ ws) k ∙ ap (λ o. elim o as (λ c. Hwnd) [ Some u ↦ deepest (length ws) past p u | None ↦ hwnd 0 ]) e)))
    by (x ∷ ws) k (Some v) e = highest_top past order.0 order.1 p v e
