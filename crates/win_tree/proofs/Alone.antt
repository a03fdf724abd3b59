-- A window that nothing stands below and that owns nothing has no other kin.
use Rattle.std.proofs.Common.{◌≡◌, ◌∙◌, inl, inr, ℕ, suc, zero, List, [], ◌∷◌, Bool, true, false, not, ◌&&◌, eqb, map, filter, find, refl, sym, ap, subst}
use Rattle.std.specs.List.{list_any, AllByRecursion}
use Rattle.std.proofs.lemmas.Bool.{cases_Bool, eqb-true, eq-eqb, or_parts}
use Rattle.win_rows.specs.declared.window.Window.{Window}
use Rattle.win_rows.specs.Windows.{window_of, up, marked_also, marked_if}
use Rattle.win_tree.specs.Kin.{above, kin_within, is_kin, is_alone, is_under, doomed, doomed_if, dropped}
use Rattle.win_tree.proofs.Drops.{agree}

both : (a b : Bool) → (a && b) ≡ true → (a ≡ true) × (b ≡ true)
both true true h = (refl, refl)
both true false h = absurd (cc h)
both false b h = absurd (cc h)

unless : (b : Bool) → not b ≡ true → b ≡ false
unless false h = refl
unless true h = absurd (cc h)

-- it is no window's parent or owner
pub none_under : (ws : List Window) (w : ℕ) → is_alone ws w ≡ true → AllByRecursion (λ y. (eqb y.row.parent.0 w ≡ false) × (eqb y.row.owner.0 w ≡ false)) ws
none_under ws w alone = go ws (unless (list_any (is_under w) ws) (both (not (eqb w 0)) (not (list_any (is_under w) ws)) alone).1)
  where
    go : (us : List Window) → list_any (is_under w) us ≡ false → AllByRecursion (λ y. (eqb y.row.parent.0 w ≡ false) × (eqb y.row.owner.0 w ≡ false)) us
    go [] h = tt
    go (x ∷ us) h = let parts = or_parts (is_under w x) (list_any (is_under w) us) h in (or_parts (eqb x.row.parent.0 w) (eqb x.row.owner.0 w) parts.0, go us parts.1)

-- it stands above none
up_other : (x : Window) (w : ℕ) → is_under w x ≡ false → eqb (up x).0 w ≡ false
up_other x w h =
    let parts = or_parts (eqb x.row.parent.0 w) (eqb x.row.owner.0 w) h in
    elim (cases_Bool (eqb x.row.parent.0 0)) [
      | inl k ↦ rw (k, up) parts.1
      | inr k ↦ rw (k, up) parts.0
    ]

zero_other : (w : ℕ) → eqb w 0 ≡ false → eqb 0 w ≡ false
zero_other w h = elim (cases_Bool (eqb 0 w)) [ inl k ↦ absurd (cc (h, eq-eqb w 0 (sym (eqb-true 0 w k)))) | inr k ↦ k ]

-- it stands above no window
none_up : (ws : List Window) (w : ℕ) → eqb w 0 ≡ false → list_any (is_under w) ws ≡ false → (u : ℕ) → eqb (above ws u).0 w ≡ false
none_up [] w some h u = zero_other w some
none_up (x ∷ ws) w some h u =
    let parts = or_parts (is_under w x) (list_any (is_under w) ws) h in
    elim (cases_Bool (eqb x.number.0 u)) [
      | inl k ↦ rw (k, above, window_of, find) (up_other x w parts.0)
      | inr k ↦ rw (k, above, window_of, find) (none_up ws w some parts.1 u)
    ]

no_kin : (ws : List Window) (w : ℕ) → ((u : ℕ) → eqb (above ws u).0 w ≡ false) → (n u : ℕ) → eqb u w ≡ false → kin_within n ws w u ≡ false
no_kin ws w none zero u h = refl
no_kin ws w none (suc n) u h = elim (cases_Bool (eqb u 0)) [
  | inl z ↦ rw (z, kin_within) refl
  | inr z ↦ rw (z, h, kin_within) (no_kin ws w none n (above ws u).0 (none u))
]

self_within : (n : ℕ) (ws : List Window) (w : ℕ) → eqb w 0 ≡ false → kin_within (suc n) ws w w ≡ true
self_within n ws w some = rw (some, eq-eqb w w refl, kin_within) refl

pub self_kin : (ws : List Window) (w : ℕ) → eqb w 0 ≡ false → is_kin ws w w ≡ true
self_kin ws zero some = absurd (cc some)
self_kin ws (suc n) some = self_within n ws (suc n) some

-- it alone is of its kin
pub alone_is : (ws : List Window) (w : ℕ) → is_alone ws w ≡ true → (u : ℕ) → eqb u w ≡ is_kin ws w u
alone_is ws w alone u =
    let parts = both (not (eqb w 0)) (not (list_any (is_under w) ws)) alone in
    let some : eqb w 0 ≡ false = unless (eqb w 0) parts.0 in
    elim (cases_Bool (eqb u w)) [
      | inl k ↦ k ∙ sym (subst (λ v. is_kin ws w v ≡ true) (sym (eqb-true u w k)) (self_kin ws w some))
      | inr k ↦ k ∙ sym (no_kin ws w (none_up ws w some (unless (list_any (is_under w) ws) parts.1)) u u k)
    ]

map_agree : (f g : Window → Window) → ((x : Window) → f x ≡ g x) → (ws : List Window) → map f ws ≡ map g ws
map_agree f g h [] = refl
map_agree f g h (x ∷ ws) = ap (λ (y : Window). y ∷ map f ws) (h x) ∙ ap (λ (ys : List Window). g x ∷ ys) (map_agree f g h ws)

pub alone_doomed : (ws : List Window) (w : ℕ) → is_alone ws w ≡ true → map (marked_if w) ws ≡ doomed ws w
alone_doomed ws w alone = map_agree (marked_if w) (doomed_if ws w) (λ x. ap (λ (b : Bool). marked_also b x) (alone_is ws w alone x.number.0)) ws

pub alone_dropped : (ws : List Window) (w : ℕ) → is_alone ws w ≡ true → filter (λ x. not (eqb x.number.0 w)) ws ≡ dropped ws w
alone_dropped ws w alone = agree (λ x. not (eqb x.number.0 w)) (λ x. not (is_kin ws w x.number.0)) (λ x. ap not (alone_is ws w alone x.number.0)) ws
