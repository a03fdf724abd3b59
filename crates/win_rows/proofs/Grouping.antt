-- Grouping windows by what they stand under, one after another.
use Rattle.std.proofs.Common.{◌≡◌, ◌∙◌, inl, inr, ℕ, ◌+◌, ◌<◌, ◌≤◌, suc, zero, List, [], ◌∷◌, ◌++◌, length, get_or, set, take, cond, filter, find, Bool, true, false, eqb, Some, None, append-nil, refl, sym, ap, subst, arith}
use Rattle.std.specs.List.{AllByRecursion}
use Rattle.std.proofs.lemmas.Bool.{cases_Bool, eqb-true, eq-eqb, ne_eqb}
use Rattle.std.proofs.lemmas.List.{take_more}
use Rattle.std.proofs.lemmas.List.Elements.{filter-append}
use Rattle.win_rows.specs.declared.links.Link.{Link}
use Rattle.win_rows.specs.declared.links.Group.{Group}
use Rattle.win_rows.specs.declared.window.Window.{Window}
use Rattle.win_rows.specs.Windows.{window_of, RisesFrom}
use Rattle.win_rows.specs.Index.{IsPlace}
use Rattle.win_rows.specs.Links.{above_by, under, AreGroups, IsPut, IsPutAt}
use Rattle.win_rows.proofs.Ones.{element}

pub groups_none : (link : Link) (ws : List Window) (gs : List Group) → length gs ≡ length ws → AllByRecursion (λ g. g.windows.items ≡ []) gs → AreGroups link [] ws gs
groups_none link [] [] e h = tt
groups_none link [] (g ∷ gs) e h = absurd (omega (arith, e))
groups_none link (x ∷ ws) [] e h = absurd (omega (arith, e))
groups_none link (x ∷ ws) (g ∷ gs) e h = (h.0, groups_none link ws gs (omega (arith, e)) h.1)

pub groups_length : (link : Link) (us ws : List Window) (gs : List Group) → AreGroups link us ws gs → length gs ≡ length ws
groups_length link us [] [] h = refl
groups_length link us [] (g ∷ gs) h = absurd h
groups_length link us (x ∷ ws) [] h = absurd h
groups_length link us (x ∷ ws) (g ∷ gs) h = ap suc (groups_length link us ws gs h.1)

-- the window's group is at its place
pub group_at : (link : Link) (us ws : List Window) (gs : List Group) (p w : ℕ) (g : Group) → AreGroups link us ws gs → p < length ws → ((x : Window) → x ≡ get_or ws p x → x.number.0 ≡ w) → g ≡ get_or gs p g → g.windows.items ≡ under link us w
group_at link us [] gs p w g h lt same is = absurd (omega (arith, lt))
group_at link us (x ∷ ws) [] p w g h lt same is = absurd h
group_at link us (x ∷ ws) (k ∷ gs) zero w g h lt same is = ap (λ (j : Group). j.windows.items) is ∙ h.0 ∙ ap (under link us) (same x refl)
group_at link us (x ∷ ws) (k ∷ gs) (suc p) w g h lt same is = group_at link us ws gs p w g h.1 (omega (arith, lt)) same is

-- one window more
put_groups : (link : Link) (us ws : List Window) (y : Window) (gs hs : List Group) → AreGroups link us ws gs → IsPut ws (above_by link y).0 y gs hs → AreGroups link (us ++ y ∷ []) ws hs
put_groups link us [] y [] [] h put = tt
put_groups link us [] y [] (k ∷ hs) h put = absurd put
put_groups link us [] y (g ∷ gs) hs h put = absurd put
put_groups link us (x ∷ ws) y [] hs h put = absurd put
put_groups link us (x ∷ ws) y (g ∷ gs) [] h put = absurd put
put_groups link us (x ∷ ws) y (g ∷ gs) (k ∷ hs) h put = (
  put.0 ∙ (pick (eqb x.number.0 (above_by link y).0) refl ∙ sym (filter-append (λ z. eqb (above_by link z).0 x.number.0) us (y ∷ []))),
  put_groups link us ws y gs hs h.1 put.1,
)
  where
    turn : eqb (above_by link y).0 x.number.0 ≡ eqb x.number.0 (above_by link y).0
    turn = elim (cases_Bool (eqb x.number.0 (above_by link y).0)) [
      | inl e ↦ eq-eqb (above_by link y).0 x.number.0 (sym (eqb-true x.number.0 (above_by link y).0 e)) ∙ sym e
      | inr e ↦ ne_eqb (above_by link y).0 x.number.0 (λ s. absurd (cc (e, eq-eqb x.number.0 (above_by link y).0 (sym s)))) ∙ sym e
    ]

    pick : (b : Bool) → eqb x.number.0 (above_by link y).0 ≡ b → cond b (g.windows.items ++ y ∷ []) g.windows.items ≡ filter (λ z. eqb (above_by link z).0 x.number.0) us ++ filter (λ z. eqb (above_by link z).0 x.number.0) (y ∷ [])
    pick true e = ap (λ (vs : List Window). vs ++ y ∷ []) h.0 ∙ ap (λ b. under link us x.number.0 ++ cond b (y ∷ []) []) (sym (turn ∙ e))
    pick false e = h.0 ∙ sym (append-nil (under link us x.number.0)) ∙ ap (λ b. under link us x.number.0 ++ cond b (y ∷ []) []) (sym (turn ∙ e))

pub groups_more : (link : Link) (us ws : List Window) (i : ℕ) (y : Window) (gs hs : List Group) → i < length us → y ≡ get_or us i y → AreGroups link (take i us) ws gs → IsPut ws (above_by link y).0 y gs hs → AreGroups link (take (i + 1) us) ws hs
groups_more link us ws i y gs hs lt is h put =
    subst (λ (vs : List Window). AreGroups link vs ws hs) (sym (take_more us i y lt ∙ ap (λ (z : Window). take i us ++ z ∷ []) (sym is))) (put_groups link (take i us) ws y gs hs h put)

-- no window has the number
pub put_none : (from : ℕ) (ws : List Window) (n : ℕ) (y : Window) (gs : List Group) → length gs ≡ length ws → window_of ws n ≡ None → IsPut ws n y gs gs
put_none from [] n y [] e h = tt
put_none from [] n y (g ∷ gs) e h = absurd (omega (arith, e))
put_none from (x ∷ ws) n y [] e h = absurd (omega (arith, e))
put_none from (x ∷ ws) n y (g ∷ gs) e h = elim (cases_Bool (eqb x.number.0 n)) [
  | inl k ↦ absurd (cc (h, here k))
  | inr k ↦ (sym (ap (λ b. cond b (g.windows.items ++ y ∷ []) g.windows.items) k), put_none x.number.0 ws n y gs (omega (arith, e)) (sym (skip k) ∙ h))
]
  where
    here : eqb x.number.0 n ≡ true → window_of (x ∷ ws) n ≡ Some x
    here k = rw (k, window_of, find) refl

    skip : eqb x.number.0 n ≡ false → window_of (x ∷ ws) n ≡ window_of ws n
    skip k = rw (k, window_of, find) refl

-- all have greater numbers
put_above : (from : ℕ) (ws : List Window) (n : ℕ) (y : Window) (gs : List Group) → RisesFrom from ws → n ≤ from → length gs ≡ length ws → IsPut ws n y gs gs
put_above from [] n y [] h le e = tt
put_above from [] n y (g ∷ gs) h le e = absurd (omega (arith, e))
put_above from (x ∷ ws) n y [] h le e = absurd (omega (arith, e))
put_above from (x ∷ ws) n y (g ∷ gs) h le e = (
  sym (ap (λ b. cond b (g.windows.items ++ y ∷ []) g.windows.items) (ne_eqb x.number.0 n (λ s. omega (arith, s, le, h.0)))),
  put_above x.number.0 ws n y gs h.1 (omega (arith, le, h.0)) (omega (arith, e)),
)

-- the same groups
put_same : (n : ℕ) (ws : List Window) (y : Window) (gs hs : List Group) → hs ≡ gs → IsPut ws n y gs gs → IsPut ws n y gs hs
put_same n ws y gs hs e h = subst (λ (ks : List Group). IsPut ws n y gs ks) (sym e) h

-- the window at p has the number
pub put_some : (from : ℕ) (ws : List Window) (n p : ℕ) (x y : Window) (gs hs : List Group) → RisesFrom from ws → length gs ≡ length ws → p < length ws → x ≡ get_or ws p x → x.number.0 ≡ n → IsPutAt p y gs hs → IsPut ws n y gs hs
put_some from [] n p x y gs hs h e lt is num put = absurd (omega (arith, lt))
put_some from (z ∷ ws) n p x y [] hs h e lt is num put = absurd (omega (arith, e))
put_some from (z ∷ ws) n p x y (k ∷ gs) [] h e lt is num put = absurd put
put_some from (z ∷ ws) n zero x y (k ∷ gs) (j ∷ hs) h e lt is num put = (
  put.0 ∙ sym (ap (λ b. cond b (k.windows.items ++ y ∷ []) k.windows.items) (eq-eqb z.number.0 n (ap (λ (u : Window). u.number.0) (sym is) ∙ num))),
  put_same n ws y gs hs put.1 (put_above z.number.0 ws n y gs h.1 (omega (arith, ap (λ (u : Window). u.number.0) is, num)) (omega (arith, e))),
)
put_some from (z ∷ ws) n (suc p) x y (k ∷ gs) (j ∷ hs) h e lt is num put = (
  ap (λ (g : Group). g.windows.items) put.0 ∙ sym (ap (λ b. cond b (k.windows.items ++ y ∷ []) k.windows.items) (ne_eqb z.number.0 n (λ s. omega (arith, s, num, above_it)))),
  put_some z.number.0 ws n p x y gs hs h.1 (omega (arith, e)) (omega (arith, lt)) is num put.1,
)
  where
    above_all : (m : ℕ) (us : List Window) (q : ℕ) (u : Window) → RisesFrom m us → q < length us → u ≡ get_or us q u → m < u.number.0
    above_all m [] q u r l s = absurd (omega (arith, l))
    above_all m (v ∷ us) zero u r l s = subst (λ (t : Window). m < t.number.0) (sym s) r.0
    above_all m (v ∷ us) (suc q) u r l s = omega (arith, r.0, above_all v.number.0 us q u r.1 (omega (arith, l)) s)

    above_it : z.number.0 < x.number.0
    above_it = above_all z.number.0 ws p x h.1 (omega (arith, lt)) is

-- the window that is found has the place
pub put_found : (ws : List Window) (n p : ℕ) (y : Window) (gs hs : List Group) → RisesFrom 0 ws → length gs ≡ length ws → IsPlace ws n p → IsPutAt p y gs hs → IsPut ws n y gs hs
put_found ws n p y gs hs h e place put = let x = element ws p place.within in put_some 0 ws n p x.0 y gs hs h e place.within x.1 (place.same x.0 x.1) put

-- another group in the place of one
pub put_set : (p : ℕ) (y : Window) (gs : List Group) (g k : Group) → p < length gs → g ≡ get_or gs p g → k.windows.items ≡ g.windows.items ++ y ∷ [] → IsPutAt p y gs (set gs p k)
put_set p y [] g k lt is more = absurd (omega (arith, lt))
put_set zero y (j ∷ gs) g k lt is more = (more ∙ ap (λ (i : Group). i.windows.items ++ y ∷ []) is, refl)
put_set (suc p) y (j ∷ gs) g k lt is more = (refl, put_set p y gs g k (omega (arith, lt)) is more)
