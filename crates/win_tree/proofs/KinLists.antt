-- The kin of a window, found in one pass by rising number.
use Rattle.std.proofs.Common.{◌≡◌, ◌∙◌, inl, inr, ℕ, ◌+◌, ◌<◌, ◌≤◌, suc, zero, List, [], ◌∷◌, ◌++◌, length, get_or, take, cond, map, filter, find, Bool, true, false, not, ◌&&◌, ◌||◌, eqb, Option, Some, None, append-nil, refl, sym, ap, subst, arith}
use Rattle.std.specs.List.{list_any, AllByRecursion}
use Rattle.std.specs.List.Sorted.{IsNonDecreasingBy}
use Rattle.std.proofs.lemmas.Bool.{cases_Bool, eqb-true, eq-eqb, ne_eqb, or_parts}
use Rattle.std.proofs.lemmas.List.{take_more, map-append}
use Rattle.std.proofs.lemmas.List.Elements.{filter-append}
use Rattle.std.proofs.lemmas.Map.Views.{any-filter_same}
use Rattle.win_num.specs.declared.message.Hwnd.{Hwnd}
use Rattle.win_rows.specs.declared.window.Window.{Window}
use Rattle.win_rows.specs.Windows.{IsOrdered, number_of, window_of, up, marked_also}
use Rattle.win_tree.specs.Kin.{above, kin_within, is_kin, kin_of, is_more, with_marked, doomed, doomed_if}
use Rattle.win_rows.proofs.Alls.{all_so}
use Rattle.win_tree.proofs.Alone.{self_kin}
use Rattle.win_tree.proofs.Drops.{map-filter, some_rise, or-true, true-or}
use Rattle.win_rows.proofs.Indexed.{found_at}
use Rattle.win_rows.proofs.Ones.{rising}
use Rattle.win_tree.proofs.Ordered.{below_last}

-- what stands above a window is older
above_less : (from last : ℕ) (ws : List Window) (u : ℕ) → IsOrdered from last ws → eqb u 0 ≡ false → (above ws u).0 < u
above_less from last [] zero h some = absurd (cc some)
above_less from last [] (suc u) h some = omega arith
above_less from last (x ∷ ws) u h some = elim (cases_Bool (eqb x.number.0 u)) [
  | inl k ↦ rw (k, above, window_of, find) (omega (arith, h.1, eqb-true x.number.0 u k))
  | inr k ↦ rw (k, above, window_of, find) (above_less x.number.0 last ws u h.2 some)
]

-- walks that are long enough agree
kin_long : (last : ℕ) (ws : List Window) (w a b u : ℕ) → IsOrdered 15 last ws → u ≤ a → u ≤ b → kin_within a ws w u ≡ kin_within b ws w u
kin_long last ws w zero zero u h le le' = refl
kin_long last ws w zero (suc b) u h le le' = rw (eq-eqb u 0 (omega (arith, le)), kin_within) refl
kin_long last ws w (suc a) zero u h le le' = rw (eq-eqb u 0 (omega (arith, le')), kin_within) refl
kin_long last ws w (suc a) (suc b) u h le le' = elim (cases_Bool (eqb u 0)) [
  | inl z ↦ rw (z, kin_within) refl
  | inr z ↦ elim (cases_Bool (eqb u w)) [
    | inl k ↦ rw (z, k, kin_within) refl
    | inr k ↦
        let less = above_less 15 last ws u h z in
        rw (z, k, kin_within) (kin_long last ws w a b (above ws u).0 h (omega (arith, le, less)) (omega (arith, le', less)))
  ]
]

-- one step up
kin_step : (last : ℕ) (ws : List Window) (w u : ℕ) → IsOrdered 15 last ws → eqb u 0 ≡ false → eqb u w ≡ false → is_kin ws w u ≡ is_kin ws w (above ws u).0
kin_step last ws w zero h some other = absurd (cc some)
kin_step last ws w (suc n) h some other =
    let less = above_less 15 last ws (suc n) h some in
    one ∙ kin_long last ws w n (above ws (suc n)).0 (above ws (suc n)).0 h (omega (arith, less)) (omega arith)
  where
    one : kin_within (suc n) ws w (suc n) ≡ kin_within n ws w (above ws (suc n)).0
    one = rw (some, other, kin_within) refl

-- a window that isn't live is nobody's kin but its own
dead_kin : (last : ℕ) (ws : List Window) (w u : ℕ) → IsOrdered 15 last ws → window_of ws u ≡ None → eqb u w ≡ false → is_kin ws w u ≡ false
dead_kin last ws w zero h gone other = refl
dead_kin last ws w (suc n) h gone other =
    let top : (above ws (suc n)).0 ≡ 0 = ap (λ (v : Hwnd). v.0) (ap (λ (o : Option Window). let r : Hwnd = elim o [ Some x ↦ up x | None ↦ record { 0 = 0 } ] in r) gone) in
    kin_step last ws w (suc n) h (ne_eqb (suc n) 0 (λ e. omega (arith, e))) other ∙ ap (is_kin ws w) top

-- which numbers are among the kin
pub listed_kin : (ws us : List Window) (w u : ℕ) → list_any (λ v. eqb v.0 u) (kin_of ws us w) ≡ (is_kin ws w u && list_any (λ v. eqb v.0 u) (map number_of us))
listed_kin ws us w u =
    ap (list_any (λ (v : Hwnd). eqb v.0 u)) (sym (map-filter (is_kin ws w) us))
    ∙ any-filter_same (λ (v : Hwnd). eqb v.0 u) (λ (v : Hwnd). is_kin ws w v.0) (is_kin ws w u) (λ v e. ap (is_kin ws w) (eqb-true v.0 u e)) (map number_of us)

none_above : (from last u : ℕ) (ws : List Window) → IsOrdered from last ws → u ≤ from → window_of ws u ≡ None
none_above from last u [] h le = refl
none_above from last u (x ∷ ws) h le = rw (ne_eqb x.number.0 u (λ e. omega (arith, e, le, h.0)), window_of, find) (none_above x.number.0 last u ws h.2 (omega (arith, le, h.0)))

-- a number below that at i, if it isn't before it, is no window's
none_before : (from last i u : ℕ) (ws : List Window) (x : Window) → IsOrdered from last ws → i < length ws → x ≡ get_or ws i x → u < x.number.0 → list_any (λ (v : Hwnd). eqb v.0 u) (map number_of (take i ws)) ≡ false → window_of ws u ≡ None
none_before from last i u [] x h lt is less none = refl
none_before from last zero u (y ∷ ws) x h lt is less none =
    let same : y.number.0 ≡ x.number.0 = ap (λ (z : Window). z.number.0) (sym is) in
    rw (ne_eqb y.number.0 u (λ e. omega (arith, e, less, same)), window_of, find) (none_above y.number.0 last u ws h.2 (omega (arith, less, same)))
none_before from last (suc i) u (y ∷ ws) x h lt is less none =
    let parts = or_parts (eqb y.number.0 u) (list_any (λ (v : Hwnd). eqb v.0 u) (map number_of (take i ws))) none in
    rw (parts.0, window_of, find) (none_before y.number.0 last i u ws x h.2 (omega (arith, lt)) is less parts.1)

up_at : (from last i : ℕ) (ws : List Window) (x : Window) → IsOrdered from last ws → i < length ws → x ≡ get_or ws i x → (up x).0 < x.number.0
up_at from last i [] x h lt is = absurd (omega (arith, lt))
up_at from last zero (y ∷ ws) x h lt is = subst (λ (z : Window). (up z).0 < z.number.0) (sym is) h.1
up_at from last (suc i) (y ∷ ws) x h lt is = up_at y.number.0 last i ws x h.2 (omega (arith, lt)) is

module _ (last : ℕ) (ws : List Window) (w i : ℕ) (x : Window) (h : IsOrdered 15 last ws) (some : eqb w 0 ≡ false) (lt : i < length ws) (is : x ≡ get_or ws i x) where
  older : (up x).0 < x.number.0
  older = up_at 15 last i ws x h lt is

  found : window_of ws x.number.0 ≡ Some x
  found = found_at 15 ws i x.number.0 x (rising 15 15 last ws (omega arith) h) lt is refl

  above_is : above ws x.number.0 ≡ up x
  above_is = ap (λ (o : Option Window). let r : Hwnd = elim o [ Some y ↦ up y | None ↦ record { 0 = 0 } ] in r) found

  kin_up : eqb x.number.0 w ≡ false → is_kin ws w x.number.0 ≡ is_kin ws w (up x).0
  kin_up other = kin_step last ws w x.number.0 h (ne_eqb x.number.0 0 (λ e. omega (arith, e, older))) other ∙ ap (λ (v : Hwnd). is_kin ws w v.0) above_is

  abbrev before : Bool
  before = list_any (λ (v : Hwnd). eqb v.0 (up x).0) (map number_of (take i ws))

  up_listed : eqb (up x).0 w ≡ false → (is_kin ws w (up x).0 && before) ≡ is_kin ws w (up x).0
  up_listed other = elim (cases_Bool before) [
    | inl k ↦ ap (λ b. is_kin ws w (up x).0 && b) k ∙ and_true (is_kin ws w (up x).0)
    | inr k ↦ ap (λ b. is_kin ws w (up x).0 && b) k ∙ and_false (is_kin ws w (up x).0) ∙ sym (dead_kin last ws w (up x).0 h (none_before 15 last i (up x).0 ws x h lt is older k) other)
  ]
    where
      and_true : (b : Bool) → (b && true) ≡ b
      and_true true = refl
      and_true false = refl

      and_false : (b : Bool) → (b && false) ≡ false
      and_false true = refl
      and_false false = refl

  -- whether it is of the kin is seen from those before it
  pub more_kin : is_more (kin_of ws (take i ws) w) w x ≡ is_kin ws w x.number.0
  more_kin = elim (cases_Bool (eqb x.number.0 w)) [
    | inl k ↦ ap (λ b. b || (eqb (up x).0 w || list_any (λ (v : Hwnd). eqb v.0 (up x).0) (kin_of ws (take i ws) w))) k ∙ sym (ap (is_kin ws w) (eqb-true x.number.0 w k) ∙ self_kin ws w some)
    | inr k ↦
        ap (λ b. b || (eqb (up x).0 w || list_any (λ (v : Hwnd). eqb v.0 (up x).0) (kin_of ws (take i ws) w))) k
        ∙ elim (cases_Bool (eqb (up x).0 w)) [
          | inl e ↦ ap (λ b. b || list_any (λ (v : Hwnd). eqb v.0 (up x).0) (kin_of ws (take i ws) w)) e ∙ sym (kin_up k ∙ ap (is_kin ws w) (eqb-true (up x).0 w e) ∙ self_kin ws w some)
          | inr e ↦ ap (λ b. b || list_any (λ (v : Hwnd). eqb v.0 (up x).0) (kin_of ws (take i ws) w)) e ∙ listed_kin ws (take i ws) w (up x).0 ∙ up_listed e ∙ sym (kin_up k)
        ]
  ]

  one_more : kin_of ws (take (i + 1) ws) w ≡ kin_of ws (take i ws) w ++ kin_of ws (x ∷ []) w
  one_more =
      ap (λ (us : List Window). kin_of ws us w) (take_more ws i x lt ∙ ap (λ (z : Window). take i ws ++ z ∷ []) (sym is))
      ∙ ap (map number_of) (filter-append (λ (y : Window). is_kin ws w y.number.0) (take i ws) (x ∷ []))
      ∙ map-append number_of (filter (λ (y : Window). is_kin ws w y.number.0) (take i ws)) (filter (λ (y : Window). is_kin ws w y.number.0) (x ∷ []))

  pub kin_put : (kin kin' : List Hwnd) → kin ≡ kin_of ws (take i ws) w → is_more kin w x ≡ true → kin' ≡ kin ++ x.number ∷ [] → kin' ≡ kin_of ws (take (i + 1) ws) w
  kin_put kin kin' so more put =
      let yes : is_kin ws w x.number.0 ≡ true = sym more_kin ∙ (ap (λ (vs : List Hwnd). is_more vs w x) (sym so) ∙ more) in
      put ∙ ap (λ (vs : List Hwnd). vs ++ x.number ∷ []) so ∙ sym (one_more ∙ ap (λ b. kin_of ws (take i ws) w ++ map number_of (cond b (x ∷ []) [])) yes)

  pub kin_passed : (kin : List Hwnd) → kin ≡ kin_of ws (take i ws) w → is_more kin w x ≡ false → kin ≡ kin_of ws (take (i + 1) ws) w
  kin_passed kin so more =
      let no : is_kin ws w x.number.0 ≡ false = sym more_kin ∙ (ap (λ (vs : List Hwnd). is_more vs w x) (sym so) ∙ more) in
      so ∙ sym (one_more ∙ ap (λ b. kin_of ws (take i ws) w ++ map number_of (cond b (x ∷ []) [])) no ∙ append-nil (kin_of ws (take i ws) w))

ordered_take : (i from last : ℕ) (ws : List Window) → IsOrdered from last ws → IsOrdered from last (take i ws)
ordered_take zero from last ws h = below_last from last ws h
ordered_take (suc i) from last [] h = h
ordered_take (suc i) from last (x ∷ ws) h = (h.0, h.1, ordered_take i x.number.0 last ws h.2)

-- the numbers found so far rise
pub kin_rise : (last : ℕ) (ws : List Window) (w i : ℕ) (kin : List Hwnd) → IsOrdered 15 last ws → kin ≡ kin_of ws (take i ws) w → IsNonDecreasingBy (λ (v : Hwnd). v.0) kin
kin_rise last ws w i kin h so = some_rise (λ x. is_kin ws w x.number.0) last (take i ws) kin (ordered_take i 15 last ws h) so

pub kin_all : (last : ℕ) (ws : List Window) (w : ℕ) (kin : List Hwnd) → IsOrdered 15 last ws → kin ≡ kin_of ws ws w → IsNonDecreasingBy (λ (v : Hwnd). v.0) kin
kin_all last ws w kin h so = some_rise (λ x. is_kin ws w x.number.0) last ws kin h so

-- each number is among the numbers
members : (ws : List Window) → AllByRecursion (λ x. list_any (λ (v : Hwnd). eqb v.0 x.number.0) (map number_of ws) ≡ true) ws
members [] = tt
members (y ∷ ws) = (
  true-or _ _ (eq-eqb y.number.0 y.number.0 refl),
  all_so (λ x. list_any (λ (v : Hwnd). eqb v.0 x.number.0) (map number_of ws) ≡ true) (λ x. list_any (λ (v : Hwnd). eqb v.0 x.number.0) (map number_of (y ∷ ws)) ≡ true) (λ x h. or-true (eqb y.number.0 x.number.0) _ h) ws (members ws),
)

and_yes : (a b : Bool) → b ≡ true → (a && b) ≡ a
and_yes true b h = h
and_yes false b h = refl

-- a window is of the kin where its number is among theirs
in_kin : (ws : List Window) (w : ℕ) → AllByRecursion (λ x. list_any (λ (v : Hwnd). eqb v.0 x.number.0) (kin_of ws ws w) ≡ is_kin ws w x.number.0) ws
in_kin ws w = all_so (λ x. list_any (λ (v : Hwnd). eqb v.0 x.number.0) (map number_of ws) ≡ true) (λ x. list_any (λ (v : Hwnd). eqb v.0 x.number.0) (kin_of ws ws w) ≡ is_kin ws w x.number.0)
    (λ x h. listed_kin ws ws w x.number.0 ∙ and_yes (is_kin ws w x.number.0) _ h) ws (members ws)

map_alike : (f g : Window → Window) (us : List Window) → AllByRecursion (λ x. f x ≡ g x) us → map f us ≡ map g us
map_alike f g [] h = refl
map_alike f g (x ∷ us) h = ap (λ (y : Window). y ∷ map f us) h.0 ∙ ap (λ (ys : List Window). g x ∷ ys) (map_alike f g us h.1)

-- marking the kin by their numbers
pub kin_marked : (ws : List Window) (w : ℕ) (kin : List Hwnd) → kin ≡ kin_of ws ws w → with_marked kin ws ≡ doomed ws w
kin_marked ws w kin so =
    ap (λ (vs : List Hwnd). with_marked vs ws) so
    ∙ map_alike (λ x. marked_also (list_any (λ (v : Hwnd). eqb v.0 x.number.0) (kin_of ws ws w)) x) (doomed_if ws w) ws
    (all_so (λ x. list_any (λ (v : Hwnd). eqb v.0 x.number.0) (kin_of ws ws w) ≡ is_kin ws w x.number.0) (λ x. marked_also (list_any (λ (v : Hwnd). eqb v.0 x.number.0) (kin_of ws ws w)) x ≡ doomed_if ws w x)
    (λ x h. ap (λ (b : Bool). marked_also b x) h) ws (in_kin ws w))

-- taking the numbers of the kin out
pub kin_taken : (ws : List Window) (w : ℕ) (kin numbers : List Hwnd) → kin ≡ kin_of ws ws w → numbers ≡ map number_of ws → filter (λ v. not (list_any (λ (u : Hwnd). eqb u.0 v.0) kin)) numbers ≡ filter (λ v. not (is_kin ws w v.0)) numbers
kin_taken ws w kin numbers so same =
    ap (filter (λ v. not (list_any (λ (u : Hwnd). eqb u.0 v.0) kin))) same
    ∙ ap (λ (vs : List Hwnd). filter (λ v. not (list_any (λ (u : Hwnd). eqb u.0 v.0) vs)) (map number_of ws)) so
    ∙ agree_at ws (in_kin ws w)
    ∙ ap (filter (λ v. not (is_kin ws w v.0))) (sym same)
  where
    agree_at : (us : List Window) → AllByRecursion (λ x. list_any (λ (v : Hwnd). eqb v.0 x.number.0) (kin_of ws ws w) ≡ is_kin ws w x.number.0) us → filter (λ v. not (list_any (λ (u : Hwnd). eqb u.0 v.0) (kin_of ws ws w))) (map number_of us) ≡ filter (λ v. not (is_kin ws w v.0)) (map number_of us)
    agree_at [] h = refl
    agree_at (x ∷ us) h =
        ap (λ b. cond (not b) (x.number ∷ filter (λ v. not (list_any (λ (u : Hwnd). eqb u.0 v.0) (kin_of ws ws w))) (map number_of us)) (filter (λ v. not (list_any (λ (u : Hwnd). eqb u.0 v.0) (kin_of ws ws w))) (map number_of us))) h.0
        ∙ ap (λ (vs : List Hwnd). cond (not (is_kin ws w x.number.0)) (x.number ∷ vs) vs) (agree_at us h.1)
