-- The window that owns a pixel, as the past has it.
use Rattle.std.proofs.Common.{◌≡◌, ◌≢◌, ℕ, zero, suc, ◌+◌, ◌<◌, ◌≤◌, Bool, true, false, cond, eqb, List, [], ◌∷◌, map, length, Option, Some, None, refl, ap, ◌∙◌, sym, subst, arith}
use Rattle.std.specs.Prelude.{◌&&◌, ◌||◌, ℤ, pos, ◌+ℤ◌, ◌-ℤ◌, int_le, int_lt, find, option_map, reverse, unwrap_or}
use Rattle.std.specs.List.{AllByRecursion, list_any}
use Rattle.std.proofs.Math.Dec.{ltb}
use Rattle.std.proofs.lemmas.Bool.{eqb-true, eq-eqb, eqb-false, ne_eqb, false≢true}
use Rattle.std.proofs.lemmas.Int.{ints}
use Rattle.std.proofs.lemmas.List.Sorted.{IsPermutation-reverse, list_any-IsPermutation}
use Rattle.win_num.specs.declared.message.Hwnd.{Hwnd}
use Rattle.win_num.specs.declared.names.TheConstants.{WS_VISIBLE}
use Rattle.win_num.specs.declared.shapes.Point.{Point}
use Rattle.win_num.specs.PixelSets.{Box, has_pixel}
use Rattle.win_num.specs.Rects.{box_in}
use Rattle.win_order.specs.Kept.{is_child}
use Rattle.win_order.specs.Layers.{Layers, siblings_of}
use Rattle.win_order.specs.Standing.{Standing}
use Rattle.win_order.proofs.KeptLaws.{listed_any}
use Rattle.win_rows.specs.declared.window.Window.{Window as KeptWindow}
use Rattle.win_rows.specs.Windows.{Windows}
use Rattle.win_rows.specs.Windows as kept
use Rattle.user_model.specs.declared.entry.Setup.{Setup}
use Rattle.user_model.specs.Past.{Past}
use Rattle.user_model.specs.Legal.{IsLawful}
use Rattle.user_model.specs.Windows.{Window, find_window, live, window, parent_in, has_flag, windows_made}
use Rattle.user_model.specs.Looks.{Look, look, place_of}
use Rattle.user_model.specs.ZOrder.{hwnd, standing, siblings}
use Rattle.user_model.specs.Pixels.{point, corner_from, shifted, origin_within, origin, covers, highest, deepest, owner, screen}
use Rattle.user_model.proofs.ListLaws.{all_found, all_weaker}
use Rattle.user_model.proofs.Forests.{IsRising, IsBetween, between_found, number_found, all_by_number}
use Rattle.user_model.proofs.LiveWindows.{sound}
use Rattle.window_state.specs.Trees.{as_made, look_in, HasLook, IsTreeAt}
use Rattle.window_state.specs.Orders.{IsOrderAt}
use Rattle.window_state.specs.Pixels.{covers_in, highest_in, inside_of, deepest_in, owner_in}
use Rattle.window_state.proofs.Descents.{both_true}
use Rattle.window_state.proofs.TitleLaws.{find_agree}
use Rattle.window_state.proofs.TreeFacts.{window_at, found_at, length_at}

-- ---- pixels, counted from a corner

-- the point, counted from a corner
abbrev pub seen_from : Point → Point → Point
seen_from o p = point (p.x -ℤ o.x) (p.y -ℤ o.y)

le-moved : (l x d : ℤ) → int_le (l +ℤ d) x ≡ int_le l (x -ℤ d)
le-moved l x d = grind (arith, ints)

lt-moved : (r x d : ℤ) → int_lt x (r +ℤ d) ≡ int_lt (x -ℤ d) r
lt-moved r x d = grind (arith, ints)

moved_has : (o p : Point) (b : Box) → has_pixel (shifted o b) p ≡ has_pixel b (seen_from o p)
moved_has o p b = rw (le-moved b.left p.x o.x, lt-moved b.right p.x o.x, le-moved b.top p.y o.y, lt-moved b.bottom p.y o.y) refl

less_both : (x l o : ℤ) → (x -ℤ o) -ℤ l ≡ x -ℤ (l +ℤ o)
less_both x l o = omega (arith, ints)

less_none : (x : ℤ) → x ≡ x -ℤ pos 0
less_none x = omega (arith, ints)

pub same_point : (a b c d : ℤ) → a ≡ c → b ≡ d → point a b ≡ point c d
same_point a b c d e f = cc

-- ---- corners on the screen

module _ (past : Past) (last : ℕ) (rising : IsRising 15 last (live past)) where
  parent_less : (w : ℕ) → w ≢ 0 → parent_in (live past) w < w
  parent_less w some = pick (window past w) refl
    where
      lesser : (p o n : ℕ) (b : Bool) → eqb p 0 ≡ b → cond b o p < n → n ≢ 0 → p < n
      lesser p o zero b is h k = absurd (k refl)
      lesser p o (suc n) true is h k = omega (arith, eqb-true p 0 is)
      lesser p o (suc n) false is h k = h

      pick : (o : Option Window) → window past w ≡ o → unwrap_or (option_map (λ (x : Window). x.parent) o) 0 < w
      pick None e = omega (arith, some)
      pick (Some x) e =
          let b = between_found 15 last (live past) w x rising e in
          let n = number_found (live past) w x e in
          subst (λ m. x.parent < m) n (lesser x.parent x.owner x.number (eqb x.parent 0) refl b.older (λ z. some (sym n ∙ z)))

  -- one step up
  abbrev stepped : ℕ → ℕ → Bool → Point
  stepped n w b = elim b [ true ↦ point (pos 0) (pos 0) | false ↦ corner_from (origin_within n past (parent_in (live past) w)) (place_of past w) ]

  -- a bound that is great enough doesn't count
  origin_enough : (n m w : ℕ) → w ≤ n → w ≤ m → origin_within n past w ≡ origin_within m past w
  origin_enough zero zero w h k = refl
  origin_enough zero (suc m) w h k = sym (ap (stepped m w) (eq-eqb w 0 (omega (arith, h))))
  origin_enough (suc n) zero w h k = ap (stepped n w) (eq-eqb w 0 (omega (arith, k)))
  origin_enough (suc n) (suc m) w h k = pick (origin_enough n m (parent_in (live past) w)) (eqb w 0) refl
    where
      pick : (parent_in (live past) w ≤ n → parent_in (live past) w ≤ m → origin_within n past (parent_in (live past) w) ≡ origin_within m past (parent_in (live past) w)) → (b : Bool) → eqb w 0 ≡ b → stepped n w b ≡ stepped m w b
      pick rest true is = refl
      pick rest false is =
          let less = parent_less w (λ (z : w ≡ 0). eqb-false w 0 is z) in
          ap (λ o. corner_from o (place_of past w)) (rest (omega (arith, h, less)) (omega (arith, k, less)))

  -- a window's corner is its own, moved by that of its parent
  origin_up : (v : ℕ) → v ≢ 0 → origin past v ≡ corner_from (origin past (parent_in (live past) v)) (place_of past v)
  origin_up zero some = absurd (some refl)
  origin_up (suc v) some =
      let less = parent_less (suc v) some in
      ap (stepped v (suc v)) (ne_eqb (suc v) 0 some)
      ∙ ap (λ o. corner_from o (place_of past (suc v))) (origin_enough v (parent_in (live past) (suc v)) (parent_in (live past) (suc v)) (omega (arith, less)) (omega arith))

-- ---- siblings are children

-- a live window with the parent
record IsChild (past : Past) (w : ℕ) (v : Hwnd) : Type 0 where
  of : Window
  found : window past v.0 ≡ Some of
  parent : of.parent ≡ w

or_last : (b : Bool) → (b || true) ≡ true
or_last true = refl
or_last false = refl

-- what each has whose number is in the list
each_member : (P : Hwnd → Type 0) (xs : List Hwnd) → ((v : Hwnd) → list_any (λ u. eqb u.0 v.0) xs ≡ true → P v) → AllByRecursion P xs
each_member P [] h = tt
each_member P (x ∷ xs) h = (
  h x (ap (λ b. b || list_any (λ u. eqb u.0 x.0) xs) (eq-eqb x.0 x.0 refl)),
  each_member P xs (λ v k. h v (ap (λ b. eqb x.0 v.0 || b) k ∙ or_last (eqb x.0 v.0))),
)

-- one of which the test holds, with what all have
any_with : {X Y : Type 0} (f : X → Y) (test : Y → Bool) (Q : X → Type 0) (xs : List X) → AllByRecursion Q xs → list_any test (map f xs) ≡ true → (x : X) × Q x × (test (f x) ≡ true)
any_with f test Q [] h e = absurd (false≢true e)
any_with {X = X} f test Q (x ∷ xs) h e = pick (any_with f test Q xs h.1) (test (f x)) refl e
  where
    pick : (list_any test (map f xs) ≡ true → (y : X) × Q y × (test (f y) ≡ true)) → (b : Bool) → test (f x) ≡ b → (b || list_any test (map f xs)) ≡ true → (y : X) × Q y × (test (f y) ≡ true)
    pick rest true k e = (x, h.0, k)
    pick rest false k e = rest e

count_true : (b : Bool) → ltb 0 (cond b 1 0) ≡ true → b ≡ true
count_true true h = refl
count_true false h = absurd (false≢true h)

-- ---- the descent

module _ (setup : Setup) (past : Past) (lawful : IsLawful setup past) (t : Windows) (z : Layers) (at : IsTreeAt past t) (order : IsOrderAt past z) where
  rising : IsRising 15 (15 + length (windows_made past)) (live past)
  rising = (sound setup past lawful).rising

  child : (v : Hwnd) (w : ℕ) → list_any (λ u. eqb u.0 v.0) (siblings past w) ≡ true → IsChild past w v
  child v w h =
      let here : list_any (λ u. eqb u.0 v.0) (siblings_of w z) ≡ true = ap (list_any (λ (u : Hwnd). eqb u.0 v.0)) (order.lists w) ∙ h in
      let stands : is_child v.0 w z.standings ≡ true = count_true (is_child v.0 w z.standings) (sym (ap (ltb 0) (order.kept.listed w v.0)) ∙ sym (listed_any v.0 (siblings_of w z)) ∙ here) in
      let test : Standing → Bool = λ s. eqb s.window.0 v.0 && eqb s.parent.0 w in
      let all : List Standing = map (standing past) (live past) in
      let among : list_any test all ≡ true = list_any-IsPermutation test all (reverse all) (IsPermutation-reverse all) ∙ (ap (list_any test) (sym order.standings) ∙ stands) in
      let x = any_with (standing past) test (λ (x : Window). find_window (live past) x.number ≡ Some x) (live past) (all_by_number 15 (15 + length (windows_made past)) (live past) rising) among in
      let both = both_true (eqb x.0.number v.0) (eqb x.0.parent w) x.2 in
      let number : x.0.number ≡ v.0 = eqb-true x.0.number v.0 both.0 in
      record {
        of = x.0;
        found = ap (find_window (live past)) (sym number) ∙ x.1;
        parent = eqb-true x.0.parent w both.1;
      }

  children : (w : ℕ) → AllByRecursion (IsChild past w) (reverse (siblings past w))
  children w = each_member (IsChild past w) (reverse (siblings past w)) (λ v k. child v w (list_any-IsPermutation (λ (u : Hwnd). eqb u.0 v.0) (siblings past w) (reverse (siblings past w)) (IsPermutation-reverse (siblings past w)) ∙ k))

  -- what a child is in the table
  record InTable (w : ℕ) (v : Hwnd) : Type 0 where
    row : KeptWindow
    is_row : kept.window_of t.live v.0 ≡ Some row
    looks : look past v.0 ≡ look_in row.row
    parent : parent_in (live past) v.0 ≡ w
    some : v.0 ≢ 0

  in_table : (w : ℕ) (v : Hwnd) → IsChild past w v → InTable w v
  in_table w v c = pick (kept.window_of t.live v.0) refl
    where
      above : parent_in (live past) v.0 ≡ w
      above = ap (λ (o : Option Window). unwrap_or (option_map (λ (y : Window). y.parent) o) 0) c.found ∙ c.parent

      number : c.of.number ≡ v.0
      number = number_found (live past) v.0 c.of c.found

      between : IsBetween 15 (15 + length (windows_made past)) c.of
      between = between_found 15 (15 + length (windows_made past)) (live past) v.0 c.of rising c.found

      pick : (o : Option KeptWindow) → kept.window_of t.live v.0 ≡ o → InTable w v
      pick None e = let no : None ≡ Some c.of = sym (window_at past t at v.0 ∙ ap (option_map as_made) e) ∙ c.found in absurd cc
      pick (Some x) e = record {
        row = x;
        is_row = e;
        looks = ap (look past) (sym (found_at past t at v.0 x e).1) ∙ sym (all_found (HasLook past) (λ y. eqb y.number.0 v.0) t.live x at.looks e).looks;
        parent = above;
        some = λ (zero : v.0 ≡ 0). absurd (omega (arith, between.over, number, zero));
      }

  covers_at : (w : ℕ) (p : Point) (v : Hwnd) → IsChild past w v → covers_in t.live (seen_from (origin past w) p) v ≡ covers past p v
  covers_at w p v c =
      let x = in_table w v c in
      let seen = seen_from (origin past w) p in
      ap (λ (o : Option KeptWindow). elim o as (λ q. Bool) [ None ↦ false | Some y ↦ has_flag y.row.style WS_VISIBLE && has_pixel (box_in y.row.place) seen ]) x.is_row
      ∙ sym (
      ap (λ (l : Look). has_flag l.style WS_VISIBLE && has_pixel (shifted (origin past (parent_in (live past) v.0)) l.place) p) x.looks
      ∙ ap (λ u. has_flag x.row.row.style WS_VISIBLE && has_pixel (shifted (origin past u) (box_in x.row.row.place)) p) x.parent
      ∙ ap (λ b. has_flag x.row.row.style WS_VISIBLE && b) (moved_has (origin past w) p (box_in x.row.row.place)))

  inside_at : (w : ℕ) (p : Point) (v : Hwnd) → IsChild past w v → inside_of t.live (seen_from (origin past w) p) v ≡ seen_from (origin past v.0) p
  inside_at w p v c =
      let x = in_table w v c in
      let seen = seen_from (origin past w) p in
      let place = x.row.row.place in
      let corner : origin past v.0 ≡ corner_from (origin past w) (box_in place) =
      origin_up past (15 + length (windows_made past)) rising v.0 x.some
      ∙ ap (λ u. corner_from (origin past u) (place_of past v.0)) x.parent
      ∙ ap (λ (l : Look). corner_from (origin past w) l.place) x.looks in
      ap (λ (o : Option KeptWindow). elim o as (λ q. Point) [ None ↦ seen | Some y ↦ point (seen.x -ℤ y.row.place.l) (seen.y -ℤ y.row.place.t) ]) x.is_row
      ∙ same_point _ _ _ _ (less_both p.x place.l (origin past w).x) (less_both p.y place.t (origin past w).y)
      ∙ ap (λ o. seen_from o p) (sym corner)

  highest_at : (p : Point) (w : ℕ) → highest_in t.live z (seen_from (origin past w) p) w ≡ highest past p w
  highest_at p w =
      let seen = seen_from (origin past w) p in
      ap (λ (ws : List Hwnd). find (covers_in t.live seen) (reverse ws)) (order.lists w)
      ∙ find_agree (covers_in t.live seen) (covers past p) (reverse (siblings past w)) (all_weaker (IsChild past w) (λ v. covers_in t.live seen v ≡ covers past p v) (λ v c. covers_at w p v c) (reverse (siblings past w)) (children w))

  deepest_at : (n : ℕ) (p : Point) (w : Hwnd) → deepest_in n t.live z (seen_from (origin past w.0) p) w ≡ deepest n past p w
  deepest_at zero p w = refl
  deepest_at (suc n) p w =
      ap (λ (o : Option Hwnd). elim o as (λ q. Hwnd) [ Some v ↦ deepest_in n t.live z (inside_of t.live (seen_from (origin past w.0) p) v) v | None ↦ w ]) (highest_at p w.0)
      ∙ pick (deepest_at n p) (highest past p w.0) refl
    where
      pick : ((v : Hwnd) → deepest_in n t.live z (seen_from (origin past v.0) p) v ≡ deepest n past p v) → (o : Option Hwnd) → highest past p w.0 ≡ o → (elim o as (λ q. Hwnd) [ Some v ↦ deepest_in n t.live z (inside_of t.live (seen_from (origin past w.0) p) v) v | None ↦ w ]) ≡ (elim o as (λ q. Hwnd) [ Some v ↦ deepest n past p v | None ↦ w ])
      pick rest None e = refl
      pick rest (Some v) e =
          ap (λ q. deepest_in n t.live z q v) (inside_at w.0 p v (all_found (IsChild past w.0) (covers past p) (reverse (siblings past w.0)) v (children w.0) e))
          ∙ rest v

  -- the tables tell the window that owns a pixel
  pub owner_at_past : (x y : ℤ) → owner_in t.live z setup.width setup.height (point x y) ≡ owner setup past (point x y)
  owner_at_past x y =
      ap (λ w. cond (has_pixel (screen setup) (point x y)) w (hwnd 0)) (
      ap (λ q. deepest_in (length t.live) t.live z q (hwnd 0)) (same_point x y (x -ℤ pos 0) (y -ℤ pos 0) (less_none x) (less_none y))
      ∙ deepest_at (length t.live) (point x y) (hwnd 0)
      ∙ ap (λ n. deepest n past (point x y) (hwnd 0)) (sym (length_at past t at)))
