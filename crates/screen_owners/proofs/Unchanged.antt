-- Where tables show the same but for some windows, a pixel keeps its owner that the way down comes through none of these to.
use Rattle.std.proofs.Common.{◌≡◌, ℕ, zero, suc, ◌+◌, Bool, true, false, cond, not, eqb, List, [], ◌∷◌, length, Option, Some, None, refl, ap, ◌∙◌, sym, subst, arith}
use Rattle.std.specs.Prelude.{◌&&◌, ◌||◌, find, is_some, reverse}
use Rattle.std.specs.List.{filter}
use Rattle.std.proofs.lemmas.Bool.{false≢true, true≢false}
use Rattle.win_num.specs.declared.message.Hwnd.{Hwnd}
use Rattle.win_num.specs.declared.names.TheConstants.{WS_VISIBLE}
use Rattle.win_num.specs.declared.shapes.Point.{Point}
use Rattle.win_num.specs.PixelSets.{has_pixel}
use Rattle.win_num.specs.Rects.{box_in}
use Rattle.win_order.specs.Layers.{Layers, siblings_of}
use Rattle.win_rows.specs.declared.window.Window.{Window}
use Rattle.win_rows.specs.Windows.{is_live, nobody, window_of, IsOrdered}
use Rattle.user_model.specs.Windows.{has_flag}
use Rattle.window_state.specs.Pixels.{covers_in, deepest_in, highest_in, inside_of, owner_in}
use Rattle.window_state.proofs.TreeFacts.{found_passes}
use Rattle.screen_owners.specs.Owners.{is_on_screen, AreChildren}
use Rattle.screen_owners.specs.Shares.{is_one_of, Passes, begins, goes_on}
use Rattle.screen_owners.specs.Shown.{is_other, ListsSame, PassesNone, ShowsSamePlaces}
use Rattle.screen_owners.proofs.Shown.{covers_place, from_place, has_place, inside_place, reverse_filter, same_depth, shown_covers}
use Rattle.screen_owners.proofs.Ways.{count_at_most, stays, step_of, steps_down}

-- ---- searches

-- what a search finds is kept
find_but : {X : Type 0} (test keep : X → Bool) (xs : List X) → ((x : X) → find test xs ≡ Some x → keep x ≡ true) → find test (filter keep xs) ≡ find test xs
find_but test keep [] h = refl
find_but {X = X} test keep (x ∷ xs) h = pick (find_but test keep xs) (keep x) refl (test x) refl h
  where
    pick : (((y : X) → find test xs ≡ Some y → keep y ≡ true) → find test (filter keep xs) ≡ find test xs) → (b : Bool) → keep x ≡ b → (c : Bool) → test x ≡ c → ((y : X) → cond c (Some x) (find test xs) ≡ Some y → keep y ≡ true) →
        find test (cond b (x ∷ filter keep xs) (filter keep xs)) ≡ cond c (Some x) (find test xs)
    pick rest true k true e g = ap (λ c. cond c (Some x) (find test (filter keep xs))) e
    pick rest true k false e g = ap (λ c. cond c (Some x) (find test (filter keep xs))) e ∙ rest g
    pick rest false k true e g = absurd (true≢false (sym (g x refl) ∙ k))
    pick rest false k false e g = rest g

-- tests that are the same of what is kept
find_alike_on : {X : Type 0} (test other keep : X → Bool) → ((x : X) → keep x ≡ true → test x ≡ other x) → (xs : List X) → find test (filter keep xs) ≡ find other (filter keep xs)
find_alike_on test other keep same [] = refl
find_alike_on {X = X} test other keep same (x ∷ xs) = pick (find_alike_on test other keep same xs) (keep x) refl
  where
    pick : find test (filter keep xs) ≡ find other (filter keep xs) → (b : Bool) → keep x ≡ b → find test (cond b (x ∷ filter keep xs) (filter keep xs)) ≡ find other (cond b (x ∷ filter keep xs) (filter keep xs))
    pick rest true k = ap (λ b. cond b (Some x) (find test (filter keep xs))) (same x k) ∙ ap (λ o. cond (other x) (Some x) o) rest
    pick rest false k = rest

not_one : (b : Bool) → not b ≡ true → b ≡ false
not_one true h = absurd (false≢true h)
not_one false h = refl

or_last : (b : Bool) → (b || true) ≡ true
or_last true = refl
or_last false = refl

-- what covers a point is live
live_covers : (us : List Window) (q : Point) (v : Hwnd) → covers_in us q v ≡ true → is_live us v.0 ≡ true
live_covers us q v h = pick (window_of us v.0) h
  where
    pick : (o : Option Window) → (elim o as (λ _. Bool) [ None ↦ false | Some x ↦ has_flag x.row.style WS_VISIBLE && has_pixel (box_in x.row.place) q ]) ≡ true → is_some o ≡ true
    pick None h = absurd (false≢true h)
    pick (Some x) h = refl

-- ---- the way down

module _ (hs : List Hwnd) (ws : List Window) (z : Layers) (last : ℕ) (us : List Window) (y : Layers) (newer : ℕ) (ordered : IsOrdered 15 last ws) (children : AreChildren ws z) (ordered' : IsOrdered 15 newer us) (children' : AreChildren us y) (places : ShowsSamePlaces hs ws us) (lists : ListsSame hs z us y) (p : Point) (before : PassesNone ws z p hs) (after : PassesNone us y p hs) where
  -- a window that it comes to is none of these
  kept_before : (q : Point) (v w : Hwnd) → Passes ws z p v q → highest_in ws z q v.0 ≡ Some w → is_one_of hs w ≡ false
  kept_before q v w d e = pick (is_one_of hs w) refl
    where
      pick : (b : Bool) → is_one_of hs w ≡ b → b ≡ false
      pick true k = absurd (before w (inside_of ws q w) k (λ n. absurd (omega (arith, (step_of ws z last ordered children q v.0 w e).over, n))) (goes_on w d e))
      pick false k = refl

  kept_after : (q : Point) (v w : Hwnd) → Passes us y p v q → highest_in us y q v.0 ≡ Some w → is_one_of hs w ≡ false
  kept_after q v w d e = pick (is_one_of hs w) refl
    where
      pick : (b : Bool) → is_one_of hs w ≡ b → b ≡ false
      pick true k = absurd (after w (inside_of us q w) k (λ n. absurd (omega (arith, (step_of us y newer ordered' children' q v.0 w e).over, n))) (goes_on w d e))
      pick false k = refl

  covers_same : (q : Point) (v : Hwnd) → is_one_of hs v ≡ false → covers_in ws q v ≡ covers_in us q v
  covers_same q v k = covers_place ws q v ∙ (ap (λ o. has_place o q) (places v k) ∙ sym (covers_place us q v))

  highest_same : (q : Point) (v : Hwnd) → Passes ws z p v q → Passes us y p v q → (eqb v.0 0 || is_live us v.0) ≡ true → highest_in ws z q v.0 ≡ highest_in us y q v.0
  highest_same q v d d' here =
      sym (find_but (covers_in ws q) (is_other hs) (reverse (siblings_of v.0 z)) (λ w e. ap not (kept_before q v w d e)))
      ∙ (find_alike_on (covers_in ws q) (covers_in us q) (is_other hs) (λ w k. covers_same q w (not_one (is_one_of hs w) k)) (reverse (siblings_of v.0 z))
      ∙ (ap (find (covers_in us q)) (sym (reverse_filter (is_other hs) (siblings_of v.0 z)) ∙ (ap reverse (lists v.0 here) ∙ reverse_filter (is_other hs) (siblings_of v.0 y)))
      ∙ find_but (covers_in us q) (is_other hs) (reverse (siblings_of v.0 y)) (λ w e. ap not (kept_after q v w d' e))))

  way_same : (n : ℕ) (q : Point) (v : Hwnd) → Passes ws z p v q → Passes us y p v q → (eqb v.0 0 || is_live us v.0) ≡ true → deepest_in n ws z q v ≡ deepest_in n us y q v
  way_same zero q v d d' here = refl
  way_same (suc n) q v d d' here = pick (λ w. way_same n (inside_of ws q w) w) (highest_in ws z q v.0) refl
    where
      pick : ((w : Hwnd) → Passes ws z p w (inside_of ws q w) → Passes us y p w (inside_of ws q w) → (eqb w.0 0 || is_live us w.0) ≡ true → deepest_in n ws z (inside_of ws q w) w ≡ deepest_in n us y (inside_of ws q w) w) →
          (o : Option Hwnd) → highest_in ws z q v.0 ≡ o → deepest_in (suc n) ws z q v ≡ deepest_in (suc n) us y q v
      pick rest None e = stays ws z last ordered children (suc n) q v e ∙ sym (stays us y newer ordered' children' (suc n) q v (sym (highest_same q v d d' here) ∙ e))
      pick rest (Some w) e =
          let e' : highest_in us y q v.0 ≡ Some w = sym (highest_same q v d d' here) ∙ e in
          let none : is_one_of hs w ≡ false = kept_before q v w d e in
          let shown : covers_in ws q w ≡ true = found_passes (covers_in ws q) (reverse (siblings_of v.0 z)) w e in
          let seen : covers_in us q w ≡ true = sym (covers_same q w none) ∙ shown in
          let inside : inside_of us q w ≡ inside_of ws q w = inside_place us q w (shown_covers us q w seen) ∙ (ap (λ o. from_place o q) (sym (places w none)) ∙ sym (inside_place ws q w (shown_covers ws q w shown))) in
          let there : Passes us y p w (inside_of ws q w) = subst (Passes us y p w) inside (goes_on w d' e') in
          steps_down ws z last ordered children n q v w e
          ∙ (rest w (goes_on w d e) there (ap (λ b. eqb w.0 0 || b) (live_covers us q w seen) ∙ or_last (eqb w.0 0))
          ∙ (ap (λ r. deepest_in n us y r w) (sym inside)
          ∙ sym (steps_down us y newer ordered' children' n q v w e')))

  pub owner_kept : (width height : ℕ) → owner_in us y width height p ≡ owner_in ws z width height p
  owner_kept width height = ap (λ v. cond (is_on_screen width height p) v nobody) (sym deep)
    where
      n : ℕ
      n = length ws + length us

      deep : deepest_in (length ws) ws z p nobody ≡ deepest_in (length us) us y p nobody
      deep =
          same_depth ws z last ordered children (length ws) n p nobody (count_at_most 0 ws) (omega (arith, count_at_most 0 ws))
          ∙ (way_same n p nobody begins begins refl
          ∙ same_depth us y newer ordered' children' n (length us) p nobody (omega (arith, count_at_most 0 us)) (count_at_most 0 us))
