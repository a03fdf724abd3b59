-- The shares of many windows, by rising number.
use Rattle.std.proofs.Common.{◌≡◌, ◌⊎◌, inl, inr, ℕ, zero, suc, ◌+◌, ◌<◌, ◌≤◌, Bool, true, false, cond, eqb, List, [], ◌∷◌, ◌++◌, map, length, take, get_or, Option, Some, None, refl, ap, ◌∙◌, sym, subst, arith}
use Rattle.std.specs.Prelude.{◌&&◌, ◌||◌, find}
use Rattle.std.specs.List.{All, AllPairs, list_any}
use Rattle.std.specs.List.Sorted.{IsNonDecreasingBy}
use Rattle.std.proofs.lemmas.Bool.{cases_lt, eq-eqb, ne_eqb, eqb-true, false≢true, true≢false}
use Rattle.std.proofs.lemmas.List.{length-map, map-append, take_all, take_more}
use Rattle.std.proofs.lemmas.List.Folds.{list_any-append}
use Rattle.std.proofs.lemmas.List.Kept.{AllPairs-cons}
use Rattle.std.proofs.lemmas.List.Quantifiers.{all_pairs_push}
use Rattle.std.proofs.lemmas.List.Elements.{recursion_from_All, All-push, All-nil, All-cons, All-head, All-tail}
use Rattle.win_num.specs.declared.message.Hwnd.{Hwnd}
use Rattle.win_num.specs.declared.shapes.Point.{Point}
use Rattle.win_num.specs.declared.shapes.Rect.{Rect}
use Rattle.win_order.specs.Layers.{Layers}
use Rattle.win_rows.specs.declared.window.Window.{Window}
use Rattle.win_rows.specs.Windows.{IsOrdered, nobody, number_of, window_of}
use Rattle.band_region.specs.Regions.{region_has}
use Rattle.band_region.proofs.Lists.{pairs-nil, pairs-one, pairs-head, pairs-tail}
use Rattle.user_model.proofs.ListLaws.{all_found}
use Rattle.window_state.proofs.TreeFacts.{found_passes}
use Rattle.window_state.specs.Pixels.{deepest_in, owner_in}
use Rattle.screen_owners.specs.declared.owners.Owned.{Owned}
use Rattle.screen_owners.specs.declared.screen.Part.{Part}
use Rattle.screen_owners.specs.declared.shares.Share.{Share}
use Rattle.screen_owners.specs.Owners.{entry_of, is_on_screen, is_within, owned_window, region_in, AreChildren, AreOwnersIn, IsBefore, IsOwned}
use Rattle.screen_owners.specs.Shares.{has_share, is_one_of, screen_and, share_window, AreSharesOf, IsOlderShare, IsParentless, IsShare, IsSharedOut, IsShareOf, IsSharedUpTo, IsUnreached, Passes, begins}
use Rattle.screen_owners.proofs.Cuts.{both_true, same_window}
use Rattle.screen_owners.proofs.Ways.{came_from, each_older, owner_passes, step_of, CameFrom, IsOlder}

-- ---- tests of lists

any_map : {X Y : Type 0} (test : Y → Bool) (f : X → Y) (xs : List X) → list_any test (map f xs) ≡ list_any (λ x. test (f x)) xs
any_map test f [] = refl
any_map test f (x ∷ xs) = ap (λ b. test (f x) || b) (any_map test f xs)

or_last : (b : Bool) → (b || true) ≡ true
or_last true = refl
or_last false = refl

or_first : (a b : Bool) → a ≡ true → (a || b) ≡ true
or_first a b h = ap (λ c. c || b) h

one_of : (a b : Bool) → (a || b) ≡ true → (a ≡ true) ⊎ (b ≡ true)
one_of true b h = inl refl
one_of false b h = inr h

-- of a list with one more
any_push : {X : Type 0} (test : X → Bool) (xs : List X) (y : X) → list_any test (xs ++ y ∷ []) ≡ (list_any test xs || test y)
any_push test xs y = list_any-append test xs (y ∷ []) ∙ ap (λ b. list_any test xs || b) (or_none (test y))
  where
    or_none : (a : Bool) → (a || false) ≡ a
    or_none true = refl
    or_none false = refl

-- the numbers before a place are those that are less
pub number_over : (from last : ℕ) (ws : List Window) (k : ℕ) (w : Hwnd) → IsOrdered from last ws → k < length ws → w ≡ get_or (map number_of ws) k w → from < w.0
number_over from last [] k w h l e = absurd (omega (arith, l))
number_over from last (x ∷ xs) zero w h l e = let same : w.0 ≡ x.number.0 = ap (λ (u : Hwnd). u.0) e in omega (arith, same, h.0)
number_over from last (x ∷ xs) (suc k) w h l e = omega (arith, h.0, number_over x.number.0 last xs k w h.2 (omega (arith, l)) e)

found_over : (from last : ℕ) (ws : List Window) (u : ℕ) (x : Window) → IsOrdered from last ws → window_of ws u ≡ Some x → from < u
found_over from last ws u x h e =
    let older = all_found (IsOlder from) (λ y. eqb y.number.0 u) ws x (each_older from last ws h) e in
    omega (arith, older.over, eqb-true x.number.0 u (found_passes (λ y. eqb y.number.0 u) ws x e))

among : (from last : ℕ) (ws : List Window) (u : ℕ) (x : Window) (k : ℕ) (w : Hwnd) → IsOrdered from last ws → window_of ws u ≡ Some x → k < length ws → w ≡ get_or (map number_of ws) k w → u < w.0 → list_any (λ (h : Hwnd). eqb h.0 u) (take k (map number_of ws)) ≡ true
among from last [] u x k w h e l at less = absurd (omega (arith, l))
among from last (y ∷ ys) u x zero w h e l at less =
    let same : w.0 ≡ y.number.0 = ap (λ (v : Hwnd). v.0) at in
    absurd (pick (eqb y.number.0 u) refl same)
  where
    pick : (b : Bool) → eqb y.number.0 u ≡ b → w.0 ≡ y.number.0 → ⊥
    pick true k same = omega (arith, eqb-true y.number.0 u k, same, less)
    pick false k same = omega (arith, found_over y.number.0 last ys u x h.2 (sym (ap (λ b. cond b (Some y) (window_of ys u)) k) ∙ e), same, less)
among from last (y ∷ ys) u x (suc k) w h e l at less = pick (eqb y.number.0 u) refl (among y.number.0 last ys u x k w h.2)
  where
    pick : (b : Bool) → eqb y.number.0 u ≡ b → (window_of ys u ≡ Some x → k < length ys → w ≡ get_or (map number_of ys) k w → u < w.0 → list_any (λ (h : Hwnd). eqb h.0 u) (take k (map number_of ys)) ≡ true) → (eqb y.number.0 u || list_any (λ (h : Hwnd). eqb h.0 u) (take k (map number_of ys))) ≡ true
    pick true m rest = ap (λ b. b || list_any (λ (h : Hwnd). eqb h.0 u) (take k (map number_of ys))) m
    pick false m rest = ap (λ b. eqb y.number.0 u || b) (rest (sym (ap (λ b. cond b (Some y) (window_of ys u)) m) ∙ e) (omega (arith, l)) at less) ∙ or_last (eqb y.number.0 u)

-- a window of the table is one of the numbers
pub live_among : (ws : List Window) (u : ℕ) (x : Window) → window_of ws u ≡ Some x → list_any (λ (v : Hwnd). eqb v.0 u) (map number_of ws) ≡ true
live_among [] u x e = absurd cc
live_among (y ∷ ys) u x e = pick (live_among ys u x) (eqb y.number.0 u) refl e
  where
    pick : (window_of ys u ≡ Some x → list_any (λ (v : Hwnd). eqb v.0 u) (map number_of ys) ≡ true) → (b : Bool) → eqb y.number.0 u ≡ b → cond b (Some y) (window_of ys u) ≡ Some x → (eqb y.number.0 u || list_any (λ (v : Hwnd). eqb v.0 u) (map number_of ys)) ≡ true
    pick rest true k e = or_first (eqb y.number.0 u) (list_any (λ (v : Hwnd). eqb v.0 u) (map number_of ys)) k
    pick rest false k e = ap (λ b. eqb y.number.0 u || b) (rest e) ∙ or_last (eqb y.number.0 u)

-- the numbers before a place are lesser ones
pub before_less : (from last : ℕ) (ws : List Window) (k : ℕ) (w : Hwnd) (u : ℕ) → IsOrdered from last ws → k < length ws → w ≡ get_or (map number_of ws) k w → list_any (λ (v : Hwnd). eqb v.0 u) (take k (map number_of ws)) ≡ true → u < w.0
before_less from last [] k w u h l e any = absurd (omega (arith, l))
before_less from last (x ∷ xs) zero w u h l e any = absurd (false≢true any)
before_less from last (x ∷ xs) (suc k) w u h l e any = pick (before_less x.number.0 last xs k w u h.2 (omega (arith, l)) e) (one_of (eqb x.number.0 u) (list_any (λ (v : Hwnd). eqb v.0 u) (take k (map number_of xs))) any)
  where
    pick : (list_any (λ (v : Hwnd). eqb v.0 u) (take k (map number_of xs)) ≡ true → u < w.0) → (eqb x.number.0 u ≡ true) ⊎ (list_any (λ (v : Hwnd). eqb v.0 u) (take k (map number_of xs)) ≡ true) → u < w.0
    pick rest (inl is) = omega (arith, eqb-true x.number.0 u is, number_over x.number.0 last xs k w h.2 (omega (arith, l)) e)
    pick rest (inr k) = rest k

-- ---- one share more

module _ (ws : List Window) (z : Layers) (last : ℕ) (part : Part) (ordered : IsOrdered 15 last ws) (children : AreChildren ws z) where
  pub first_shared : (ss : List Share) (s : Share) → ss ≡ s ∷ [] → IsShareOf ws z part nobody s → IsSharedUpTo 0 ws z part ss
  first_shared ss s same of = subst (IsSharedUpTo 0 ws z part) (sym same) (record {
    each = All-cons (IsShare ws z part) s [] of.1 (All-nil (IsShare ws z part));
    older = pairs-one IsOlderShare s;
    among = All-cons (λ (t : Share). is_one_of (nobody ∷ []) t.window ≡ true) s [] (or_first (eqb 0 s.window.0) false (eq-eqb 0 s.window.0 (sym number))) (All-nil (λ (t : Share). is_one_of (nobody ∷ []) t.window ≡ true));
    reached = λ w p q here on d. subst (λ n. (eqb n w.0 || false) ≡ true) (sym number) here;
  })
    where
      number : s.window.0 ≡ 0
      number = ap (λ (u : Hwnd). u.0) of.0

  -- the screen and one window more
  more_windows : (k : ℕ) (w : Hwnd) → k < length ws → w ≡ get_or (map number_of ws) k w → nobody ∷ take (k + 1) (map number_of ws) ≡ (nobody ∷ take k (map number_of ws)) ++ w ∷ []
  more_windows k w within at = ap (λ us. nobody ∷ us) (take_more (map number_of ws) k w (subst (λ n. k < n) (sym (length-map ws number_of)) within) ∙ ap (λ u. take k (map number_of ws) ++ u ∷ []) (sym at))

  -- an older window
  pub older_one : (k : ℕ) (w u : Hwnd) → k < length ws → w ≡ get_or (map number_of ws) k w → is_one_of (nobody ∷ take k (map number_of ws)) u ≡ true → u.0 < w.0
  older_one k w u within at any = pick (one_of (eqb 0 u.0) (list_any (λ (v : Hwnd). eqb v.0 u.0) (take k (map number_of ws))) any)
    where
      pick : (eqb 0 u.0 ≡ true) ⊎ (list_any (λ (v : Hwnd). eqb v.0 u.0) (take k (map number_of ws)) ≡ true) → u.0 < w.0
      pick (inl is) = omega (arith, eqb-true 0 u.0 is, number_over 15 last ws k w ordered within at)
      pick (inr rest) = before_less 15 last ws k w u.0 ordered within at rest

  pub more_shared : (k : ℕ) (w : Hwnd) (ss ts : List Share) (s : Share) → k < length ws → w ≡ get_or (map number_of ws) k w → ts ≡ ss ++ s ∷ [] → IsShareOf ws z part w s → IsSharedUpTo k ws z part ss → IsSharedUpTo (k + 1) ws z part ts
  more_shared k w ss ts s within at same of old = subst (λ us. AreSharesOf ws z part us ts) (sym (more_windows k w within at)) (subst (AreSharesOf ws z part (us ++ w ∷ [])) (sym same) (record {
    each = All-push (IsShare ws z part) ss s old.each of.1;
    older = all_pairs_push IsOlderShare ss s old.older (λ j d lt. subst (λ (n : ℕ). (get_or ss j d).window.0 < n) (sym number) (older_one k w (get_or ss j d).window within at (old.among j d lt)));
    among = All-push (λ (t : Share). is_one_of (us ++ w ∷ []) t.window ≡ true) ss s (λ j d lt. any_push (λ (v : Hwnd). eqb v.0 (get_or ss j d).window.0) us w ∙ or_first (is_one_of us (get_or ss j d).window) (eqb w.0 (get_or ss j d).window.0) (old.among j d lt)) (any_push (λ (v : Hwnd). eqb v.0 s.window.0) us w ∙ ap (λ b. is_one_of us s.window || b) (eq-eqb w.0 s.window.0 (sym number)) ∙ or_last (is_one_of us s.window));
    reached = λ u p q here on d. any_push (λ (t : Share). eqb t.window.0 u.0) ss s ∙ pick u p q on d (one_of (is_one_of us u) (eqb w.0 u.0) (sym (any_push (λ (v : Hwnd). eqb v.0 u.0) us w) ∙ here));
  }))
    where
      us : List Hwnd
      us = nobody ∷ take k (map number_of ws)

      number : s.window.0 ≡ w.0
      number = ap (λ (u : Hwnd). u.0) of.0

      pick : (u : Hwnd) (p q : Point) → is_within part p ≡ true → Passes ws z p u q → (is_one_of us u ≡ true) ⊎ (eqb w.0 u.0 ≡ true) → (has_share ss u.0 || eqb s.window.0 u.0) ≡ true
      pick u p q on d (inl here) = or_first (has_share ss u.0) (eqb s.window.0 u.0) (old.reached u p q here on d)
      pick u p q on d (inr is) = ap (λ n. has_share ss u.0 || eqb n u.0) number ∙ ap (λ b. has_share ss u.0 || b) is ∙ or_last (has_share ss u.0)

  pub same_shared : (k : ℕ) (w : Hwnd) (ss : List Share) → k < length ws → w ≡ get_or (map number_of ws) k w → IsUnreached ws z part w → IsSharedUpTo k ws z part ss → IsSharedUpTo (k + 1) ws z part ss
  same_shared k w ss within at never old = subst (λ us. AreSharesOf ws z part us ss) (sym (more_windows k w within at)) (record {
    each = old.each;
    older = old.older;
    among = λ j d lt. any_push (λ (v : Hwnd). eqb v.0 (get_or ss j d).window.0) us w ∙ or_first (is_one_of us (get_or ss j d).window) (eqb w.0 (get_or ss j d).window.0) (old.among j d lt);
    reached = λ u p q here on d. pick u p q on d (one_of (is_one_of us u) (eqb w.0 u.0) (sym (any_push (λ (v : Hwnd). eqb v.0 u.0) us w) ∙ here));
  })
    where
      us : List Hwnd
      us = nobody ∷ take k (map number_of ws)

      pick : (u : Hwnd) (p q : Point) → is_within part p ≡ true → Passes ws z p u q → (is_one_of us u ≡ true) ⊎ (eqb w.0 u.0 ≡ true) → has_share ss u.0 ≡ true
      pick u p q on d (inl here) = old.reached u p q here on d
      pick u p q on d (inr is) = absurd (never p q on (subst (λ v. Passes ws z p v q) (same_window u w (sym (eqb-true w.0 u.0 is))) d))

  pub all_shared : (n : ℕ) (ss : List Share) → n ≡ length (map number_of ws) → IsSharedUpTo n ws z part ss → IsSharedOut ws z part ss
  all_shared n ss e h = subst (λ us. AreSharesOf ws z part (nobody ∷ us) ss) (take_all n (map number_of ws) (omega (arith, e))) h

  -- the window itself, or its parent, stands before it
  pub not_reached : (k : ℕ) (w : Hwnd) (ss : List Share) → k < length ws → w ≡ get_or (map number_of ws) k w → IsSharedUpTo k ws z part ss → IsParentless ws ss w → IsUnreached ws z part w
  not_reached k w ss within at shared none p q on d = from (came_from ws z last ordered children p w q d)
    where
      us : List Hwnd
      us = nobody ∷ take k (map number_of ws)

      up_among : (c : CameFrom ws z last ordered children p w q) → ((c.up ≡ nobody) × (c.at ≡ p)) ⊎ CameFrom ws z last ordered children p c.up c.at → is_one_of us c.up ≡ true
      up_among c (inl e) = or_first (eqb 0 c.up.0) (list_any (λ (h : Hwnd). eqb h.0 c.up.0) (take k (map number_of ws))) (eq-eqb 0 c.up.0 (sym (ap (λ (u : Hwnd). u.0) e.0)))
      up_among c (inr f) =
          let s = step_of ws z last ordered children f.at f.up.0 c.up f.step in
          let t = step_of ws z last ordered children c.at c.up.0 w c.step in
          ap (λ b. eqb 0 c.up.0 || b) (among 15 last ws c.up.0 s.row k w ordered s.live within at t.less) ∙ or_last (eqb 0 c.up.0)

      from : ((w ≡ nobody) × (q ≡ p)) ⊎ CameFrom ws z last ordered children p w q → ⊥
      from (inl e) = let zero : w.0 ≡ 0 = ap (λ (u : Hwnd). u.0) e.0 in omega (arith, zero, number_over 15 last ws k w ordered within at)
      from (inr c) =
          let t = step_of ws z last ordered children c.at c.up.0 w c.step in
          let up : is_one_of us c.up ≡ true = up_among c (came_from ws z last ordered children p c.up c.at c.way) in
          true≢false (sym (shared.reached c.up p c.at up on c.way) ∙ ap (λ (u : ℕ). has_share ss u) (sym t.parent) ∙ none t.row t.live)

-- ---- entries of shares

heads_alike : (n : ℕ) (es : List Owned) (ss : List Share) → map owned_window es ≡ map share_window ss → All (λ (s : Share). n < s.window.0) ss → All (λ (o : Owned). n < o.window.0) es
heads_alike n [] ss e h = All-nil (λ (o : Owned). n < o.window.0)
heads_alike n (o ∷ es) [] e h = absurd (cc e)
heads_alike n (o ∷ es) (s ∷ ss) e h =
    let same : o.window ≡ s.window = cc e in
    All-cons (λ (o : Owned). n < o.window.0) o es (subst (λ (u : Hwnd). n < u.0) (sym same) (All-head (λ (s : Share). n < s.window.0) s ss h)) (heads_alike n es ss (cc e) (All-tail (λ (s : Share). n < s.window.0) s ss h))

pub entries_rise : (es : List Owned) (ss : List Share) → map owned_window es ≡ map share_window ss → AllPairs IsOlderShare ss → AllPairs IsBefore es
entries_rise [] ss e h = pairs-nil IsBefore
entries_rise (o ∷ es) [] e h = absurd (cc e)
entries_rise (o ∷ es) (s ∷ ss) e h =
    let same : o.window ≡ s.window = cc e in
    AllPairs-cons IsBefore o es (subst (λ (u : Hwnd). All (λ (t : Owned). u.0 < t.window.0) es) (sym same) (heads_alike s.window.0 es ss (cc e) (pairs-head IsOlderShare s ss h))) (entries_rise es ss (cc e) (pairs-tail IsOlderShare s ss h))

-- one entry more
pub more_entries : (es fs : List Owned) (ss : List Share) (i : ℕ) (s : Share) (o : Owned) → fs ≡ es ++ o ∷ [] → i < length ss → s ≡ get_or ss i s → o.window ≡ s.window → map owned_window es ≡ map share_window (take i ss) → map owned_window fs ≡ map share_window (take (i + 1) ss)
more_entries es fs ss i s o same within at window old =
    ap (map owned_window) same
    ∙ map-append owned_window es (o ∷ [])
    ∙ ap (λ us. us ++ o.window ∷ []) old
    ∙ ap (λ u. map share_window (take i ss) ++ u ∷ []) window
    ∙ sym (map-append share_window (take i ss) (s ∷ []))
    ∙ ap (map share_window) (sym (take_more ss i s within ∙ ap (λ t. take i ss ++ t ∷ []) (sym at)))

-- no entry is of the window
none_found : (es : List Owned) (w : ℕ) → entry_of es w ≡ None → list_any (λ (o : Owned). eqb o.window.0 w) es ≡ false
none_found [] w e = refl
none_found (o ∷ es) w e = pick (none_found es w) (eqb o.window.0 w) e
  where
    pick : (entry_of es w ≡ None → list_any (λ (o : Owned). eqb o.window.0 w) es ≡ false) → (b : Bool) → cond b (Some o) (entry_of es w) ≡ None → (b || list_any (λ (o : Owned). eqb o.window.0 w) es) ≡ false
    pick rest true e = absurd cc
    pick rest false e = rest e

module _ (ws : List Window) (z : Layers) (last : ℕ) (part : Part) (ordered : IsOrdered 15 last ws) (children : AreChildren ws z) where
  -- the owner of a pixel has its share
  owner_shared : (ss : List Share) (p : Point) → IsSharedOut ws z part ss → is_within part p ≡ true → has_share ss (owner_in ws z part.screen.width part.screen.height p).0 ≡ true
  owner_shared ss p shared on = ap (λ (u : Hwnd). has_share ss u.0) (ap (λ b. cond b (deepest_in (length ws) ws z p nobody) nobody) (both_true (is_on_screen part.screen.width part.screen.height p) (region_has part.region p) on).0) ∙ shared.reached owner p way.0 (pick (came_from ws z last ordered children p owner way.0 way.1)) on way.1
    where
      owner : Hwnd
      owner = deepest_in (length ws) ws z p nobody

      way : (r : Point) × Passes ws z p owner r
      way = owner_passes ws z last ordered children (length ws) p p nobody begins

      pick : ((owner ≡ nobody) × (way.0 ≡ p)) ⊎ CameFrom ws z last ordered children p owner way.0 → is_one_of (screen_and ws) owner ≡ true
      pick (inl e) = or_first (eqb 0 owner.0) (list_any (λ (h : Hwnd). eqb h.0 owner.0) (map number_of ws)) (eq-eqb 0 owner.0 (sym (ap (λ (u : Hwnd). u.0) e.0)))
      pick (inr c) =
          let s = step_of ws z last ordered children c.at c.up.0 owner c.step in
          ap (λ b. eqb 0 owner.0 || b) (live_among ws owner.0 s.row s.live) ∙ or_last (eqb 0 owner.0)

  pub are_owners : (ss : List Share) (es : List Owned) → IsSharedOut ws z part ss → map owned_window es ≡ map share_window ss → All (IsOwned ws z part) es → AreOwnersIn ws z part es
  are_owners ss es shared windows owned w p = pick (entry_of es w.0) refl
    where
      has : (u : ℕ) → list_any (λ (o : Owned). eqb o.window.0 u) es ≡ has_share ss u
      has u = sym (any_map (λ (v : Hwnd). eqb v.0 u) owned_window es) ∙ ap (list_any (λ (v : Hwnd). eqb v.0 u)) windows ∙ any_map (λ (v : Hwnd). eqb v.0 u) share_window ss

      owner : Hwnd
      owner = owner_in ws z part.screen.width part.screen.height p

      none : has_share ss w.0 ≡ false → (a : Bool) → is_within part p ≡ a → (b : Bool) → eqb owner.0 w.0 ≡ b → false ≡ (a && b)
      none lost true on true is = absurd (true≢false (sym (owner_shared ss p shared on) ∙ ap (has_share ss) (eqb-true owner.0 w.0 is) ∙ lost))
      none lost true on false is = refl
      none lost false on b is = refl

      pick : (o : Option Owned) → entry_of es w.0 ≡ o → region_has (region_in es w.0) p ≡ (is_within part p && eqb owner.0 w.0)
      pick (Some o) e =
          let number : o.window.0 ≡ w.0 = eqb-true o.window.0 w.0 (found_passes (λ (x : Owned). eqb x.window.0 w.0) es o e) in
          ap (λ (x : Option Owned). region_has (elim x as (λ _. List Rect) [ Some y ↦ y.region | None ↦ [] ]) p) e
          ∙ all_found (IsOwned ws z part) (λ (x : Owned). eqb x.window.0 w.0) es o (recursion_from_All (IsOwned ws z part) es owned) e p
          ∙ ap (λ n. is_within part p && eqb owner.0 n) number
      pick None e =
          ap (λ (x : Option Owned). region_has (elim x as (λ _. List Rect) [ Some y ↦ y.region | None ↦ [] ]) p) e
          ∙ none (sym (has w.0) ∙ none_found es w.0 e) (is_within part p) refl (eqb owner.0 w.0) refl

-- ---- searches

module _ {X : Type 0} (n : X → ℕ) where
  -- the first that has the number, where those before it have lesser ones
  pub found_at : (xs : List X) (w i : ℕ) (x : X) → ((k : ℕ) (d : X) → k < i → n (get_or xs k d) < w) → i < length xs → x ≡ get_or xs i x → n x ≡ w → find (λ y. eqb (n y) w) xs ≡ Some x
  found_at [] w i x less lt at is = absurd (omega (arith, lt))
  found_at (y ∷ ys) w zero x less lt at is = ap (λ b. cond b (Some y) (find (λ y. eqb (n y) w) ys)) (eq-eqb (n y) w (ap n (sym at) ∙ is)) ∙ ap (λ (z : X). Some z) (sym at)
  found_at (y ∷ ys) w (suc i) x less lt at is = ap (λ b. cond b (Some y) (find (λ y. eqb (n y) w) ys)) (ne_eqb (n y) w (λ e. absurd (omega (arith, less 0 y (omega arith), e)))) ∙ found_at ys w i x (λ k d h. less (suc k) d (omega (arith, h))) (omega (arith, lt)) at is

  pub none_at : (xs : List X) (w : ℕ) → list_any (λ y. eqb (n y) w) xs ≡ false → find (λ y. eqb (n y) w) xs ≡ None
  none_at [] w h = refl
  none_at (y ∷ ys) w h = pick (none_at ys w) (eqb (n y) w) h
    where
      pick : (list_any (λ z. eqb (n z) w) ys ≡ false → find (λ z. eqb (n z) w) ys ≡ None) → (b : Bool) → (b || list_any (λ z. eqb (n z) w) ys) ≡ false → cond b (Some y) (find (λ z. eqb (n z) w) ys) ≡ None
      pick rest true h = absurd (true≢false h)
      pick rest false h = rest h

  -- numbers that rise don't fall
  pub rising_numbers : (xs : List X) → AllPairs (λ a b. n a < n b) xs → IsNonDecreasingBy n xs
  rising_numbers xs h i j d le lt = pick (cases_lt i j)
    where
      pick : (i < j) ⊎ (j ≤ i) → n (get_or xs i d) ≤ n (get_or xs j d)
      pick (inl k) = omega (arith, h i j d k lt)
      pick (inr k) = let same : i ≡ j = omega (arith, le, k) in omega (arith, ap (λ m. n (get_or xs m d)) same)

-- ---- copies

pub copied_more : (es fs : List Owned) (os : List Owned) (i : ℕ) (o : Owned) (rs : List Rect) → fs ≡ es ++ record { window = o.window; region = rs } ∷ [] → i < length os → o ≡ get_or os i o → rs ≡ o.region → es ≡ take i os → fs ≡ take (i + 1) os
copied_more es fs os i o rs same within at region old =
    same
    ∙ ap (λ (r : List Rect). es ++ record { window = o.window; region = r } ∷ []) region
    ∙ ap (λ xs. xs ++ o ∷ []) old
    ∙ sym (take_more os i o within ∙ ap (λ x. take i os ++ x ∷ []) (sym at))
