-- The walk round a window: what comes after each visit.
use Rattle.std.proofs.Common.{◌≡◌, ◌∙◌, inl, inr, ℕ, ◌+◌, ◌-◌, ◌<◌, ◌≤◌, suc, zero, List, [], ◌∷◌, ◌++◌, cond, filter, find, Bool, true, false, ◌&&◌, eqb, ltb, Option, Some, None, append_assoc, append-nil, add-one, refl, sym, ap, subst, arith}
use Rattle.std.specs.List.{flat_map}
use Rattle.std.proofs.lemmas.Bool.{cases_Bool, eqb-true, eq-eqb, ne_eqb, and_parts, lt-ltb, le-ltb, ltb-true}
use Rattle.win_rows.specs.declared.links.Link.{Link}
use Rattle.win_rows.specs.declared.tour.Way.{Way}
use Rattle.win_rows.specs.declared.tour.Way.TheVariants.{Enter, Leave}
use Rattle.win_rows.specs.declared.tour.Visit.{Visit}
use Rattle.win_rows.specs.declared.window.Window.{Window}
use Rattle.win_rows.specs.Windows.{window_of, RisesFrom}
use Rattle.win_rows.specs.Links.{above_by, under}
use Rattle.win_rows.specs.Tours.{visit, tour, is_past, later, rest, IsVisit}

some_same : {A : Type 0} (a c : A) → Some a ≡ Some c → a ≡ c
some_same a c e = cc e

-- the first of a list with a window in front
module _ (p : Window → Bool) (x : Window) (ws : List Window) where
  here : p x ≡ true → find p (x ∷ ws) ≡ Some x
  here k = ap (λ b. cond b (Some x) (find p ws)) k

  skip : p x ≡ false → find p (x ∷ ws) ≡ find p ws
  skip k = ap (λ b. cond b (Some x) (find p ws)) k

  same_first : (c : Window) → p x ≡ true → find p (x ∷ ws) ≡ Some c → x ≡ c
  same_first c k h = some_same x c (sym (here k) ∙ h)

found_true : (p : Window → Bool) (ws : List Window) (c : Window) → find p ws ≡ Some c → p c ≡ true
found_true p [] c h = absurd (cc h)
found_true p (x ∷ ws) c h = elim (cases_Bool (p x)) [
  | inl k ↦ ap p (sym (same_first p x ws c k h)) ∙ k
  | inr k ↦ found_true p ws c (sym (skip p x ws k) ∙ h)
]

found_above : (p : Window → Bool) (from : ℕ) (ws : List Window) (c : Window) → RisesFrom from ws → find p ws ≡ Some c → from < c.number.0
found_above p from [] c r h = absurd (cc h)
found_above p from (x ∷ ws) c r h = elim (cases_Bool (p x)) [
  | inl k ↦ subst (λ (z : Window). from < z.number.0) (same_first p x ws c k h) r.0
  | inr k ↦ omega (arith, r.0, found_above p x.number.0 ws c r.1 (sym (skip p x ws k) ∙ h))
]

-- what is found is the window of its number
pub found_live : (p : Window → Bool) (from : ℕ) (ws : List Window) (c : Window) → RisesFrom from ws → find p ws ≡ Some c → window_of ws c.number.0 ≡ Some c
found_live p from [] c r h = absurd (cc h)
found_live p from (x ∷ ws) c r h = elim (cases_Bool (p x)) [
  | inl k ↦ subst (λ (z : Window). window_of (x ∷ ws) z.number.0 ≡ Some z) (same_first p x ws c k h) (here (λ z. eqb z.number.0 x.number.0) x ws (eq-eqb x.number.0 x.number.0 refl))
  | inr k ↦
      let f : find p ws ≡ Some c = sym (skip p x ws k) ∙ h in
      skip (λ z. eqb z.number.0 c.number.0) x ws (ne_eqb x.number.0 c.number.0 (λ e. omega (arith, e, found_above p x.number.0 ws c r.1 f))) ∙ found_live p x.number.0 ws c r.1 f
]

none_found : (p : Window → Bool) (ws : List Window) → find p ws ≡ None → filter p ws ≡ []
none_found p [] h = refl
none_found p (x ∷ ws) h = elim (cases_Bool (p x)) [
  | inl k ↦ absurd (cc (h, here p x ws k))
  | inr k ↦ ap (λ b. cond b (x ∷ filter p ws) (filter p ws)) k ∙ none_found p ws (sym (skip p x ws k) ∙ h)
]

and_yes : (a b : Bool) → b ≡ true → (a && b) ≡ a
and_yes true b h = h
and_yes false b h = refl

and_no : (a b : Bool) → b ≡ false → (a && b) ≡ false
and_no true b h = h
and_no false b h = refl

module _ (link : Link) (a : ℕ) where
  -- all of them are past a lesser number
  past_all : (n from : ℕ) (ws : List Window) → RisesFrom from ws → n ≤ from → filter (is_past link a n) ws ≡ under link ws a
  past_all n from [] r le = refl
  past_all n from (x ∷ ws) r le =
      let is : is_past link a n x ≡ eqb (above_by link x).0 a = and_yes (eqb (above_by link x).0 a) (ltb n x.number.0) (lt-ltb n x.number.0 (omega (arith, le, r.0))) in
      ap (λ b. cond b (x ∷ filter (is_past link a n) ws) (filter (is_past link a n) ws)) is
      ∙ ap (λ (us : List Window). cond (eqb (above_by link x).0 a) (x ∷ us) us) (past_all n x.number.0 ws r.1 (omega (arith, le, r.0)))

  passed : (n : ℕ) (x : Window) (ws : List Window) → x.number.0 ≤ n → filter (is_past link a n) (x ∷ ws) ≡ filter (is_past link a n) ws
  passed n x ws le = ap (λ b. cond b (x ∷ filter (is_past link a n) ws) (filter (is_past link a n) ws)) (and_no (eqb (above_by link x).0 a) (ltb n x.number.0) (le-ltb n x.number.0 le))

  -- the first, and those past it
  past_split : (n from : ℕ) (ws : List Window) (c : Window) → RisesFrom from ws → find (is_past link a n) ws ≡ Some c → filter (is_past link a n) ws ≡ c ∷ filter (is_past link a c.number.0) ws
  past_split n from [] c r h = absurd (cc h)
  past_split n from (x ∷ ws) c r h = elim (cases_Bool (is_past link a n x)) [
    | inl k ↦
        let lt : n < x.number.0 = ltb-true n x.number.0 (and_parts (eqb (above_by link x).0 a) (ltb n x.number.0) k).1 in
        subst (λ (z : Window). filter (is_past link a n) (x ∷ ws) ≡ z ∷ filter (is_past link a z.number.0) (x ∷ ws)) (same_first (is_past link a n) x ws c k h)
        (ap (λ b. cond b (x ∷ filter (is_past link a n) ws) (filter (is_past link a n) ws)) k
        ∙ ap (λ (us : List Window). x ∷ us)
        (past_all n x.number.0 ws r.1 (omega (arith, lt))
        ∙ sym (passed x.number.0 x ws (omega arith) ∙ past_all x.number.0 x.number.0 ws r.1 (omega arith))))
    | inr k ↦
        let f : find (is_past link a n) ws ≡ Some c = sym (skip (is_past link a n) x ws k) ∙ h in
        let lt : x.number.0 < c.number.0 = found_above (is_past link a n) x.number.0 ws c r.1 f in
        ap (λ b. cond b (x ∷ filter (is_past link a n) ws) (filter (is_past link a n) ws)) k
        ∙ past_split n x.number.0 ws c r.1 f
        ∙ ap (λ (us : List Window). c ∷ us) (sym (passed c.number.0 x ws (omega (arith, lt))))
  ]

  past_above : (n : ℕ) (ws : List Window) (c : Window) → find (is_past link a n) ws ≡ Some c → (above_by link c).0 ≡ a
  past_above n ws c h = eqb-true (above_by link c).0 a (and_parts (eqb (above_by link c).0 a) (ltb n c.number.0) (found_true (is_past link a n) ws c h)).0

module _ (link : Link) (ws : List Window) where
  no_tours : (us : List Window) → flat_map (tour link zero ws) us ≡ []
  no_tours [] = refl
  no_tours (x ∷ us) = no_tours us

  -- what is left once the windows under the same were walked round
  abbrev upper : ℕ → ℕ → Option Window → List Visit
  upper k d o = elim o [ None ↦ [] | Some z ↦ visit Leave z (suc d) ∷ later k link ws z (suc d) ]

  entered : (n : ℕ) (y : Window) (vs : List Visit) → tour link (suc n) ws y ++ vs ≡ visit Enter y (suc n) ∷ (flat_map (tour link n ws) (under link ws y.number.0) ++ visit Leave y (suc n) ∷ vs)
  entered n y vs = ap (λ (us : List Visit). visit Enter y (suc n) ∷ us) (append_assoc (flat_map (tour link n ws) (under link ws y.number.0)) (visit Leave y (suc n) ∷ []) vs)

  child : (n k : ℕ) (y c : Window) → RisesFrom 0 ws → window_of ws y.number.0 ≡ Some y → find (is_past link y.number.0 0) ws ≡ Some c → flat_map (tour link n ws) (under link ws y.number.0) ++ visit Leave y (suc n) ∷ later k link ws y (suc n) ≡ tour link n ws c ++ later (suc k) link ws c n
  child n k y c rising live found =
      let a = y.number.0 in
      let cs = filter (is_past link a c.number.0) ws in
      ap (λ (us : List Window). flat_map (tour link n ws) us ++ visit Leave y (suc n) ∷ later k link ws y (suc n)) (sym (past_all link a 0 0 ws rising (omega arith)) ∙ past_split link a 0 0 ws c rising found)
      ∙ append_assoc (tour link n ws c) (flat_map (tour link n ws) cs) (visit Leave y (suc n) ∷ later k link ws y (suc n))
      ∙ ap (λ (o : Option Window). tour link n ws c ++ (flat_map (tour link n ws) cs ++ upper k n o)) (sym live)
      ∙ ap (λ (m : ℕ). tour link n ws c ++ (flat_map (tour link n ws) (filter (is_past link m c.number.0) ws) ++ upper k n (window_of ws m))) (sym (past_above link a 0 ws c found))

  sibling : (k d : ℕ) (y s : Window) → RisesFrom 0 ws → find (is_past link (above_by link y).0 y.number.0) ws ≡ Some s → later (suc k) link ws y d ≡ tour link d ws s ++ later (suc k) link ws s d
  sibling k d y s rising found =
      let a = (above_by link y).0 in
      let ss = filter (is_past link a s.number.0) ws in
      ap (λ (us : List Window). flat_map (tour link d ws) us ++ upper k d (window_of ws a)) (past_split link a y.number.0 0 ws s rising found)
      ∙ append_assoc (tour link d ws s) (flat_map (tour link d ws) ss) (upper k d (window_of ws a))
      ∙ ap (λ (m : ℕ). tour link d ws s ++ (flat_map (tour link d ws) (filter (is_past link m s.number.0) ws) ++ upper k d (window_of ws m))) (sym (past_above link a y.number.0 ws s found))

  upward : (k d : ℕ) (y : Window) (o : Option Window) → find (is_past link (above_by link y).0 y.number.0) ws ≡ None → window_of ws (above_by link y).0 ≡ o → later (suc k) link ws y d ≡ upper k d o
  upward k d y o none above =
      ap (λ (us : List Window). flat_map (tour link d ws) us ++ upper k d (window_of ws (above_by link y).0)) (none_found (is_past link (above_by link y).0 y.number.0) ws none)
      ∙ ap (upper k d) above

  one_up : (top n : ℕ) → suc n ≤ top → top - n ≡ suc (top - suc n)
  one_up top n le = omega (arith, le)

  child_rest : (top n : ℕ) (y c : Window) → suc n ≤ top → RisesFrom 0 ws → window_of ws y.number.0 ≡ Some y → find (is_past link y.number.0 0) ws ≡ Some c → tour link (suc n) ws y ++ later (top - suc n) link ws y (suc n) ≡ visit Enter y (suc n) ∷ (tour link n ws c ++ later (top - n) link ws c n)
  child_rest top n y c le rising live found =
      entered n y (later (top - suc n) link ws y (suc n))
      ∙ ap (λ (us : List Visit). visit Enter y (suc n) ∷ us)
      (child n (top - suc n) y c rising live found
      ∙ ap (λ (m : ℕ). tour link n ws c ++ later m link ws c n) (sym (one_up top n le)))

  leaf_rest : (top n : ℕ) (y : Window) → flat_map (tour link n ws) (under link ws y.number.0) ≡ [] → tour link (suc n) ws y ++ later (top - suc n) link ws y (suc n) ≡ visit Enter y (suc n) ∷ (visit Leave y (suc n) ∷ later (top - suc n) link ws y (suc n))
  leaf_rest top n y none = entered n y (later (top - suc n) link ws y (suc n)) ∙ ap (λ (us : List Visit). visit Enter y (suc n) ∷ (us ++ visit Leave y (suc n) ∷ later (top - suc n) link ws y (suc n))) none

  module _ (top : ℕ) (v : Visit) (is : IsVisit ws top v) where
    on_enter : v.way ≡ Enter → rest link ws top (Some v) ≡ tour link v.depth ws v.window ++ later (top - v.depth) link ws v.window v.depth
    on_enter e = ap (λ (w : Way). let vs : List Visit = elim w [ Enter ↦ tour link v.depth ws v.window ++ later (top - v.depth) link ws v.window v.depth | Leave ↦ v ∷ later (top - v.depth) link ws v.window v.depth ] in vs) e

    on_leave : v.way ≡ Leave → rest link ws top (Some v) ≡ v ∷ later (top - v.depth) link ws v.window v.depth
    on_leave e = ap (λ (w : Way). let vs : List Visit = elim w [ Enter ↦ tour link v.depth ws v.window ++ later (top - v.depth) link ws v.window v.depth | Leave ↦ v ∷ later (top - v.depth) link ws v.window v.depth ] in vs) e

    entering : v.way ≡ Enter → visit Enter v.window v.depth ≡ v
    entering e = ap (λ (w : Way). visit w v.window v.depth) (sym e)

    deeper : suc (v.depth - 1) ≡ v.depth
    deeper = omega (arith, is.deep)

    -- this visit is the first of what is left
    pub begins : (vs : List Visit) × (rest link ws top (Some v) ≡ v ∷ vs)
    begins = pick v.way refl
      where
        after_it : List Visit
        after_it = later (top - v.depth) link ws v.window v.depth

        pick : (w : Way) → v.way ≡ w → (vs : List Visit) × (rest link ws top (Some v) ≡ v ∷ vs)
        pick Leave e = (after_it, on_leave e)
        pick Enter e =
            let tail = (flat_map (tour link (v.depth - 1) ws) (under link ws v.window.number.0) ++ visit Leave v.window (suc (v.depth - 1)) ∷ []) ++ after_it in (
              tail,
              on_enter e
                  ∙ ap (λ (d : ℕ). tour link d ws v.window ++ after_it) (sym deeper)
                  ∙ ap (λ (u : Visit). u ∷ tail) (ap (visit Enter v.window) deeper ∙ entering e),
            )

    pub next_child : (c : Window) → v.way ≡ Enter → find (is_past link v.window.number.0 0) ws ≡ Some c → rest link ws top (Some v) ≡ v ∷ rest link ws top (Some (visit Enter c (v.depth - 1)))
    next_child c e found =
        let n = v.depth - 1 in
        let vs = tour link n ws c ++ later (top - n) link ws c n in
        on_enter e
        ∙ subst (λ (d : ℕ). tour link d ws v.window ++ later (top - d) link ws v.window d ≡ visit Enter v.window d ∷ vs) deeper (child_rest top n v.window c (omega (arith, is.deep, is.within)) is.rising is.live found)
        ∙ ap (λ (u : Visit). u ∷ vs) (entering e)

    next_leaf : v.way ≡ Enter → flat_map (tour link (v.depth - 1) ws) (under link ws v.window.number.0) ≡ [] → rest link ws top (Some v) ≡ v ∷ rest link ws top (Some (visit Leave v.window v.depth))
    next_leaf e none =
        on_enter e
        ∙ subst (λ (d : ℕ). tour link d ws v.window ++ later (top - d) link ws v.window d ≡ visit Enter v.window d ∷ (visit Leave v.window d ∷ later (top - d) link ws v.window d)) deeper (leaf_rest top (v.depth - 1) v.window none)
        ∙ ap (λ (u : Visit). u ∷ (visit Leave v.window v.depth ∷ later (top - v.depth) link ws v.window v.depth)) (entering e)

    pub next_alone : v.way ≡ Enter → find (is_past link v.window.number.0 0) ws ≡ None → rest link ws top (Some v) ≡ v ∷ rest link ws top (Some (visit Leave v.window v.depth))
    next_alone e none = next_leaf e (ap (flat_map (tour link (v.depth - 1) ws)) (sym (past_all link v.window.number.0 0 0 ws is.rising (omega arith)) ∙ none_found (is_past link v.window.number.0 0) ws none))

    pub next_shallow : v.way ≡ Enter → v.depth ≤ 1 → rest link ws top (Some v) ≡ v ∷ rest link ws top (Some (visit Leave v.window v.depth))
    next_shallow e le =
        let none : v.depth - 1 ≡ 0 = omega (arith, le) in
        next_leaf e (ap (λ (n : ℕ). flat_map (tour link n ws) (under link ws v.window.number.0)) none ∙ no_tours (under link ws v.window.number.0))

    pub next_sibling : (s : Window) → v.way ≡ Leave → v.depth < top → find (is_past link (above_by link v.window).0 v.window.number.0) ws ≡ Some s → rest link ws top (Some v) ≡ v ∷ rest link ws top (Some (visit Enter s v.depth))
    next_sibling s e lt found =
        on_leave e
        ∙ ap (λ (vs : List Visit). v ∷ vs)
        (ap (λ (m : ℕ). later m link ws v.window v.depth) (one_up top v.depth lt)
        ∙ sibling (top - suc v.depth) v.depth v.window s is.rising found
        ∙ ap (λ (m : ℕ). tour link v.depth ws s ++ later m link ws s v.depth) (sym (one_up top v.depth lt)))

    pub next_up : (z : Window) → v.way ≡ Leave → v.depth < top → find (is_past link (above_by link v.window).0 v.window.number.0) ws ≡ None → window_of ws (above_by link v.window).0 ≡ Some z → rest link ws top (Some v) ≡ v ∷ rest link ws top (Some (visit Leave z (v.depth + 1)))
    next_up z e lt none above =
        on_leave e
        ∙ ap (λ (vs : List Visit). v ∷ vs)
        (ap (λ (m : ℕ). later m link ws v.window v.depth) (one_up top v.depth lt)
        ∙ upward (top - suc v.depth) v.depth v.window (Some z) none above
        ∙ ap (λ (m : ℕ). visit Leave z m ∷ later (top - m) link ws z m) (sym (add-one v.depth)))

    pub next_gone : v.way ≡ Leave → v.depth < top → find (is_past link (above_by link v.window).0 v.window.number.0) ws ≡ None → window_of ws (above_by link v.window).0 ≡ None → rest link ws top (Some v) ≡ v ∷ []
    next_gone e lt none above =
        on_leave e
        ∙ ap (λ (vs : List Visit). v ∷ vs) (ap (λ (m : ℕ). later m link ws v.window v.depth) (one_up top v.depth lt) ∙ upward (top - suc v.depth) v.depth v.window None none above)

  -- a walk begins with all of it
  pub whole : (top : ℕ) (x : Window) → rest link ws top (Some (visit Enter x top)) ≡ tour link top ws x
  whole top x =
      let none : top - top ≡ 0 = omega arith in
      ap (λ (m : ℕ). tour link top ws x ++ later m link ws x top) none ∙ append-nil (tour link top ws x)
