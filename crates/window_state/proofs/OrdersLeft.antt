-- An order whose windows were dropped but for those that are live still.
use Rattle.std.proofs.Common.{◌≡◌, ◌∙◌, ℕ, Bool, true, false, not, cond, eqb, List, [], ◌∷◌, map, reverse, Option, Some, refl, sym, ap, subst, inl, inr, arith}
use Rattle.std.specs.Prelude.{◌&&◌, ◌||◌, filter, is_some}
use Rattle.std.specs.List.{AllByRecursion, list_all}
use Rattle.std.proofs.lemmas.Bool.{eqb-true, false≢true, true≢false}
use Rattle.std.proofs.lemmas.List.Folds.{list_all-map}
use Rattle.win_num.specs.declared.message.Hwnd.{Hwnd}
use Rattle.win_rows.proofs.Alls.{all_of_picked}
use Rattle.win_order.specs.Kept.{AllCameNew, IsKept, is_child}
use Rattle.win_order.specs.Layers.{Layers, goes_along_with, is_among, is_gone, kept, may_stay, siblings_of}
use Rattle.win_order.specs.Standing.{Standing}
use Rattle.win_order.proofs.Booleans.{all_one, and_left, and_right, any_over, filter_over, or_first, or_second, skip_all}
use Rattle.win_order.proofs.ChildLaws.{each_child}
use Rattle.win_order.proofs.KeptLaws.{kept_kept, nobody_stands, windows_gone, windows_left}
use Rattle.win_order.proofs.StandingLaws.{among, child_along, child_among}
use Rattle.user_model.specs.declared.entry.Entry.{Entry}
use Rattle.user_model.specs.Past.{Past}
use Rattle.user_model.specs.Windows.{Window, find_window, live, is_live, up}
use Rattle.user_model.specs.ZOrder.{hwnd, is_pinned, siblings, standing, standings, still_live}
use Rattle.user_model.proofs.Forests.{IsRising, IsUnder, all_both, all_by_number, find_filter, none_before, thread_found}
use Rattle.user_model.proofs.ListLaws.{filter_agree}
use Rattle.window_state.specs.Orders.{IsOrderAt}
use Rattle.window_state.proofs.Reversed.{all_rev, filter_rev, found_any, map_agree}
use Rattle.window_state.proofs.Standings.{found_out}

-- the numbers of windows
abbrev pub numbers : List Window → List Hwnd
numbers ws = map (λ x. hwnd x.number) ws

among_live : (ws : List Window) (w : ℕ) → is_among (numbers ws) w ≡ is_some (find_window ws w)
among_live ws w = any_over (λ (x : Window). hwnd x.number) (λ v. eqb v.0 w) ws ∙ sym (found_any (λ (x : Window). eqb x.number w) ws)

-- a number that isn't 0 goes exactly where it isn't a live window's any more
pub gone_is : (past : Past) (w : ℕ) → eqb w 0 ≡ false → is_gone (numbers (live past)) w ≡ not (is_live past w)
gone_is past w some = ap (λ b. not b && not (is_among (numbers (live past)) w)) some ∙ ap not (among_live (live past) w)

stays_is : (past : Past) (w : ℕ) → is_live past w ≡ true → is_gone (numbers (live past)) w ≡ false
stays_is past w here = pick (eqb w 0) refl
  where
    pick : (b : Bool) → eqb w 0 ≡ b → is_gone (numbers (live past)) w ≡ false
    pick true k = ap (λ b. not b && not (is_among (numbers (live past)) w)) k
    pick false k = gone_is past w k ∙ ap not here

-- ---- lists of which all pass

pub filter_alike : {X : Type 0} (r p q : X → Bool) → ((x : X) → r x ≡ true → p x ≡ q x) → (xs : List X) → list_all r xs ≡ true → filter p xs ≡ filter q xs
filter_alike r p q same [] all = refl
filter_alike r p q same (x ∷ xs) all =
    ap (λ b. cond b (x ∷ filter p xs) (filter p xs)) (same x (and_left (r x) (list_all r xs) all))
    ∙ ap (λ l. cond (q x) (x ∷ l) l) (filter_alike r p q same xs (and_rest (r x) (list_all r xs) all))
  where
    and_rest : (a b : Bool) → (a && b) ≡ true → b ≡ true
    and_rest true b h = h
    and_rest false b h = absurd (false≢true h)

pub all_by : {X : Type 0} (P : X → Type 0) (q : X → Bool) → ((x : X) → P x → q x ≡ true) → (xs : List X) → AllByRecursion P xs → list_all q xs ≡ true
all_by P q so [] h = refl
all_by P q so (x ∷ xs) h = ap (λ b. b && list_all q xs) (so x h.0) ∙ all_by P q so xs h.1

-- a window has no parent or no owner
abbrev is_alone_above : Standing → Bool
is_alone_above s = eqb s.owner.0 0 || eqb s.parent.0 0

owner_or_parent : (a b c : Bool) → (a || (b && c)) ≡ true → (a || b) ≡ true
owner_or_parent true b c h = refl
owner_or_parent false true c h = refl
owner_or_parent false false c h = absurd (false≢true h)

alone_above : (ss : List Standing) → AllCameNew ss → list_all is_alone_above ss ≡ true
alone_above [] n = refl
alone_above (s ∷ ss) n = ap (λ b. b && list_all is_alone_above ss) (owner_or_parent (eqb s.owner.0 0) (eqb s.parent.0 0) _ n.0.owner) ∙ alone_above ss n.1

both_by : {X : Type 0} (p q r : X → Bool) → ((x : X) → p x ≡ true → q x ≡ true → r x ≡ true) → (xs : List X) → list_all p xs ≡ true → list_all q xs ≡ true → list_all r xs ≡ true
both_by p q r so [] h k = refl
both_by p q r so (x ∷ xs) h k =
    ap (λ b. b && list_all r xs) (so x (and_left (p x) (list_all p xs) h) (and_left (q x) (list_all q xs) k))
    ∙ both_by p q r so xs (and_rest (p x) (list_all p xs) h) (and_rest (q x) (list_all q xs) k)
  where
    and_rest : (a b : Bool) → (a && b) ≡ true → b ≡ true
    and_rest true b g = g
    and_rest false b g = absurd (false≢true g)

-- ---- what goes

module _ (past : Past) (e : Entry) (p : Window → Bool) (from last : ℕ) (same : live (e ∷ past) ≡ filter p (live past)) (rising : IsRising from last (live past)) where
  -- who is left is live after the entry
  left_live : (x : Window) → find_window (live past) x.number ≡ Some x → is_live (e ∷ past) x.number ≡ p x
  left_live x found = pick (p x) refl
    where
      pick : (b : Bool) → p x ≡ b → is_live (e ∷ past) x.number ≡ p x
      pick true k = ap (λ (ws : List Window). is_some (find_window ws x.number)) same ∙ (ap (λ (o : Option Window). is_some o) (find_filter p (live past) x.number x found k) ∙ sym k)
      pick false k = ap (λ (ws : List Window). is_some (find_window ws x.number)) same ∙ (ap (λ (o : Option Window). is_some o) (found_out p from last (live past) x.number x rising found k) ∙ sym k)

  zero_apart : (x : Window) → find_window (live past) x.number ≡ Some x → eqb x.number 0 ≡ false
  zero_apart x found = pick (eqb x.number 0) refl
    where
      pick : (b : Bool) → eqb x.number 0 ≡ b → eqb x.number 0 ≡ false
      pick false k = k
      pick true k =
          let none = none_before from last (live past) x.number rising (omega (arith, eqb-true x.number 0 k)) in
          absurd cc

  left_numbers : (x : Window) → find_window (live past) x.number ≡ Some x → not (is_gone (numbers (live (e ∷ past))) x.number) ≡ p x
  left_numbers x found = ap not (gone_is (e ∷ past) x.number (zero_apart x found)) ∙ (not_twice (is_live (e ∷ past) x.number) ∙ left_live x found)
    where
      not_twice : (b : Bool) → not (not b) ≡ b
      not_twice true = refl
      not_twice false = refl

  -- what mending asks of those that are left
  pub standings_left : ((w : ℕ) → is_pinned (e ∷ past) w ≡ is_pinned past w) → standings (e ∷ past) ≡ filter (λ (s : Standing). not (is_gone (numbers (live (e ∷ past))) s.window.0)) (standings past)
  standings_left pinned =
      let gone = λ (w : ℕ). is_gone (numbers (live (e ∷ past))) w in
      ap (λ (ws : List Window). reverse (map (standing (e ∷ past)) ws)) same
      ∙ (ap reverse (map_agree (standing (e ∷ past)) (standing past) (λ x. Unit {0}) (λ x h. ap (λ (b : Bool). let s : Standing = record { window = hwnd x.number; parent = hwnd x.parent; owner = hwnd x.owner; topmost = b } in s) (pinned x.number)) (filter p (live past)) (every (filter p (live past))))
      ∙ (ap (λ (ws : List Window). reverse (map (standing past) ws)) (sym (filter_agree (λ (x : Window). find_window (live past) x.number ≡ Some x) (λ x. not (gone x.number)) p left_numbers (live past) (all_by_number from last (live past) rising)))
      ∙ (ap reverse (sym (filter_over (standing past) (λ (s : Standing). not (gone s.window.0)) (live past)))
      ∙ sym (filter_rev (λ (s : Standing). not (gone s.window.0)) (map (standing past) (live past))))))
    where
      every : (ws : List Window) → AllByRecursion (λ x. Unit {0}) ws
      every [] = tt
      every (x ∷ ws) = (tt, every ws)

  under_live : AllByRecursion (IsUnder (live (e ∷ past))) (live (e ∷ past)) → AllByRecursion (λ x. (find_window (live past) x.number ≡ Some x) × (p x ≡ true → IsUnder (live (e ∷ past)) x)) (live past)
  under_live under =
      all_both (λ (x : Window). find_window (live past) x.number ≡ Some x) (λ x. p x ≡ true → IsUnder (live (e ∷ past)) x) (live past) (all_by_number from last (live past) rising)
      (all_of_picked (IsUnder (live (e ∷ past))) p (live past) (subst (AllByRecursion (IsUnder (live (e ∷ past)))) same under))

  -- who stays has no parent or owner that goes
  along : (x : Window) → (find_window (live past) x.number ≡ Some x) × (p x ≡ true → IsUnder (live (e ∷ past)) x) → is_alone_above (standing past x) ≡ true → goes_along_with (numbers (live (e ∷ past))) (standing past x) ≡ true
  along x h lone = pick (p x) refl
    where
      ns : List Hwnd
      ns = numbers (live (e ∷ past))

      both : (a b : Bool) → a ≡ false → b ≡ false → (not a && not b) ≡ true
      both a b j k = ap (λ c. not c && not b) j ∙ ap not k

      other_zero : (a b : Bool) → a ≡ false → (b || a) ≡ true → b ≡ true
      other_zero true b j k = absurd (true≢false j)
      other_zero false true j k = refl
      other_zero false false j k = absurd (false≢true k)

      up_stays : IsUnder (live (e ∷ past)) x → is_gone ns (up x) ≡ false
      up_stays u = elim u [
        | inl none ↦ ap (is_gone ns) none
        | inr at ↦ stays_is (e ∷ past) (up x) (ap (λ (o : Option Window). is_some o) (thread_found (live (e ∷ past)) (up x) x.thread at).1)
      ]

      stays : IsUnder (live (e ∷ past)) x → (b : Bool) → eqb x.parent 0 ≡ b → (not (is_gone ns x.parent) && not (is_gone ns x.owner)) ≡ true
      stays u true k = both (is_gone ns x.parent) (is_gone ns x.owner) (ap (is_gone ns) (eqb-true x.parent 0 k)) (ap (λ b. is_gone ns (cond b x.owner x.parent)) (sym k) ∙ up_stays u)
      stays u false k = both (is_gone ns x.parent) (is_gone ns x.owner) (ap (λ b. is_gone ns (cond b x.owner x.parent)) (sym k) ∙ up_stays u) (ap (is_gone ns) (eqb-true x.owner 0 (other_zero (eqb x.parent 0) (eqb x.owner 0) k lone)))

      pick : (b : Bool) → p x ≡ b → goes_along_with ns (standing past x) ≡ true
      pick true k = or_second (is_gone ns x.number) (not (is_gone ns x.parent) && not (is_gone ns x.owner)) (stays (h.1 k) (eqb x.parent 0) refl)
      pick false k = or_first (is_gone ns x.number) (not (is_gone ns x.parent) && not (is_gone ns x.owner)) (not_not (is_gone ns x.number) (left_numbers x h.0 ∙ k))
        where
          not_not : (b : Bool) → not b ≡ false → b ≡ true
          not_not true g = refl
          not_not false g = absurd (true≢false g)

  pub may_stay_left : (z : Layers) → IsOrderAt past z → AllByRecursion (IsUnder (live (e ∷ past))) (live (e ∷ past)) → may_stay (numbers (live (e ∷ past))) z.standings ≡ true
  may_stay_left z at under =
      let lone : list_all (λ x. is_alone_above (standing past x)) (live past) ≡ true =
      sym (list_all-map is_alone_above (standing past) (live past)) ∙ (sym (all_rev is_alone_above (map (standing past) (live past))) ∙ (ap (list_all is_alone_above) (sym at.standings) ∙ alone_above z.standings at.kept.older)) in
      ap (list_all (goes_along_with (numbers (live (e ∷ past))))) at.standings
      ∙ (all_rev (goes_along_with (numbers (live (e ∷ past)))) (map (standing past) (live past))
      ∙ (list_all-map (goes_along_with (numbers (live (e ∷ past)))) (standing past) (live past)
      ∙ each (live past) (under_live under) lone))
    where
      each : (ws : List Window) → AllByRecursion (λ x. (find_window (live past) x.number ≡ Some x) × (p x ≡ true → IsUnder (live (e ∷ past)) x)) ws → list_all (λ x. is_alone_above (standing past x)) ws ≡ true → list_all (λ x. goes_along_with (numbers (live (e ∷ past))) (standing past x)) ws ≡ true
      each [] h k = refl
      each (x ∷ ws) h k =
          ap (λ b. b && list_all (λ y. goes_along_with (numbers (live (e ∷ past))) (standing past y)) ws) (along x h.0 (and_left (is_alone_above (standing past x)) (list_all (λ y. is_alone_above (standing past y)) ws) k))
          ∙ each ws h.1 (and_right (is_alone_above (standing past x)) (list_all (λ y. is_alone_above (standing past y)) ws) k)

  child_apart : (z : Layers) (q : ℕ) (v : Hwnd) → IsKept z → is_child v.0 q z.standings ≡ true → eqb v.0 0 ≡ false
  child_apart z q v k child = pick (eqb v.0 0) refl
    where
      pick : (b : Bool) → eqb v.0 0 ≡ b → eqb v.0 0 ≡ false
      pick false h = h
      pick true h = absurd (false≢true (sym (nobody_stands z.standings k.older) ∙ (ap (λ n. among n z.standings) (sym (eqb-true v.0 0 h)) ∙ child_among v.0 q z.standings child)))

  -- the list of a parent
  pub siblings_left : (z : Layers) → IsOrderAt past z → may_stay (numbers (live (e ∷ past))) z.standings ≡ true → (q : ℕ) → siblings_of q (kept (numbers (live (e ∷ past))) z) ≡ still_live (e ∷ past) (siblings past q)
  siblings_left z at stay q = pick (gone q) refl
    where
      gone : ℕ → Bool
      gone w = is_gone (numbers (live (e ∷ past))) w

      not_twice : (b : Bool) → not (not b) ≡ b
      not_twice true = refl
      not_twice false = refl

      agree : (v : Hwnd) → is_child v.0 q z.standings ≡ true → not (gone v.0) ≡ is_live (e ∷ past) v.0
      agree v child = ap not (gone_is (e ∷ past) v.0 (child_apart z q v at.kept child)) ∙ not_twice (is_live (e ∷ past) v.0)

      dead : gone q ≡ true → (v : Hwnd) → is_child v.0 q z.standings ≡ true → not (is_live (e ∷ past) v.0) ≡ true
      dead goes v child = by (gone v.0) refl
        where
          by : (b : Bool) → gone v.0 ≡ b → not (is_live (e ∷ past) v.0) ≡ true
          by true g = ap not (sym (agree v child)) ∙ (not_twice (gone v.0) ∙ g)
          by false g = absurd (false≢true (sym (child_along gone z.standings v.0 q stay goes g) ∙ child))

      pick : (b : Bool) → gone q ≡ b → siblings_of q (kept (numbers (live (e ∷ past))) z) ≡ still_live (e ∷ past) (siblings past q)
      pick false k =
          windows_left gone z.families q k
          ∙ (filter_alike (λ (v : Hwnd). is_child v.0 q z.standings) (λ v. not (gone v.0)) (λ v. is_live (e ∷ past) v.0) agree (siblings_of q z) (each_child z at.kept q)
          ∙ ap (still_live (e ∷ past)) (at.lists q))
      pick true k =
          windows_gone gone z.families q k
          ∙ (sym (skip_all (λ (v : Hwnd). is_live (e ∷ past) v.0) (siblings_of q z) (all_one (λ (v : Hwnd). is_child v.0 q z.standings) (λ v. not (is_live (e ∷ past) v.0)) (dead k) (siblings_of q z) (each_child z at.kept q)))
          ∙ ap (still_live (e ∷ past)) (at.lists q))

  -- the order with those alone that are live still
  pub order_left : (z : Layers) → IsOrderAt past z → AllByRecursion (IsUnder (live (e ∷ past))) (live (e ∷ past)) → ((w : ℕ) → is_pinned (e ∷ past) w ≡ is_pinned past w) → ((q : ℕ) → siblings (e ∷ past) q ≡ still_live (e ∷ past) (siblings past q))
      → IsOrderAt (e ∷ past) (kept (numbers (live (e ∷ past))) z)
  order_left z at under pinned lists =
      let stay = may_stay_left z at under in
      record {
        standings = ap (filter (λ (s : Standing). not (is_gone (numbers (live (e ∷ past))) s.window.0))) at.standings ∙ sym (standings_left pinned);
        lists = λ q. siblings_left z at stay q ∙ sym (lists q);
        kept = kept_kept (numbers (live (e ∷ past))) z at.kept stay;
      }
