-- An order after a window was placed.
use Rattle.std.proofs.Common.{◌≡◌, ◌∙◌, ℕ, zero, suc, Bool, true, false, not, cond, eqb, List, [], ◌∷◌, map, reverse, Some, refl, sym, ap}
use Rattle.std.specs.Prelude.{◌&&◌, ℤ, pos, negsuc}
use Rattle.std.specs.List.{AllByRecursion, list_any}
use Rattle.std.proofs.lemmas.Bool.{eqb-true, false≢true, true≢false}
use Rattle.win_num.specs.PixelSets.{box}
use Rattle.win_num.specs.declared.message.Hwnd.{Hwnd}
use Rattle.win_num.specs.declared.message.Thread.{Thread}
use Rattle.win_num.specs.declared.names.TheConstants.{SWP_NOZORDER, WS_EX_TOPMOST}
use Rattle.win_order.specs.Families.{put, windows_of}
use Rattle.win_order.specs.Layers.{Layers, has_place, placed as put_at, settled, siblings_of}
use Rattle.win_order.specs.Standing.{Standing}
use Rattle.win_order.specs.Standings.{flagged, parent_of, pinned as flags_set}
use Rattle.win_order.proofs.Booleans.{and_left, and_right}
use Rattle.win_order.proofs.KeptLaws.{placed_kept, windows_else, windows_same}
use Rattle.user_model.specs.declared.call.Call.TheVariants as calls
use Rattle.user_model.specs.declared.entry.Answer.TheVariants as answers
use Rattle.user_model.specs.declared.entry.Entry.{Entry}
use Rattle.user_model.specs.declared.entry.Setup.{Setup}
use Rattle.user_model.specs.Past.{Past}
use Rattle.user_model.specs.Idle.{reply}
use Rattle.user_model.specs.Looks.{Look, look, pinned, placed}
use Rattle.user_model.specs.Machines.{entry_of}
use Rattle.user_model.specs.ReplyWindows.{is_order, is_sibling}
use Rattle.user_model.specs.Windows.{Window, has_flag, live, window, is_live, parent_in}
use Rattle.user_model.specs.ZOrder.{after_of, arranged, hwnd, is_pinned, siblings, standing, standings}
use Rattle.user_model.proofs.WindowFacts.{live_window}
use Rattle.user_model.proofs.WindowLaws.{live-same}
use Rattle.user_model.proofs.WindowReplies.{IsPlaced, place_told}
use Rattle.window_state.specs.Orders.{IsOrderAt}
use Rattle.window_state.proofs.Reversed.{map_agree, map_rev}
use Rattle.window_state.proofs.Standings.{listed_at, parent_at, parent_found, stands_at}
use Rattle.window_state.proofs.TreeLaws.{eqb_swap}

every : {X : Type 0} (xs : List X) → AllByRecursion (λ x. Unit {0}) xs
every [] = tt
every (x ∷ xs) = (tt, every xs)

pub map_twice : {X Y Z : Type 0} (f : X → Y) (g : Y → Z) (xs : List X) → map g (map f xs) ≡ map (λ x. g (f x)) xs
map_twice f g [] = refl
map_twice f g (x ∷ xs) = ap (λ l. g (f x) ∷ l) (map_twice f g xs)

abbrev standing_of : (y : Window) (b : Bool) → Standing
standing_of y b = record { window = hwnd y.number; parent = hwnd y.parent; owner = hwnd y.owner; topmost = b }

-- entries that drop no window, make none and set no flag leave what mending asks
pub standings_same : (past : Past) (e : Entry) → live (e ∷ past) ≡ live past → ((v : ℕ) → is_pinned (e ∷ past) v ≡ is_pinned past v) → standings (e ∷ past) ≡ standings past
standings_same past e same pins =
    ap (λ (ws : List Window). reverse (map (standing (e ∷ past)) ws)) same
    ∙ ap reverse (map_agree (standing (e ∷ past)) (standing past) (λ x. Unit {0}) (λ x h. ap (standing_of x) (pins x.number)) (live past) (every (live past)))

-- entries that set the flag of one window
standings_flagged : (past : Past) (e : Entry) (w : ℕ) (flag : Bool) → live (e ∷ past) ≡ live past → ((v : ℕ) → is_pinned (e ∷ past) v ≡ cond (eqb v w) flag (is_pinned past v)) → standings (e ∷ past) ≡ map (flagged w flag) (standings past)
standings_flagged past e w flag same pins =
    ap (λ (ws : List Window). reverse (map (standing (e ∷ past)) ws)) same
    ∙ (ap reverse (map_agree (standing (e ∷ past)) (λ y. flagged w flag (standing past y)) (λ x. Unit {0}) (λ x h. one x) (live past) (every (live past)) ∙ sym (map_twice (standing past) (flagged w flag) (live past)))
    ∙ sym (map_rev (flagged w flag) (map (standing past) (live past))))
  where
    one : (x : Window) → standing (e ∷ past) x ≡ flagged w flag (standing past x)
    one x = ap (standing_of x) (pins x.number) ∙ by (eqb x.number w)
      where
        by : (b : Bool) → standing_of x (cond b flag (is_pinned past x.number)) ≡ cond b (standing_of x flag) (standing past x)
        by true = refl
        by false = refl

module _ (setup : Setup) (past : Past) (who : Thread) (w : ℕ) (after l t r b : ℤ) (flags n : ℕ) (z : Layers) (right : reply setup past who.0 (calls.Place w after l t r b flags) ≡ answers.Value n) (at : IsOrderAt past z) where
  abbrev pub e : Entry
  e = entry_of who (calls.Place w after l t r b flags) (answers.Value n)

  told : IsPlaced past w after l t r b flags
  told = place_told setup past who.0 w after l t r b flags n right

  same : live (e ∷ past) ≡ live past
  same = live-same e past refl (λ x. refl)

  found : (x : Window) × (window past w ≡ Some x)
  found = live_window past w told.lives

  abbrev ex_of_placed : Look → ℕ
  ex_of_placed old = cond (has_flag flags SWP_NOZORDER) old.ex (pinned after old.ex)

  pins_are : (v : ℕ) → is_pinned (e ∷ past) v ≡ cond (eqb w v) (eqb (ex_of_placed (look past v)) WS_EX_TOPMOST) (is_pinned past v)
  pins_are v = by (eqb w v)
    where
      by : (c : Bool) → eqb (cond c (placed flags after (box l t r b) (look past v)) (look past v)).ex WS_EX_TOPMOST ≡ cond c (eqb (ex_of_placed (look past v)) WS_EX_TOPMOST) (eqb (look past v).ex WS_EX_TOPMOST)
      by true = refl
      by false = refl

  stay_by : (v : ℕ) → ex_of_placed (look past v) ≡ (look past v).ex → is_pinned (e ∷ past) v ≡ is_pinned past v
  stay_by v keeps = pins_are v ∙ by (eqb w v)
    where
      by : (c : Bool) → cond c (eqb (ex_of_placed (look past v)) WS_EX_TOPMOST) (is_pinned past v) ≡ is_pinned past v
      by true = ap (λ k. eqb k WS_EX_TOPMOST) keeps
      by false = refl

  -- where the flags keep the order, it stays
  pub order_stays : has_flag flags SWP_NOZORDER ≡ true → IsOrderAt (e ∷ past) z
  order_stays keeps = record {
    standings = at.standings ∙ sym (standings_same past e same (λ v. stay_by v (ap (λ c. cond c (look past v).ex (pinned after (look past v).ex)) keeps)));
    lists = λ q. at.lists q ∙ ap (λ c. cond c (arranged (e ∷ past) (after_of after) w q (siblings past q)) (siblings past q)) (sym (never (eqb (parent_in (live (e ∷ past)) w) q)));
    kept = at.kept;
  }
    where
      never : (c : Bool) → (c && not (has_flag flags SWP_NOZORDER)) ≡ false
      never true = ap not keeps
      never false = refl

  -- the flags that are set
  flags_after : has_flag flags SWP_NOZORDER ≡ false → (m : ℤ) → m ≡ after → standings (e ∷ past) ≡ flags_set (after_of m) w (standings past)
  flags_after moves (pos zero) is = standings_same past e same (λ v. stay_by v (ap (λ c. cond c (look past v).ex (pinned after (look past v).ex)) moves ∙ ap (λ k. pinned k (look past v).ex) (sym is)))
  flags_after moves (pos (suc zero)) is = standings_same past e same (λ v. stay_by v (ap (λ c. cond c (look past v).ex (pinned after (look past v).ex)) moves ∙ ap (λ k. pinned k (look past v).ex) (sym is)))
  flags_after moves (pos (suc (suc m))) is = standings_same past e same (λ v. stay_by v (ap (λ c. cond c (look past v).ex (pinned after (look past v).ex)) moves ∙ ap (λ k. pinned k (look past v).ex) (sym is)))
  flags_after moves (negsuc (suc (suc m))) is = standings_same past e same (λ v. stay_by v (ap (λ c. cond c (look past v).ex (pinned after (look past v).ex)) moves ∙ ap (λ k. pinned k (look past v).ex) (sym is)))
  flags_after moves (negsuc zero) is =
      standings_flagged past e w true same (λ v. pins_are v ∙ (ap (λ k. cond (eqb w v) (eqb k WS_EX_TOPMOST) (is_pinned past v)) (ap (λ c. cond c (look past v).ex (pinned after (look past v).ex)) moves ∙ ap (λ k. pinned k (look past v).ex) (sym is)) ∙ ap (λ c. cond c true (is_pinned past v)) (eqb_swap w v)))
  flags_after moves (negsuc (suc zero)) is =
      standings_flagged past e w false same (λ v. pins_are v ∙ (ap (λ k. cond (eqb w v) (eqb k WS_EX_TOPMOST) (is_pinned past v)) (ap (λ c. cond c (look past v).ex (pinned after (look past v).ex)) moves ∙ ap (λ k. pinned k (look past v).ex) (sym is)) ∙ ap (λ c. cond c false (is_pinned past v)) (eqb_swap w v)))

  good_order : has_flag flags SWP_NOZORDER ≡ false → is_order past w after ≡ true
  good_order moves = by (has_flag flags SWP_NOZORDER) (is_live past w) (is_order past w after) moves told.lives told.good_order
    where
      by : (f h o : Bool) → f ≡ false → h ≡ true → (not f && (h && not o)) ≡ false → o ≡ true
      by true h o j k g = absurd (true≢false j)
      by false false o j k g = absurd (false≢true k)
      by false true true j k g = refl
      by false true false j k g = absurd (true≢false g)

  -- the place among its siblings is one
  pub place_fits : has_flag flags SWP_NOZORDER ≡ false → (m : ℤ) → m ≡ after → has_place w (after_of m) z ≡ true
  place_fits moves (pos zero) is = refl
  place_fits moves (pos (suc zero)) is = refl
  place_fits moves (negsuc zero) is = refl
  place_fits moves (negsuc (suc zero)) is = refl
  place_fits moves (negsuc (suc (suc m))) is = refl
  place_fits moves (pos (suc (suc m))) is =
      let v = suc (suc m) in
      let sibling : is_sibling past w v ≡ true = ap (is_order past w) is ∙ good_order moves in
      let both = and_right (is_live past v) (eqb (parent_in (live past) v) (parent_in (live past) w) && not (eqb v w)) sibling in
      let other = live_window past v (and_left (is_live past v) (eqb (parent_in (live past) v) (parent_in (live past) w) && not (eqb v w)) sibling) in
      let parents : parent_in (live past) v ≡ parent_in (live past) w = eqb-true (parent_in (live past) v) (parent_in (live past) w) (and_left (eqb (parent_in (live past) v) (parent_in (live past) w)) (not (eqb v w)) both) in
      let up : (other.0).parent ≡ (parent_of z.standings w).0 = sym (parent_found past v other.0 other.1) ∙ (parents ∙ (parent_found past w found.0 found.1 ∙ sym (parent_at past z at w found.0 found.1))) in
      ap (λ c. c && list_any (λ (u : Hwnd). eqb u.0 v) (siblings_of (parent_of z.standings w).0 z)) (and_right (eqb (parent_in (live past) v) (parent_in (live past) w)) (not (eqb v w)) both)
      ∙ (ap (λ q. list_any (λ (u : Hwnd). eqb u.0 v) (siblings_of q z)) (sym up) ∙ listed_at past z at v other.0 other.1)

  -- the lists
  lists_moved : has_flag flags SWP_NOZORDER ≡ false → flags_set (after_of after) w z.standings ≡ standings (e ∷ past) → (q : ℕ) (c : Bool) → eqb (parent_of z.standings w).0 q ≡ c → siblings_of q (put_at (hwnd w) (after_of after) z) ≡ siblings (e ∷ past) q
  lists_moved moves set q true k =
      let par = parent_of z.standings w in
      let here : par.0 ≡ q = eqb-true par.0 q k in
      let goes : (eqb (parent_in (live (e ∷ past)) w) q && not (has_flag flags SWP_NOZORDER)) ≡ true =
      ap (λ c. eqb (parent_in (live (e ∷ past)) w) q && not c) moves ∙ (and_yes (eqb (parent_in (live (e ∷ past)) w) q) ∙ (ap (λ ws. eqb (parent_in ws w) q) same ∙ (ap (λ p. eqb p q) (parent_found past w found.0 found.1 ∙ sym (parent_at past z at w found.0 found.1)) ∙ k))) in
      ap (λ p. siblings_of p (put_at (hwnd w) (after_of after) z)) (sym here)
      ∙ (windows_same par (settled (flags_set (after_of after) w z.standings) par.0 (put (after_of after) (hwnd w) (windows_of z.families par.0))) z.families
      ∙ (ap (λ (us : List Standing). settled us par.0 (put (after_of after) (hwnd w) (windows_of z.families par.0))) set
      ∙ (ap (λ (us : List Hwnd). settled (standings (e ∷ past)) par.0 (put (after_of after) (hwnd w) us)) (at.lists par.0)
      ∙ (ap (λ p. arranged (e ∷ past) (after_of after) w p (siblings past p)) here
      ∙ ap (λ c. cond c (arranged (e ∷ past) (after_of after) w q (siblings past q)) (siblings past q)) (sym goes)))))
    where
      and_yes : (c : Bool) → (c && not false) ≡ c
      and_yes true = refl
      and_yes false = refl
  lists_moved moves set q false k =
      let par = parent_of z.standings w in
      let stays : (eqb (parent_in (live (e ∷ past)) w) q && not (has_flag flags SWP_NOZORDER)) ≡ false =
      ap (λ c. c && not (has_flag flags SWP_NOZORDER)) (ap (λ ws. eqb (parent_in ws w) q) same ∙ (ap (λ p. eqb p q) (parent_found past w found.0 found.1 ∙ sym (parent_at past z at w found.0 found.1)) ∙ k)) in
      windows_else par (settled (flags_set (after_of after) w z.standings) par.0 (put (after_of after) (hwnd w) (windows_of z.families par.0))) z.families q k
      ∙ (at.lists q
      ∙ ap (λ c. cond c (arranged (e ∷ past) (after_of after) w q (siblings past q)) (siblings past q)) (sym stays))

  -- the order with the window at its new place
  pub order_moved : has_flag flags SWP_NOZORDER ≡ false → IsOrderAt (e ∷ past) (put_at (hwnd w) (after_of after) z)
  order_moved moves =
      let set : flags_set (after_of after) w z.standings ≡ standings (e ∷ past) = ap (flags_set (after_of after) w) at.standings ∙ sym (flags_after moves after refl) in
      record {
        standings = set;
        lists = λ q. lists_moved moves set q (eqb (parent_of z.standings w).0 q) refl;
        kept = placed_kept (hwnd w) (after_of after) z at.kept (record { window = stands_at past z at w ∙ told.lives; sibling = place_fits moves after refl });
      }
