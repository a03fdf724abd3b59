-- An order with a new window.
use Rattle.std.proofs.Common.{◌≡◌, ◌∙◌, ℕ, ◌+◌, Bool, true, false, not, cond, eqb, List, [], ◌∷◌, ◌++◌, map, reverse, length, Option, Some, None, refl, sym, ap, subst, inl, inr, arith}
use Rattle.std.specs.Prelude.{◌&&◌, ◌||◌, ℤ, is_some, option_map, unwrap_or}
use Rattle.std.proofs.lemmas.Bool.{eqb-true, eqb-false, eq-eqb, ne_eqb, true≢false}
use Rattle.std.proofs.lemmas.List.{map-append}
use Rattle.win_num.specs.declared.message.Hwnd.{Hwnd}
use Rattle.win_num.specs.declared.message.Thread.{Thread}
use Rattle.win_num.specs.declared.names.TheConstants.{WS_CHILD, WS_EX_TOPMOST}
use Rattle.win_order.specs.declared.after.After.TheVariants.{Top}
use Rattle.win_order.specs.Families.{put, windows_of}
use Rattle.win_order.specs.Kept.{is_child}
use Rattle.win_order.specs.Layers.{IsNew, Layers, inserted, settled, siblings_of, stands, stands_on_top}
use Rattle.win_order.specs.Standing.{Standing}
use Rattle.win_order.proofs.Booleans.{or_first, or_second}
use Rattle.win_order.proofs.KeptLaws.{inserted_kept, windows_else, windows_same}
use Rattle.user_model.specs.declared.call.Call.TheVariants as calls
use Rattle.user_model.specs.declared.entry.Answer.TheVariants as answers
use Rattle.user_model.specs.declared.entry.Entry.{Entry}
use Rattle.user_model.specs.declared.entry.Setup.{Setup}
use Rattle.user_model.specs.Past.{Past}
use Rattle.user_model.specs.Idle.{reply}
use Rattle.user_model.specs.Legal.{IsLawful}
use Rattle.user_model.specs.Looks.{Look}
use Rattle.user_model.specs.Machines.{entry_of}
use Rattle.user_model.specs.Windows.{Window, find_window, has_flag, live, window, is_live, parent_in, up, top_of, windows_made}
use Rattle.user_model.specs.ZOrder.{arranged, hwnd, is_pinned, siblings, standing, standings}
use Rattle.user_model.proofs.Forests.{IsBetween, IsUnder, all_between, thread_found, top_has_none}
use Rattle.user_model.proofs.LiveWindows.{IsSound, live-new, new_under, new_window, sound}
use Rattle.user_model.proofs.WindowFacts.{not_made}
use Rattle.user_model.proofs.WindowLooks.{look-new, look-other}
use Rattle.user_model.proofs.WindowReplies.{IsNewWindow, new_window_told}
use Rattle.window_state.specs.Orders.{IsOrderAt}
use Rattle.window_state.proofs.Reversed.{map_agree, rev_more}
use Rattle.window_state.proofs.Standings.{child_at, parent_found, stands_at}

found_last : (ws : List Window) (w : ℕ) (x : Window) → find_window ws w ≡ None → eqb x.number w ≡ true → find_window (ws ++ x ∷ []) w ≡ Some x
found_last [] w x none is = ap (λ b. cond b (Some x) None) is
found_last (y ∷ ws) w x none is = pick (found_last ws w x) (eqb y.number w) none
  where
    pick : (find_window ws w ≡ None → eqb x.number w ≡ true → find_window (ws ++ x ∷ []) w ≡ Some x) → (b : Bool) → cond b (Some y) (find_window ws w) ≡ None → cond b (Some y) (find_window (ws ++ x ∷ []) w) ≡ Some x
    pick rest true k = absurd cc
    pick rest false k = rest k is

module _ (setup : Setup) (past : Past) (who : Thread) (name title parent style ex : ℕ) (l t r b : ℤ) (w : Hwnd) (z : Layers) (lawful : IsLawful setup past) (right : reply setup past who.0 (calls.NewWindow name title parent style ex l t r b) ≡ answers.Window w) (at : IsOrderAt past z) where
  -- the entry and the window that it makes
  abbrev pub e : Entry
  e = entry_of who (calls.NewWindow name title parent style ex l t r b) (answers.Window w)

  abbrev pub x : Window
  x = new_window who name title parent style ex l t r b w (live past)

  told : IsNewWindow setup past who.0 name parent style ex l t r b w
  told = new_window_told setup past who.0 name title parent style ex l t r b w right

  good : IsSound setup past
  good = sound setup past lawful

  number : w.0 ≡ 16 + length (windows_made past)
  number = ap (λ (v : Hwnd). v.0) told.is_next

  under : IsUnder (live past) x
  under = new_under setup past who name title parent style ex l t r b w good.under told

  not_live : window past w.0 ≡ None
  not_live = not_made setup past w.0 lawful (omega (arith, number))

  up_lives : IsUnder (live past) x → eqb (up x) 0 ≡ false → is_live past (up x) ≡ true
  up_lives u some = elim u [
    | inl none ↦ absurd (eqb-false (up x) 0 some none)
    | inr there ↦ ap (λ (o : Option Window). is_some o) (thread_found (live past) (up x) x.thread there).1
  ]

  new_parent : (b : Bool) → eqb x.parent 0 ≡ b → (eqb x.parent 0 || stands x.parent z) ≡ true
  new_parent true k = or_first (eqb x.parent 0) (stands x.parent z) k
  new_parent false k =
      let over : up x ≡ x.parent = ap (λ c. cond c x.owner x.parent) k in
      or_second (eqb x.parent 0) (stands x.parent z) (stands_at past z at x.parent ∙ (ap (is_live past) (sym over) ∙ up_lives under (ap (λ n. eqb n 0) over ∙ k)))

  owner_top : eqb (top_of (live past) parent) 0 ≡ false → IsUnder (live past) x → up x ≡ top_of (live past) parent → stands_on_top (top_of (live past) parent) z ≡ true
  owner_top some u over = elim u [
    | inl none ↦ absurd (eqb-false (top_of (live past) parent) 0 some (sym over ∙ none))
    | inr there ↦
        let found = thread_found (live past) (up x) x.thread there in
        let here : window past (top_of (live past) parent) ≡ Some found.0 = ap (find_window (live past)) (sym over) ∙ found.1 in
        let none : (found.0).parent ≡ 0 = sym (parent_found past (top_of (live past) parent) found.0 here) ∙ top_has_none 15 (15 + length (windows_made past)) (live past) good.rising parent parent (omega arith) in
        subst (λ n. is_child (top_of (live past) parent) n z.standings ≡ true) none (child_at past z at (top_of (live past) parent) found.0 here)
  ]

  new_owner : (child : Bool) → has_flag style WS_CHILD ≡ child → (c : Bool) → eqb x.owner 0 ≡ c → (eqb x.owner 0 || (eqb x.parent 0 && stands_on_top x.owner z)) ≡ true
  new_owner child k true is = or_first (eqb x.owner 0) (eqb x.parent 0 && stands_on_top x.owner z) is
  new_owner true k false is = absurd (true≢false (sym (ap (λ c. eqb (cond c 0 (top_of (live past) parent)) 0) k) ∙ is))
  new_owner false k false is =
      let owned : x.owner ≡ top_of (live past) parent = ap (λ c. cond c 0 (top_of (live past) parent)) k in
      let top : eqb x.parent 0 ≡ true = ap (λ c. eqb (cond c parent 0) 0) k in
      let over : up x ≡ top_of (live past) parent = ap (λ c. cond c x.owner x.parent) top ∙ owned in
      or_second (eqb x.owner 0) (eqb x.parent 0 && stands_on_top x.owner z)
      (ap (λ c. c && stands_on_top x.owner z) top ∙ (ap (λ n. stands_on_top n z) owned ∙ owner_top (ap (λ n. eqb n 0) (sym owned) ∙ is) under over))

  -- the window comes new to the order
  pub new_fits : IsNew x.number x.parent x.owner z
  new_fits = record {
    window = ap not (ne_eqb w.0 0 (λ k. omega (arith, k, number)));
    fresh = ap not (stands_at past z at w.0 ∙ ap (λ (o : Option Window). is_some o) not_live);
    parent = new_parent (eqb x.parent 0) refl;
    owner = new_owner (has_flag style WS_CHILD) refl (eqb x.owner 0) refl;
  }

  others_pinned : (y : Window) → IsBetween 15 (15 + length (windows_made past)) y → standing (e ∷ past) y ≡ standing past y
  others_pinned y between =
      let other : eqb w.0 y.number ≡ false = (let h = between.within in ne_eqb w.0 y.number (λ k. omega (arith, h, k, number))) in
      ap (λ (k : Look). let s : Standing = record { window = hwnd y.number; parent = hwnd y.parent; owner = hwnd y.owner; topmost = eqb k.ex WS_EX_TOPMOST } in s) (look-other past who name title parent style ex l t r b w y.number other)

  -- what mending asks of all
  pub standings_made : standings (e ∷ past) ≡ standing (e ∷ past) x ∷ standings past
  standings_made =
      ap (λ (ws : List Window). reverse (map (standing (e ∷ past)) ws)) (live-new past who name title parent style ex l t r b w)
      ∙ (ap reverse (map-append (standing (e ∷ past)) (live past) (x ∷ []))
      ∙ (rev_more (map (standing (e ∷ past)) (live past)) (standing (e ∷ past) x)
      ∙ ap (λ (ws : List Standing). standing (e ∷ past) x ∷ reverse ws) (map_agree (standing (e ∷ past)) (standing past) (IsBetween 15 (15 + length (windows_made past))) others_pinned (live past) (all_between 15 (15 + length (windows_made past)) (live past) good.rising))))

  -- its own topmost flag
  pub made_pinned : is_pinned (e ∷ past) w.0 ≡ eqb ex WS_EX_TOPMOST
  made_pinned = ap (λ (k : Look). eqb k.ex WS_EX_TOPMOST) (look-new past who name title parent style ex l t r b w w.0 (eq-eqb w.0 w.0 refl))

  made_parent : parent_in (live (e ∷ past)) w.0 ≡ x.parent
  made_parent =
      ap (λ (ws : List Window). parent_in ws w.0) (live-new past who name title parent style ex l t r b w)
      ∙ ap (λ (o : Option Window). unwrap_or (option_map (λ (y : Window). y.parent) o) 0) (found_last (live past) w.0 x not_live (eq-eqb w.0 w.0 refl))

  -- the lists
  siblings_made : (q : ℕ) → siblings_of q (inserted (hwnd x.number) (hwnd x.parent) (hwnd x.owner) (is_pinned (e ∷ past) w.0) z) ≡ siblings (e ∷ past) q
  siblings_made q =
      let same : standing (e ∷ past) x ∷ z.standings ≡ standings (e ∷ past) = ap (λ (us : List Standing). standing (e ∷ past) x ∷ us) at.standings ∙ sym standings_made in
      pick (eqb x.parent q) refl same
    where
      pick : (b : Bool) → eqb x.parent q ≡ b → standing (e ∷ past) x ∷ z.standings ≡ standings (e ∷ past) → siblings_of q (inserted (hwnd x.number) (hwnd x.parent) (hwnd x.owner) (is_pinned (e ∷ past) w.0) z) ≡ siblings (e ∷ past) q
      pick true k same =
          let par : x.parent ≡ q = eqb-true x.parent q k in
          ap (λ n. siblings_of n (inserted (hwnd x.number) (hwnd x.parent) (hwnd x.owner) (is_pinned (e ∷ past) w.0) z)) (sym par)
          ∙ (windows_same (hwnd x.parent) (settled (standing (e ∷ past) x ∷ z.standings) x.parent (put Top (hwnd x.number) (windows_of z.families x.parent))) z.families
          ∙ (ap (λ (us : List Standing). settled us x.parent (put Top (hwnd x.number) (windows_of z.families x.parent))) same
          ∙ (ap (λ (us : List Hwnd). settled (standings (e ∷ past)) x.parent (put Top (hwnd x.number) us)) (at.lists x.parent)
          ∙ (ap (λ n. arranged (e ∷ past) Top w.0 n (siblings past n)) par
          ∙ ap (λ c. cond c (arranged (e ∷ past) Top w.0 q (siblings past q)) (siblings past q)) (sym (ap (λ n. eqb n q) made_parent ∙ k))))))
      pick false k same =
          windows_else (hwnd x.parent) (settled (standing (e ∷ past) x ∷ z.standings) x.parent (put Top (hwnd x.number) (windows_of z.families x.parent))) z.families q k
          ∙ (at.lists q
          ∙ ap (λ c. cond c (arranged (e ∷ past) Top w.0 q (siblings past q)) (siblings past q)) (sym (ap (λ n. eqb n q) made_parent ∙ k)))

  -- the order with it
  pub order_made : IsOrderAt (e ∷ past) (inserted (hwnd x.number) (hwnd x.parent) (hwnd x.owner) (is_pinned (e ∷ past) w.0) z)
  order_made = record {
    standings = ap (λ (us : List Standing). standing (e ∷ past) x ∷ us) at.standings ∙ sym standings_made;
    lists = siblings_made;
    kept = inserted_kept (hwnd x.number) (hwnd x.parent) (hwnd x.owner) (is_pinned (e ∷ past) w.0) z at.kept new_fits;
  }
