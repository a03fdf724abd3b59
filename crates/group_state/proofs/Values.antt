-- What is looked up is what the past says.
use Rattle.std.proofs.Common.{◌≡◌, ◌↔◌, ◌⊎◌, ℕ, ◌<◌, ◌≤◌, Bool, true, false, cond, eqb, List, Option, Some, None, get_or, refl, ap, ◌∙◌, sym, inl, inr, arith}
use Rattle.std.specs.Prelude.{◌&&◌, is_some, nat_lt, option_map, unwrap_or}
use Rattle.std.specs.Int.{bit_at}
use Rattle.std.proofs.lemmas.Bool.{lt-ltb}
use Rattle.win_num.specs.declared.message.Thread.{Thread}
use Rattle.win_rows.specs.declared.window.Window.{Window as KeptWindow}
use Rattle.win_rows.specs.Windows as rows
use Rattle.win_rows.specs.Windows.{Windows}
use Rattle.input_state.specs.declared.state.Slot.{Slot}
use Rattle.input_state.specs.Groups.{Joins, Reaches, has_bit}
use Rattle.input_state.specs.State.{cell, group_of, is_down, latest_below, row_number, window_of}
use Rattle.user_model.specs.declared.entry.Setup.{Setup}
use Rattle.user_model.specs.Past.{Past}
use Rattle.user_model.specs.Windows.{Window, find_window, is_live, thread_of, window}
use Rattle.user_model.specs.Focus.{last_set, value_of}
use Rattle.user_model.specs.Groups.{are_attached, is_in_group}
use Rattle.user_model.specs.Keys.{is_key_down}
use Rattle.user_model.specs.Legal.{IsLawful}
use Rattle.user_model.specs.ZOrder.{hwnd}
use Rattle.user_model.proofs.GroupThreads.{running_is_thread}
use Rattle.user_model.proofs.WindowFacts.{live_running}
use Rattle.window_state.specs.Trees.{IsTreeAt, as_made}
use Rattle.window_state.proofs.Bridges.{window_made}
use Rattle.group_state.specs.GroupTables.{IsGroupsAt, Kept, key_order_of, named, order_of}
use Rattle.group_state.specs.Steps.{holds_in}
use Rattle.group_state.proofs.LastSettings.{best, best_less, best_same, last_teller, latest_is, teller}
use Rattle.group_state.proofs.Setters.{key_in, setters_known, setting_in, takers_known}
use Rattle.group_state.proofs.Reaching.{HasLinks, attached_bounds, group_is, thread_bounds}

-- ---- a window of a group

-- a live window of the table, as the past has it
found_at : (past : Past) (t : Windows) (w : ℕ) → IsTreeAt past t → window past w ≡ option_map as_made (rows.window_of t.live w)
found_at past t w at = ap (λ (ws : List Window). find_window ws w) (sym at.windows) ∙ window_made t.live w

module _ (setup : Setup) (past : Past) (t : Windows) (g : Kept) (lawful : IsLawful setup past) (at : IsTreeAt past t) (groups : IsGroupsAt setup past g) (who : ℕ) (mask : ℕ) (members : (u : ℕ) → u < 16 → (bit_at mask u ≡ 1) ↔ Reaches (Joins g.inputs.links) who u) where
  -- a thread below 16 has its bit where it is in the group
  pub member_is : (u : ℕ) → u < 16 → has_bit mask u ≡ is_in_group past who u
  member_is u low = group_is setup past g.inputs.links who u mask lawful groups.few groups.links (members u low)

  -- whether it is a live window of the group
  pub holds_is : (w : ℕ) → holds_in t.live mask w ≡ (is_live past w && is_in_group past who (thread_of past w))
  holds_is w = by (rows.window_of t.live w) refl
    where
      by : (o : Option KeptWindow) → rows.window_of t.live w ≡ o → holds_in t.live mask w ≡ (is_live past w && is_in_group past who (thread_of past w))
      by None h =
          ap (λ (o : Option KeptWindow). elim o as (λ p. Bool) [ None ↦ false | Some x ↦ nat_lt x.row.thread.0 16 && has_bit mask x.row.thread.0 ]) h
          ∙ sym (ap (λ (o : Option Window). is_some o && is_in_group past who (unwrap_or (option_map (λ (x : Window). x.thread) o) 0)) (found_at past t w at ∙ ap (option_map as_made) h))
      by (Some x) h =
          let found : window past w ≡ Some (as_made x) = found_at past t w at ∙ ap (option_map as_made) h in
          let bounds = thread_bounds setup x.row.thread.0 (running_is_thread setup past x.row.thread.0 (live_running setup past w (as_made x) lawful found)) in
          let high : x.row.thread.0 ≤ setup.threads = bounds.1 in
          let few : setup.threads ≤ 15 = groups.few in
          let low : x.row.thread.0 < 16 = omega (arith, high, few) in
          ap (λ (o : Option KeptWindow). elim o as (λ p. Bool) [ None ↦ false | Some x ↦ nat_lt x.row.thread.0 16 && has_bit mask x.row.thread.0 ]) h
          ∙ ap (λ b. b && has_bit mask x.row.thread.0) (lt-ltb x.row.thread.0 16 low)
          ∙ member_is x.row.thread.0 low
          ∙ sym (ap (λ (o : Option Window). is_some o && is_in_group past who (unwrap_or (option_map (λ (y : Window). y.thread) o) 0)) found)

  -- ---- what the group has

  -- the window that the group's threads set last
  pub set_last : (slot : Slot) (thread : Thread) → thread.0 ≡ who → mask ≡ group_of g.inputs thread → window_of g.inputs thread slot ≡ hwnd (last_set (is_in_group past who) (named slot) past)
  set_last slot thread is same =
      let row = row_number slot in
      let P = is_in_group past who in
      let k = latest_below mask g.inputs.window_orders row 16 in
      let first : k ≡ best (has_bit mask) (λ u. get_or g.inputs.window_orders (cell row u) 0) 16 = latest_is mask g.inputs.window_orders row 16 in
      let second : best (has_bit mask) (λ u. get_or g.inputs.window_orders (cell row u) 0) 16 ≡ teller (setting_in (named slot)) P past = best_same (has_bit mask) P (λ u. get_or g.inputs.window_orders (cell row u) 0) (λ u. order_of u (named slot) past) 16 16 (omega arith) member_is (λ u low j. (groups.settings slot u low).order) in
      let low : teller (setting_in (named slot)) P past < 16 = best_less P (λ u. order_of u (named slot) past) 15 in
      ap (λ m. get_or g.inputs.windows (cell row (latest_below m g.inputs.window_orders row 16)) (hwnd 0)) (sym same)
      ∙ ap (λ j. get_or g.inputs.windows (cell row j) (hwnd 0)) (first ∙ second)
      ∙ (groups.settings slot (teller (setting_in (named slot)) P past) low).window
      ∙ ap hwnd (last_teller (setting_in (named slot)) 0 setup past P (setters_known setup (named slot)) lawful groups.few)

  -- it counts where it is a live window of the group
  pub value_held : (slot : Slot) (w : ℕ) → w ≡ last_set (is_in_group past who) (named slot) past → holds_in t.live mask w ≡ true → w ≡ value_of past who (named slot)
  value_held slot w is held = is ∙ sym (ap (λ b. cond b (last_set (is_in_group past who) (named slot) past) 0) (sym (ap (λ k. is_live past k && is_in_group past who (thread_of past k)) is) ∙ sym (holds_is w) ∙ held))

  pub value_none : (slot : Slot) (w : ℕ) → w ≡ last_set (is_in_group past who) (named slot) past → holds_in t.live mask w ≡ false → 0 ≡ value_of past who (named slot)
  value_none slot w is lost = sym (ap (λ b. cond b (last_set (is_in_group past who) (named slot) past) 0) (sym (ap (λ k. is_live past k && is_in_group past who (thread_of past k)) is) ∙ sym (holds_is w) ∙ lost))

-- ---- keys

-- whether a key is down by the last input of it that the group's threads took
pub key_last : (setup : Setup) (past : Past) (g : Kept) → IsLawful setup past → IsGroupsAt setup past g → (who mask : ℕ) → ((u : ℕ) → u < 16 → (bit_at mask u ≡ 1) ↔ Reaches (Joins g.inputs.links) who u) → (key : ℕ) (thread : Thread) → key < 256 → mask ≡ group_of g.inputs thread → is_down g.inputs thread key ≡ is_key_down past who key
key_last setup past g lawful groups who mask members key thread fits same =
    let P = is_in_group past who in
    let member : (u : ℕ) → u < 16 → has_bit mask u ≡ P u = λ u low. group_is setup past g.inputs.links who u mask lawful groups.few groups.links (members u low) in
    let first : latest_below mask g.inputs.key_orders key 16 ≡ best (has_bit mask) (λ u. get_or g.inputs.key_orders (cell key u) 0) 16 = latest_is mask g.inputs.key_orders key 16 in
    let second : best (has_bit mask) (λ u. get_or g.inputs.key_orders (cell key u) 0) 16 ≡ teller (key_in key) P past = best_same (has_bit mask) P (λ u. get_or g.inputs.key_orders (cell key u) 0) (λ u. key_order_of u key past) 16 16 (omega arith) member (λ u low j. (groups.keys key u fits low).order) in
    let low : teller (key_in key) P past < 16 = best_less P (λ u. key_order_of u key past) 15 in
    ap (λ m. get_or g.inputs.downs (cell key (latest_below m g.inputs.key_orders key 16)) false) (sym same)
    ∙ ap (λ j. get_or g.inputs.downs (cell key j) false) (first ∙ second)
    ∙ (groups.keys key (teller (key_in key) P past) fits low).down
    ∙ last_teller (key_in key) false setup past P (takers_known setup key) lawful groups.few

-- ---- attached threads

one_cell : (b : Bool) → eqb (cond b 1 0) 1 ≡ b
one_cell true = refl
one_cell false = refl

-- threads beyond the tables are attached to none
pub none_attached : (setup : Setup) (past : Past) (t u : ℕ) → IsLawful setup past → setup.threads ≤ 15 → (16 ≤ t) ⊎ (16 ≤ u) → false ≡ are_attached past t u
none_attached setup past t u lawful few far = by (are_attached past t u) refl
  where
    by : (b : Bool) → are_attached past t u ≡ b → false ≡ are_attached past t u
    by false h = sym h
    by true h = absurd (apart far (attached_bounds setup past t u lawful h))
      where
        apart : (16 ≤ t) ⊎ (16 ≤ u) → ((1 ≤ t) × (t ≤ setup.threads)) × ((1 ≤ u) × (u ≤ setup.threads)) → ⊥
        apart (inl l) b = let high : t ≤ setup.threads = b.0.1 in omega (arith, l, high, few)
        apart (inr l) b = let high : u ≤ setup.threads = b.1.1 in omega (arith, l, high, few)

pub attached_is : (past : Past) (links : List ℕ) (t u : ℕ) → HasLinks past links → t < 16 → u < 16 → eqb (bit_at (get_or links t 0) u) 1 ≡ are_attached past t u
attached_is past links t u has lt lu = ap (λ k. eqb k 1) (has t u lt lu) ∙ one_cell (are_attached past t u)
