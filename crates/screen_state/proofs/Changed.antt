-- The screen that was computed again is that of the past with the entry.
use Rattle.std.proofs.Common.{◌≡◌, ◌∙◌, ℕ, Bool, true, false, not, cond, eqb, List, [], ◌∷◌, map, Option, Some, None, refl, sym, ap, subst}
use Rattle.std.specs.Prelude.{◌&&◌, ◌||◌, is_some}
use Rattle.std.specs.List.{list_any}
use Rattle.std.specs.List.Sorted.{IsNonDecreasingBy}
use Rattle.std.proofs.lemmas.Bool.{false≢true}
use Rattle.win_num.specs.declared.message.Hwnd.{Hwnd}
use Rattle.win_num.specs.declared.shapes.Point.{Point}
use Rattle.win_num.specs.declared.shapes.Rect.{Rect}
use Rattle.win_rows.specs.declared.window.Window.{Window as KeptWindow}
use Rattle.win_rows.specs.Windows.{IsOrdered, Windows, number_of}
use Rattle.win_rows.specs.Windows as kept
use Rattle.win_rows.proofs.Rising.{RisesBy, rises}
use Rattle.win_order.specs.Layers.{Layers}
use Rattle.band_region.specs.Regions.{region_has}
use Rattle.user_model.specs.declared.call.Call.{Call}
use Rattle.user_model.specs.declared.call.Call.TheVariants as calls
use Rattle.user_model.specs.declared.entry.Answer.{Answer}
use Rattle.user_model.specs.declared.entry.Answer.TheVariants as answers
use Rattle.user_model.specs.declared.entry.Entry.{Entry}
use Rattle.user_model.specs.declared.entry.Setup.{Setup}
use Rattle.user_model.specs.Idle.{reply}
use Rattle.user_model.specs.Legal.{IsLawful}
use Rattle.user_model.specs.Past.{Past, is_refusal}
use Rattle.window_state.specs.Boxes.{AreMoved}
use Rattle.window_state.specs.Orders.{IsOrderAt}
use Rattle.window_state.specs.Trees.{IsTreeAt}
use Rattle.window_state.proofs.OrderSteps.{order_after}
use Rattle.window_state.proofs.TreeFacts.{is_live_at}
use Rattle.window_state.proofs.TreeSteps.{tree_after}
use Rattle.screen_owners.specs.declared.owners.Owned.{Owned}
use Rattle.screen_owners.specs.declared.screen.Screen.{Screen}
use Rattle.screen_owners.specs.Owners.{AreOwners, region_in}
use Rattle.dirty_windows.specs.declared.carry.Shift.{Shift}
use Rattle.dirty_windows.specs.declared.entries.DirtyWindow.{DirtyWindow}
use Rattle.dirty_windows.specs.Changes.{carries, exposes}
use Rattle.dirty_windows.specs.LookUps.{area_in, erases_in, is_among}
use Rattle.screen_state.specs.declared.carry.Carried.{Carried}
use Rattle.screen_state.specs.Carried.{IsCarriedBy}
use Rattle.screen_state.specs.Carrying.{IsCarriedAt, IsShiftOf}
use Rattle.screen_state.specs.Entries.{IsEntered}
use Rattle.screen_state.specs.Owned.{AreOwnersAt}
use Rattle.screen_state.specs.Shown.{changes_owners}
use Rattle.screen_state.specs.Screens.{Change, FollowsCarried, FollowsScreen, IsScreenAt, Kept, LeavesCarried, LeavesScreen, draws, keeps_screen}
use Rattle.screen_state.proofs.Carrying.{carried_move, carried_none}
use Rattle.screen_state.proofs.Followed.{at_tables, of_past}
use Rattle.screen_state.proofs.Screens.{changed_follow}
use Rattle.screen_state.proofs.Undrawn.{undrawn}

-- ---- lists of the table's windows

numbers_rise : (from last : ℕ) (ws : List KeptWindow) → IsOrdered from last ws → RisesBy (λ v. v.0) from (map number_of ws)
numbers_rise from last [] h = tt
numbers_rise from last (x ∷ ws) h = (h.0, numbers_rise x.number.0 last ws h.2)

pub windows_rise : (ws : List KeptWindow) (last : ℕ) (hs : List Hwnd) → hs ≡ map number_of ws → IsOrdered 15 last ws → IsNonDecreasingBy (λ (h : Hwnd). h.0) hs
windows_rise ws last hs same ordered = subst (λ (us : List Hwnd). IsNonDecreasingBy (λ (h : Hwnd). h.0) us) (sym same) (rises (λ (h : Hwnd). h.0) 15 (map number_of ws) (numbers_rise 15 last ws ordered))

numbered : (ws : List KeptWindow) (w : ℕ) → list_any (λ (h : Hwnd). eqb h.0 w) (map number_of ws) ≡ kept.is_live ws w
numbered [] w = refl
numbered (x ∷ ws) w = pick (numbered ws w) (eqb x.number.0 w)
  where
    pick : list_any (λ (h : Hwnd). eqb h.0 w) (map number_of ws) ≡ kept.is_live ws w → (b : Bool) → (b || list_any (λ (h : Hwnd). eqb h.0 w) (map number_of ws)) ≡ is_some (cond b (Some x) (kept.window_of ws w))
    pick rest true = refl
    pick rest false = rest

-- ---- the screen that was computed

-- the owners of a part of the screen are those of the screen
pub sized : (F : ℕ → ℕ → Type 0) (of screen : Screen) (width height : ℕ) → of ≡ screen → screen.width ≡ width → screen.height ≡ height → F of.width of.height → F width height
sized F of screen width height same wide high f = subst (λ n. F width n) high (subst (λ n. F n screen.height) wide (subst (λ (n : Screen). F n.width n.height) same f))

-- what is dirty where others own pixels
pub record IsDirtyAfter (old_owners new_owners : List Owned) (moved : List Hwnd) (carried : List Rect) (old new : List DirtyWindow) : Type 0 where
  pub area : (w : ℕ) (p : Point) → region_has (area_in new w) p ≡ (((region_has (area_in old w) p && region_has (region_in new_owners w) p) && not (carries moved carried w p)) || exposes old_owners new_owners moved carried w p)
  pub set : (w : ℕ) (p : Point) → exposes old_owners new_owners moved carried w p ≡ true → erases_in new w ≡ true
  pub same : (w : ℕ) → ((p : Point) → exposes old_owners new_owners moved carried w p ≡ false) → erases_in new w ≡ erases_in old w

module _ (setup : Setup) (t : Windows) (z : Layers) (t2 : Windows) (z2 : Layers) (e : Entry) (old : Kept) (os : List Owned) (moved : List Hwnd) (o : Option Shift) (c : Carried)
    (own : AreOwners t.live z setup.width setup.height old.owners → AreOwners t2.live z2 setup.width setup.height os)
    (shift : AreMoved t t2 moved) (by : IsShiftOf setup t t2 e o) (told : IsCarriedBy setup old os moved o c) where
  -- the owners after the entry
  owners_after : (past : Past) → IsLawful setup (e ∷ past) → IsTreeAt past t → IsOrderAt past z → IsTreeAt (e ∷ past) t2 → IsOrderAt (e ∷ past) z2 → IsScreenAt setup past old → AreOwnersAt setup (e ∷ past) os
  owners_after past lawful tree order tree2 order2 was = of_past setup (e ∷ past) t2 z2 os lawful tree2 order2 (own (at_tables setup past t z old.owners lawful.0 tree order was.owners))

  -- what is carried
  pub changed_carries : (ds : List DirtyWindow) → LeavesCarried setup t z t2 z2 e old (Some (record { owners = os; dirty = ds; carried = c.region; dx = c.shift.dx; dy = c.shift.dy }))
  changed_carries ds past lawful tree order tree2 order2 fine was = pick o by told
    where
      pick : (q : Option Shift) → IsShiftOf setup t t2 e q → IsCarriedBy setup old os moved q c → IsCarriedAt setup e past c.region c.shift.dx c.shift.dy
      pick None none is = carried_none setup past e lawful old os moved was (owners_after past lawful tree order tree2 order2 was) (shift setup past e lawful tree tree2) c is (none past lawful fine tree tree2)
      pick (Some s) some is = carried_move setup past e lawful old os moved was (owners_after past lawful tree order tree2 order2 was) (shift setup past e lawful tree tree2) s (some.moves past lawful fine tree tree2) c is

  pub changed_leaves : (ds left_dirty : List DirtyWindow) (left : List Hwnd) → IsDirtyAfter old.owners os moved c.region old.dirty ds
      → left ≡ map number_of t2.live
      → ((w : ℕ) → area_in left_dirty w ≡ cond (is_among w left) (area_in ds w) [])
      → ((w : ℕ) → erases_in left_dirty w ≡ (is_among w left && erases_in ds w))
      → LeavesScreen setup t z t2 z2 e old (record { owners = os; dirty = left_dirty; sessions = old.sessions })
  changed_leaves ds left_dirty left after numbers kept_area kept_erases past lawful tree order tree2 order2 fine quiet was =
      changed_follow setup past e lawful old os moved c.region c.shift.dx c.shift.dy was (owners_after past lawful tree order tree2 order2 was) (shift setup past e lawful tree tree2)
      (changed_carries ds past lawful tree order tree2 order2 fine was)
      ds left_dirty left after.area after.set after.same kept_area kept_erases
      (λ w. ap (λ (hs : List Hwnd). is_among w hs) numbers ∙ (numbered t2.live w ∙ sym (is_live_at (e ∷ past) t2 tree2 w)))
      fine (undrawn setup past e.who.0 e.call e.answer (sym lawful.1) fine quiet)

-- ---- the entry that was done

either_fine : (call : Call) (a : Answer) → changes_owners call a ≡ true → is_refusal a ≡ false
either_fine call (answers.Refused code) h = absurd (false≢true h)
either_fine call _ h = refl

undraws : (call : Call) (a : Answer) → changes_owners call a ≡ true → draws call a ≡ false
undraws (calls.Invalidate w l t r b erase) answers.Okay h = absurd (false≢true h)
undraws (calls.Validate w l t r b) answers.Okay h = absurd (false≢true h)
undraws (calls.EndPaint w) answers.Okay h = absurd (false≢true h)
undraws (calls.BeginPaint w) (answers.Painting erase l t r b) h = absurd (false≢true h)
undraws (calls.Fill w l t r b colour) answers.Okay h = absurd (false≢true h)
undraws (calls.Erase w) answers.Okay h = absurd (false≢true h)
undraws calls.Snap (answers.Snap k) h = absurd (false≢true h)
undraws _ _ h = refl

may_change : (changes rest : Bool) → (not changes || rest) ≡ false → changes ≡ true
may_change true rest h = refl
may_change false rest h = sym h

-- an entry that may change the screen changes owners
pub changes : (call : Call) (a : Answer) (s : Kept) → keeps_screen call a s ≡ false → changes_owners call a ≡ true
changes call a s h = may_change (changes_owners call a) _ h

-- so it draws nothing
pub draws_none : (call : Call) (a : Answer) (s : Kept) → keeps_screen call a s ≡ false → draws call a ≡ false
draws_none call a s h = undraws call a (changes call a s h)

module _ (setup : Setup) (t t2 : Windows) (z z2 : Layers) (e : Entry) (old : Kept) (made : IsEntered e.who.0 e.answer e.call t t2 z z2) (keeps : keeps_screen e.call e.answer old ≡ false) where
  tree_made : (past : Past) → IsLawful setup past → IsTreeAt past t → e.answer ≡ reply setup past e.who.0 e.call → IsTreeAt (e ∷ past) t2
  tree_made past lawful tree right = tree_after setup past e t made.grown t2 lawful tree right made.added made.settled

  order_made : (past : Past) → IsLawful setup past → IsTreeAt past t → IsOrderAt past z → e.answer ≡ reply setup past e.who.0 e.call → IsOrderAt (e ∷ past) z2
  order_made past lawful tree order right = order_after setup past e t made.grown t2 z made.placed z2 lawful tree (tree_made past lawful tree right) order right made.added made.put made.left

  pub entered_leaves : (new : Kept) → LeavesScreen setup t z t2 z2 e old new → FollowsScreen setup t z e old new
  entered_leaves new leaves past lawful tree order right was =
      leaves past (lawful, right) tree order (tree_made past lawful tree right) (order_made past lawful tree order right) (either_fine e.call e.answer (changes e.call e.answer old keeps)) (draws_none e.call e.answer old keeps) was

  pub entered_carries : (o : Option Change) → LeavesCarried setup t z t2 z2 e old o → FollowsCarried setup t z e old o
  entered_carries o leaves past lawful tree order right was =
      leaves past (lawful, right) tree order (tree_made past lawful tree right) (order_made past lawful tree order right) (either_fine e.call e.answer (changes e.call e.answer old keeps)) was
