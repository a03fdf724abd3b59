-- What the change of an entry needs of the order.
use Rattle.std.proofs.Common.{◌≡◌, ◌∙◌, ℕ, zero, suc, ◌+◌, ◌<◌, Bool, true, false, not, cond, eqb, List, [], ◌∷◌, map, filter, length, refl, sym, subst, arith}
use Rattle.std.specs.Prelude.{◌&&◌, ℤ, pos, negsuc, int_lt}
use Rattle.std.proofs.lemmas.Bool.{true≢false, false≢true, lt-ltb}
use Rattle.std.proofs.lemmas.List.{append-nil}
use Rattle.win_num.specs.declared.message.Hwnd.{Hwnd}
use Rattle.win_num.specs.declared.message.Thread.{Thread}
use Rattle.win_num.specs.declared.names.TheConstants.{SWP_NOZORDER}
use Rattle.win_rows.specs.declared.row.WindowRow.{WindowRow}
use Rattle.win_rows.specs.declared.window.Window.{Window as KeptWindow}
use Rattle.win_rows.specs.Windows.{IsOrdered, Windows, number_of}
use Rattle.win_tree.specs.Kin.{dropped, without_thread}
use Rattle.win_order.specs.Layers.{IsNew, Layers, may_stay}
use Rattle.win_order.proofs.Booleans.{and_left}
use Rattle.user_model.specs.declared.call.Call.{Call}
use Rattle.user_model.specs.declared.call.Call.TheVariants as calls
use Rattle.user_model.specs.declared.entry.Answer.{Answer}
use Rattle.user_model.specs.declared.entry.Answer.TheVariants as answers
use Rattle.user_model.specs.declared.entry.Entry.{Entry}
use Rattle.user_model.specs.declared.entry.Setup.{Setup}
use Rattle.user_model.specs.Past.{Past}
use Rattle.user_model.specs.Idle.{reply}
use Rattle.user_model.specs.Legal.{IsLawful}
use Rattle.user_model.specs.Machines.{entry_of}
use Rattle.user_model.specs.ReplyWindows.{is_order}
use Rattle.user_model.specs.Windows.{Window, drops, has_flag, is_live, live, parent_in, windows_made}
use Rattle.user_model.proofs.DeliveryReplies.{end_told}
use Rattle.user_model.proofs.Forests.{IsRising}
use Rattle.user_model.proofs.LiveWindows.{new_window, sound}
use Rattle.user_model.proofs.ReplyLaws.{by_row}
use Rattle.user_model.proofs.WindowFacts.{live_fits}
use Rattle.user_model.proofs.WindowLaws.{live-next}
use Rattle.user_model.proofs.WindowReplies.{new_window_told, place_told}
use Rattle.window_state.specs.Effects.{IsRowOf}
use Rattle.window_state.specs.Orders.{FitsEntering, FitsOrder, FitsOrderEffect, FitsPlacing, IsOrderAt, added_as}
use Rattle.window_state.specs.Trees.{as_made, IsTreeAt}
use Rattle.window_state.proofs.NewWindows.{new_as_made}
use Rattle.window_state.proofs.OrderSteps.{as_numbers}
use Rattle.window_state.proofs.OrdersLeft.{may_stay_left}
use Rattle.window_state.proofs.OrdersMade.{new_fits}
use Rattle.window_state.proofs.OrdersPlaced.{place_fits}
use Rattle.window_state.proofs.Standings.{stands_at}
use Rattle.window_state.proofs.TreeLaws.{tree_drop, tree_end}

-- numbers of the table rise
ordered_as : (from last : ℕ) (ws : List KeptWindow) → IsRising from last (map as_made ws) → IsOrdered from last ws
ordered_as from last [] h = h
ordered_as from last (x ∷ ws) h = (h.0, older (eqb x.row.parent.0 0) h.1, ordered_as x.number.0 last ws h.2)
  where
    older : (b : Bool) → cond b x.row.owner.0 x.row.parent.0 < x.number.0 → (cond b x.row.owner x.row.parent).0 < x.number.0
    older true lt = lt
    older false lt = lt

pub ordered_at : (setup : Setup) (past : Past) (t : Windows) → IsLawful setup past → IsTreeAt past t → IsOrdered 15 t.last t.live
ordered_at setup past t lawful at =
    subst (λ n. IsOrdered 15 n t.live) (sym at.last)
    (ordered_as 15 (15 + length (windows_made past)) t.live (subst (IsRising 15 (15 + length (windows_made past))) (sym at.windows) (sound setup past lawful).rising))

-- a new window comes new to the order
fits_entering : (setup : Setup) (past : Past) (t : Windows) (z : Layers) (who : Thread) (name title parent style ex : ℕ) (l top r b : ℤ) (w : Hwnd) (row : WindowRow) → IsLawful setup past → IsTreeAt past t → IsOrderAt past z → reply setup past who.0 (calls.NewWindow name title parent style ex l top r b) ≡ answers.Window w → IsRowOf who.0 name title parent style ex row → FitsEntering t z row
fits_entering setup past t z who name title parent style ex l top r b w row lawful tree at right is =
    let new = new_window_told setup past who.0 name title parent style ex l top r b w right in
    let made : as_made (added_as t row) ≡ new_window who name title parent style ex l top r b w (live past) = new_as_made setup past t who name title parent style ex l top r b w row tree is new in
    record {
      ordered = ordered_at setup past t lawful tree;
      new = subst (λ (y : Window). IsNew y.number y.parent y.owner z) (sym made) (new_fits setup past who name title parent style ex l top r b w z lawful right at);
    }

small_pos : (n : ℕ) → n < 4294967296 → int_lt (pos n) (pos 4294967296) ≡ true
small_pos n lt = lt-ltb n 4294967296 lt

small_after : (setup : Setup) (past : Past) (w : ℕ) (after : ℤ) → IsLawful setup past → is_order past w after ≡ true → int_lt after (pos 4294967296) ≡ true
small_after setup past w (pos zero) lawful h = small_pos 0 (omega arith)
small_after setup past w (pos (suc zero)) lawful h = small_pos 1 (omega arith)
small_after setup past w (pos (suc (suc n))) lawful h = small_pos (suc (suc n)) (live_fits setup past (suc (suc n)) lawful (and_left (is_live past (suc (suc n))) (eqb (parent_in (live past) (suc (suc n))) (parent_in (live past) w) && not (eqb (suc (suc n)) w)) h))
small_after setup past w (negsuc n) lawful h = refl

fits_placing : (setup : Setup) (past : Past) (z : Layers) (who : Thread) (w : ℕ) (after l top r b : ℤ) (flags n : ℕ) → IsLawful setup past → IsOrderAt past z → reply setup past who.0 (calls.Place w after l top r b flags) ≡ answers.Value n → has_flag flags SWP_NOZORDER ≡ false → FitsPlacing w after z
fits_placing setup past z who w after l top r b flags n lawful at right moves =
    let told = place_told setup past who.0 w after l top r b flags n right in
    let order : is_order past w after ≡ true = good (has_flag flags SWP_NOZORDER) (is_live past w) (is_order past w after) moves told.lives told.good_order in
    record {
      small = live_fits setup past w lawful told.lives;
      small_after = small_after setup past w after lawful order;
      place = record { window = stands_at past z at w ∙ told.lives; sibling = place_fits setup past who w after l top r b flags n z right at moves after refl };
    }
  where
    good : (f h o : Bool) → f ≡ false → h ≡ true → (not f && (h && not o)) ≡ false → o ≡ true
    good true h o j k g = absurd (true≢false j)
    good false false o j k g = absurd (false≢true k)
    good false true true j k g = refl
    good false true false j k g = absurd (true≢false g)

-- what an answer that takes memory needs
pub fits_order : (setup : Setup) (past : Past) (t : Windows) (z : Layers) (who : Thread) (a : Answer) (call : Call) → IsLawful setup past → IsTreeAt past t → IsOrderAt past z → a ≡ reply setup past who.0 call → FitsOrder who.0 a call t z
fits_order setup past t z who (answers.Window w) (calls.NewWindow name title parent style ex l top r b) lawful tree at right = λ row is. fits_entering setup past t z who name title parent style ex l top r b w row lawful tree at (sym right) is
fits_order setup past t z who (answers.Value n) (calls.Place w after l top r b flags) lawful tree at right = λ moves. fits_placing setup past z who w after l top r b flags n lawful at (sym right) moves
fits_order setup past t z who _ _ lawful tree at right = tt

-- who stays has no parent or owner that goes
stay_fits : (setup : Setup) (past : Past) (e : Entry) (new : Windows) (z : Layers) → IsLawful setup past → e.answer ≡ reply setup past e.who.0 e.call → (live (e ∷ past) ≡ filter (λ x. not (drops e (live past) x)) (live past)) → IsOrderAt past z → IsTreeAt (e ∷ past) new → may_stay (map number_of new.live) z.standings ≡ true
stay_fits setup past e new z lawful right same at tree =
    subst (λ (ns : List Hwnd). may_stay ns z.standings ≡ true) (as_numbers (e ∷ past) new tree)
    (may_stay_left past e (λ x. not (drops e (live past) x)) 15 (15 + length (windows_made past)) same (sound setup past lawful).rising z at (sound setup (e ∷ past) (lawful, right)).under)

gone_of_drop : (setup : Setup) (past : Past) (t : Windows) (z : Layers) (who : Thread) (v : ℕ) → IsLawful setup past → IsTreeAt past t → IsOrderAt past z → answers.Okay ≡ reply setup past who.0 (calls.Drop v) → may_stay (map number_of (dropped t.live v)) z.standings ≡ true
gone_of_drop setup past t z who v lawful tree at right =
    let e = entry_of who (calls.Drop v) answers.Okay in
    stay_fits setup past e (record t { live = dropped t.live v }) z lawful right (live-next e past refl ∙ append-nil (filter (λ x. not (drops e (live past) x)) (live past))) at (tree_drop past t who v tree)

gone_of_end : (setup : Setup) (past : Past) (t : Windows) (z : Layers) (who : Thread) → IsLawful setup past → IsTreeAt past t → IsOrderAt past z → answers.Ended ≡ reply setup past who.0 calls.EndThread → may_stay (map number_of (without_thread t.live who.0)) z.standings ≡ true
gone_of_end setup past t z who lawful tree at right =
    let e = entry_of who calls.EndThread answers.Ended in
    stay_fits setup past e (record t { live = without_thread t.live who.0 }) z lawful right (live-next e past refl ∙ append-nil (filter (λ x. not (drops e (live past) x)) (live past))) at (tree_end past t who tree)

-- what an answer that takes no memory needs
pub fits_order_effect : (setup : Setup) (past : Past) (t : Windows) (z : Layers) (who : Thread) (a : Answer) (call : Call) → IsLawful setup past → IsTreeAt past t → IsOrderAt past z → a ≡ reply setup past who.0 call → FitsOrderEffect who.0 a call t z
fits_order_effect setup past t z who answers.Okay (calls.Drop v) lawful tree at right = gone_of_drop setup past t z who v lawful tree at right
fits_order_effect setup past t z who answers.Ended call lawful tree at right =
    gone_of_end setup past t z who lawful tree at (subst (λ (c : Call). answers.Ended ≡ reply setup past who.0 c) (end_told setup past who.0 call (by_row setup past who.0 call answers.Ended (sym right) refl).is_row) right)
fits_order_effect setup past t z who _ _ lawful tree at right = tt
