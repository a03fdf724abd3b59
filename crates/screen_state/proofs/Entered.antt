-- What each answer does to the table and to the order.
use Rattle.std.proofs.Common.{◌≡◌, ℕ, Result, Ok, Err, refl}
use Rattle.std.specs.Prelude.{OnOk}
use Rattle.win_num.specs.declared.message.Hwnd.{Hwnd}
use Rattle.win_rows.specs.Windows.{Windows}
use Rattle.win_tree.specs.Kin.{without_thread}
use Rattle.win_order.specs.Layers.{Layers}
use Rattle.user_model.specs.declared.call.Call.{Call}
use Rattle.user_model.specs.declared.entry.Answer.{Answer}
use Rattle.user_model.specs.declared.entry.Answer.TheVariants as answers
use Rattle.window_state.specs.Effects.{IsLookedAt, IsMadeBy, carried_tree, unmade_tree}
use Rattle.window_state.specs.Orders.{IsOrderMade, carried_order, kept_by, reordered_by}
use Rattle.screen_state.specs.Entries.{IsEntered}

module _ {E : Type 0} (r : Result (Unit {0}) E) (who : ℕ) (call : Call) (t t2 : Windows) (z z2 : Layers) where
  -- a window is made
  pub made : (w : Hwnd) → OnOk r (IsMadeBy who call t t2) → OnOk r (IsOrderMade call t t2 z z2) → OnOk r (IsEntered who (answers.Window w) call t t2 z z2)
  made w h k = by r h k
    where
      by : (q : Result (Unit {0}) E) → OnOk q (IsMadeBy who call t t2) → OnOk q (IsOrderMade call t t2 z z2) → OnOk q (IsEntered who (answers.Window w) call t t2 z z2)
      by (Ok u) h k = record { grown = t2; placed = z2; added = h; settled = refl; put = k; left = refl }
      by (Err e) h k = tt

  -- a value
  pub valued : (n : ℕ) → OnOk r (IsLookedAt call t t2) → OnOk r (z2 ≡ reordered_by call z) → OnOk r (IsEntered who (answers.Value n) call t t2 z z2)
  valued n h k = by r h k
    where
      by : (q : Result (Unit {0}) E) → OnOk q (IsLookedAt call t t2) → OnOk q (z2 ≡ reordered_by call z) → OnOk q (IsEntered who (answers.Value n) call t t2 z z2)
      by (Ok u) h k = record { grown = t; placed = z2; added = refl; settled = h; put = k; left = refl }
      by (Err e) h k = tt

module _ (who : ℕ) (call : Call) (t t2 : Windows) (z z2 : Layers) where
  -- ok
  pub carried : t2 ≡ carried_tree call t → z2 ≡ carried_order call t2 z → IsEntered who answers.Okay call t t2 z z2
  carried h k = record { grown = t; placed = z; added = refl; settled = h; put = refl; left = k }

  -- the end of a thread
  pub ended : t2 ≡ record t { live = without_thread t.live who } → z2 ≡ kept_by t2 z → IsEntered who answers.Ended call t t2 z z2
  ended h k = record { grown = t; placed = z; added = refl; settled = h; put = refl; left = k }

  -- a step of a destruction
  pub told : (w : Hwnd) → t2 ≡ unmade_tree call t → IsEntered who (answers.Tell w) call t t2 z z
  told w h = record { grown = t; placed = z; added = refl; settled = h; put = refl; left = refl }

  pub given_last : (w : Hwnd) → t2 ≡ unmade_tree call t → IsEntered who (answers.Last w) call t t2 z z
  given_last w h = record { grown = t; placed = z; added = refl; settled = h; put = refl; left = refl }

-- any other answer leaves both
pub untouched : (who : ℕ) (a : Answer) (call : Call) (t : Windows) (z : Layers) → (a ≡ answers.Okay → ⊥) → (a ≡ answers.Ended → ⊥) → ((n : ℕ) → a ≡ answers.Value n → ⊥) → ((w : Hwnd) → a ≡ answers.Window w → ⊥) → ((w : Hwnd) → a ≡ answers.Tell w → ⊥) → ((w : Hwnd) → a ≡ answers.Last w → ⊥) → IsEntered who a call t t z z
untouched who answers.Okay call t z ok end value made told last = absurd (ok refl)
untouched who answers.Ended call t z ok end value made told last = absurd (end refl)
untouched who (answers.Value n) call t z ok end value made told last = absurd (value n refl)
untouched who (answers.Window w) call t z ok end value made told last = absurd (made w refl)
untouched who (answers.Tell w) call t z ok end value made told last = absurd (told w refl)
untouched who (answers.Last w) call t z ok end value made told last = absurd (last w refl)
untouched who _ call t z ok end value made told last = record { grown = t; placed = z; added = refl; settled = refl; put = refl; left = refl }
