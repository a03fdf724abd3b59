-- The z-order that a past has made, and what one entry does to it.
use Rattle.std.specs.Prelude.{if◌then◌else◌, ◌≡◌, ℕ, suc, ◌<◌, ◌==◌, false, ℤ, pos, int_lt, true, Some, [], ◌∷◌, ◌++◌, map}
use Rattle.win_num.specs.declared.names.TheConstants.{SWP_NOZORDER, WS_EX_TOPMOST}
use Rattle.win_rows.specs.declared.row.WindowRow.{WindowRow}
use Rattle.win_rows.specs.declared.window.Window.{Window as KeptWindow}
use Rattle.win_rows.specs.Windows.{IsOrdered, Windows, made, number_of, window_of}
use Rattle.win_tree.specs.Kin.{dropped, next_number, settled, without_thread}
use Rattle.win_order.specs.Kept.{IsKept}
use Rattle.win_order.specs.Layers.{IsNew, IsPlace, Layers, inserted, kept, may_stay, placed, siblings_of}
use Rattle.user_model.specs.declared.call.Call.{Call}
use Rattle.user_model.specs.declared.call.Call.TheVariants.{NewWindow, Drop, Place}
use Rattle.user_model.specs.declared.entry.Answer.{Answer}
use Rattle.user_model.specs.declared.entry.Answer.TheVariants.{Okay, Ended, Value, Window}
use Rattle.user_model.specs.Past.{Past}
use Rattle.user_model.specs.Windows.{has_flag}
use Rattle.user_model.specs.ZOrder.{after_of, hwnd, siblings, standings}
use Rattle.window_state.specs.Effects.{IsRowOf}

-- the order has the live windows with what mending asks of them, and each list of siblings, and keeps what every order keeps
pub record IsOrderAt (past : Past) (z : Layers) : Type 0 where
  pub standings : z.standings ≡ standings past
  pub lists : (p : ℕ) → siblings_of p z ≡ siblings past p
  pub kept : IsKept z

-- ---- what an entry does

-- with a window of the table
abbrev pub with_row : KeptWindow → Layers → Layers
with_row x z = inserted x.number x.row.parent x.row.owner (x.row.ex == WS_EX_TOPMOST) z

-- the window that is added with a row
abbrev pub added_as : Windows → WindowRow → KeptWindow
added_as t row = made (next_number t) (settled t.live row)

-- with the window that the table has got as the newest
abbrev pub IsEntered : Windows → Windows → Layers → Layers → Type 0
IsEntered t new old z = (x : KeptWindow) × (new.live ≡ t.live ++ x ∷ []) × (z ≡ with_row x old)

-- with a window put where AFTER says, unless flags keep the order
abbrev pub reordered : ℕ → ℤ → ℕ → Layers → Layers
reordered w after flags z = if has_flag flags SWP_NOZORDER then z else placed (hwnd w) (after_of after) z

-- with the window that a call makes, where the table goes from t to new
abbrev pub IsOrderMade : Call → Windows → Windows → Layers → Layers → Type 0
IsOrderMade (NewWindow class title parent style ex l t r b) tree new old z = IsEntered tree new old z
IsOrderMade _ tree new old z = z ≡ old

-- as a call says that was answered by a value
abbrev pub reordered_by : Call → Layers → Layers
reordered_by (Place w after l t r b flags) z = reordered w after flags z
reordered_by _ z = z

-- after an answer that takes memory
abbrev pub IsOrderAdded : Answer → Call → Windows → Windows → Layers → Layers → Type 0
IsOrderAdded (Window w) call tree new old z = IsOrderMade call tree new old z
IsOrderAdded (Value n) call tree new old z = z ≡ reordered_by call old
IsOrderAdded _ call tree new old z = z ≡ old

-- with the windows alone that the table has
abbrev pub kept_by : Windows → Layers → Layers
kept_by tree z = kept (map number_of tree.live) z

-- after a call that was answered by ok, which leaves this table
abbrev pub carried_order : Call → Windows → Layers → Layers
carried_order (Drop w) tree z = kept_by tree z
carried_order _ tree z = z

-- after an answer that takes no memory
abbrev pub affected_order : Answer → Call → Windows → Layers → Layers
affected_order Okay call tree z = carried_order call tree z
affected_order Ended call tree z = kept_by tree z
affected_order _ call tree z = z

-- ---- what it needs

-- the window comes new to the table and to the order
pub record FitsEntering (t : Windows) (z : Layers) (row : WindowRow) : Type 0 where
  pub ordered : IsOrdered 15 t.last t.live
  pub new : IsNew (suc t.last) (settled t.live row).parent.0 (settled t.live row).owner.0 z

-- the window can be put there, and numbers have 32 bits
pub record FitsPlacing (w : ℕ) (after : ℤ) (z : Layers) : Type 0 where
  pub small : w < 4294967296
  pub small_after : int_lt after (pos 4294967296) ≡ true
  pub place : IsPlace w (after_of after) z

-- what the call needs of the order that makes a window
abbrev pub FitsMakingOrder : ℕ → Call → Windows → Layers → Type 0
FitsMakingOrder who (NewWindow class title parent style ex l t r b) tree z = (row : WindowRow) → IsRowOf who class title parent style ex row → FitsEntering tree z row
FitsMakingOrder who _ tree z = Unit {0}

-- what a call needs that is answered by a value
abbrev pub FitsReordering : Call → Layers → Type 0
FitsReordering (Place w after l t r b flags) z = has_flag flags SWP_NOZORDER ≡ false → FitsPlacing w after z
FitsReordering _ z = Unit {0}

-- what an answer that takes memory needs of the order
abbrev pub FitsOrder : ℕ → Answer → Call → Windows → Layers → Type 0
FitsOrder who (Window w) call tree z = FitsMakingOrder who call tree z
FitsOrder who (Value n) call tree z = FitsReordering call z
FitsOrder who _ call tree z = Unit {0}

-- the newest window of the table comes new to the order
pub record IsRankable (t : Windows) (z : Layers) : Type 0 where
  pub x : KeptWindow
  pub newest : window_of t.live t.last ≡ Some x
  pub number : x.number.0 ≡ t.last
  pub new : IsNew t.last x.row.parent.0 x.row.owner.0 z

-- what a call needs that is answered by ok: windows that stay have no parent or owner that goes
abbrev pub FitsLeaving : Call → Windows → Layers → Type 0
FitsLeaving (Drop w) tree z = may_stay (map number_of (dropped tree.live w)) z.standings ≡ true
FitsLeaving _ tree z = Unit {0}

-- what an answer that takes no memory needs of it
abbrev pub FitsOrderEffect : ℕ → Answer → Call → Windows → Layers → Type 0
FitsOrderEffect who Okay call tree z = FitsLeaving call tree z
FitsOrderEffect who Ended call tree z = may_stay (map number_of (without_thread tree.live who)) z.standings ≡ true
FitsOrderEffect who _ call tree z = Unit {0}
