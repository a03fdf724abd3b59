-- What one entry does to the tables.
use Rattle.std.specs.Prelude.{if◌then◌else◌, ◌≡◌, ◌==◌, ℕ, map, Some}
use Rattle.win_num.specs.declared.shapes.Rect.{Rect}
use Rattle.win_num.specs.Rects.{box_in}
use Rattle.win_num.specs.PixelSets.{box}
use Rattle.win_num.specs.declared.names.TheConstants.{WS_CHILD}
use Rattle.win_class.specs.ClassTable.{ClassTable, with_class, with_message, without_class}
use Rattle.win_rows.specs.declared.row.WindowRow.{WindowRow}
use Rattle.win_rows.specs.declared.window.Window.{Window as KeptWindow}
use Rattle.win_rows.specs.Windows.{Windows, window_of, set_if}
use Rattle.win_tree.specs.Kin.{with_window, doomed, dropped, without_thread}
use Rattle.win_rows.specs.Destruction.{unmade, given}
use Rattle.user_model.specs.declared.call.Call.{Call}
use Rattle.user_model.specs.declared.call.Call.TheVariants.{Register, Message, Unregister, NewWindow, Doom, Unmake, Drop, Place, Show, Enable}
use Rattle.user_model.specs.declared.entry.Answer.{Answer}
use Rattle.user_model.specs.declared.entry.Answer.TheVariants.{Okay, Ended, Value, Window, Tell, Last}
use Rattle.user_model.specs.Windows.{has_flag}
use Rattle.user_model.specs.Looks.{Look, placed, shown_look, enabled_look}
use Rattle.window_state.specs.Trees.{look_in}

-- ---- classes and names of messages

-- with what a call registers
abbrev pub named_by : Call → ClassTable → ClassTable
named_by (Register name proc_no colour) t = with_class t name proc_no colour
named_by (Message name) t = with_message t name
named_by _ t = t

-- after an answer that takes memory
abbrev pub added_classes : Answer → Call → ClassTable → ClassTable
added_classes (Value v) call t = named_by call t
added_classes _ call t = t

-- after a call that was answered by ok
abbrev pub carried_classes : Call → ClassTable → ClassTable
carried_classes (Unregister name) t = without_class t name
carried_classes _ t = t

-- after an answer that takes no memory
abbrev pub affected_classes : Answer → Call → ClassTable → ClassTable
affected_classes Okay call t = carried_classes call t
affected_classes _ call t = t

-- ---- windows

-- the row of the window that a call makes: above is a child's parent, else the owner
pub record IsRowOf (who class title above style ex : ℕ) (row : WindowRow) : Type 0 where
  pub thread : row.thread.0 ≡ who
  pub class_name : row.class ≡ class
  pub title_name : row.title ≡ title
  pub parent : row.parent.0 ≡ (if has_flag style WS_CHILD then above else 0)
  pub owner : row.owner.0 ≡ (if has_flag style WS_CHILD then 0 else above)
  pub style_bits : row.style ≡ style
  pub ex_bits : row.ex ≡ ex

-- with the window that a call makes
abbrev pub IsMadeBy : ℕ → Call → Windows → Windows → Type 0
IsMadeBy who (NewWindow class title parent style ex l t r b) old new = (row : WindowRow) × IsRowOf who class title parent style ex row × (box_in row.place ≡ box l t r b) × (new ≡ with_window old row)
IsMadeBy who _ old new = new ≡ old

-- after an answer that takes memory
abbrev pub IsAddedBy : ℕ → Answer → Call → Windows → Windows → Type 0
IsAddedBy who (Window w) call old new = IsMadeBy who call old new
IsAddedBy who _ call old new = new ≡ old

-- after a call that was answered by ok
abbrev pub carried_tree : Call → Windows → Windows
carried_tree (Doom w) t = record t { live = doomed t.live w }
carried_tree (Drop w) t = record t { live = dropped t.live w }
carried_tree _ t = t

-- with a step of a destruction given
abbrev pub unmade_tree : Call → Windows → Windows
unmade_tree (Unmake w) t = record t { live = given (unmade t.live w) t.live }
unmade_tree _ t = t

-- after an answer that takes no memory
abbrev pub affected_tree : ℕ → Answer → Call → Windows → Windows
affected_tree who Okay call t = carried_tree call t
affected_tree who (Tell v) call t = unmade_tree call t
affected_tree who (Last v) call t = unmade_tree call t
affected_tree who Ended call t = record t { live = without_thread t.live who }
affected_tree who _ call t = t

-- the window of this number has another look, which f makes of the one that it had
pub record IsRelooked (w : ℕ) (f : Look → Look) (old new : Windows) : Type 0 where
  pub was : KeptWindow
  pub found : window_of old.live w ≡ Some was
  pub place : Rect
  pub is_place : box_in place ≡ (f (look_in was.row)).place
  pub is_new : new ≡ record old { live = map (set_if w (f (look_in was.row)).style (f (look_in was.row)).ex place) old.live }

-- after a call that was answered by a value
abbrev pub IsLookedAt : Call → Windows → Windows → Type 0
IsLookedAt (Place w after l t r b flags) old new = IsRelooked w (placed flags after (box l t r b)) old new
IsLookedAt (Show w on) old new = IsRelooked w (shown_look (on == 1)) old new
IsLookedAt (Enable w on) old new = IsRelooked w (enabled_look (on == 1)) old new
IsLookedAt _ old new = new ≡ old

-- after an answer: a value may come with another look, and the others are as said above
abbrev pub IsAffected : ℕ → Answer → Call → Windows → Windows → Type 0
IsAffected who (Value v) call old new = IsLookedAt call old new
IsAffected who a call old new = new ≡ affected_tree who a call old
