-- What the change of a call needs of the tables of classes and of windows.
use Rattle.std.specs.Prelude.{◌≡◌, ℕ, ◌<◌, ◌≤◌, ◌==◌, ◌||◌, true, false, List, Some, None, Result, Ok, Err, IsTrue}
use Rattle.win_num.specs.PixelSets.{is_bad_rect}
use Rattle.win_num.specs.declared.code.Fault.{Fault}
use Rattle.win_num.specs.declared.code.Fault.TheVariants.{Refused, Memory}
use Rattle.win_class.specs.ClassTable.{ClassTable, register_refusal, message_refusal}
use Rattle.win_rows.specs.declared.row.WindowRow.{WindowRow}
use Rattle.win_rows.specs.declared.window.Window.{Window}
use Rattle.win_rows.specs.Windows.{Windows, is_live, window_of}
use Rattle.win_tree.specs.Kin.{refusal}
use Rattle.user_model.specs.declared.call.Call.{Call}
use Rattle.user_model.specs.declared.call.Call.TheVariants.{Register, Message, NewWindow, Unmake, Place, Show, Enable}
use Rattle.user_model.specs.Refusals.{is_no_rect}
use Rattle.window_state.specs.Effects.{IsRowOf}

-- no refusal
abbrev pub IsAnswered : {A : Type 0} → Result A Fault → Type 0
IsAnswered (Ok a) = Unit {0}
IsAnswered (Err Memory) = Unit {0}
IsAnswered (Err (Refused code)) = ⊥

-- what a call registers can be registered
abbrev pub FitsNaming : ClassTable → Call → Type 0
FitsNaming t (Register name proc_no colour) = (register_refusal t name ≡ None) × (colour ≤ 15)
FitsNaming t (Message name) = message_refusal t name ≡ None
FitsNaming t _ = Unit {0}

-- the window that a call makes can be made
abbrev pub FitsMaking : ℕ → Call → Windows → Type 0
FitsMaking who (NewWindow class title parent style ex l t r b) tree =
    (is_bad_rect l t r b ≡ false) × IsTrue ((parent == 0) || is_live tree.live parent) × (style < 4294967296) × (ex < 4294967296)
    × ((row : WindowRow) → IsRowOf who class title parent style ex row → refusal tree row ≡ None)
FitsMaking who _ tree = Unit {0}

-- the window of a destruction is live
abbrev pub FitsUnmaking : Windows → Call → Type 0
FitsUnmaking tree (Unmake w) = is_live tree.live w ≡ true
FitsUnmaking tree _ = Unit {0}

-- the place of the window is a rectangle of a window
abbrev pub Fitting : List Window → ℕ → Type 0
Fitting ws w = (x : Window) → window_of ws w ≡ Some x → is_no_rect x.row.place.l x.row.place.t x.row.place.r x.row.place.b ≡ false

-- the window that is put at a place, shown or enabled is live, and its place is a rectangle of a window
abbrev pub FitsLooking : Windows → Call → Type 0
FitsLooking tree (Place w after l t r b flags) = (is_live tree.live w ≡ true) × (is_no_rect l t r b ≡ false) × Fitting tree.live w
FitsLooking tree (Show w on) = is_live tree.live w ≡ true
FitsLooking tree (Enable w on) = is_live tree.live w ≡ true
FitsLooking tree _ = Unit {0}
