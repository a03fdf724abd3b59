-- Which entries may change what is seen on the screen.
use Rattle.std.specs.Prelude.{Bool, true, false}
use Rattle.win_num.specs.declared.names.TheConstants.{WS_VISIBLE}
use Rattle.user_model.specs.declared.call.Call.{Call}
use Rattle.user_model.specs.declared.call.Call.TheVariants.{NewWindow, Drop, Place, Show}
use Rattle.user_model.specs.declared.entry.Answer.{Answer}
use Rattle.user_model.specs.declared.entry.Answer.TheVariants.{Okay, Ended, Value, Window}
use Rattle.user_model.specs.Windows.{has_flag}

-- whether an answered call may change which window owns a pixel
abbrev pub changes_owners : Call → Answer → Bool
changes_owners call Ended = true
changes_owners (NewWindow class title parent style ex l t r b) (Window w) = true
changes_owners (Drop w) Okay = true
changes_owners (Place w after l t r b flags) (Value v) = true
changes_owners (Show w on) (Value v) = true
changes_owners _ _ = false

-- whether it may give a pixel to a window where no window owned one
abbrev pub shows : Call → Answer → Bool
shows (NewWindow class title parent style ex l t r b) (Window w) = has_flag style WS_VISIBLE
shows (Place w after l t r b flags) (Value v) = true
shows (Show w on) (Value v) = true
shows _ _ = false
