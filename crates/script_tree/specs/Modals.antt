-- Loops of messages and dialogs: where each goes on, and how it ends.
use Rattle.std.specs.Prelude.{ℕ, ◌==◌, Bool, false, if◌then◌else◌}
use Rattle.win_num.specs.declared.message.Msg.{Msg}
use Rattle.win_num.specs.declared.names.TheConstants.{WM_QUIT, WM_KEYDOWN}
use Rattle.user_model.specs.declared.call.Call.TheVariants.{Get, PostQuit, Enable, DialogState, EndDialog}
use Rattle.user_model.specs.declared.entry.Answer.{Answer}
use Rattle.user_model.specs.declared.entry.Answer.TheVariants.{Value, Running, Finished, Got, Refused}
use Rattle.script_tree.specs.declared.frame.Begin.{Begin}
use Rattle.script_tree.specs.declared.frame.Dialog.{Dialog}
use Rattle.script_tree.specs.declared.frame.Modal.{Modal}
use Rattle.script_tree.specs.declared.frame.Modal.TheVariants.{Pump, Dialog as DialogLoop}
use Rattle.script_tree.specs.declared.frame.Place.TheVariants.{Calling, Getting, Translating, Dispatching, Disabling, Asking, Requitting, Finishing, Enabling}
use Rattle.script_tree.specs.declared.frame.Lead.{Lead}
use Rattle.script_tree.specs.declared.frame.Lead.TheVariants.{Calls, Runs, Ends}
use Rattle.script_tree.specs.Notices.{number_in}
use Rattle.script_tree.specs.Values.{dispatch_of, translate_of}

-- the loop goes on, from its first call
abbrev pub turns : Modal → Lead
turns Pump = Calls (Get 0 0 0) (Getting Pump)
turns (DialogLoop d) = Calls (DialogState d.window) (Asking d)

-- the compound `enable_window`
abbrev pub enabling : ℕ → ℕ → Begin
enabling w on = record { call = Enable w on; place = Calling (Enable w on) }

-- the loop is over, with that answer; after that of a dialog its owner is enabled again
abbrev pub loop_ends : Modal → Answer → Lead
loop_ends Pump a = Ends a
loop_ends (DialogLoop d) a = if d.owner == 0 then Ends a else Runs (enabling d.owner 1) (Enabling a)

-- WM_QUIT comes, with that code: in a dialog it is posted once more
abbrev pub quits : Modal → ℕ → Lead
quits Pump code = loop_ends Pump (Value code)
quits (DialogLoop d) code = Calls (PostQuit code) (Requitting d)

-- the message is handed to its window's procedure
abbrev pub dispatches : Modal → Msg → Lead
dispatches l msg = Calls (dispatch_of msg) (Dispatching l)

-- before that the character of a key that goes down is posted
abbrev pub handles : Modal → Msg → Lead
handles l msg = if msg.number == WM_KEYDOWN then Calls (translate_of msg) (Translating l msg) else dispatches l msg

-- a message comes
abbrev pub after_message : Modal → Msg → Lead
after_message l msg = if msg.number == WM_QUIT then quits l msg.wparam else handles l msg

-- whether one comes
abbrev pub after_getting : Modal → Answer → Lead
after_getting l (Got origin number msg) = after_message l msg
after_getting l (Refused code) = loop_ends l (Refused code)
after_getting l _ = loop_ends l (Value 0)

-- a dialog on that window, with the owner that is enabled again after it, or 0
abbrev pub dialog_on : ℕ → ℕ → Dialog
dialog_on w o = record { window = w; owner = o }

-- `dialog`: an owner is disabled first
abbrev pub opens : ℕ → ℕ → Lead
opens w o = if o == 0 then turns (DialogLoop (dialog_on w 0)) else Runs (enabling o 0) (Disabling (dialog_on w o))

-- `dialog`: whether it begins
abbrev pub after_opening : ℕ → Answer → Lead
after_opening w (Refused code) = Ends (Refused code)
after_opening w a = opens w (number_in a)

-- whether a window had been enabled before it was disabled
abbrev pub was_enabled : Answer → Bool
was_enabled (Value n) = n == 0
was_enabled _ = false

-- `dialog`: an owner that had been enabled is enabled again after it
abbrev pub after_disabling : Dialog → Answer → Lead
after_disabling d a = if was_enabled a then turns (DialogLoop d) else turns (DialogLoop (dialog_on d.window 0))

-- `dialog`: whether it has its result, or its window is gone
abbrev pub after_asking : Dialog → Answer → Lead
after_asking d Running = Calls (Get 0 0 0) (Getting (DialogLoop d))
after_asking d (Finished v) = loop_ends (DialogLoop d) (Value v)
after_asking d (Refused code) = loop_ends (DialogLoop d) (Refused code)
after_asking d _ = loop_ends (DialogLoop d) (Value 0)

-- `dialog`: after WM_QUIT it gets the result 0
abbrev pub finishes : Dialog → Lead
finishes d = Calls (EndDialog d.window 0) (Finishing d)
