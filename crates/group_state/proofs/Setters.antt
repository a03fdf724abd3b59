-- Who sets a window, and who takes input, is a thread.
use Rattle.std.proofs.Common.{◌≡◌, ℕ, Bool, true, false, Option, Some, None, refl, ap, ◌∙◌, sym}
use Rattle.user_model.specs.declared.call.Call.{Call}
use Rattle.user_model.specs.declared.call.Call.TheVariants as calls
use Rattle.user_model.specs.declared.entry.Answer.{Answer}
use Rattle.user_model.specs.declared.entry.Answer.TheVariants as answers
use Rattle.user_model.specs.declared.entry.Origin.TheVariants as origins
use Rattle.user_model.specs.declared.entry.Entry.{Entry}
use Rattle.user_model.specs.declared.entry.Setup.{Setup}
use Rattle.user_model.specs.Past.{Past, is_refused}
use Rattle.user_model.specs.Threads.{is_running}
use Rattle.user_model.specs.Retrievals.{input_got}
use Rattle.user_model.specs.Focus.{Slot, focus, active, capture, set_in}
use Rattle.user_model.specs.Keys.{change_of, down_after}
use Rattle.user_model.specs.Idle.{reply}
use Rattle.user_model.proofs.GroupReplies.{set_focus_told, set_active_told, set_capture_told, release_told}
use Rattle.user_model.proofs.GroupThreads.{running_is_thread}
use Rattle.user_model.proofs.ReplyLaws.{by_row}
use Rattle.group_state.proofs.LastSettings.{AreKnown}
use Rattle.group_state.proofs.Reaching.{thread_bounds}

-- the window that an entry sets for the slot
abbrev pub setting_in : Slot → Entry → Option ℕ
setting_in slot e = set_in slot e.call

-- whether the key is down, by the input that an entry takes
abbrev pub key_in : ℕ → Entry → Option Bool
key_in key e = down_after key (change_of (input_got e.answer e.call))

runs : (setup : Setup) (past : Past) (e : Entry) (slot : Slot) (call : Call) (w : ℕ) → e.answer ≡ reply setup past e.who.0 e.call → is_refused e ≡ false → e.call ≡ call → set_in slot call ≡ Some w → is_running setup past e.who.0 ≡ true
runs setup past e focus (calls.SetFocus v) w right fine is sets = (set_focus_told setup past e.who.0 v e.answer (sym (right ∙ ap (reply setup past e.who.0) is)) fine).running
runs setup past e active (calls.SetActive v) w right fine is sets = (set_active_told setup past e.who.0 v e.answer (sym (right ∙ ap (reply setup past e.who.0) is)) fine).running
runs setup past e capture (calls.SetCapture v) w right fine is sets = (set_capture_told setup past e.who.0 v e.answer (sym (right ∙ ap (reply setup past e.who.0) is)) fine).0.running
runs setup past e capture calls.ReleaseCapture w right fine is sets = (release_told setup past e.who.0 e.answer (sym (right ∙ ap (reply setup past e.who.0) is)) fine).0
runs setup past e _ _ w right fine is sets = absurd cc

-- who sets a window has the number of a thread
pub setters_known : (setup : Setup) (slot : Slot) → AreKnown (setting_in slot) setup
setters_known setup slot past e w right fine sets = thread_bounds setup e.who.0 (running_is_thread setup past e.who.0 (runs setup past e slot e.call w right fine refl sets))

takes : (setup : Setup) (past : Past) (who : ℕ) (call : Call) (a : Answer) (key : ℕ) (down : Bool) → a ≡ reply setup past who call → down_after key (change_of (input_got a call)) ≡ Some down → is_running setup past who ≡ true
takes setup past who call (answers.Got origins.Input n m) key down right told = (by_row setup past who call (answers.Got origins.Input n m) (sym right) refl).running
takes setup past who call _ key down right told = let none : None ≡ Some down = told in absurd cc

-- who takes input has the number of a thread
pub takers_known : (setup : Setup) (key : ℕ) → AreKnown (key_in key) setup
takers_known setup key past e down right fine told = thread_bounds setup e.who.0 (running_is_thread setup past e.who.0 (takes setup past e.who.0 e.call e.answer key down right told))
