-- What a refused entry leaves as it was: all that the definitions keep.
use Rattle.std.specs.Prelude.{◌≡◌, ℕ, Bool, ◌∷◌}
use Rattle.win_num.specs.declared.shapes.Point.{Point}
use Rattle.user_model.specs.declared.entry.Entry.{Entry}
use Rattle.user_model.specs.declared.entry.Setup.{Setup}
use Rattle.user_model.specs.Past.{Past}
use Rattle.user_model.specs.Places.{clock, cursor, has_ended}
use Rattle.user_model.specs.Windows.{live, windows_made}
use Rattle.user_model.specs.Looks.{look}
use Rattle.user_model.specs.ZOrder.{siblings}
use Rattle.user_model.specs.Pixels.{owner}
use Rattle.user_model.specs.Dirty.{is_dirty, must_erase}
use Rattle.user_model.specs.Painting.{is_painting}
use Rattle.user_model.specs.Colours.{colour, frame_of, is_in_clip}
use Rattle.user_model.specs.Destruction.{Step, is_marked, was_given}
use Rattle.user_model.specs.Classes.{classes, registered_count, message_names}
use Rattle.user_model.specs.Posts.{posts, posted, quit}
use Rattle.user_model.specs.Stacks.{stack}
use Rattle.user_model.specs.Sends.{SentMsg, sends, is_entered, answer, unfinished, was_called_back}
use Rattle.user_model.specs.Ready.{ready}
use Rattle.user_model.specs.Timers.{WinTimer, base, timers}
use Rattle.user_model.specs.Groups.{attached}
use Rattle.user_model.specs.Focus.{Slot, foreground, last_set}
use Rattle.user_model.specs.Inputs.{inputs, untaken}
use Rattle.user_model.specs.Keys.{is_key_down}
use Rattle.user_model.specs.Dialogs.{dialog}
use Rattle.user_model.specs.Status.{last_look}

-- after the entry each value is the one before it
pub record ChangesNothing (past : Past) (e : Entry) : Type 0 where
  pub same_clock : clock (e ∷ past) ≡ clock past
  pub same_cursor : cursor (e ∷ past) ≡ cursor past
  pub same_ends : (t : ℕ) → has_ended (e ∷ past) t ≡ has_ended past t
  pub same_windows : live (e ∷ past) ≡ live past
  pub same_numbers : windows_made (e ∷ past) ≡ windows_made past
  pub same_looks : (w : ℕ) → look (e ∷ past) w ≡ look past w
  pub same_siblings : (p : ℕ) → siblings (e ∷ past) p ≡ siblings past p
  pub same_owners : (setup : Setup) (p : Point) → owner setup (e ∷ past) p ≡ owner setup past p
  pub same_dirty : (setup : Setup) (w : ℕ) (p : Point) → is_dirty setup (e ∷ past) w p ≡ is_dirty setup past w p
  pub same_flags : (setup : Setup) (w : ℕ) → must_erase setup (e ∷ past) w ≡ must_erase setup past w
  pub same_painting : (w : ℕ) → is_painting (e ∷ past) w ≡ is_painting past w
  pub same_clips : (setup : Setup) (w : ℕ) (p : Point) → is_in_clip setup (e ∷ past) w p ≡ is_in_clip setup past w p
  pub same_colours : (setup : Setup) (p : Point) → colour setup (e ∷ past) p ≡ colour setup past p
  pub same_frames : (setup : Setup) (number : ℕ) → frame_of setup (e ∷ past) number ≡ frame_of setup past number
  pub same_marks : (w : ℕ) → is_marked (e ∷ past) w ≡ is_marked past w
  pub same_steps : (step : Step) → was_given (e ∷ past) step ≡ was_given past step
  pub same_classes : classes (e ∷ past) ≡ classes past
  pub same_atoms : registered_count (e ∷ past) ≡ registered_count past
  pub same_message_names : message_names (e ∷ past) ≡ message_names past
  pub same_post_numbers : posts (e ∷ past) ≡ posts past
  pub same_posts : (t : ℕ) → posted (e ∷ past) t ≡ posted past t
  pub same_quit : (t : ℕ) → quit (e ∷ past) t ≡ quit past t
  pub same_stacks : (t : ℕ) → stack (e ∷ past) t ≡ stack past t
  pub same_sends : sends (e ∷ past) ≡ sends past
  pub same_enterings : (s : ℕ) → is_entered (e ∷ past) s ≡ is_entered past s
  pub same_answers : (s : ℕ) → answer (e ∷ past) s ≡ answer past s
  pub same_results : (x : SentMsg) → was_called_back (e ∷ past) x ≡ was_called_back past x
  pub same_unfinished : unfinished (e ∷ past) ≡ unfinished past
  pub same_ready : (t : ℕ) → ready (e ∷ past) t ≡ ready past t
  pub same_timers : timers (e ∷ past) ≡ timers past
  pub same_bases : (x : WinTimer) → base (e ∷ past) x ≡ base past x
  pub same_links : attached (e ∷ past) ≡ attached past
  pub same_settings : (among : ℕ → Bool) (slot : Slot) → last_set among slot (e ∷ past) ≡ last_set among slot past
  pub same_foreground : foreground (e ∷ past) ≡ foreground past
  pub same_inputs : (setup : Setup) → untaken setup (e ∷ past) ≡ untaken setup past
  pub same_input_numbers : inputs (e ∷ past) ≡ inputs past
  pub same_keys : (t key : ℕ) → is_key_down (e ∷ past) t key ≡ is_key_down past t key
  pub same_dialogs : (w : ℕ) → dialog (e ∷ past) w ≡ dialog past w
  pub same_last_looks : (t : ℕ) → last_look (e ∷ past) t ≡ last_look past t
