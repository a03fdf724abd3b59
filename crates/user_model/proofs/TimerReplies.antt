-- What the answers of the calls on timers tell.
use Rattle.std.proofs.Common.{◌≡◌, ℕ, false, not, eqb, length, refl, sym}
use Rattle.std.specs.Prelude.{◌&&◌, is_none}
use Rattle.std.proofs.Math.Dec.{leb}
use Rattle.win_num.specs.declared.code.Code.TheVariants.{Full}
use Rattle.user_model.specs.declared.call.Call.TheVariants as calls
use Rattle.user_model.specs.declared.entry.Answer.{Answer}
use Rattle.user_model.specs.declared.entry.Answer.TheVariants as answers
use Rattle.user_model.specs.declared.entry.Setup.{Setup}
use Rattle.user_model.specs.Past.{Past, is_refusal}
use Rattle.user_model.specs.Windows.{is_live, thread_of}
use Rattle.user_model.specs.Timers.{timer, timers_of}
use Rattle.user_model.specs.Refusals.{invalid_parameter, invalid_window_handle, access_denied}
use Rattle.user_model.specs.Idle.{reply}
use Rattle.user_model.proofs.ReplyLaws.{not_refused, not_false, by_call}
use Rattle.user_model.proofs.WindowReplies.{IsOwn, own_told}

-- a timer was set of an own live window: it was set before, or its thread had room for one more
pub record IsSet (setup : Setup) (past : Past) (who w id : ℕ) : Type 0 where
  pub own : IsOwn setup past who w
  pub room : (is_none (timer past w id) && leb 256 (length (timers_of past who))) ≡ false

pub set_told : (setup : Setup) (past : Past) (who w id ms : ℕ) → reply setup past who (calls.SetTimer w id ms) ≡ answers.Okay → IsSet setup past who w id
set_told setup past who w id ms e =
    let by = by_call setup past who (calls.SetTimer w id ms) answers.Okay e refl refl in
    let live = not_refused (not (is_live past w)) invalid_window_handle _ answers.Okay refl by.is_row in
    let own = not_refused (not (eqb (thread_of past w) who)) access_denied _ answers.Okay refl live.1 in
    let room = not_refused (is_none (timer past w id) && leb 256 (length (timers_of past who))) Full answers.Okay answers.Okay refl own.1 in
    record { own = record { running = by.running; is_live = not_false (is_live past w) live.0; own = not_false (eqb (thread_of past w) who) own.0 }; room = room.0 }

-- a setting that isn't refused answers okay
pub set_okay : (setup : Setup) (past : Past) (who w id ms : ℕ) (a : Answer) → reply setup past who (calls.SetTimer w id ms) ≡ a → is_refusal a ≡ false → a ≡ answers.Okay
set_okay setup past who w id ms a e right =
    let by = by_call setup past who (calls.SetTimer w id ms) a e refl right in
    let live = not_refused (not (is_live past w)) invalid_window_handle _ a right by.is_row in
    let own = not_refused (not (eqb (thread_of past w) who)) access_denied _ a right live.1 in
    let room = not_refused (is_none (timer past w id) && leb 256 (length (timers_of past who))) Full answers.Okay a right own.1 in
    sym room.1

-- a timer was taken back of an own live window
pub kill_told : (setup : Setup) (past : Past) (who w id : ℕ) → reply setup past who (calls.KillTimer w id) ≡ answers.Okay → IsOwn setup past who w
kill_told setup past who w id e =
    let by = by_call setup past who (calls.KillTimer w id) answers.Okay e refl refl in
    let there = not_refused (is_live past w && is_none (timer past w id)) invalid_parameter _ answers.Okay refl by.is_row in
    own_told setup past who w by.running there.1

-- one that isn't refused answers okay
pub kill_okay : (setup : Setup) (past : Past) (who w id : ℕ) (a : Answer) → reply setup past who (calls.KillTimer w id) ≡ a → is_refusal a ≡ false → a ≡ answers.Okay
kill_okay setup past who w id a e right =
    let by = by_call setup past who (calls.KillTimer w id) a e refl right in
    let there = not_refused (is_live past w && is_none (timer past w id)) invalid_parameter _ a right by.is_row in
    let live = not_refused (not (is_live past w)) invalid_window_handle _ a right there.1 in
    let own = not_refused (not (eqb (thread_of past w) who)) access_denied answers.Okay a right live.1 in
    sym own.1
