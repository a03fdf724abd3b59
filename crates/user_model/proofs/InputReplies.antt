-- What the answers of the calls on input tell.
use Rattle.std.proofs.Common.{◌≡◌, ℕ, true, false, not, eqb, refl}
use Rattle.std.specs.Prelude.{◌||◌, nat_lt, ℤ}
use Rattle.std.proofs.lemmas.Bool.{or_parts}
use Rattle.win_num.specs.PixelSets.{has_pixel}
use Rattle.win_num.specs.declared.code.Code.TheVariants.{Full, NoTarget}
use Rattle.user_model.specs.declared.call.Call.TheVariants as calls
use Rattle.user_model.specs.declared.entry.Answer.{Answer}
use Rattle.user_model.specs.declared.entry.Answer.TheVariants as answers
use Rattle.user_model.specs.declared.entry.Setup.{Setup}
use Rattle.user_model.specs.Past.{Past, is_refusal}
use Rattle.user_model.specs.Threads.{is_running}
use Rattle.user_model.specs.Pixels.{point, screen}
use Rattle.user_model.specs.Inputs.{Injection, of_mouse, of_key, home_of, key_message}
use Rattle.user_model.specs.Targets.{is_of_mouse}
use Rattle.user_model.specs.Refusals.{invalid_parameter}
use Rattle.user_model.specs.ReplyInput.{inject, is_no_mouse, is_no_key, has_no_place, next_input_number}
use Rattle.user_model.specs.Idle.{reply}
use Rattle.user_model.proofs.ReplyLaws.{not_refused, not_false, by_call}

-- a thread that runs injected what is meant for a thread, whose group has a place for it
pub record IsMeant (setup : Setup) (past : Past) (who : ℕ) (of : Injection) (a : Answer) : Type 0 where
  pub running : is_running setup past who ≡ true
  pub home : eqb (home_of setup past of) 0 ≡ false
  pub room : has_no_place setup past of ≡ false
  pub is_told : answers.Input (next_input_number past) ≡ a

meant : (setup : Setup) (past : Past) (who : ℕ) (of : Injection) (a : Answer) → is_running setup past who ≡ true → is_refusal a ≡ false → inject setup past of ≡ a → IsMeant setup past who of a
meant setup past who of a running fine e =
    let home = not_refused (eqb (home_of setup past of) 0) NoTarget _ a fine e in
    let room = not_refused (has_no_place setup past of) Full (answers.Input (next_input_number past)) a fine home.1 in
    record { running = running; home = home.0; room = room.0; is_told = room.1 }

-- a message of the mouse was injected, at a pixel of the screen
pub mouse_told : (setup : Setup) (past : Past) (who number : ℕ) (x y : ℤ) (a : Answer) → reply setup past who (calls.Mouse number x y) ≡ a → is_refusal a ≡ false → IsMeant setup past who (of_mouse number (point x y)) a × ((is_of_mouse number ≡ true) × (has_pixel (screen setup) (point x y) ≡ true))
mouse_told setup past who number x y a e fine =
    let by = by_call setup past who (calls.Mouse number x y) a e refl fine in
    let fits = not_refused (is_no_mouse setup number (point x y)) invalid_parameter (inject setup past (of_mouse number (point x y))) a fine by.is_row in
    let parts = or_parts (not (is_of_mouse number)) (not (has_pixel (screen setup) (point x y))) fits.0 in
    (meant setup past who (of_mouse number (point x y)) a by.running fine fits.1, (not_false (is_of_mouse number) parts.0, not_false (has_pixel (screen setup) (point x y)) parts.1))

-- a key was injected
pub key_told : (setup : Setup) (past : Past) (who down key : ℕ) (a : Answer) → reply setup past who (calls.Key down key) ≡ a → is_refusal a ≡ false → IsMeant setup past who (of_key (key_message down) key) a × ((nat_lt 1 down ≡ false) × (is_no_key key ≡ false))
key_told setup past who down key a e fine =
    let by = by_call setup past who (calls.Key down key) a e refl fine in
    let fits = not_refused (nat_lt 1 down || is_no_key key) invalid_parameter (inject setup past (of_key (key_message down) key)) a fine by.is_row in
    (meant setup past who (of_key (key_message down) key) a by.running fine fits.1, or_parts (nat_lt 1 down) (is_no_key key) fits.0)
