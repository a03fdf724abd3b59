-- The answers of the calls that inject input, and of those on keys.
use Rattle.std.specs.Prelude.{if◌then◌else◌, ℕ, suc, ◌==◌, nat_lt, nat_le, Bool, not, ◌&&◌, ◌||◌, ℤ, length, Some, is_none}
use Rattle.win_num.specs.declared.code.Code.TheVariants.{Full, NoTarget}
use Rattle.win_num.specs.declared.names.TheConstants.{WM_KEYDOWN}
use Rattle.win_num.specs.declared.shapes.Point.{Point}
use Rattle.win_num.specs.PixelSets.{has_pixel}
use Rattle.user_model.specs.declared.entry.Setup.{Setup}
use Rattle.user_model.specs.declared.entry.Answer.{Answer}
use Rattle.user_model.specs.declared.entry.Answer.TheVariants.{Value, Input as InputMade}
use Rattle.user_model.specs.Past.{Past}
use Rattle.user_model.specs.Characters.{has_character}
use Rattle.user_model.specs.Pixels.{point, screen}
use Rattle.user_model.specs.Posts.{queue_of}
use Rattle.user_model.specs.Keys.{is_key_down}
use Rattle.user_model.specs.Inputs.{Injection, of_mouse, of_key, key_message, home_of, replaced_by, untaken, untaken_of, inputs}
use Rattle.user_model.specs.Targets.{is_of_mouse}
use Rattle.user_model.specs.Refusals.{refuse, invalid_parameter, invalid_window_handle}
use Rattle.user_model.specs.ReplyDelivery.{is_no_post_window, post_to}

-- the number that the next input gets
abbrev pub next_input_number : Past → ℕ
next_input_number past = suc (length (inputs past))

-- whether the group that an injection is meant for has 512 untaken elements, of which it replaces none
abbrev pub has_no_place : Setup → Past → Injection → Bool
has_no_place setup past i = is_none (replaced_by setup past (untaken setup past) (Some i)) && nat_le 512 (length (untaken_of setup past (home_of setup past i)))

-- an injection that is meant for a thread
abbrev pub inject : Setup → Past → Injection → Answer
inject setup past i = refuse (home_of setup past i == 0) NoTarget (refuse (has_no_place setup past i) Full (InputMade (next_input_number past)))

-- whether it is no message of the mouse at a pixel of the screen
abbrev pub is_no_mouse : Setup → ℕ → Point → Bool
is_no_mouse setup number p = not (is_of_mouse number) || not (has_pixel (screen setup) p)

-- a message of the mouse is injected
abbrev pub mouse_reply : Setup → Past → ℕ → ℤ → ℤ → Answer
mouse_reply setup past number x y = refuse (is_no_mouse setup number (point x y)) invalid_parameter (inject setup past (of_mouse number (point x y)))

-- keys and buttons have the numbers 1 to 254
abbrev pub is_no_key : ℕ → Bool
is_no_key key = (key == 0) || nat_lt 254 key

-- a key is injected, down or up
abbrev pub key_reply : Setup → Past → ℕ → ℕ → Answer
key_reply setup past down key = refuse (nat_lt 1 down || is_no_key key) invalid_parameter (inject setup past (of_key (key_message down) key))

-- 32768 where the key is down, else 0
abbrev pub key_state_reply : Past → ℕ → ℕ → Answer
key_state_reply past who key = refuse (is_no_key key) invalid_parameter (Value (if is_key_down past who key then 32768 else 0))

-- the character of a key that goes down is posted, where it has one; else 0
abbrev pub translate_reply : Setup → Past → ℕ → ℕ → ℕ → ℕ → Answer
translate_reply setup past who w number key = if (number == WM_KEYDOWN) && has_character key then refuse (is_no_post_window past w) invalid_window_handle (post_to setup past (queue_of past who w)) else Value 0
