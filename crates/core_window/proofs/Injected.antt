-- What injections answer.
use Rattle.std.proofs.Common.{◌≡◌, ℕ, ◌≤◌, Bool, true, false, not, refl, arith}
use Rattle.std.proofs.lemmas.Bool.{or_parts}
use Rattle.std.proofs.lemmas.Bool.Decides.{nat_tests}
use Rattle.win_num.specs.declared.code.Code.{Code}
use Rattle.win_num.specs.declared.shapes.Point.{Point}
use Rattle.win_num.specs.PixelSets.{has_pixel}
use Rattle.user_model.specs.declared.entry.Answer.{Answer}
use Rattle.user_model.specs.declared.entry.Setup.{Setup}
use Rattle.user_model.specs.Pixels.{screen}
use Rattle.user_model.specs.Refusals.{refuse}
use Rattle.user_model.specs.ReplyInput.{is_no_key, is_no_mouse}
use Rattle.user_model.specs.Targets.{is_of_mouse}
use Rattle.user_model.proofs.ReplyLaws.{not_false}

-- what isn't refused is answered by what stands behind
pub passed : (b : Bool) (code : Code) (a : Answer) → b ≡ false → a ≡ refuse b code a
passed true code a h = cc
passed false code a h = refl

of_mouse_small : (number : ℕ) → is_of_mouse number ≡ true → number ≤ 65535
of_mouse_small number h = grind (arith, nat_tests, h)

-- a message of the mouse has a small number
pub mouse_small : (setup : Setup) (number : ℕ) (p : Point) → is_no_mouse setup number p ≡ false → number ≤ 65535
mouse_small setup number p h = of_mouse_small number (not_false (is_of_mouse number) (or_parts (not (is_of_mouse number)) (not (has_pixel (screen setup) p)) h).0)

-- and so has a key
pub key_small : (key : ℕ) → is_no_key key ≡ false → key ≤ 255
key_small key h = grind (arith, nat_tests, h)
