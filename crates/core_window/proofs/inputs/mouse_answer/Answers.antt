use Rattle.std.proofs.Common.{◌≡◌, ℤ, false, refl, ap, sym, ◌∙◌}
use Rattle.std.proofs.lemmas.Int.{to_z-of_z}
use mir.Val.{SFits, of_z, to_z}
use mir.Syntax.{w64}
use Rattle.user_model.specs.Pixels.{point}
use Rattle.user_model.specs.Inputs.{home_of, of_mouse}
use Rattle.user_model.specs.Refusals.{invalid_parameter}
use Rattle.user_model.specs.ReplyInput.{inject, is_no_mouse}
use Rattle.core_window.proofs.Injected.{mouse_small, passed}
use Rattle.core_window.proofs.inputs.mouse_answer.Goals as goal

same_point : (x y : ℤ) → SFits w64 x → SFits w64 y → point (to_z w64 (of_z w64 x)) (to_z w64 (of_z w64 y)) ≡ point x y
same_point x y fits_x fits_y = rw (to_z-of_z w64 x fits_x, to_z-of_z w64 y fits_y) refl

pub message_of-requires : goal.message_of-requires
message_of-requires c =
    let setup = c.args.state.now.setup in
    let fine : is_no_mouse setup c.args.number (point c.args.x c.args.y) ≡ false =
    sym (ap (is_no_mouse setup c.args.number) (same_point c.args.x c.args.y c.ranges.x c.ranges.y)) ∙ sym c.is_no_mouse.ensures ∙ c.if-is_no_mouse.false in
    mouse_small setup c.args.number (point c.args.x c.args.y) fine

pub returns : goal.returns
returns c =
    let v = c.args.state.now in
    let p = point c.args.x c.args.y in
    let same = same_point c.args.x c.args.y c.ranges.x c.ranges.y in
    let fine : is_no_mouse v.setup c.args.number p ≡ false = sym (ap (is_no_mouse v.setup c.args.number) same) ∙ sym c.is_no_mouse.ensures ∙ c.if-is_no_mouse.false in
    let home : c.mouse_home.result ≡ home_of v.setup v.past (of_mouse c.args.number p) = c.mouse_home.ensures.home c.args.number ∙ ap (λ q. home_of v.setup v.past (of_mouse c.args.number q)) same in
    c.inject_answer.ensures (of_mouse c.args.number p) home c.message_of.ensures
    ∙ passed (is_no_mouse v.setup c.args.number p) invalid_parameter (inject v.setup v.past (of_mouse c.args.number p)) fine
