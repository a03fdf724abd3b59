use Rattle.std.proofs.Common.{rules, ◌≡◌, ap, ◌∙◌, refl}
use Rattle.std.proofs.lemmas.Int.{to_z-of_z}
use mir.Val.{SFits, of_z, to_z}
use mir.Syntax.{w64}
use Rattle.user_model.specs.Inputs.{home_of, of_mouse}
use Rattle.user_model.specs.Pixels.{point}
use Rattle.core_state.proofs.Injections.{home_of_key, home_of_mouse, injects_none}
use Rattle.core_state.proofs.state.CoreState.home_by.Goals as goal

pub returns-in-Mouse-clause-home : goal.returns-in-Mouse-clause-home
returns-in-Mouse-clause-home c =
    let v = c.args.self.now in
    let x : SFits w64 c.in-Mouse.x = search rules in
    let y : SFits w64 c.in-Mouse.y = search rules in
    let passed : point (to_z w64 (of_z w64 c.in-Mouse.x)) (to_z w64 (of_z w64 c.in-Mouse.y)) ≡ point c.in-Mouse.x c.in-Mouse.y =
    rw (to_z-of_z w64 c.in-Mouse.x x, to_z-of_z w64 c.in-Mouse.y y) refl in
    λ i h. home_of_mouse v.setup v.past c.mouse_home.result _ c.in-Mouse.x c.in-Mouse.y c.args.call i c.in-Mouse.is h (λ message. c.mouse_home.ensures.home message ∙ ap (λ q. home_of v.setup v.past (of_mouse message q)) passed)

pub returns-in-Key-clause-home : goal.returns-in-Key-clause-home
returns-in-Key-clause-home c = λ i h. home_of_key c.args.self.now.setup c.args.self.now.past c.key_home.result _ _ c.args.call i c.in-Key.is h c.key_home.ensures.home

pub returns-in_default-clause-home : goal.returns-in_default-clause-home
returns-in_default-clause-home c = λ i h. absurd (injects_none c.args.call i c.in_default.not-Mouse c.in_default.not-Key h)
