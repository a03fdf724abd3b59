use Rattle.std.proofs.Common.{◌≡◌, ◌∙◌, ◌-◌, suc, Some, None, ap, arith}
use Rattle.display_state.specs.Displays.{Shown}
use Rattle.display_state.proofs.Frames.{frame_told, got_none, got_some}
use Rattle.display_state.proofs.display.Display.frame.Goals as goal

pub returns-in-Some : goal.returns-in-Some
returns-in-Some c setup past at =
    let is : c.args.number ≡ suc (c.args.number - 1) = omega (arith, c.if-number-eq0.false) in
    ap Some c.as_slice.ensures.value
    ∙ frame_told setup past _ c.self.inside.frames.items c.deref.result.now (c.args.number - 1) c.args.number (Some c.in-Some.frame.now) c.deref.ensures.value (got_some c.deref.result.now (c.args.number - 1) c.in-Some.frame.now c.in-Some.ensures.lookup.0 c.in-Some.ensures.lookup.1) is (ap (λ (v : Shown). v.frames) c.self.view_is ∙ at.frames)

pub returns-in-None : goal.returns-in-None
returns-in-None c setup past at =
    let is : c.args.number ≡ suc (c.args.number - 1) = omega (arith, c.if-number-eq0.false) in
    frame_told setup past _ c.self.inside.frames.items c.deref.result.now (c.args.number - 1) c.args.number None c.deref.ensures.value (got_none c.deref.result.now (c.args.number - 1) c.in-None.ensures.lookup.0) is (ap (λ (v : Shown). v.frames) c.self.view_is ∙ at.frames)
