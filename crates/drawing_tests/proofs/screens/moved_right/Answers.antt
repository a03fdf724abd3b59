use Rattle.std.proofs.Common.{◌∙◌, ap}
use Rattle.screen_buf.specs.Pictures.{Picture}
use Rattle.screen_buf.proofs.Carries.{last_two_lie}
use Rattle.drawing_tests.proofs.screens.moved_right.Goals as goal

pub carry-requires : goal.carry-requires
carry-requires c =
    last_two_lie _ c.in-Ok.part _ _
    (c.fill-2.ensures.width ∙ (c.fill.ensures.width ∙ ap (λ (s : Picture). s.width) c.in_ok-screen.ensures))
    (c.fill-2.ensures.height ∙ (c.fill.ensures.height ∙ ap (λ (s : Picture). s.height) c.in_ok-screen.ensures))
    c.in_ok-last_two.ensures
    c.in-Ok.ensures.ok
