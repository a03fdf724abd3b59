use Rattle.std.proofs.Common.{◌≡◌, reverse, refl, ap, ◌∙◌}
use Rattle.std.proofs.lemmas.Int.{to_z-of_z}
use mir.Val.{of_z, to_z}
use mir.Syntax.{w64}
use Rattle.user_model.specs.Past.{Past}
use Rattle.user_model.specs.Pixels.{owner, point}
use Rattle.core_state.specs.States.{Seen}
use Rattle.window_state.specs.Pixels.{owner_in}
use Rattle.window_state.proofs.PixelOwners.{owner_at_past}
use Rattle.core_state.proofs.state.CoreState.owner_at.Goals as goal

pub returns : goal.returns
returns c =
    let s = c.self.inside in
    let past : Past = reverse s.history.items in
    let passed : point (to_z w64 (of_z w64 c.args.x)) (to_z w64 (of_z w64 c.args.y)) ≡ point c.args.x c.args.y =
    rw (to_z-of_z w64 c.args.x c.ranges.x, to_z-of_z w64 c.args.y c.ranges.y) refl in
    c.owner_at.ensures
    ∙ ap (λ p. owner_in s.tree.live s.order s.setup.width s.setup.height p) passed
    ∙ owner_at_past s.setup past c.self.invariant.lawful s.tree s.order c.self.invariant.tree c.self.invariant.order c.args.x c.args.y
    ∙ ap (λ (v : Seen). owner v.setup v.past (point c.args.x c.args.y)) c.self.view_is
