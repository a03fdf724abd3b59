use Rattle.std.proofs.Common.{reverse, ap, sym, ◌∙◌, length, ◌-◌, ◌+◌}
use Rattle.user_model.specs.Pixels.{point}
use Rattle.win_order.specs.Layers.{siblings_of}
use Rattle.window_state.specs.Pixels.{covers_in, deepest_in, inside_of}
use Rattle.window_state.proofs.TreeFacts.{found_passes}
use Rattle.window_state.proofs.Descents.{one_more, step_down}
use Rattle.window_state.proofs.pixels.deepest.Goals as goal

pub inside-spot-requires : goal.inside-spot-requires
inside-spot-requires c = found_passes (covers_in c.args.tree.now.live (point c.loop.spot.x c.loop.spot.y)) (reverse (siblings_of c.loop.spot.window.0 c.args.order.now)) c.in-Some.w (sym c.in-Some.ensures)

pub loop-preserved : goal.loop-preserved
loop-preserved c =
    let ws = c.args.tree.now.live in
    let z = c.args.order.now in
    let p = point c.loop.spot.x c.loop.spot.y in
    let n = length c.windows-end.result.now in
    let s = c.inside-spot.result in (
      c.loop.invariant.0,
      ap (λ q. deepest_in (n - (c.loop.counter + 1)) ws z q s.window) c.inside-spot.ensures.point
          ∙ ap (λ u. deepest_in (n - (c.loop.counter + 1)) ws z (inside_of ws p c.in-Some.w) u) c.inside-spot.ensures.window
          ∙ sym (step_down (n - (c.loop.counter + 1)) ws z p c.loop.spot.window c.in-Some.w (sym c.in-Some.ensures))
          ∙ ap (λ k. deepest_in k ws z p c.loop.spot.window) (sym (one_more n c.loop.counter c.loop-test.true))
          ∙ c.loop.invariant.1,
    )
