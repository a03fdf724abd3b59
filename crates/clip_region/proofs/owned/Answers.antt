use Rattle.std.proofs.Common.{◌≡◌}
use Rattle.std.proofs.lemmas.Result.{IfOk-weaker}
use Rattle.win_num.specs.declared.shapes.Point.{Point}
use Rattle.band_region.specs.Regions.{region_has}
use Rattle.clip_region.specs.Clipping.{is_owned}
use Rattle.clip_region.proofs.Cuts.{Lacks, owned_has}
use Rattle.clip_region.proofs.owned.Goals as goal

pub returns : goal.returns
returns c = IfOk-weaker c.diff-2.result (λ x. Lacks c.in_ok-uncovered.uncovered c.in_ok-lent.lent x) (λ x. (p : Point) → region_has x p ≡ is_owned c.args.screen c.args.own c.args.above.now c.args.children.now p) (λ x h. owned_has c.args.screen c.args.own _ _ _ _ _ _ x c.args.above.now c.args.children.now c.in_ok-screen_pixels.ensures c.in_ok-own_pixels.ensures c.in_ok-on_screen.ensures c.in_ok-hidden.ensures c.in_ok-lent.ensures c.in_ok-uncovered.ensures h) c.diff-2.ensures
