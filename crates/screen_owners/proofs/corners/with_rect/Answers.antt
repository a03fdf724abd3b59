use Rattle.std.proofs.Common.{◌≡◌, Option, Some, None, sym, subst}
use Rattle.std.specs.Prelude.{◌||◌, IfOk}
use Rattle.std.proofs.lemmas.Result.{IfOk-weaker}
use Rattle.win_num.specs.declared.shapes.Point.{Point}
use Rattle.win_num.specs.declared.shapes.Rect.{Rect}
use Rattle.band_region.specs.Regions.{region_has}
use Rattle.screen_owners.specs.Shares.{part_has}
use Rattle.screen_owners.proofs.CornerLaws.{with_none, with_some}
use Rattle.screen_owners.proofs.corners.with_rect.Goals as goal

pub returns-in_ok-more-in-Some : goal.returns-in_ok-more-in-Some
returns-in_ok-more-in-Some c =
    subst (λ (o : Option Rect). IfOk c.or.result (λ x. (p : Point) → region_has x p ≡ (region_has c.args.region.now p || part_has o p))) (sym c.in-Some.is)
    (IfOk-weaker c.or.result (λ x. (p : Point) → region_has x p ≡ (region_has c.args.region.now p || region_has c.in_ok-more-in-Some.more p)) (λ x. (p : Point) → region_has x p ≡ (region_has c.args.region.now p || part_has (Some c.in-Some.r) p))
    (λ x h. with_some c.args.region.now c.in_ok-more-in-Some.more x c.in-Some.r c.in_ok-more-in-Some.ensures h) c.or.ensures)

pub returns-in-None : goal.returns-in-None
returns-in-None c =
    subst (λ (o : Option Rect). IfOk c.copy.result (λ x. (p : Point) → region_has x p ≡ (region_has c.args.region.now p || part_has o p))) (sym c.in-None.is)
    (IfOk-weaker c.copy.result (λ x. x ≡ c.args.region.now) (λ x. (p : Point) → region_has x p ≡ (region_has c.args.region.now p || part_has None p)) (λ x h. with_none c.args.region.now x h) c.copy.ensures)
