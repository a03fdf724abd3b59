use Rattle.std.proofs.Common.{◌≡◌, ◌∙◌, length, sym}
use Rattle.std.specs.Prelude.{◌||◌}
use Rattle.std.proofs.lemmas.Bool.Decides.{Decides-eqb}
use Rattle.std.proofs.lemmas.Result.{IfOk-weaker}
use Rattle.win_num.specs.declared.shapes.Point.{Point}
use Rattle.win_num.specs.PixelSets.{has_pixel}
use Rattle.win_num.specs.Rects.{box_in}
use Rattle.band_region.specs.Regions.{region_has}
use Rattle.screen_owners.proofs.Cuts.{Parts, parts_one, parts_both}
use Rattle.screen_owners.proofs.covers.+united.Goals as goal

pub returns-then-is_empty : goal.returns-then-is_empty
returns-then-is_empty t c = IfOk-weaker c.of_rect.result (λ x. (p : Point) → region_has x p ≡ has_pixel (box_in c.in-Some.first.now.part) p) (λ x. Parts c.args.covers.now x) (λ x h. parts_one x _ c.in-Some.first.now c.in-Some.others.now c.in-Some.ensures.cases.0 ((Decides-eqb (length c.in-Some.others.now) 0).0 (sym c.is_empty.ensures ∙ c.if-is_empty.true)) h) c.of_rect.ensures

pub returns : goal.returns
returns t c = IfOk-weaker c.or.result (λ x. (p : Point) → region_has x p ≡ (region_has c.in_ok-one.one p || region_has c.in_ok-other.other p)) (λ x. Parts c.args.covers.now x) (λ x h. parts_both _ _ x _ _ _ _ c.split_at.ensures.front c.split_at.ensures.back c.in_ok-one.ensures c.in_ok-other.ensures h) c.or.ensures
