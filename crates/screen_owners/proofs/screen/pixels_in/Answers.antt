use Rattle.std.proofs.Common.{◌≡◌, ◌∙◌, ap}
use Rattle.std.specs.Prelude.{◌&&◌}
use Rattle.std.proofs.lemmas.Result.{IfOk-weaker}
use Rattle.win_num.specs.declared.shapes.Point.{Point}
use Rattle.band_region.specs.Regions.{region_has}
use Rattle.screen_owners.specs.Owners.{is_within}
use Rattle.screen_owners.proofs.screen.pixels_in.Goals as goal

pub returns : goal.returns
returns c = IfOk-weaker c.and.result (λ x. (p : Point) → region_has x p ≡ (region_has c.in_ok-whole.whole p && region_has c.args.part.now.region p)) (λ x. (p : Point) → region_has x p ≡ is_within c.args.part.now p) (λ x h p. h p ∙ ap (λ b. b && region_has c.args.part.now.region p) (c.in_ok-whole.ensures p)) c.and.ensures
