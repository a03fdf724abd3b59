use Rattle.std.proofs.Common.{◌≡◌, List, not, ap, ◌∙◌}
use Rattle.std.specs.Prelude.{◌&&◌, ◌||◌}
use Rattle.std.proofs.lemmas.Result.{IfOk-weaker}
use Rattle.win_num.specs.declared.shapes.Point.{Point}
use Rattle.win_num.specs.declared.shapes.Rect.{Rect}
use Rattle.band_region.specs.Regions.{region_has}
use Rattle.screen_owners.specs.Owners.{joined_has, region_in}
use Rattle.screen_owners.proofs.JoinedLaws.{none_joined, region_found, region_lost}
use Rattle.screen_owners.proofs.joined.joined.Goals as goal

pub returns-in-Some : goal.returns-in-Some
returns-in-Some c = IfOk-weaker c.or.result (λ x. (p : Point) → region_has x p ≡ (region_has c.in_ok-kept.kept p || region_has c.in-Some.owned.now p)) (λ x. (p : Point) → region_has x p ≡ joined_has c.args.part.now c.args.old.now c.args.new.now c.args.w.0 p)
    (λ x h p. h p ∙ (ap (λ b. b || region_has c.in-Some.owned.now p) (c.in_ok-kept.ensures p) ∙ ap (λ (r : List Rect). (region_has (region_in c.args.old.now c.args.w.0) p && not (region_has c.args.part.now p)) || region_has r p) (region_found c.args.new.now c.args.w.0 _ c.in-Some.ensures)))
    c.or.ensures

pub returns-in-None : goal.returns-in-None
returns-in-None c p =
    c.in_ok-kept.ensures p
    ∙ (none_joined (region_has (region_in c.args.old.now c.args.w.0) p && not (region_has c.args.part.now p))
    ∙ ap (λ (r : List Rect). (region_has (region_in c.args.old.now c.args.w.0) p && not (region_has c.args.part.now p)) || region_has r p) (region_lost c.args.new.now c.args.w.0 c.in-None.ensures))
