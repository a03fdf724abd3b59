use Rattle.std.proofs.Common.{◌≡◌, not, ◌∙◌}
use Rattle.std.specs.Prelude.{◌&&◌, ◌||◌}
use Rattle.std.proofs.lemmas.Result.{IfOk-weaker}
use Rattle.win_num.specs.declared.shapes.Point.{Point}
use Rattle.band_region.specs.Regions.{region_has}
use Rattle.screen_owners.specs.Owners.{region_in}
use Rattle.dirty_windows.proofs.Exposing.{moved_all, unmoved_all}
use Rattle.dirty_windows.proofs.change.newly_owned.Goals as goal

pub returns-then-moved : goal.returns-then-moved
returns-then-moved c = IfOk-weaker c.diff.result
    (λ x. (p : Point) → region_has x p ≡ (region_has c.args.owned.now p && not (region_has c.args.carried.now p)))
    (λ x. (p : Point) → region_has x p ≡ ((region_has c.args.owned.now p && (c.args.moved || not (region_has (region_in c.args.old.now c.args.w.0) p))) && not (c.args.moved && region_has c.args.carried.now p)))
    (λ x h p. h p ∙ moved_all (region_has c.args.owned.now p) c.args.moved _ (region_has c.args.carried.now p) c.if-moved.true)
    c.diff.ensures

pub returns : goal.returns
returns c = IfOk-weaker c.other_part.result
    (λ x. (p : Point) → region_has x p ≡ (region_has c.args.owned.now p && not (region_has (region_in c.args.old.now c.args.w.0) p)))
    (λ x. (p : Point) → region_has x p ≡ ((region_has c.args.owned.now p && (c.args.moved || not (region_has (region_in c.args.old.now c.args.w.0) p))) && not (c.args.moved && region_has c.args.carried.now p)))
    (λ x h p. h p ∙ unmoved_all (region_has c.args.owned.now p) c.args.moved _ (region_has c.args.carried.now p) c.if-moved.false)
    c.other_part.ensures
