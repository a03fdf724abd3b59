use Rattle.std.proofs.Common.{◌≡◌, ◌∙◌}
use Rattle.std.specs.Prelude.{◌||◌}
use Rattle.std.proofs.lemmas.Result.{IfOk-weaker}
use Rattle.win_num.specs.declared.shapes.Point.{Point}
use Rattle.band_region.specs.Regions.{region_has}
use Rattle.screen_owners.specs.Shown.{HasWays}
use Rattle.screen_owners.proofs.CornerLaws.{or_first, or_last, ways_in}
use Rattle.screen_owners.proofs.changes.boxes_in_both.Goals as goal

pub returns-clause-before : goal.returns-clause-before
returns-clause-before c =
    let s = c.args.screen in
    let one = c.in_ok-before.before in
    let other = c.in_ok-after.after in
    IfOk-weaker c.or.result (λ x. (p : Point) → region_has x p ≡ (region_has one p || region_has other p)) (HasWays c.args.old.now.live s.width s.height c.args.windows.now)
    (λ x h. ways_in c.args.old.now.live s.width s.height c.args.windows.now one x (λ p k. h p ∙ or_first (region_has one p) (region_has other p) k) c.in_ok-before.ensures)
    c.or.ensures

pub returns-clause-after : goal.returns-clause-after
returns-clause-after c =
    let s = c.args.screen in
    let one = c.in_ok-before.before in
    let other = c.in_ok-after.after in
    IfOk-weaker c.or.result (λ x. (p : Point) → region_has x p ≡ (region_has one p || region_has other p)) (HasWays c.args.new.now.live s.width s.height c.args.windows.now)
    (λ x h. ways_in c.args.new.now.live s.width s.height c.args.windows.now other x (λ p k. h p ∙ or_last (region_has one p) (region_has other p) k) c.in_ok-after.ensures)
    c.or.ensures
