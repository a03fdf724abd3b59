use Rattle.std.proofs.Common.{◌∙◌}
use Rattle.band_region.specs.Regions.{region_has}
use Rattle.screen_owners.specs.Owners.{is_on_screen}
use Rattle.screen_owners.proofs.Cuts.{both_true}
use Rattle.screen_owners.proofs.covers.part_met.Goals as goal

pub returns-in-Some : goal.returns-in-Some
returns-in-Some c p on =
    let s = c.args.part.now.screen in
    let b = both_true (is_on_screen s.width s.height p) (region_has c.args.part.now.region p) on in
    c.met.ensures p b.1 ∙ c.in-Some.ensures p b.0

pub returns-in-None : goal.returns-in-None
returns-in-None c p on =
    let s = c.args.part.now.screen in
    c.in-None.ensures p (both_true (is_on_screen s.width s.height p) (region_has c.args.part.now.region p) on).0
