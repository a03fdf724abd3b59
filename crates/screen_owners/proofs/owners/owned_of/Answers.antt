use Rattle.std.proofs.Common.{◌≡◌, not, refl, subst}
use Rattle.std.specs.Prelude.{◌&&◌}
use Rattle.win_num.specs.declared.shapes.Point.{Point}
use Rattle.band_region.specs.Regions.{region_has}
use Rattle.screen_owners.specs.Shares.{any_covers}
use Rattle.screen_owners.proofs.ShareLaws.{owned_of}
use Rattle.screen_owners.proofs.owners.owned_of.Goals as goal

pub returns-clause-owned : goal.returns-clause-owned
returns-clause-owned c = owned_of c.args.tree.now.live c.args.order.now c.args.tree.now.last c.args.part.now c.requires.ordered c.requires.children c.args.share.now (record { window = c.args.share.now.window; region = c.in_ok-region.region }) c.requires.share refl
    (subst (λ cs. (p : Point) → region_has c.in_ok-region.region p ≡ (region_has c.args.share.now.taken p && not (any_covers cs p))) c.deref.ensures.value c.in_ok-region.ensures)
