use Rattle.std.proofs.Common.{◌≡◌, ◌∷◌, ◌∙◌, sym}
use Rattle.band_region.specs.Regions.{IsBanded}
use Rattle.band_region.proofs.Sets.{region_at, least_at, not_empty_at}
use Rattle.band_region.proofs.region.Region.bounds.Goals as goal

pub returns-in-Some-clause-around : goal.returns-in-Some-clause-around
returns-in-Some-clause-around c =
    let e : c.args.self.now ≡ c.in-Some.first.now ∷ c.in-Some.others.now = sym c.self.view_is ∙ (sym c.as_slice.ensures.value ∙ c.in-Some.ensures.cases.0) in
    let g : IsBanded c.args.self.now = region_at c.self.view_is c.self.invariant in
    least_at _ _ _ e g c.least_around.ensures

pub returns-in-Some-clause-empty : goal.returns-in-Some-clause-empty
returns-in-Some-clause-empty c =
    let e : c.args.self.now ≡ c.in-Some.first.now ∷ c.in-Some.others.now = sym c.self.view_is ∙ (sym c.as_slice.ensures.value ∙ c.in-Some.ensures.cases.0) in
    let g : IsBanded c.args.self.now = region_at c.self.view_is c.self.invariant in
    λ h. absurd (not_empty_at _ _ e g h)
