use Rattle.std.proofs.Common.{refl, arith}
use Rattle.band_region.proofs.Shapes.{kind_at}
use Rattle.band_region.proofs.region.Region.kind.Goals as goal

pub returns-in-1-clause-empty : goal.returns-in-1-clause-empty
returns-in-1-clause-empty c =
    let k = kind_at _ _ c.len.result c.self.view_is (omega arith) c.self.invariant in
    (λ n. absurd (omega arith), λ h. let e = k.empty h in absurd (omega arith))

pub returns-in-1-clause-one : goal.returns-in-1-clause-one
returns-in-1-clause-one c =
    let k = kind_at _ _ c.len.result c.self.view_is (omega arith) c.self.invariant in
    (λ _. k.single c.in-1.is, λ _. refl)

pub returns-in_default-clause-empty : goal.returns-in_default-clause-empty
returns-in_default-clause-empty c =
    let k = kind_at _ _ c.len.result c.self.view_is (omega arith) c.self.invariant in
    (λ n. absurd (omega arith), λ h. let e = k.empty h in absurd (omega arith))

pub returns-in_default-clause-one : goal.returns-in_default-clause-one
returns-in_default-clause-one c =
    let k = kind_at _ _ c.len.result c.self.view_is (omega arith) c.self.invariant in
    (λ n. absurd (omega arith), λ h. let e = k.one h in absurd (omega arith))
