use Rattle.std.proofs.Common.{ap, subst, sym}
use Rattle.std.proofs.lemmas.Bool.{eqb-true, eq-eqb}
use Rattle.band_region.specs.Regions.{IsEmpty}
use Rattle.update_region.specs.Updates.{Dirty}
use Rattle.update_region.proofs.update.Update.is_empty.Goals as goal

pub returns : goal.returns
returns c =
    let e = ap (λ (d : Dirty). d.area) c.self.view_is in
    (λ h. subst IsEmpty e (c.kind.ensures.empty.0 (eqb-true _ _ h)), λ n. eq-eqb _ _ (c.kind.ensures.empty.1 (subst IsEmpty (sym e) n)))
