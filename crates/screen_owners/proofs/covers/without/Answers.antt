use Rattle.std.proofs.Common.{◌≡◌, ◌∙◌, [], length, false, ap, sym}
use Rattle.std.proofs.lemmas.Bool.Decides.{Decides-eqb}
use Rattle.std.proofs.lemmas.List.{nil_from_length}
use Rattle.band_region.specs.Regions.{region_has}
use Rattle.screen_owners.proofs.Cuts.{emptied}
use Rattle.screen_owners.proofs.covers.without.Goals as goal

pub returns-then-is_empty : goal.returns-then-is_empty
returns-then-is_empty c p =
    let left = c.loop-c.left in
    let none : left ≡ [] = nil_from_length left (ap length (sym c.rects.ensures.value) ∙ (Decides-eqb (length c.rects.result.now) 0).0 (sym c.is_empty.ensures ∙ c.if-is_empty.true)) in
    let gone : region_has left p ≡ false = ap (λ rs. region_has rs p) none in
    gone ∙ emptied (region_has c.args.region p) (region_has left p) c.args.covers.now c.loop-c.c-index p (c.loop-c.invariant p) gone
