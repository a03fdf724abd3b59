use Rattle.std.proofs.Common.{◌∙◌, length, unwrap_or, eqb, ap, sym}
use Rattle.win_order.specs.Families.{place_in}
use Rattle.win_order.proofs.Places.{place_or_end}
use Rattle.win_order.proofs.families.place_in.Goals as goal

pub returns-in-Below-clause-place : goal.returns-in-Below-clause-place
returns-in-Below-clause-place c =
    let others = c.args.others.now in
    c.unwrap_or.ensures ∙ (ap (λ o. unwrap_or o (length others)) c.place_of.ensures ∙ (place_or_end (λ v. eqb v.0 c.in-Below.sibling.0) others ∙ ap (λ after. place_in after others) (sym c.in-Below.is)))
