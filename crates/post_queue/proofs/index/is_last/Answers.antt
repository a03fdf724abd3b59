use Rattle.std.proofs.Common.{◌≡◌, ◌∙◌, ◌-◌, length, get_or, ap, arith}
use Rattle.std.proofs.lemmas.Bool.{ltb-true}
use Rattle.post_queue.specs.declared.index.Place.{Place}
use Rattle.post_queue.proofs.PlaceLemmas.{end_last}
use Rattle.post_queue.proofs.index.is_last.Goals as goal

pub returns-in-Some : goal.returns-in-Some
returns-in-Some c = λ above.
    let ps = c.args.places.now.items in
    let last = c.in-Some.last.now in
    let same : last ≡ get_or ps (length ps - 1) last = c.in-Some.ensures.lookup ∙ ap (λ k. get_or ps (k - 1) last) c.args.places.now.ok.0 in
    end_last c.args.number ps last (omega (arith, ap (λ (p : Place). p.number) same, ltb-true last.number c.args.number above))
