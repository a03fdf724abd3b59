use Rattle.std.proofs.Common.{◌∙◌, sym, ap}
use Rattle.post_queue.specs.declared.index.Place.{Place}
use Rattle.post_queue.proofs.PlaceLemmas.{within_taken}
use Rattle.post_queue.proofs.index.taken_within.Goals as goal

pub returns-clause-value : goal.returns-clause-value
returns-clause-value c =
    let ps = c.args.places.now.items in
    let d = c.in_ok-place.place.now in
    let here = c.in_ok-place.ensures.value in
    let q : Place = record { number = d.number; key = c.take.new.self } in
    let found = c.in_ok-i.ensures.found in
    let taken = within_taken c.args.number 0 ps c.in_ok-i.i d q c.requires found.0 (found.1 d) (ap (λ (p : Place). p.number) here ∙ found.1 d) c.take.ensures.after in
    c.take.ensures.value ∙ ap (λ (p : Place). p.key) here ∙ sym taken.0

pub returns-clause-kept : goal.returns-clause-kept
returns-clause-kept c =
    let ps = c.args.places.now.items in
    let d = c.in_ok-place.place.now in
    let here = c.in_ok-place.ensures.value in
    let q : Place = record { number = d.number; key = c.take.new.self } in
    let found = c.in_ok-i.ensures.found in
    sym (within_taken c.args.number 0 ps c.in_ok-i.i d q c.requires found.0 (found.1 d) (ap (λ (p : Place). p.number) here ∙ found.1 d) c.take.ensures.after).1

pub returns-clause-rises : goal.returns-clause-rises
returns-clause-rises c =
    let ps = c.args.places.now.items in
    let d = c.in_ok-place.place.now in
    let here = c.in_ok-place.ensures.value in
    let q : Place = record { number = d.number; key = c.take.new.self } in
    let found = c.in_ok-i.ensures.found in
    (within_taken c.args.number 0 ps c.in_ok-i.i d q c.requires found.0 (found.1 d) (ap (λ (p : Place). p.number) here ∙ found.1 d) c.take.ensures.after).2
