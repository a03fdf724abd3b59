use Rattle.std.proofs.Common.{◌≡◌, ◌∙◌, ◌≤◌, List, filter, is_some, sym, ap, subst, rules}
use Rattle.std.proofs.lemmas.Fn.{filter_same}
use Rattle.post_queue.specs.declared.index.Place.{Place}
use Rattle.post_queue.specs.Places.{kept_in, Rises, end_of}
use Rattle.post_queue.proofs.PlaceLemmas.{rises_kept, kept_kept, swept_below}
use Rattle.post_queue.proofs.index.make_way.Goals as goal

pub returns-then-not-has_way-clause-rises : goal.returns-then-not-has_way-clause-rises
returns-then-not-has_way-clause-rises c =
    let ps = c.args.places.now.items in
    let swept : c.retain.new.self.items ≡ filter (λ p. is_some p.key) ps = filter_same _ _ _ (λ x b f' k. search rules) _ _ c.retain.ensures.filtered in
    subst (λ (qs : List Place). Rises 0 qs) (sym swept) (rises_kept 0 ps c.requires.rises)

pub returns-then-not-has_way-clause-kept : goal.returns-then-not-has_way-clause-kept
returns-then-not-has_way-clause-kept c =
    let ps = c.args.places.now.items in
    let swept : c.retain.new.self.items ≡ filter (λ p. is_some p.key) ps = filter_same _ _ _ (λ x b f' k. search rules) _ _ c.retain.ensures.filtered in
    ap kept_in swept ∙ kept_kept ps

pub returns-then-not-has_way-clause-way : goal.returns-then-not-has_way-clause-way
returns-then-not-has_way-clause-way c =
    let ps = c.args.places.now.items in
    let swept : c.retain.new.self.items ≡ filter (λ p. is_some p.key) ps = filter_same _ _ _ (λ x b f' k. search rules) _ _ c.retain.ensures.filtered in
    subst (λ (qs : List Place). end_of 0 qs ≤ c.args.number) (sym swept) (swept_below c.args.number ps c.requires.above)
