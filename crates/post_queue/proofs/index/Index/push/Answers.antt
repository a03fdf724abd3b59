use Rattle.std.proofs.Common.{◌≡◌, ◌∙◌, ℕ, ◌++◌, ◌∷◌, [], List, length, Some, refl, sym, ap, subst, arith}
use Rattle.std.proofs.lemmas.List.{length-append}
use Rattle.post_queue.specs.declared.index.Place.{Place}
use Rattle.post_queue.specs.Places.{Keys, kept_in, Rises}
use Rattle.post_queue.proofs.PlaceLemmas.{rises_more, kept_more, kept_length}
use Rattle.post_queue.proofs.index.Index.push.Goals as goal

pub overflow_add-self : goal.overflow_add-self
overflow_add-self c =
    let old = c.self.inside.places in
    omega (arith, c.self.invariant.counted, kept_length old.items, old.ok.0, old.small)

pub invariant_of-self-2 : goal.invariant_of-self-2
invariant_of-self-2 c =
    let mid = c.make_way.new.places.items in
    let q : Place = record { number = c.args.number; key = Some c.args.key } in
    let items : c.push_back.new.self.items ≡ mid ++ q ∷ [] = c.in-Ok.ensures.items in
    record {
      rises = subst (λ (ps : List Place). Rises 0 ps) (sym items) (rises_more 0 mid q c.make_way.ensures.rises c.make_way.ensures.way);
      counted = omega (arith, c.self.invariant.counted, ap length (ap kept_in items ∙ kept_more mid q c.args.key refl), ap length c.make_way.ensures.kept, length-append (kept_in mid) ((c.args.number, c.args.key) ∷ []));
    }

pub returns-clause-ok : goal.returns-clause-ok
returns-clause-ok c =
    let mid = c.make_way.new.places.items in
    let q : Place = record { number = c.args.number; key = Some c.args.key } in
    let items : c.push_back.new.self.items ≡ mid ++ q ∷ [] = c.in-Ok.ensures.items in
    ap kept_in items
    ∙ kept_more mid q c.args.key refl
    ∙ ap (λ (es : List (ℕ × ℕ)). es ++ (c.args.number, c.args.key) ∷ []) (c.make_way.ensures.kept ∙ ap (λ (k : Keys). k.entries) c.self.view_is)
