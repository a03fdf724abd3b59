use Rattle.std.proofs.Common.{◌≡◌, ◌<◌, ◌∙◌, List, length, get_or, set, is_some, true, false, sym, ap, subst}
use Rattle.std.specs.Option.{option_copied_mut}
use Rattle.slab.specs.Slab.{with_value}
use Rattle.slab.proofs.SlabLemmas.{Updates-with_value}
use Rattle.std.proofs.lemmas.List.{get_or_default}
use Rattle.win_rows.specs.declared.window.Window.{Window}
use Rattle.win_rows.specs.declared.rows.Rows.TheInside.{Inside}
use Rattle.win_rows.specs.Index.{rows_at, IsIndex}
use Rattle.win_rows.proofs.Indexed.{put_index, put_rows, some_at}
use Rattle.win_rows.proofs.rows.Rows.put.Goals as goal
use Rattle.win_rows.proofs.rows.Rows.put.Goals.{in-Some, in_default}

differ : false ≡ true → ⊥
differ h = cc h

pub invariant_of-self : goal.invariant_of-self
invariant_of-self c =
    let s = c.self.inside.slab in
    let ps = c.self.inside.places.items in
    let ws = rows_at s ps in
    let p = c.index.result.now in
    let i = c.args.i in
    let x = c.args.window in
    let lt : i < length ws = subst (λ (us : List Window). i < length us) (sym c.self.view_is) c.requires.within in
    let some = some_at s ps i p c.self.invariant.found lt c.index.ensures in
    let there : get_or ws i x ≡ get_or c.args.self.now i (get_or ws i x) = get_or_default ws i x (get_or ws i x) lt ∙ ap (λ (us : List Window). get_or us i (get_or ws i x)) c.self.view_is in
    let number : x.number ≡ (get_or ws i x).number = c.requires.number (get_or ws i x) there in
    let updates = Updates-with_value s p.key x some in
    elim c.match-get_mut.branch [
      | in-Some b ↦ subst (λ (t : Inside). IsIndex t.slab t.places.items) (sym b.self-inside-is) (put_index s (with_value s p.key x) ps ps c.self.invariant i p x lt c.index.ensures updates number)
      | in_default b ↦ absurd (differ (ap (λ o. is_some (option_copied_mut o)) (sym b.in_default.is) ∙ ap is_some c.get_mut.follows ∙ some))
    ]

pub returns : goal.returns
returns c =
    let s = c.self.inside.slab in
    let ps = c.self.inside.places.items in
    let ws = rows_at s ps in
    let p = c.index.result.now in
    let i = c.args.i in
    let x = c.args.window in
    let lt : i < length ws = subst (λ (us : List Window). i < length us) (sym c.self.view_is) c.requires.within in
    let some = some_at s ps i p c.self.invariant.found lt c.index.ensures in
    let there : get_or ws i x ≡ get_or c.args.self.now i (get_or ws i x) = get_or_default ws i x (get_or ws i x) lt ∙ ap (λ (us : List Window). get_or us i (get_or ws i x)) c.self.view_is in
    let number : x.number ≡ (get_or ws i x).number = c.requires.number (get_or ws i x) there in
    let updates = Updates-with_value s p.key x some in
    elim c.match-get_mut.branch [
      | in-Some b ↦ ap (λ (t : Inside). rows_at t.slab t.places.items) b.self-inside-is ∙ put_rows s (with_value s p.key x) ps ps c.self.invariant i p x lt c.index.ensures updates number ∙ ap (λ (us : List Window). set us i x) c.self.view_is
      | in_default b ↦ absurd (differ (ap (λ o. is_some (option_copied_mut o)) (sym b.in_default.is) ∙ ap is_some c.get_mut.follows ∙ some))
    ]
