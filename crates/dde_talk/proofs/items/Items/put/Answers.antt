use Rattle.std.proofs.Common.{Some, sym, ap, ◌∙◌, subst}
use Rattle.dde_talk.specs.Replies.{Items, AreRising, IsPlaceOf, value_of, with_value}
use Rattle.dde_talk.proofs.ItemLaws.{changed_there, stands, still_apart, still_rising}
use Rattle.dde_talk.proofs.items.Items.put.Goals as goal

pub invariant_of-self : goal.invariant_of-self
invariant_of-self c =
    let es : Items = c.self.inside.rows.items in
    let rising = subst (λ (l : Items). AreRising l) (sym c.deref.ensures.value) c.self.invariant.1 in
    let here = stands es c.deref.result.now c.args.item c.in-Some.at c.index_mut-row.result.now c.deref.ensures.value (c.in-Some.ensures rising) c.index_mut-row.ensures.value in
    (still_apart es c.in-Some.at c.index_mut-row.result.now c.args.value here c.self.invariant.0, still_rising es c.in-Some.at c.index_mut-row.result.now c.args.value here c.self.invariant.1)

pub returns-in-Some : goal.returns-in-Some
returns-in-Some c =
    let es : Items = c.self.inside.rows.items in
    let rising = subst (λ (l : Items). AreRising l) (sym c.deref.ensures.value) c.self.invariant.1 in
    let place : IsPlaceOf c.deref.result.now c.args.item (Some c.in-Some.at) = c.in-Some.ensures rising in
    let here = stands es c.deref.result.now c.args.item c.in-Some.at c.index_mut-row.result.now c.deref.ensures.value place c.index_mut-row.ensures.value in
    λ i. changed_there es c.in-Some.at c.args.item c.args.value c.index_mut-row.result.now i c.self.invariant.0 (subst (λ (l : Items). IsPlaceOf l c.args.item (Some c.in-Some.at)) c.deref.ensures.value place) here ∙ ap (λ (l : Items). with_value c.args.item c.args.value i (value_of l i)) c.self.view_is
