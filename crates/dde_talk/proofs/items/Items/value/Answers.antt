use Rattle.std.proofs.Common.{◌≡◌, Some, sym, subst}
use Rattle.dde_talk.specs.Replies.{Items, AreRising, IsPlaceOf, value_of}
use Rattle.dde_talk.proofs.ItemLaws.{stands, value_there}
use Rattle.dde_talk.proofs.items.Items.value.Goals as goal

pub returns : goal.returns
returns c =
    let es : Items = c.self.inside.rows.items in
    let rising = subst (λ (l : Items). AreRising l) (sym c.deref.ensures.value) c.self.invariant.1 in
    let place : IsPlaceOf c.deref.result.now c.args.item (Some c.in_ok-at.at) = c.in_ok-at.ensures rising in
    let here = stands es c.deref.result.now c.args.item c.in_ok-at.at c.index.result.now c.deref.ensures.value place c.index.ensures in
    subst (λ (l : Items). Some c.index.result.now.1 ≡ value_of l c.args.item) c.self.view_is (sym (value_there es c.args.item c.in_ok-at.at c.index.result.now c.self.invariant.0 (subst (λ (l : Items). IsPlaceOf l c.args.item (Some c.in_ok-at.at)) c.deref.ensures.value place) here))
