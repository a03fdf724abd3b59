use Rattle.std.proofs.Common.{ℕ, sym, subst, rules, of_calls}
use Rattle.std.proofs.lemmas.Fn.{always_returns_same}
use Rattle.dde_talk.specs.Replies.{IsPlaceOf}
use Rattle.dde_talk.proofs.ItemLaws.{place_found}
use Rattle.dde_talk.proofs.items.place_of.Goals as goal

pub returns : goal.returns
returns c =
    let found = c.binary_search_by_key.ensures.position (λ (row : ℕ × ℕ). row.0) (always_returns_same _ _ _ (λ a r f k. search (rules, of_calls))) in
    λ rising. subst (λ o. IsPlaceOf c.args.rows.now c.args.item o) (sym c.ok.ensures.value) (place_found c.args.rows.now c.args.item c.binary_search_by_key.result rising c.binary_search_by_key.ensures.bound found)
