use Rattle.std.proofs.Common.{ℕ, List, sym, ap, ◌∙◌, subst}
use Rattle.std.specs.List.Sorted.{IsNonDecreasing}
use Rattle.dde_talk.specs.Replies.{is_listed}
use Rattle.dde_talk.proofs.ItemLaws.{listed_there}
use Rattle.dde_talk.proofs.items.Commands.has.Goals as goal

pub returns : goal.returns
returns c =
    let rising = subst (λ (l : List ℕ). IsNonDecreasing l) (sym c.deref.ensures.value) c.self.invariant in
    c.is_ok.ensures.value ∙ (listed_there c.deref.result.now c.args.command c.binary_search.result rising c.binary_search.ensures.position ∙ ap (λ (l : List ℕ). is_listed l c.args.command) (c.deref.ensures.value ∙ c.self.view_is))
