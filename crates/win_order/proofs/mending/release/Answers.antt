use Rattle.std.proofs.Common.{◌∙◌, sym, not, eqb, rules, tests}
use Rattle.win_order.proofs.MarkLaws.{none_owned}
use Rattle.std.proofs.lemmas.Fn.{filter_same}
use Rattle.win_order.proofs.mending.release.Goals as goal

pub returns-clause-held : goal.returns-clause-held
returns-clause-held c = filter_same _ (λ t. not (eqb t.owner.0 c.args.owner.0)) _ (λ x b q k. search (rules, tests)) _ _ c.retain.ensures.filtered

pub returns-then-not-contains-clause-held : goal.returns-then-not-contains-clause-held
returns-then-not-contains-clause-held c = sym (none_owned c.args.owner.0 c.args.held.now.items (c.requires (sym c.contains.ensures ∙ c.if-not-contains.true)))
