use Rattle.std.proofs.Common.{not, eqb, rules, tests}
use Rattle.std.proofs.lemmas.Fn.{filter_same}
use Rattle.win_tree.proofs.plan.forget.Goals as goal

pub returns : goal.returns
returns c = filter_same _ (λ p. not (eqb p.root.0 c.args.w.0)) _ (λ x b q k. search (rules, tests)) _ _ c.retain.ensures.filtered
