use Rattle.std.proofs.Common.{not, eqb, refl, rules, tests}
use Rattle.std.proofs.lemmas.Fn.{filter_same}
use Rattle.win_order.proofs.families.Family.take_out.Goals as goal

pub returns : goal.returns
returns c = rw (filter_same _ (λ v. not (eqb v.0 c.args.window.0)) _ (λ x b q k. search (rules, tests)) _ _ c.retain.ensures.filtered, ← c.self.view_is) refl
