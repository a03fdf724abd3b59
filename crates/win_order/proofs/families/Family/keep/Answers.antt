use Rattle.std.proofs.Common.{not, refl, rules, tests}
use Rattle.std.proofs.lemmas.Fn.{filter_same}
use Rattle.win_order.specs.Layers.{is_gone}
use Rattle.win_order.proofs.families.Family.keep.Goals as goal

pub returns : goal.returns
returns c = λ rising. rw (filter_same _ (λ v. not (is_gone c.args.staying.now v.0)) _ (λ x b q k. search (rules, tests, rising)) _ _ c.retain.ensures.filtered, ← c.self.view_is) refl
