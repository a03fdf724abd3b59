use Rattle.std.proofs.Common.{ℕ, rules, of_calls}
use Rattle.std.proofs.lemmas.Fn.{always_returns_same}
use Rattle.dde_talk.proofs.ItemLaws.{apart_too, same_values}
use Rattle.dde_talk.proofs.items.Items.new.Goals as goal

pub invariant_of-result : goal.invariant_of-result
invariant_of-result c = (apart_too c.args.rows.items c.sort_unstable_by_key.new.self.items c.sort_unstable_by_key.ensures.permutation c.requires, c.sort_unstable_by_key.ensures.sorted (λ (row : ℕ × ℕ). row.0) (always_returns_same _ _ _ (λ a r f k. search (rules, of_calls))))

pub returns : goal.returns
returns c = same_values c.args.rows.items c.sort_unstable_by_key.new.self.items c.sort_unstable_by_key.ensures.permutation c.requires
