use Rattle.std.proofs.Common.{ℕ, sym}
use Rattle.std.specs.Prelude.{nat_eq}
use Rattle.std.proofs.lemmas.List.Sorted.{IsNonDecreasingBy-from_sort, list_any-IsPermutation}
use Rattle.dde_talk.proofs.items.Commands.new.Goals as goal

pub invariant_of-result : goal.invariant_of-result
invariant_of-result c = IsNonDecreasingBy-from_sort (λ (x : ℕ). x) c.sort_unstable.new.self.items c.sort_unstable.ensures.sorted

pub returns : goal.returns
returns c = λ n. sym (list_any-IsPermutation (nat_eq n) c.args.numbers.items c.sort_unstable.new.self.items c.sort_unstable.ensures.permutation)
