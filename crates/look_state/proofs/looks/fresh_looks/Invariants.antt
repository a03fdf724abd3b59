use Rattle.std.proofs.Common.{◌≡◌, length, All}
use Rattle.look_state.specs.Looks.{first_look}
use Rattle.look_state.proofs.looks.fresh_looks.Given as goal

abbrev pub invariant-loop : goal.invariant-loop
invariant-loop l = record {
  count : length l.looks.items ≡ l.counter;
  fresh : All (λ k. k ≡ first_look) l.looks.items;
}
