use Rattle.std.proofs.Common.{◌≡◌, ℕ, [], length}
use Rattle.send_variants.specs.Lists.{ReadyView, list_of, with_list}
use Rattle.send_state.proofs.state.empty.Given as goal

-- ready lists without the entries of a thread
abbrev emptied : ReadyView → ℕ → ReadyView
emptied v t = record v { lists = with_list v.lists t [] }

abbrev pub invariant-loop-who : goal.invariant-loop-who
invariant-loop-who l = record {
  rest : emptied l.ready l.who.0 ≡ emptied l.fn.ready l.who.0;
  lists : length l.ready.lists ≡ length l.fn.ready.lists;
}

abbrev pub decreases-loop-who : goal.decreases-loop-who
decreases-loop-who l = length (list_of l.ready.lists l.who.0)
