use Rattle.std.specs.Prelude.{All}
use Rattle.screen_owners.specs.Shares.{IsLeft}
use Rattle.screen_owners.proofs.lefts.lefts_of.Given as goal

abbrev pub invariant-loop-alloc : goal.invariant-loop-alloc
invariant-loop-alloc l = record {
  lefts : All (IsLeft l.whole l.covers) l.lefts.items;
  last : IsLeft l.whole l.covers l.last;
}

abbrev pub decreases-loop-alloc : goal.decreases-loop-alloc
decreases-loop-alloc l = l.last.from
