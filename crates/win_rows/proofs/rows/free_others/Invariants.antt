use Rattle.win_rows.specs.Index.{IsFreed}
use Rattle.win_rows.proofs.rows.free_others.Given as goal

abbrev pub invariant-loop-p : goal.invariant-loop-p
invariant-loop-p l = IsFreed l.numbers l.places l.p-index l.initial.slab l.slab
