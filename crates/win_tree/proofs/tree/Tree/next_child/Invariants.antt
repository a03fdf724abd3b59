use Rattle.std.proofs.Common.{◌≡◌, ◌&&◌, drop, eqb, ltb, find}
use Rattle.win_tree.proofs.tree.Tree.next_child.Given as goal

abbrev pub invariant-loop-i : goal.invariant-loop-i
invariant-loop-i l = find (λ x. eqb x.row.parent.0 l.parent.0 && ltb l.above.0 x.number.0) (drop l.i l.self-inside.rows) ≡ find (λ x. eqb x.row.parent.0 l.parent.0 && ltb l.above.0 x.number.0) l.self-inside.rows
