use Rattle.std.proofs.Common.{◌≡◌, drop, eqb}
use Rattle.std.specs.List.{list_any}
use Rattle.win_tree.proofs.tree.Tree.has_class.Given as goal

abbrev pub invariant-loop-i : goal.invariant-loop-i
invariant-loop-i l = list_any (λ x. eqb x.row.class l.class) (drop l.i l.self-inside.rows) ≡ list_any (λ x. eqb x.row.class l.class) l.self-inside.rows
