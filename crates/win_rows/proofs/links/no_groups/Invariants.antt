use Rattle.win_rows.specs.Links.{AreEmpty}
use Rattle.win_rows.proofs.links.no_groups.Given as goal

abbrev pub invariant-groups : goal.invariant-groups
invariant-groups l = AreEmpty l.counter l.groups.items
