use Rattle.std.proofs.Common.{take}
use Rattle.dde_talk.specs.Replies.{AreApart}
use Rattle.dde_talk.proofs.items.are_apart.Given as goal

abbrev pub invariant-loop-at : goal.invariant-loop-at
invariant-loop-at l = AreApart (take l.at l.items)
