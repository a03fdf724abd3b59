use Rattle.dde_talk.proofs.ApartLaws.{never_true, next_apart, none_apart, twice_named}
use Rattle.dde_talk.proofs.items.are_apart.Goals as goal

pub loop-at-init : goal.loop-at-init
loop-at-init c = none_apart

pub returns-then-is_named : goal.returns-then-is_named
returns-then-is_named c = (λ h. absurd (never_true h), λ apart. absurd (twice_named c.args.items.now c.loop-at.at c.loop-at-test.true c.if-is_named.ensures apart))

pub loop-at-preserved : goal.loop-at-preserved
loop-at-preserved c = next_apart c.args.items.now c.loop-at.at c.loop-at-test.true c.if-is_named.ensures c.loop-at.invariant
