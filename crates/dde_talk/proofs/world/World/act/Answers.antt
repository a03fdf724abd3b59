use Rattle.dde_talk.proofs.HoldsLaws.{holds}
use Rattle.dde_talk.proofs.WorldLaws.{after_act}
use Rattle.dde_talk.proofs.world.World.act.Goals as goal

pub invariant_of-self : goal.invariant_of-self
invariant_of-self c = after_act c.act.result c.self.inside.parts c.args.act c.act.new.self c.act.ensures.fits c.act.ensures.ok c.act.ensures.err c.self.invariant

pub returns-clause-law : goal.returns-clause-law
returns-clause-law c = holds c.act.new.self (after_act c.act.result c.self.inside.parts c.args.act c.act.new.self c.act.ensures.fits c.act.ensures.ok c.act.ensures.err c.self.invariant)
