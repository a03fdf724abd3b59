use Rattle.screen_state.proofs.Parts.{near_corner}
use Rattle.screen_state.proofs.part.client_part.Goals as goal

pub placed-requires-clause-corner : goal.placed-requires-clause-corner
placed-requires-clause-corner c = near_corner c.args.tree.now c.args.w.0 c.origin_of-corner.result c.requires.live c.origin_of-corner.ensures
