use Rattle.look_state.proofs.NewPixels.{new_told}
use Rattle.look_state.proofs.pixels.has_new_pixel.Goals as goal

pub returns : goal.returns
returns c = λ setup past look lawful tail tree dirty seen. new_told setup past look c.args.thread.0 c.args.tree.now c.args.dirty.now c.args.seen.now lawful tail tree dirty seen c.in_ok-covered.covered c.requires c.in_ok-covered.ensures
