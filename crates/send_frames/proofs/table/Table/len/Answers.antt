use Rattle.std.proofs.Common.{ap, sym, ◌∙◌}
use Rattle.std.specs.FinMap as map
use Rattle.send_frames.proofs.Maps.{length_of_tree}
use Rattle.send_frames.proofs.table.Table.len.Goals as goal

pub returns : goal.returns
returns c = c.len.ensures.len ∙ sym (length_of_tree c.self.inside.items.entries c.len.ensures.ordered) ∙ ap map.len c.self.view_is
