use Rattle.std.proofs.Common.{ap, sym, ◌∙◌}
use Rattle.std.specs.FinMap as map
use Rattle.send_frames.proofs.Maps.{get_by_lookup}
use Rattle.send_frames.proofs.table.Table.get.Goals as goal

pub returns : goal.returns
returns c = c.get.ensures.value ∙ sym (get_by_lookup _ _) ∙ ap (λ m. map.get m c.args.send.0) c.self.view_is
