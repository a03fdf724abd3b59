use Rattle.std.proofs.Common.{ap, ◌∙◌}
use Rattle.std.specs.FinMap as map
use Rattle.send_frames.proofs.Maps.{written}
use Rattle.send_frames.proofs.table.Table.add.Goals as goal

pub returns-clause-ok : goal.returns-clause-ok
returns-clause-ok c =
    written c.self.inside.items.entries c.insert.new.self.entries c.args.send.0 c.args.item c.in-Ok.ensures.updates.0
    ∙ ap (λ m. map.insert m c.args.send.0 c.args.item) c.self.view_is
